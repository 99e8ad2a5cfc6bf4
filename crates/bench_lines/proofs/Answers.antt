-- What the promises of the run and of the judge allow, for a schedule whose run and a log whose events are known. Assumes nothing.
use Prim.Native.Nat.{ℕ, ◌≤◌}
use mathlib.Core.Path.{◌≡◌, refl, ap, sym, subst, ◌∙◌}
use mathlib.Core.List.{List, ◌++◌}
use borrow.Author.Tests.{le-ltb}
use lib.Dec.{ltb}
use lib.ListN.{length, take, drop}
use lib.Seq.{take-append_seam}
use Rattle.std.specs.Prelude.{if◌then◌else◌}
use Rattle.history.specs.Events.{Event}
use Rattle.history.specs.Verdict.{Judged}
use Rattle.history.specs.Verdict as history
use Rattle.history.proofs.Unique.{answer_unique}
use Rattle.fields.specs.Walk.{Walked, ended, refused}
use Rattle.fields.specs.Events.{Recorded, recorded}
use Rattle.replay.specs.Run as replay
use Rattle.replay.specs.Run.{run_of, answer_of, output_of, Runs}
use Rattle.judge.specs.declared.Answer as judge
use Rattle.judge.specs.Promise.{Judges, JudgesRead, JudgesEvents, read_log, verdict_of}
use Rattle.bench_lines.specs.BenchTable.{Logs, Verdict}

-- A run that comes to this log, or to 8.
pub logged : (schedule log : List ℕ) → ((room : ℕ) → run_of schedule room ≡ (if ltb room (length log) then refused 8 0 else ended log)) → Logs schedule log
logged schedule log run = record { logs = answered }
  where
    answered : (out out' : List ℕ) (a : replay.Answer) → length log ≤ length out → Runs schedule out out' a
        → (a.number ≡ 0) × (a.place ≡ 0) × (a.length ≡ length log) × (take (length log) out' ≡ log)
    answered out out' a h r =
        let e : run_of schedule (length out) ≡ ended log = run (length out) ∙ rw (le-ltb (length out) (length log) h) in
        let b : a ≡ answer_of (ended log) = r.answer ∙ ap answer_of e in
        let o : out' ≡ log ++ drop (length log) out = r.output ∙ ap (λ (w : Walked (List ℕ)). output_of w out) e in (
          ap (λ (x : replay.Answer). x.number) b,
          ap (λ (x : replay.Answer). x.place) b,
          ap (λ (x : replay.Answer). x.length) b,
          rw o (take-append_seam log (drop (length log) out)),
        )

-- A log that has these events, from the initial value 5: it is judged.
pub judges : (log : List ℕ) (es : List (Event ℕ)) → read_log log ≡ ended (recorded 5 es) → (a : judge.Answer) → Judges log a → JudgesEvents (recorded 5 es) a
judges log es e a h = subst (λ (w : Walked Recorded). JudgesRead w a) e h

-- The one verdict that it has.
pub verdict : (log : List ℕ) (es : List (Event ℕ)) (b : history.Answer) → read_log log ≡ ended (recorded 5 es) → Judged 5 es b
    → (a : judge.Answer) → Judges log a → verdict_of a ≡ b
verdict log es b e j a h = answer_unique 5 es (verdict_of a) b (judges log es e a h).judged j

-- The answer of that verdict.
abbrev given : history.Answer → judge.Answer
given b = record { number = 0; place = 0; atomic = b.atomic; first = b.first; writes = b.writes; reads = b.reads; overlapped = b.overlapped }

pub judged : (log : List ℕ) (es : List (Event ℕ)) (b : history.Answer) → read_log log ≡ ended (recorded 5 es) → Judged 5 es b → Verdict log b.atomic b.first
judged log es b e j = record {
  answer = given b;
  answered = subst (λ (w : Walked Recorded). JudgesRead w (given b)) (sym e) (record { number = refl; place = refl; judged = j });
  verdict = λ a h.
      let u = verdict log es b e j a h in
      let r = judges log es e a h in
      (r.number, r.place, ap (λ (x : history.Answer). x.atomic) u, ap (λ (x : history.Answer). x.first) u);
}
