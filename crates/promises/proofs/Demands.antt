-- DEMAND 3, joined from end to end, and the judge's half of demand 2. Assumes nothing.
use Prim.Native.Nat.{ℕ, zero, suc, ◌≤◌}
use mathlib.Core.Path.{◌≡◌, refl, ap, sym, subst, ◌∙◌}
use mathlib.Core.List.{List}
use mathlib.Core.Bool.{Bool, true, false}
use mathlib.Core.Logic.{inl, inr, ◌↔◌}
use native.Mathlib.Omega.{arith}
use native.Mathlib.Decide.{ℕ_discrete}
use borrow.Author.Tests.{ltb-false}
use lib.Dec.{ltb}
use lib.ListN.{length, take, drop}
use lib.Seq.{take-append_seam}
use Rattle.std.specs.Prelude.{if◌then◌else◌}
use Rattle.terms.specs.Value.{Value}
use Rattle.terms.specs.Refusals.{good_number, no_room}
use Rattle.history.specs.Events.{Event}
use Rattle.history.specs.Numbered.{without_numbers}
use Rattle.history.specs.Operations.{WellFormed}
use Rattle.history.specs.Serialization.{Serialization}
use Rattle.history.specs.Verdict.{Atomic, First, Judged}
use Rattle.history.proofs.Serializations.{take_legal}
use Rattle.history.proofs.Unique.{first_zero}
use Rattle.fields.specs.Walk.{Walked, ended, refused}
use Rattle.fields.specs.Events.{Recorded, recorded, log_bytes}
use Rattle.fields.specs.Numbers.{Bytes}
use Rattle.register.specs.declared.Move.{Move}
use Rattle.register.specs.Initial.{initial}
use Rattle.replay.specs.Run as replay
use Rattle.replay.specs.Run.{run_of, answer_of, Runs, Allowed}
use Rattle.replay.specs.Scheduled.{Scheduled, moves_in, scheduled, events_along}
use Rattle.replay.proofs.Theorems.{AllowedRun, allowed_run, allowed_result, log_from, log_bound}
use Rattle.judge.specs.declared.Answer as judge
use Rattle.judge.specs.Promise.{Judges, JudgesRead, JudgesEvents, read_log, verdict_of}
use Rattle.judge.proofs.Logs.{judges_log}
use Rattle.promises.specs.MachineDemand.{Demand3Machine}
use Rattle.promises.specs.Demands.{Demand3, Demand2Judge}
use Rattle.promises.proofs.Theorems.{register_promise, demand_3_machine}

-- A log that has a legal serialization is answered atomic 1, first 0.
atomic_one : (v : Value) (es : List (Event Value)) (a : ℕ) → Serialization v es → Atomic v es a → a ≡ 1
atomic_one v es a s (inl (e, t)) = e
atomic_one v es a s (inr (e, t)) = absurd (t s)

first_none : (v : Value) (es : List (Event Value)) → WellFormed es → Serialization v es → (f : ℕ) → First v es f → f ≡ 0
first_none v es wf s zero h = refl
first_none v es wf s (suc i) h = absurd (h.illegal (take_legal v (suc h.end) es wf s))

-- A good answer had room for the log.
had_room : (schedule out out' : List ℕ) (a : replay.Answer) → Runs schedule out out' a → a.number ≡ good_number → (r : AllowedRun schedule)
    → length (log_from r.initial r.moves) ≤ length out
had_room schedule out out' a h g r = on (ltb (length out) (length (log_from r.initial r.moves))) refl (r.log_is (length out))
  where
    on : (b : Bool) → ltb (length out) (length (log_from r.initial r.moves)) ≡ b
        → run_of schedule (length out) ≡ (if b then refused no_room 0 else ended (log_from r.initial r.moves))
        → length (log_from r.initial r.moves) ≤ length out
    on false e k = ltb-false (length out) (length (log_from r.initial r.moves)) e
    on true e k =
        let n : a.number ≡ no_room = ap (λ (x : replay.Answer). x.number) (h.answer ∙ ap answer_of k) in
        absurd (omega arith)

module _ (schedule : List ℕ) (bytes : Bytes schedule) (allowed : Allowed schedule) where
  run : AllowedRun schedule
  run = allowed_run schedule bytes allowed

  abbrev es : List (Event Value)
  es = without_numbers (events_along (initial run.initial) run.moves)

  -- the log itself
  log_passed : (j : judge.Answer) → Judges (log_bytes run.initial es) j
      → (j.number ≡ good_number) × (j.place ≡ 0) × (j.atomic ≡ 1) × (j.first ≡ 0)
  log_passed j h =
      let p = register_promise run.initial run.moves run.state run.ran in
      let (n, q, k) = judges_log run.initial es run.values_fit.0 run.events_fit (omega (arith, run.log_short)) p.well_formed j h in (
        n,
        q,
        atomic_one run.initial es j.atomic p.serialization k.atomic,
        first_none run.initial es p.well_formed p.serialization j.first k.first,
      )

  -- THE THEOREM.
  pub demand_3 : Demand3 schedule
  demand_3 = record { passed = passed; within = log_bound schedule; machine = machine }
    where
      passed : (out out' : List ℕ) (a : replay.Answer) → Runs schedule out out' a → a.number ≡ good_number
          → (j : judge.Answer) → Judges (take a.length out') j
          → (j.number ≡ good_number) × (j.place ≡ 0) × (j.atomic ≡ 1) × (j.first ≡ 0)
      passed out out' a h g j k =
          let (o, b) = allowed_result schedule out out' a h run (had_room schedule out out' a h g run) in
          let log : List ℕ = log_from run.initial run.moves in
          let n : a.length ≡ length log = ap (λ (x : replay.Answer). x.length) b in
          let t : take a.length out' ≡ log = ap (λ (m : ℕ). take m out') n ∙ ap (λ (x : List ℕ). take (length log) x) o ∙ take-append_seam log (drop (length log) out) in
          log_passed j (subst (λ (x : List ℕ). Judges x j) t k)

      machine : (v : Value) (ms : List Move) → moves_in schedule ≡ ended (scheduled v ms) → Demand3Machine v ms
      machine v ms e =
          let m : scheduled run.initial run.moves ≡ scheduled v ms = same (sym run.moves_are ∙ e) in
          subst (λ (x : Scheduled). Demand3Machine x.initial x.moves) m (demand_3_machine run.initial run.moves run.state run.ran)
        where
          same : {x y : Scheduled} → ended x ≡ ended y → x ≡ y
          same q = cc

-- DEMAND 2, THE JUDGE'S HALF: for every log that is not refused.
pub demand_2_judge : (log : List ℕ) (v : Value) (es : List (Event Value)) → read_log log ≡ ended (recorded v es) → Demand2Judge log v es
demand_2_judge log v es e = record { answered = answered }
  where
    answered : (j : judge.Answer) → Judges log j
        → (j.number ≡ good_number) × (j.place ≡ 0) × WellFormed es × ((j.atomic ≡ 1) ↔ Serialization v es) × ((j.atomic ≡ 0) ↔ ¬ Serialization v es) × First v es j.first
        × ((j.first ≡ 0) ↔ (j.atomic ≡ 1)) × Judged v es (verdict_of j)
    answered j h =
        let k : JudgesEvents (recorded v es) j = subst (λ (w : Walked Recorded). JudgesRead w j) e h in (
          k.number,
          k.place,
          k.judged.well_formed,
          (when_one k.judged.atomic, λ s. atomic_one v es j.atomic s k.judged.atomic),
          (when_zero k.judged.atomic, λ n. zero_when n k.judged.atomic),
          k.judged.first,
          first_zero v es ℕ_discrete (verdict_of j) k.judged,
          k.judged,
        )
      where
        when_one : Atomic v es j.atomic → j.atomic ≡ 1 → Serialization v es
        when_one (inl (q, s)) p = s
        when_one (inr (q, n)) p = absurd (omega arith)

        when_zero : Atomic v es j.atomic → j.atomic ≡ 0 → ¬ Serialization v es
        when_zero (inl (q, s)) p = absurd (omega arith)
        when_zero (inr (q, n)) p = n

        zero_when : ¬ Serialization v es → Atomic v es j.atomic → j.atomic ≡ 0
        zero_when n (inl (q, s)) = absurd (n s)
        zero_when n (inr (q, m)) = q
