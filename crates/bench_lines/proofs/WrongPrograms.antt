-- The wrong programs of document 01, section (c), are refuted: for each, an input at which its promise does not allow its answer.
-- Assumes nothing.
use Prim.Native.Nat.{ℕ}
use mathlib.Core.Path.{◌≡◌, refl, ap, sym, ◌∙◌}
use mathlib.Core.List.{List, [], ◌++◌}
use native.Mathlib.Omega.{arith}
use lib.ListN.{replicate}
use Rattle.history.specs.Verdict as history
use Rattle.history.proofs.BenchLogs as logs
use Rattle.fields.specs.Tags.{body_length_of, fits, knows}
use Rattle.fields.specs.Field.{found}
use Rattle.fields.specs.Walk.{head_of_file}
use Rattle.fields.specs.Events.{recorded_event}
use Rattle.register.specs.declared.State.{State}
use Rattle.register.specs.declared.Move.TheVariants.{WriterStart, ReaderStep}
use Rattle.register.specs.Initial.{initial}
use Rattle.register.specs.Move.{Moved, answer_to}
use Rattle.replay.specs.Run as replay
use Rattle.replay.specs.Run.{move_of, events_of}
use Rattle.bench_lines.proofs.Answers.{judges, verdict}
use Rattle.bench_lines.specs.Bytes.{initial5, start9, reader, schedule1, schedule2, log6, log7, log8, log9}
use Rattle.bench_lines.specs.WrongPrograms.{Machine, MeetsMoves, RefusesAll, DoesNothing, WritesAtOnce, ReadsAtOnce, RunProgram, MeetsRuns, InitialOnly, LogsAtOnce, JudgeProgram, MeetsJudges, AlwaysPasses, NeverPasses, NoneOverlapped, AllOverlapped, WritesOverlapped}

-- Machines, at the initial state with 5.
pub refuses_all : (f : Machine) → RefusesAll f → ¬ MeetsMoves f
unfolding answer_to
refuses_all f w p = w (initial 5) ReaderStep (ap (λ (a : Moved). a.number) (p (initial 5) ReaderStep))

pub does_nothing : (f : Machine) → DoesNothing f → ¬ MeetsMoves f
unfolding answer_to
does_nothing f w p =
    let e : ◌≡◌ {A = ℕ} 40 41 = ap (λ (s : State). s.r) (sym (w (initial 5) ReaderStep)) ∙ ap (λ (a : Moved). a.state.r) (p (initial 5) ReaderStep) in
    omega arith

pub writes_at_once : (f : Machine) → WritesAtOnce f → ¬ MeetsMoves f
unfolding answer_to
writes_at_once f w p =
    let e : ◌≡◌ {A = ℕ} 20 21 = sym (w (initial 5) 9 refl) ∙ ap (λ (a : Moved). a.state.q) (p (initial 5) (WriterStart 9)) in
    omega arith

pub reads_at_once : (f : Machine) → ReadsAtOnce f → ¬ MeetsMoves f
unfolding answer_to
reads_at_once f w p =
    let e : ◌≡◌ {A = ℕ} 40 41 = sym (w (initial 5) refl) ∙ ap (λ (a : Moved). a.state.r) (p (initial 5) ReaderStep) in
    omega arith

-- Runs, with an output of 20 bytes.
abbrev room : List ℕ
room = replicate 20 0

pub initial_only : (f : RunProgram) → InitialOnly f → ¬ MeetsRuns f
unfolding answer_to found head_of_file knows fits body_length_of move_of events_of
initial_only f w p =
    let n : (f.answer schedule2 room).number ≡ 0 = ap (λ (a : replay.Answer). a.number) (p schedule2 room).answer in
    let e : ◌≡◌ {A = ℕ} 7 17 = sym (w schedule2 room n) ∙ ap (λ (a : replay.Answer). a.length) (p schedule2 room).answer in
    omega arith

pub write_logged_at_once : (f : RunProgram) → LogsAtOnce f start9 → ¬ MeetsRuns f
unfolding answer_to found head_of_file knows fits body_length_of move_of events_of
write_logged_at_once f w p =
    let n : (f.answer (initial5 ++ start9) room).number ≡ 0 = ap (λ (a : replay.Answer). a.number) (p (initial5 ++ start9) room).answer in
    let e : ◌≡◌ {A = ℕ} 17 14 = sym (w room n) ∙ ap (λ (a : replay.Answer). a.length) (p (initial5 ++ start9) room).answer in
    omega arith

pub read_logged_at_once : (f : RunProgram) → LogsAtOnce f reader → ¬ MeetsRuns f
unfolding answer_to found head_of_file knows fits body_length_of move_of events_of
read_logged_at_once f w p =
    let n : (f.answer (initial5 ++ reader) room).number ≡ 0 = ap (λ (a : replay.Answer). a.number) (p (initial5 ++ reader) room).answer in
    let e : ◌≡◌ {A = ℕ} 17 10 = sym (w room n) ∙ ap (λ (a : replay.Answer). a.length) (p (initial5 ++ reader) room).answer in
    omega arith

-- Judges.
pub always_passes : (f : JudgeProgram) → AlwaysPasses f → ¬ MeetsJudges f
unfolding found head_of_file knows fits body_length_of recorded_event
always_passes f w p =
    let u = verdict log9 logs.log9 (logs.answer 0 1 1 1 0) refl logs.p9 (f log9) (p log9) in
    let e : ◌≡◌ {A = ℕ} 1 0 = sym (w log9 (judges log9 logs.log9 refl (f log9) (p log9)).number) ∙ ap (λ (x : history.Answer). x.atomic) u in
    omega arith

pub never_passes : (f : JudgeProgram) → NeverPasses f → ¬ MeetsJudges f
unfolding found head_of_file knows fits body_length_of recorded_event
never_passes f w p =
    let u = verdict schedule1 [] (logs.answer 1 0 0 0 0) refl logs.p1 (f schedule1) (p schedule1) in
    let e : ◌≡◌ {A = ℕ} 0 1 = sym (w schedule1) ∙ ap (λ (x : history.Answer). x.atomic) u in
    omega arith

pub none_overlapped : (f : JudgeProgram) → NoneOverlapped f → ¬ MeetsJudges f
unfolding found head_of_file knows fits body_length_of recorded_event
none_overlapped f w p =
    let u = verdict log7 logs.log7 (logs.answer 0 2 0 2 1) refl logs.p7 (f log7) (p log7) in
    let e : ◌≡◌ {A = ℕ} 0 1 = sym (w log7) ∙ ap (λ (x : history.Answer). x.overlapped) u in
    omega arith

pub all_overlapped : (f : JudgeProgram) → AllOverlapped f → ¬ MeetsJudges f
unfolding found head_of_file knows fits body_length_of recorded_event
all_overlapped f w p =
    let u = verdict log6 logs.log6 (logs.answer 1 0 0 2 0) refl logs.p6 (f log6) (p log6) in
    let e : ◌≡◌ {A = ℕ} 0 2 = sym (ap (λ (x : history.Answer). x.overlapped) u) ∙ w log6 ∙ ap (λ (x : history.Answer). x.reads) u in
    omega arith

pub writes_overlapped : (f : JudgeProgram) → WritesOverlapped f → ¬ MeetsJudges f
unfolding found head_of_file knows fits body_length_of recorded_event
writes_overlapped f w p =
    let u = verdict log8 logs.log8 (logs.answer 1 0 1 2 0) refl logs.p8 (f log8) (p log8) in
    let e : ◌≡◌ {A = ℕ} 0 1 = sym (ap (λ (x : history.Answer). x.overlapped) u) ∙ w log8 ∙ ap (λ (x : history.Answer). x.writes) u in
    omega arith
