-- To be believed: the wrong programs of document 01, section (c), each described by what it answers. None meets its promise
-- (proofs/WrongPrograms.antt).
use Rattle.std.specs.Prelude.{ℕ, ◌≡◌, List, ◌++◌}
use Rattle.terms.specs.Answers.{number_in}
use Rattle.register.specs.declared.State.{State}
use Rattle.register.specs.declared.Moved.{Moved}
use Rattle.register.specs.declared.Move.{Move}
use Rattle.register.specs.declared.Move.TheVariants.{WriterStart, ReaderStep}
use Rattle.register.specs.Move.{MakesMove}
use Rattle.replay.specs.Run as replay
use Rattle.replay.specs.Run.{Runs}
use Rattle.judge.specs.declared.Answer as judge
use Rattle.judge.specs.Promise.{Judges}
use Rattle.bench_lines.specs.Bytes.{initial5}

-- A machine is any function from a state and a move to an answer; it meets the promise if each answer is one that it allows.
abbrev pub Machine : Type 0
Machine = State → Move → Moved

abbrev pub MeetsMoves : Machine → Type 0
MeetsMoves f = (s : State) (m : Move) → MakesMove s m (f s m)

-- "a machine that refuses all moves"
abbrev pub RefusesAll : Machine → Type 0
RefusesAll f = (s : State) (m : Move) → ¬ (number_in (f s m).answer ≡ 0)

-- "and one that does nothing"
abbrev pub DoesNothing : Machine → Type 0
DoesNothing f = (s : State) (m : Move) → (f s m).state ≡ s

-- "one that finishes a whole operation at step 20 or 40": back at 20 after the start, or back at 40 after the first reader step
abbrev pub WritesAtOnce : Machine → Type 0
WritesAtOnce f = (s : State) (v : ℕ) → s.q ≡ 20 → (f s (WriterStart v)).state.q ≡ 20

abbrev pub ReadsAtOnce : Machine → Type 0
ReadsAtOnce f = (s : State) → s.r ≡ 40 → (f s ReaderStep).state.r ≡ 40

-- A run is any function from a schedule and an output as found to an output and an answer.
pub record RunProgram : Type 0 where
  pub output : List ℕ → List ℕ → List ℕ
  pub answer : List ℕ → List ℕ → replay.Answer

abbrev pub MeetsRuns : RunProgram → Type 0
MeetsRuns f = (schedule out : List ℕ) → Runs schedule out (f.output schedule out) (f.answer schedule out)

-- "a run that always writes the initial field": where it answers 0, its log has 7 bytes
abbrev pub InitialOnly : RunProgram → Type 0
InitialOnly f = (schedule out : List ℕ) → (f.answer schedule out).number ≡ 0 → (f.answer schedule out).length ≡ 7

-- "one that finishes a whole operation at step 20 or 40 and idles after": with the initial field and one step, a start or a reader's first, and
-- where it answers 0, its log has the initial field and the two fields of a whole operation, 17 bytes
abbrev pub LogsAtOnce : RunProgram → List ℕ → Type 0
LogsAtOnce f step = (out : List ℕ) → (f.answer (initial5 ++ step) out).number ≡ 0 → (f.answer (initial5 ++ step) out).length ≡ 17

-- A judge is any function from a log to an answer.
abbrev pub JudgeProgram : Type 0
JudgeProgram = List ℕ → judge.Answer

abbrev pub MeetsJudges : JudgeProgram → Type 0
MeetsJudges f = (log : List ℕ) → Judges log (f log)

-- "a judge that always passes or never does": whatever log it does not refuse it passes; it passes none
abbrev pub AlwaysPasses : JudgeProgram → Type 0
AlwaysPasses f = (log : List ℕ) → (f log).number ≡ 0 → (f log).atomic ≡ 1

abbrev pub NeverPasses : JudgeProgram → Type 0
NeverPasses f = (log : List ℕ) → (f log).atomic ≡ 0

-- "overlapped counts made up": none is ever overlapped, or every read is, or as many as there are writes
abbrev pub NoneOverlapped : JudgeProgram → Type 0
NoneOverlapped f = (log : List ℕ) → (f log).overlapped ≡ 0

abbrev pub AllOverlapped : JudgeProgram → Type 0
AllOverlapped f = (log : List ℕ) → (f log).overlapped ≡ (f log).reads

abbrev pub WritesOverlapped : JudgeProgram → Type 0
WritesOverlapped f = (log : List ℕ) → (f log).overlapped ≡ (f log).writes
