-- To be believed: THE BENCH TABLE, P1 to P10, all together under a single statement (document 01, "Bench table"), each clause as it is worded.
-- What a line says of a run or of a verdict holds of every answer that the promise of `run` or of `judge` allows.
use Rattle.std.specs.Prelude.{ℕ, ◌≤◌, ◌≡◌, List, [], ◌∷◌, ◌++◌, length, take}
use Rattle.register.specs.declared.State.{State}
use Rattle.register.specs.declared.Move.{Move}
use Rattle.register.specs.declared.Move.TheVariants.{WriterStart, WriterStep, WriterFlicker, ReaderStep, ReaderFlicker}
use Rattle.register.specs.Initial.{initial}
use Rattle.register.specs.Steps.{c_at}
use Rattle.register.specs.Move.{answer_to}
use Rattle.register.specs.Run.{Ran}
use Rattle.replay.specs.Run as replay
use Rattle.fields.specs.Walk.{ended}
use Rattle.replay.specs.Run.{Runs}
use Rattle.replay.specs.Scheduled.{moves_in, scheduled}
use Rattle.judge.specs.declared.Answer as judge
use Rattle.judge.specs.Promise.{Judges}
use Rattle.bench_lines.specs.Bytes.{schedule1, schedule2, schedule3, schedule4, schedule5, schedule6, log2, log3, log4, log5, log6, log7, log8, log9, log10}

-- "given room enough" the run answers 0 with this log: the bytes at the front of the output, its length, place 0.
pub record Logs (schedule log : List ℕ) : Type 0 where
  pub logs : (out out' : List ℕ) (a : replay.Answer) → length log ≤ length out → Runs schedule out out' a
      → (a.number ≡ 0) × (a.place ≡ 0) × (a.length ≡ length log) × (take (length log) out' ≡ log)

-- The judge answers 0 at 0 with this verdict, and there is such an answer.
pub record Verdict (log : List ℕ) (atomic first : ℕ) : Type 0 where
  pub answer : judge.Answer
  pub answered : Judges log answer
  pub verdict : (a : judge.Answer) → Judges log a → (a.number ≡ 0) × (a.place ≡ 0) × (a.atomic ≡ atomic) × (a.first ≡ first)

-- Moves: "R×5", "R×2", "three writer steps", "seven writer steps".
abbrev pub R×2 : List Move
R×2 = ReaderStep ∷ ReaderStep ∷ []

abbrev pub R×5 : List Move
R×5 = ReaderStep ∷ R×2 ++ R×2

abbrev pub W×3 : List Move
W×3 = WriterStep ∷ WriterStep ∷ WriterStep ∷ []

abbrev pub W×7 : List Move
W×7 = W×3 ++ W×3 ++ (WriterStep ∷ [])

-- The writer's, and the reader's, locations passed: where each stands before each of its own steps.
abbrev pub writer_passes : State → List Move → List ℕ
writer_passes s [] = []
writer_passes s (WriterStart v ∷ ms) = s.q ∷ writer_passes (answer_to s (WriterStart v)).state ms
writer_passes s (WriterStep ∷ ms) = s.q ∷ writer_passes (answer_to s WriterStep).state ms
writer_passes s (WriterFlicker b ∷ ms) = writer_passes (answer_to s (WriterFlicker b)).state ms
writer_passes s (ReaderStep ∷ ms) = writer_passes (answer_to s ReaderStep).state ms
writer_passes s (ReaderFlicker b ∷ ms) = writer_passes (answer_to s (ReaderFlicker b)).state ms

abbrev pub reader_passes : State → List Move → List ℕ
reader_passes s [] = []
reader_passes s (WriterStart v ∷ ms) = reader_passes (answer_to s (WriterStart v)).state ms
reader_passes s (WriterStep ∷ ms) = reader_passes (answer_to s WriterStep).state ms
reader_passes s (WriterFlicker b ∷ ms) = reader_passes (answer_to s (WriterFlicker b)).state ms
reader_passes s (ReaderStep ∷ ms) = s.r ∷ reader_passes (answer_to s ReaderStep).state ms
reader_passes s (ReaderFlicker b ∷ ms) = reader_passes (answer_to s (ReaderFlicker b)).state ms

-- "P1 initial 5 only: log of the same 7 bytes; atomic 1."
pub record P1 : Type 0 where
  pub seven_bytes : length schedule1 ≡ 7
  pub same : Logs schedule1 schedule1
  pub atomic_1 : Verdict schedule1 1 0

-- "P2 initial 5, R×5: read returns 5, number 1; log 17 bytes."
pub record P2 : Type 0 where
  pub end : State
  pub ran : Ran 5 R×5 end
  pub read_ended : end.r ≡ 40
  pub returns : end.value ≡ 5
  pub number : end.numberr ≡ 1
  pub moves : moves_in schedule2 ≡ ended (scheduled 5 R×5)
  pub log : Logs schedule2 log2
  pub seventeen : length log2 ≡ 17

-- "P3 initial 5, start 9 and three writer steps: write ends (20, 21, 22, 27), start 1, number 2. Then R×5: 9, start 2, number 2."
pub record P3 : Type 0 where
  pub written : State
  pub write : Ran 5 (WriterStart 9 ∷ W×3) written
  pub passes : writer_passes (initial 5) (WriterStart 9 ∷ W×3) ≡ 20 ∷ 21 ∷ 22 ∷ 27 ∷ []
  pub write_ended : written.q ≡ 20
  pub start : written.startw ≡ 1
  pub number : written.numberw ≡ 2
  pub end : State
  pub then_read : Ran 5 (WriterStart 9 ∷ W×3 ++ R×5) end
  pub read_ended : end.r ≡ 40
  pub returns : end.value ≡ 9
  pub read_start : end.startr ≡ 2
  pub read_number : end.numberr ≡ 2
  pub moves : moves_in schedule3 ≡ ended (scheduled 5 (WriterStart 9 ∷ W×3 ++ R×5))
  pub log : Logs schedule3 log3

-- "P4 after P2, start 9 and seven writer steps: all of 20 to 27; then aw = ww = 1. Then R×5 returns 9."
pub record P4 : Type 0 where
  pub after_P2 : State
  pub ran_P2 : Ran 5 R×5 after_P2
  pub written : State
  pub write : Ran 5 (R×5 ++ (WriterStart 9 ∷ W×7)) written
  pub passes : writer_passes after_P2 (WriterStart 9 ∷ W×7) ≡ 20 ∷ 21 ∷ 22 ∷ 23 ∷ 24 ∷ 25 ∷ 26 ∷ 27 ∷ []
  pub write_ended : written.q ≡ 20
  pub aw : written.aw ≡ 1
  pub ww : written.ww ≡ 1
  pub end : State
  pub then_read : Ran 5 (R×5 ++ (WriterStart 9 ∷ W×7 ++ R×5)) end
  pub read_ended : end.r ≡ 40
  pub returns : end.value ≡ 9
  pub moves : moves_in schedule4 ≡ ended (scheduled 5 (R×5 ++ (WriterStart 9 ∷ W×7 ++ R×5)))
  pub log : Logs schedule4 log4

-- "P5 after P2, start 9, R×2: returns 5 through 40 and 44, the write open."
pub record P5 : Type 0 where
  pub begun : State
  pub ran : Ran 5 (R×5 ++ (WriterStart 9 ∷ [])) begun
  pub end : State
  pub read : Ran 5 (R×5 ++ (WriterStart 9 ∷ R×2)) end
  pub passes : reader_passes begun R×2 ≡ 40 ∷ 44 ∷ []
  pub read_ended : end.r ≡ 40
  pub returns : end.value ≡ 5
  pub write_open_is : end.q ≡ 21
  pub moves : moves_in schedule5 ≡ ended (scheduled 5 (R×5 ++ (WriterStart 9 ∷ R×2)))
  pub log : Logs schedule5 log5

-- "P6 initial 5, start 9, writer flicker 1, R×5: returns 9, number 2, c[0] still being assigned. Writer flicker 0, R×2: returns 9 again. Atomic 1."
pub record P6 : Type 0 where
  pub once : State
  pub read : Ran 5 (WriterStart 9 ∷ WriterFlicker 1 ∷ R×5) once
  pub read_ended : once.r ≡ 40
  pub returns : once.value ≡ 9
  pub number : once.numberr ≡ 2
  pub being_assigned : once.q ≡ 21
  pub row_0 : once.aw ≡ 0
  pub again : State
  pub read_again : Ran 5 (WriterStart 9 ∷ WriterFlicker 1 ∷ R×5 ++ (WriterFlicker 0 ∷ R×2)) again
  pub flickered : c_at again 0 ≡ 0
  pub read_ended_again : again.r ≡ 40
  pub returns_again : again.value ≡ 9
  pub moves : moves_in schedule6 ≡ ended (scheduled 5 (WriterStart 9 ∷ WriterFlicker 1 ∷ R×5 ++ (WriterFlicker 0 ∷ R×2)))
  pub log : Logs schedule6 log6
  pub atomic_1 : Verdict log6 1 0

-- THE TABLE.
pub record BenchTable : Type 0 where
  pub p1 : P1
  pub p2 : P2
  pub p3 : P3
  pub p4 : P4
  pub p5 : P5
  pub p6 : P6
  -- "P7 the 34-byte log: atomic 0, first 2."
  pub p7_bytes : length log7 ≡ 34
  pub p7 : Verdict log7 0 2
  -- "P8 initial 5, write 9 ended, write 5 begun, reads 9 then 5: atomic 1."
  pub p8 : Verdict log8 1 0
  -- "P9 initial 5, write 9 ended, read 5: atomic 0, first 1."
  pub p9 : Verdict log9 0 1
  -- "P10 initial 5, read 9 ended, then write 9 begun: atomic 0, first 1."
  pub p10 : Verdict log10 0 1
