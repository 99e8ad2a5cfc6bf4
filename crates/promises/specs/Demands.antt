-- To be believed: DEMAND 3 AND THE JUDGE'S HALF OF DEMAND 2, over the promises of `run` and `judge`: what any function that meets them answers.
-- A schedule is any list of bytes (`Bytes`, fields/specs/Numbers.antt: the premise of the theorem).
use Rattle.std.specs.Prelude.{ℕ, ◌≤◌, ◌≡◌, List, ◌↔◌, take}
use Rattle.terms.specs.Value.{Value}
use Rattle.terms.specs.Refusals.{good_number}
use Rattle.history.specs.Events.{Event}
use Rattle.history.specs.Operations.{WellFormed}
use Rattle.history.specs.Serialization.{Serialization}
use Rattle.history.specs.Verdict.{First, Judged}
use Rattle.fields.specs.declared.Kind.TheVariants.{Log}
use Rattle.fields.specs.Tags.{limit_of}
use Rattle.fields.specs.Walk.{ended}
use Rattle.register.specs.declared.Move.{Move}
use Rattle.replay.specs.Run as replay
use Rattle.replay.specs.Run.{Runs}
use Rattle.replay.specs.Scheduled.{moves_in, scheduled}
use Rattle.judge.specs.declared.Answer as judge
use Rattle.judge.specs.Promise.{Judges, verdict_of}
use Rattle.promises.specs.MachineDemand.{Demand3Machine}

-- Demand 3, of a schedule: "the log that the machine writes is passed by the judge; a finished write has start < number, a finished read
-- start ≤ number, and writer and reader never stand about to use the same buffer". The log is what a good run leaves at the front of the
-- output; "passed" is 0 at 0, atomic 1, first 0.
pub record Demand3 (schedule : List ℕ) : Type 0 where
  pub passed : (out out' : List ℕ) (a : replay.Answer) → Runs schedule out out' a → a.number ≡ good_number
      → (j : judge.Answer) → Judges (take a.length out') j
      → (j.number ≡ good_number) × (j.place ≡ 0) × (j.atomic ≡ 1) × (j.first ≡ 0)
  -- "a log at most 65,535"
  pub within : (out out' : List ℕ) (a : replay.Answer) → Runs schedule out out' a → a.length ≤ limit_of Log
  pub machine : (v : Value) (ms : List Move) → moves_in schedule ≡ ended (scheduled v ms) → Demand3Machine v ms

-- Demand 2, the judge's half, of a log that is not refused and so has an initial value and events: "The judge passes a well-formed log
-- exactly when a legal serialization of it exists; otherwise it names the first read at which none does." The counts "belong to the judge's
-- answer under demand 2": `judged` has them.
pub record Demand2Judge (log : List ℕ) (v : Value) (es : List (Event Value)) : Type 0 where
  pub answered : (j : judge.Answer) → Judges log j
      → (j.number ≡ good_number) × (j.place ≡ 0)
      × WellFormed es
      × ((j.atomic ≡ 1) ↔ Serialization v es)
      × ((j.atomic ≡ 0) ↔ ¬ Serialization v es)
      × First v es j.first
      × ((j.first ≡ 0) ↔ (j.atomic ≡ 1))
      × Judged v es (verdict_of j)
