-- To be believed: what each function of the C interface promises.
use Rattle.std.specs.Prelude.{ℕ, ◌≡◌, ◌&&◌, List, [], ◌∷◌, leb, if◌then◌else◌}
use Rattle.terms.specs.Value.{Value}
use Rattle.terms.specs.Refusals.{out_of_range}
use Rattle.register.specs.declared.Move.{Move}
use Rattle.register.specs.declared.Move.TheVariants.{WriterStart, WriterStep, WriterFlicker, ReaderStep, ReaderFlicker}
use Rattle.register.specs.Move.{answer_to}
use Rattle.replay.specs.Run as replay
use Rattle.replay.specs.Run.{Runs}
use Rattle.judge.specs.declared.Answer as judge
use Rattle.judge.specs.Promise.{Judges}
use Rattle.capi.specs.Words.{fitting, state_of_words, words_of_state}

-- Refusal number, place, atomic, first, writes, reads, overlapped; answer[0] is returned: the seven numbers are those of an answer that the judge's promise
-- allows, which is one.
abbrev pub verdict_words : judge.Answer → List ℕ
verdict_words a = a.number ∷ a.place ∷ a.atomic ∷ a.first ∷ a.writes ∷ a.reads ∷ a.overlapped ∷ []

pub record JudgesInto (log words : List ℕ) (r : ℕ) : Type 0 where
  pub answer : judge.Answer
  pub judges : Judges log answer
  pub words_are : words ≡ verdict_words answer
  pub returned : r ≡ answer.number

-- Refusal number, place, length; answer[0] is returned: those of an answer that the run's promise allows, with the output afterwards.
abbrev pub run_words : replay.Answer → List ℕ
run_words a = a.number ∷ a.place ∷ a.length ∷ []

pub record RunsInto (schedule out out' words : List ℕ) (r : ℕ) : Type 0 where
  pub answer : replay.Answer
  pub runs : Runs schedule out out' answer
  pub words_are : words ≡ run_words answer
  pub returned : r ≡ answer.number

-- One move in place; the refusal number is returned: the words afterwards and what is returned.
pub record MakesMoveOn (m : Move) (w w' : List ℕ) (r : ℕ) : Type 0 where
  pub number : r ≡ (if fitting w then (answer_to (state_of_words w) m).number else out_of_range)
  pub words : w' ≡ (if fitting w then words_of_state (answer_to (state_of_words w) m).state else w)

abbrev pub StartsWrite : Value → List ℕ → List ℕ → ℕ → Type 0
StartsWrite v w w' r = MakesMoveOn (WriterStart v) w w' r

abbrev pub StepsWriter : List ℕ → List ℕ → ℕ → Type 0
StepsWriter w w' r = MakesMoveOn WriterStep w w' r

abbrev pub StepsReader : List ℕ → List ℕ → ℕ → Type 0
StepsReader w w' r = MakesMoveOn ReaderStep w w' r

-- A bit above 255 is refused 9 too: no move carries it.
pub record FlickersOn (flicker : ℕ → Move) (bit : ℕ) (w w' : List ℕ) (r : ℕ) : Type 0 where
  pub number : r ≡ (if leb bit 255 && fitting w then (answer_to (state_of_words w) (flicker bit)).number else out_of_range)
  pub words : w' ≡ (if leb bit 255 && fitting w then words_of_state (answer_to (state_of_words w) (flicker bit)).state else w)

abbrev pub FlickersWriter : ℕ → List ℕ → List ℕ → ℕ → Type 0
FlickersWriter bit w w' r = FlickersOn WriterFlicker bit w w' r

abbrev pub FlickersReader : ℕ → List ℕ → List ℕ → ℕ → Type 0
FlickersReader bit w w' r = FlickersOn ReaderFlicker bit w w' r
