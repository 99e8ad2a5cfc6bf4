-- To be believed: one move with its refusals (document 01, "A move is one of five kinds" to "A clash is", and "For a single move: 9, 10, 6, 12").
use Rattle.std.specs.Prelude.{ℕ, ◌≡◌, Bool, true, ◌||◌, ◌&&◌, not, List, [], ◌∷◌, leb, eqb, if◌then◌else◌}
use Rattle.terms.specs.Value.{Value}
use Rattle.terms.specs.Refusals.{good_number, misfit, out_of_range, clash, number_spent}
use Rattle.terms.specs.Answers.{number_in, place_in}
use Rattle.register.specs.declared.State.{State}
use Rattle.register.specs.declared.Moved as code
use Rattle.register.specs.declared.Move.{Move}
use Rattle.register.specs.declared.Move.TheVariants.{WriterStart, WriterStep, WriterFlicker, ReaderStep, ReaderFlicker}
use Rattle.register.specs.Steps.{opposite, c_at, tag_at, step20, step21, step22, step23, step24, step25, step26, step27, step40, step41, step42, step43, step44, flicker21, flicker24, flicker26, flicker41}

-- The answer to a move, in document 01's numbers, and the next state.
pub record Moved : Type 0 where
  pub number : ℕ
  pub place : ℕ
  pub state : State

-- "Every answer has a number (0 is good) and a place: .. 0 for .. single moves."
abbrev pub good : State → Moved
good s = record { number = good_number; place = 0; state = s }

-- "A refused move hands back the state it was given."
abbrev pub refused : ℕ → State → Moved
refused n s = record { number = n; place = 0; state = s }

-- A table of answers by location: `answer_at l (row 20 a ∷ ..)` is the answer of the row for l; where no row is for l, the move doesn't
-- fit the location.
pub record Row : Type 0 where
  pub location : ℕ
  pub answer : Moved

abbrev pub row : ℕ → Moved → Row
row l a = record { location = l; answer = a }

abbrev pub answer_at : ℕ → List Row → State → Moved
answer_at l [] s = refused misfit s
answer_at l (w ∷ ws) s = if eqb l w.location then w.answer else answer_at l ws s

-- "A writer's start fits only at 20"; 12 is "step 20 with the writer's number at 65,535".
abbrev pub start_rows : Value → State → List Row
start_rows v s = row 20 (if eqb s.numberw 65535 then refused number_spent s else good (step20 v s)) ∷ []

-- "another writer step only at 21 to 27"
abbrev pub writer_rows : State → List Row
writer_rows s =
    row 21 (good (step21 s))
    ∷ row 22 (good (step22 s))
    ∷ row 23 (good (step23 s))
    ∷ row 24 (good (step24 s))
    ∷ row 25 (good (step25 s))
    ∷ row 26 (good (step26 s))
    ∷ row 27 (good (step27 s))
    ∷ []

-- "A flicker is allowed only at 21, 24, 26 (writer) or 41 (reader)."
abbrev pub writer_flicker_rows : ℕ → State → List Row
writer_flicker_rows b s = row 21 (good (flicker21 b s)) ∷ row 24 (good (flicker24 b s)) ∷ row 26 (good (flicker26 b s)) ∷ []

-- "a reader step everywhere"
abbrev pub reader_rows : State → List Row
reader_rows s =
    row 40 (good (step40 s))
    ∷ row 41 (good (step41 s))
    ∷ row 42 (good (step42 s))
    ∷ row 43 (good (step43 s))
    ∷ row 44 (good (step44 s))
    ∷ []

abbrev pub reader_flicker_rows : ℕ → State → List Row
reader_flicker_rows b s = row 41 (good (flicker41 b s)) ∷ []

-- "The step at a location decides over all of 20 to 27 and 40 to 44."
abbrev pub step_of : Move → State → Moved
step_of (WriterStart v) s = answer_at s.q (start_rows v s) s
step_of WriterStep s = answer_at s.q (writer_rows s) s
step_of (WriterFlicker b) s = answer_at s.q (writer_flicker_rows b s) s
step_of ReaderStep s = answer_at s.r (reader_rows s) s
step_of (ReaderFlicker b) s = answer_at s.r (reader_flicker_rows b s) s

-- the bit that a move carries, 0 where it carries none
abbrev pub bit_carried : Move → ℕ
bit_carried (WriterStart v) = 0
bit_carried WriterStep = 0
bit_carried (WriterFlicker b) = b
bit_carried ReaderStep = 0
bit_carried (ReaderFlicker b) = b

-- Refusal 9: "a location outside its range, a bit of the state or the move above 1, or a tag, start, number or masq above 65,535".
abbrev pub between : ℕ → ℕ → ℕ → Bool
between a b n = leb a n && leb n b

abbrev pub all_at_most : ℕ → List ℕ → Bool
all_at_most n [] = true
all_at_most n (x ∷ xs) = leb x n && all_at_most n xs

abbrev pub bits_of : State → List ℕ
bits_of s = s.ww ∷ s.rr ∷ c_at s 0 ∷ c_at s 1 ∷ s.aw ∷ s.cw ∷ s.br ∷ s.cr ∷ []

abbrev pub numbers_of : State → List ℕ
numbers_of s =
    tag_at s 0 0 ∷ tag_at s 0 1 ∷ tag_at s 1 0 ∷ tag_at s 1 1 ∷ s.startw ∷ s.startr ∷ s.numberw ∷ s.numberr ∷ s.masq ∷ []

abbrev pub is_in_range : State → Bool
is_in_range s = between 20 27 s.q && between 40 44 s.r && all_at_most 1 (bits_of s) && all_at_most 65535 (numbers_of s)

-- Refusal 10: "A clash is a state with r = 43 in which the writer at 20 would write buf[br,cr], or the writer at 23 would." At work on
-- the row i, the writer would write buf[i, not c[i]].
abbrev pub would_write_row : State → ℕ → Bool
would_write_row s i = eqb i s.br && eqb (opposite (c_at s i)) s.cr

abbrev pub is_a_clash : State → Bool
is_a_clash s = eqb s.r 43 && ((eqb s.q 20 && would_write_row s s.aw) || (eqb s.q 23 && would_write_row s (opposite s.aw)))

-- "For a single move: 9, 10, 6, 12": the whole answer. (6 and 12 stand in the tables.)
unfoldable pub answer_to : State → Move → Moved
answer_to s m =
    if not (is_in_range s && leb (bit_carried m) 1) then refused out_of_range s else
    if is_a_clash s then refused clash s else
    step_of m s

-- What the code answers, in document 01's numbers.
abbrev pub answered : code.Moved → Moved
answered a = record { number = number_in a.answer; place = place_in a.answer; state = a.state }

-- What `State::moved` promises.
abbrev pub MakesMove : State → Move → code.Moved → Type 0
MakesMove s m a = answered a ≡ answer_to s m
