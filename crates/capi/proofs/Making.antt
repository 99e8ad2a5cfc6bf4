-- The two ways of a move in place: words that do not fit, and the answer to a move.
-- Assumes nothing.
use mathlib.Core.Path.{◌≡◌, ap, ◌∙◌}
use mathlib.Core.Bool.{true, false}
use mathlib.Core.List.{List}
use Prim.Native.Nat.{ℕ, ◌≤◌, ◌<◌}
use borrow.Author.Tests.{le-leb, lt-leb}
use Rattle.terms.specs.Answers.{HasNumber}
use Rattle.register.specs.declared.State.{State}
use Rattle.register.specs.declared.Move.{Move}
use Rattle.register.specs.declared.Moved as code
use Rattle.register.specs.Move.{Moved, answer_to, answered, MakesMove}
use Rattle.capi.specs.Words.{fitting, state_of_words, words_of_state}
use Rattle.capi.specs.Promises.{MakesMoveOn, FlickersOn}

pub too_wide : (m : Move) (w : List ℕ) → fitting w ≡ false → MakesMoveOn m w w 9
too_wide m w e = record { number = rw e; words = rw e }

pub made_on : (m : Move) (w : List ℕ) → fitting w ≡ true → (s : State) → s ≡ state_of_words w → (a : code.Moved) → MakesMove s m a
    → (next : State) → next ≡ a.state → (w' : List ℕ) → w' ≡ words_of_state next → (k : ℕ) → HasNumber a.answer k → MakesMoveOn m w w' k
made_on m w e s p a q next n w' x k h =
    let r : answered a ≡ answer_to (state_of_words w) m = q ∙ ap (λ (t : State). answer_to t m) p in
    record { number = rw e (h ∙ ap (λ (b : Moved). b.number) r); words = rw e (x ∙ ap words_of_state n ∙ ap (λ (b : Moved). words_of_state b.state) r) }

-- A flicker, with its bit.
module _ (flicker : ℕ → Move) (bit : ℕ) (w w' : List ℕ) where
  pub wide_bit : 255 < bit → FlickersOn flicker bit w w 9
  wide_bit h = record { number = rw (lt-leb bit 255 h); words = rw (lt-leb bit 255 h) }

  pub flickered : bit ≤ 255 → (r : ℕ) → MakesMoveOn (flicker bit) w w' r → FlickersOn flicker bit w w' r
  flickered h r m = record { number = rw (le-leb bit 255 h) m.number; words = rw (le-leb bit 255 h) m.words }
