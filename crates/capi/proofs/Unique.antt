-- Every promise of the C interface determines what is returned and every word lent; and a refused state is untouched.
-- Assumes nothing.
use mathlib.Core.Path.{◌≡◌, ap, sym, ◌∙◌}
use mathlib.Core.Bool.{Bool, true, false, ◌&&◌}
use mathlib.Core.List.{List, [], ◌∷◌}
use Prim.Native.Nat.{ℕ, zero, suc, ◌+◌}
use native.Mathlib.Omega.{arith}
use lib.Dec.{leb}
use lib.ListN.{length, get_or, drop, drop_of_length-le}
use lib.Seq.{drop-cons}
use Rattle.std.specs.Prelude.{if◌then◌else◌}
use Rattle.register.specs.declared.Move.{Move}
use Rattle.register.specs.Move.{answer_to}
use Rattle.register.proofs.Refused.{hands_back}
use Rattle.capi.specs.Words.{fitting, state_of_words, words_of_state}
use Rattle.judge.specs.declared.Answer.{Answer as Verdict}
use Rattle.judge.proofs.Unique as judge
use Rattle.replay.specs.Run.{Answer as Ran}
use Rattle.replay.proofs.Theorems as replay
use Rattle.capi.specs.Promises.{JudgesInto, RunsInto, verdict_words, run_words, MakesMoveOn, FlickersOn}

pub judge_unique : (log x y : List ℕ) (a b : ℕ) → JudgesInto log x a → JudgesInto log y b → (x ≡ y) × (a ≡ b)
judge_unique log x y a b p q =
    let e = judge.answer_unique log p.answer q.answer p.judges q.judges in
    (p.words_are ∙ ap verdict_words e ∙ sym q.words_are, p.returned ∙ ap (λ (z : Verdict). z.number) e ∙ sym q.returned)

pub run_unique : (schedule out x y v w : List ℕ) (a b : ℕ) → RunsInto schedule out x v a → RunsInto schedule out y w b → (x ≡ y) × (v ≡ w) × (a ≡ b)
run_unique schedule out x y v w a b p q =
    let (o, e) = replay.answer_unique schedule out x y p.answer q.answer p.runs q.runs in
    (o, p.words_are ∙ ap run_words e ∙ sym q.words_are, p.returned ∙ ap (λ (z : Ran). z.number) e ∙ sym q.returned)

pub move_unique : (m : Move) (w x y : List ℕ) (a b : ℕ) → MakesMoveOn m w x a → MakesMoveOn m w y b → (x ≡ y) × (a ≡ b)
move_unique m w x y a b p q = (p.words ∙ sym q.words, p.number ∙ sym q.number)

pub flicker_unique : (flicker : ℕ → Move) (bit : ℕ) (w x y : List ℕ) (a b : ℕ) → FlickersOn flicker bit w x a → FlickersOn flicker bit w y b → (x ≡ y) × (a ≡ b)
flicker_unique flicker bit w x y a b p q = (p.words ∙ sym q.words, p.number ∙ sym q.number)

-- The words from i on, n of them.
spread : ℕ → ℕ → List ℕ → List ℕ
spread zero i w = []
spread (suc n) i w = get_or w i 0 ∷ spread n (suc i) w

spread_all : (n i : ℕ) (w : List ℕ) → length w ≡ i + n → spread n i w ≡ drop i w
unfolding spread
spread_all zero i w h = sym (drop_of_length-le w {i = i} (omega arith))
spread_all (suc n) i w h = rw (drop-cons w i 0 (omega arith)) (ap (λ (l : List ℕ). get_or w i 0 ∷ l) (spread_all n (suc i) w (omega arith)))

-- The words of the state of 25 words are these words.
pub words_back : (w : List ℕ) → length w ≡ 25 → words_of_state (state_of_words w) ≡ w
unfolding spread
words_back w h = spread_all 25 0 w (omega arith)

pub refused_untouched : (m : Move) (w w' : List ℕ) (r : ℕ) → length w ≡ 25 → MakesMoveOn m w w' r → (r ≡ 0 → ⊥) → w' ≡ w
refused_untouched m w w' r l p h = on (fitting w) p.number p.words
  where
    on : (b : Bool) → r ≡ (if b then (answer_to (state_of_words w) m).number else 9) → w' ≡ (if b then words_of_state (answer_to (state_of_words w) m).state else w) → w' ≡ w
    on true n x = x ∙ ap words_of_state ((hands_back (state_of_words w) m).state (λ e. h (n ∙ e))) ∙ words_back w l
    on false n x = x

pub flicker_untouched : (flicker : ℕ → Move) (bit : ℕ) (w w' : List ℕ) (r : ℕ) → length w ≡ 25 → FlickersOn flicker bit w w' r → (r ≡ 0 → ⊥) → w' ≡ w
flicker_untouched flicker bit w w' r l p h = on (leb bit 255 && fitting w) p.number p.words
  where
    on : (b : Bool) → r ≡ (if b then (answer_to (state_of_words w) (flicker bit)).number else 9) → w' ≡ (if b then words_of_state (answer_to (state_of_words w) (flicker bit)).state else w) → w' ≡ w
    on true n x = x ∙ ap words_of_state ((hands_back (state_of_words w) (flicker bit)).state (λ e. h (n ∙ e))) ∙ words_back w l
    on false n x = x
