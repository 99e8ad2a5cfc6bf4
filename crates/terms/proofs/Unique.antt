-- Every promise of `terms` determines the result: two results that it allows are equal.
-- Assumes nothing.
use Prim.Native.Nat.{ℕ}
use mathlib.Core.Path.{◌≡◌, sym, ◌∙◌}
use Rattle.std.specs.Prelude.{Result}
use Rattle.terms.specs.declared.Refusal.{Refusal}
use Rattle.terms.specs.declared.Refused.{Refused}
use Rattle.terms.specs.Answers.{NumbersRefusal, IsAt, HasNumber, HasPlace}

-- of `u32::from` of a refusal
pub refusal_number_unique : (refusal : Refusal) (a b : ℕ) → NumbersRefusal refusal a → NumbersRefusal refusal b → a ≡ b
refusal_number_unique refusal a b p q = p ∙ sym q

pub at_unique : (refusal : Refusal) (place : ℕ) (a b : Refused) → IsAt refusal place a → IsAt refusal place b → a ≡ b
at_unique refusal place a b p q = p ∙ sym q

pub number_in_unique : {A : Type 0} (answer : Result A Refused) (a b : ℕ) → HasNumber answer a → HasNumber answer b → a ≡ b
number_in_unique answer a b p q = p ∙ sym q

pub place_in_unique : {A : Type 0} (answer : Result A Refused) (a b : ℕ) → HasPlace answer a → HasPlace answer b → a ≡ b
place_in_unique answer a b p q = p ∙ sym q
