-- A refusal's number tells which refusal it is, and number and place tell all of an answer but what a good one carries.
-- Assumes nothing.
use mathlib.Core.Path.{◌≡◌, refl, sym, ap, ◌∙◌}
use mathlib.Core.List.{[], ◌∷◌}
use Prim.Native.Nat.{ℕ, ◌≤◌}
use native.Mathlib.Omega.{arith}
use lib.ListN.{get_or}
use Rattle.std.specs.Prelude.{Result, Ok, Err}
use Rattle.terms.specs.declared.Refusal.{Refusal}
use Rattle.terms.specs.declared.Refusal.TheVariants.{Cut, ForeignTag, WrongLength, NotFirst, NoBit, Misfit, TooLong, NoRoom, OutOfRange, Clash, OutOfTurn, NumberSpent}
use Rattle.terms.specs.declared.Refused.{Refused}
use Rattle.terms.specs.Refusals.{refusal_number}
use Rattle.terms.specs.Answers.{number_in, place_in}

-- The table of the refusals; no refusal has number 0.
abbrev refusal_of : ℕ → Refusal
refusal_of n =
    get_or (Cut ∷ Cut ∷ ForeignTag ∷ WrongLength ∷ NotFirst ∷ NoBit ∷ Misfit ∷ TooLong ∷ NoRoom ∷ OutOfRange ∷ Clash ∷ OutOfTurn ∷ NumberSpent ∷ []) n Cut

in_table : (a : Refusal) → refusal_of (refusal_number a) ≡ a
in_table Cut = refl
in_table ForeignTag = refl
in_table WrongLength = refl
in_table NotFirst = refl
in_table NoBit = refl
in_table Misfit = refl
in_table TooLong = refl
in_table NoRoom = refl
in_table OutOfRange = refl
in_table Clash = refl
in_table OutOfTurn = refl
in_table NumberSpent = refl

pub refusal_number_once : (a b : Refusal) → refusal_number a ≡ refusal_number b → a ≡ b
refusal_number_once a b e = sym (in_table a) ∙ ap refusal_of e ∙ in_table b

pub refusal_number_positive : (a : Refusal) → 1 ≤ refusal_number a
refusal_number_positive a = grind arith

pub answer_once : {A : Type 0} (a b : Result A Refused) → number_in a ≡ number_in b → place_in a ≡ place_in b
    → ((x y : A) → a ≡ Ok x → b ≡ Ok y → x ≡ y) → a ≡ b
answer_once (Ok x) (Ok y) n p h = ap Ok (h x y refl refl)
answer_once (Ok x) (Err e) n p h = absurd (omega (arith, refusal_number_positive e.refusal, n))
answer_once (Err d) (Ok y) n p h = absurd (omega (arith, refusal_number_positive d.refusal, n))
answer_once (Err d) (Err e) n p h =
    λ i. Err (record { refusal = refusal_number_once d.refusal e.refusal n i; place = p i })
