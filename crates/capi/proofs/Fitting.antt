-- Words that fit: each of a location or a bit is below 256; and a refused move gives the words back.
-- Assumes nothing.
use mathlib.Core.Path.{◌≡◌, refl}
use mathlib.Core.Bool.{Bool, true, false, ◌&&◌}
use mathlib.Core.List.{List, [], ◌∷◌}
use Prim.Native.Nat.{ℕ, zero, suc, ◌≤◌, zero-le}
use lib.Dec.{leb}
use lib.ListN.{get_or}
use borrow.Author.Tests.{leb-true}
use Rattle.terms.proofs.Tests.{both}
use Rattle.register.specs.Move.{all_at_most}
use Rattle.capi.specs.Words.{word, fitting, Fitting}

-- The conjunction of a chain of tests, from the left, as the definition and the code have it.
abbrev and_all : Bool → List ℕ → Bool
and_all t [] = t
and_all t (x ∷ xs) = and_all (t && leb x 255) xs

first : (t : Bool) (xs : List ℕ) → and_all t xs ≡ true → t ≡ true
first t [] e = e
first t (x ∷ xs) e = (both t (leb x 255) (first (t && leb x 255) xs e)).0

each : (t : Bool) (xs : List ℕ) → and_all t xs ≡ true → (i : ℕ) → get_or xs i 0 ≤ 255
each t [] e i = zero-le
each t (x ∷ xs) e zero = leb-true x 255 (both t (leb x 255) (first (t && leb x 255) xs e)).1
each t (x ∷ xs) e (suc i) = each (t && leb x 255) xs e i

unfoldable pub narrow : List ℕ → List ℕ
narrow w = word w 8 ∷ word w 9 ∷ word w 10 ∷ word w 11 ∷ word w 12 ∷ word w 13 ∷ word w 14 ∷ word w 18 ∷ word w 19 ∷ word w 20 ∷ []

pub record Narrow (w : List ℕ) : Type 0 where
  pub w8 : word w 8 ≤ 255
  pub w9 : word w 9 ≤ 255
  pub w10 : word w 10 ≤ 255
  pub w11 : word w 11 ≤ 255
  pub w12 : word w 12 ≤ 255
  pub w13 : word w 13 ≤ 255
  pub w14 : word w 14 ≤ 255
  pub w18 : word w 18 ≤ 255
  pub w19 : word w 19 ≤ 255
  pub w20 : word w 20 ≤ 255

pub narrow_of : (w : List ℕ) → Fitting w → Narrow w
unfolding narrow
narrow_of w e =
    let at = each true (narrow w) e in
    record { w8 = at 0; w9 = at 1; w10 = at 2; w11 = at 3; w12 = at 4; w13 = at 5; w14 = at 6; w18 = at 7; w19 = at 8; w20 = at 9 }

-- The same tests, one after another in a list.
together : (t : Bool) (xs : List ℕ) → (t && all_at_most 255 xs) ≡ and_all t xs
together true [] = refl
together false [] = refl
together true (x ∷ xs) = together (leb x 255) xs
together false (x ∷ xs) = together false xs

pub fitting_all : (w : List ℕ) → all_at_most 255 (narrow w) ≡ fitting w
unfolding narrow
fitting_all w = together true (narrow w)
