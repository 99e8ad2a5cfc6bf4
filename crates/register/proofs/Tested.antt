-- The test of a list's entries says what `all_at_most` says.
-- Assumes nothing.
use Rattle.std.proofs.Common.{◌≡◌, refl, sym, ℕ, zero, suc, ◌≤◌, Bool, true, false, List, [], ◌∷◌, IsTrue, ◌↔◌, All, arith}
use borrow.Author.Tests.{le-leb, leb-true}
use lib.Dec.{leb}
use Rattle.terms.proofs.Tests.{both}
use Rattle.register.specs.Move.{all_at_most}

to_all : (n : ℕ) (xs : List ℕ) → all_at_most n xs ≡ true → All (λ m. m ≤ n) xs
to_all n [] e k d h = absurd (omega arith)
to_all n (x ∷ xs) e zero d h = leb-true x n (both (leb x n) (all_at_most n xs) e).0
to_all n (x ∷ xs) e (suc k) d h = to_all n xs (both (leb x n) (all_at_most n xs) e).1 k d (omega arith)

from_all : (n : ℕ) (xs : List ℕ) → All (λ m. m ≤ n) xs → all_at_most n xs ≡ true
from_all n [] h = refl
from_all n (x ∷ xs) h = rw (le-leb x n (h zero 0 (omega arith))) (from_all n xs (λ k d i. h (suc k) d (omega arith)))

pub all_tested : (n : ℕ) (xs : List ℕ) (r : Bool) → (IsTrue r ↔ All (λ m. m ≤ n) xs) → r ≡ all_at_most n xs
all_tested n xs true h = sym (from_all n xs (h.0 refl))
all_tested n xs false h = on (all_at_most n xs) refl
  where
    on : (b : Bool) → all_at_most n xs ≡ b → false ≡ b
    on true e = h.1 (to_all n xs e)
    on false e = refl
