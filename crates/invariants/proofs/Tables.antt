-- A table of four, indexed by two bits, with one entry set. Assumes nothing.
use mathlib.Core.Path.{◌≡◌, refl}
use mathlib.Core.Bool.{Bool, true, false, not}
use Prim.Native.Nat.{ℕ, ◌≤◌}
use native.Mathlib.Nat.{le_refl}
use Rattle.invariants.proofs.Device.{put₂}

pub not_not : (b : Bool) → not (not b) ≡ b
not_not true = refl
not_not false = refl

-- what holds at a bit and at its opposite holds at both
pub either : (P : Bool → Type 0) (c : Bool) → P c → P (not c) → (x : Bool) → P x
either P true h k true = h
either P true h k false = k
either P false h k true = k
either P false h k false = h

-- the entry itself; its neighbour in the row; the other row, from either side
module _ {A : Type 0} (f : Bool → Bool → A) where
  pub put_same : (i j : Bool) (v : A) → put₂ f i j v i j ≡ v
  put_same true true v = refl
  put_same true false v = refl
  put_same false true v = refl
  put_same false false v = refl

  pub put_not : (i j : Bool) (v : A) → put₂ f i (not j) v i j ≡ f i j
  put_not true true v = refl
  put_not true false v = refl
  put_not false true v = refl
  put_not false false v = refl

  pub put_row : (i j : Bool) (v : A) (k : Bool) → put₂ f i j v (not i) k ≡ f (not i) k
  put_row true j v k = refl
  put_row false j v k = refl

  pub put_back : (i j : Bool) (v : A) (k : Bool) → put₂ f (not i) j v i k ≡ f i k
  put_back true j v k = refl
  put_back false j v k = refl

-- what holds of the new entries, and of the old ones at each place, holds of two tables after both are set at one place
pub put_case : {A B : Type 0} (P : Bool → Bool → A → B → Type 0) (f : Bool → Bool → A) (g : Bool → Bool → B) (i j : Bool) (v : A) (w : B)
    → P i j v w → ((a b : Bool) → P a b (f a b) (g a b)) → (a b : Bool) → P a b (put₂ f i j v a b) (put₂ g i j w a b)
put_case P f g true true v w h k true true = h
put_case P f g true true v w h k true false = k true false
put_case P f g true true v w h k false b = k false b
put_case P f g true false v w h k true true = k true true
put_case P f g true false v w h k true false = h
put_case P f g true false v w h k false b = k false b
put_case P f g false true v w h k true b = k true b
put_case P f g false true v w h k false true = h
put_case P f g false true v w h k false false = k false false
put_case P f g false false v w h k true b = k true b
put_case P f g false false v w h k false true = k false true
put_case P f g false false v w h k false false = h

pub put_le : (f : Bool → Bool → ℕ) (i j : Bool) (v n : ℕ) → v ≤ n → ((a b : Bool) → f a b ≤ n) → (a b : Bool) → put₂ f i j v a b ≤ n
put_le f i j v n h k = put_case (λ a b x y. x ≤ n) f f i j v v h k

pub put_grows : (f : Bool → Bool → ℕ) (i j : Bool) (v : ℕ) → ((a b : Bool) → f a b ≤ v) → (a b : Bool) → f a b ≤ put₂ f i j v a b
put_grows f i j v k = put_case (λ a b x y. f a b ≤ x) f f i j v v (k i j) (λ a b. le_refl (f a b))
