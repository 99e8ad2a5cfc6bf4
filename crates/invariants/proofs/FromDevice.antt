-- From the device's invariants to the contract's. Assumes nothing.
use mathlib.Core.Path.{◌≡◌, refl, ap}
use mathlib.Core.Bool.{Bool, true, false, not, ◌||◌, beq}
use Prim.Native.Nat.{ℕ, ◌≤◌, ◌<◌}
use Rattle.register.specs.Steps.{tag_at, opposite}
use Rattle.invariants.specs.Invariants.{Invariants}
use Rattle.invariants.proofs.Device.{WLoc, RLoc, Data}
use Rattle.invariants.proofs.Inv.{Inv, under, ◌≐◌, qat, rat, same}
use Rattle.invariants.proofs.Link.{num, conc, link, get_table, flip}
use Rattle.invariants.proofs.Decode.{bit_of}

same_number : (a b : Bool) → a ≐ b → num a ≡ num b
same_number true true h = refl
same_number false false h = refl
same_number false true h = elim h [ ]
same_number true false h = elim h [ ]

-- what holds of every bit holds of every number up to 1
pub at_bit : (P : ℕ → Type 0) → ((i : Bool) → P (num i)) → (i : ℕ) → i ≤ 1 → P i
at_bit P f i h = let a = bit_of i h in rw a.1 (f a.0)

pub at_bits : (P : ℕ → ℕ → Type 0) → ((i j : Bool) → P (num i) (num j)) → (i j : ℕ) → i ≤ 1 → j ≤ 1 → P i j
at_bits P f i j h k = at_bit (λ x. P x j) (λ a. at_bit (P (num a)) (f a) j k) i h

pub from_device : (q : WLoc) (r : RLoc) (d : Data) → Inv q r d → Invariants (conc q r d)
from_device q r d i = record {
  iq0 = simp link (under (qat q 20 || qat q 26 || qat q 27) (under (rat r 43) (under (same d) (ap num))) i.iq0);
  iq1 = simp link (under (qat q 23) (under (rat r 43) (under (beq (not d.aw) d.br) (ap num))) i.iq1);
  jq0 = i.jq0;
  jq1 = i.jq1;
  kq0 = under (not (rat r 41)) (same_number d.rr d.br) i.kq0;
  kq1 = under (not (qat q 26)) (same_number d.ww d.aw) i.kq1;
  kq2 = i.kq2;
  kq3 = i.kq3;
  kq4 = at_bits (λ a b. tag_at (conc q r d) a b ≤ d.numberw) (λ a b. rw get_table (i.kq4 a b));
  lq0 = i.lq0;
  lq1 = simp link i.lq1;
  lq2 = simp link i.lq2;
  lq3 = simp link i.lq3;
  lq4 = simp link i.lq4;
  lq5 = simp link i.lq5;
  sq0 = simp link i.sq0;
  sq1 = simp link i.sq1;
  sq2 = simp link i.sq2;
  sq3 = simp link i.sq3;
  tq0 = i.tq0;
  tq1 = simp link i.tq1;
  tq2 = simp link i.tq2;
  tq3 =
      under (qat q 21)
      (λ (h : (j : Bool) → d.tag (not d.aw) j < d.numberw).
      at_bit (λ j. tag_at (conc q r d) (opposite (num d.aw)) j < d.numberw) (λ j. rw (flip, get_table) (h j)))
      i.tq3;
  uq0 = i.uq0;
  uq1 = simp link i.uq1;
  uq2 = simp link i.uq2;
  uq3 = simp link i.uq3;
  uq4 = simp link i.uq4;
  uq5 = simp link i.uq5;
}
