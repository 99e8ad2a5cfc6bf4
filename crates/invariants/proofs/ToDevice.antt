-- From the contract's invariants to the device's. Assumes nothing.
use mathlib.Core.Path.{◌≡◌, refl}
use mathlib.Core.Bool.{Bool, true, false, not, ◌||◌, beq}
use native.Mathlib.Omega.{arith}
use Rattle.invariants.specs.Invariants.{Invariants}
use Rattle.invariants.proofs.Device.{WLoc, RLoc, Data}
use Rattle.invariants.proofs.Inv.{Inv, under, ◌≐◌, ≐_refl, qat, rat, same}
use Rattle.invariants.proofs.Link.{num, small, conc, link, get_table}

same_bit : (a b : Bool) → num a ≡ num b → a ≡ b
same_bit true true h = refl
same_bit true false h = absurd (omega arith)
same_bit false true h = absurd (omega arith)
same_bit false false h = refl

same_test : (a b : Bool) → num a ≡ num b → a ≐ b
same_test a b h = rw (same_bit a b h) (≐_refl b)

pub to_device : (q : WLoc) (r : RLoc) (d : Data) → Invariants (conc q r d) → Inv q r d
to_device q r d i = record {
  iq0 = under (qat q 20 || qat q 26 || qat q 27) (under (rat r 43) (under (same d) (same_bit d.cr (d.c d.br)))) (simp link at i.iq0);
  iq1 = under (qat q 23) (under (rat r 43) (under (beq (not d.aw) d.br) (same_bit d.cr (d.c d.br)))) (simp link at i.iq1);
  jq0 = i.jq0;
  jq1 = i.jq1;
  kq0 = under (not (rat r 41)) (same_test d.rr d.br) i.kq0;
  kq1 = under (not (qat q 26)) (same_test d.ww d.aw) i.kq1;
  kq2 = i.kq2;
  kq3 = i.kq3;
  kq4 = λ a b. rw get_table at (i.kq4 (num a) (num b) (small a) (small b));
  lq0 = i.lq0;
  lq1 = simp link at i.lq1;
  lq2 = simp link at i.lq2;
  lq3 = simp link at i.lq3;
  lq4 = simp link at i.lq4;
  lq5 = simp link at i.lq5;
  sq0 = simp link at i.sq0;
  sq1 = simp link at i.sq1;
  sq2 = simp link at i.sq2;
  sq3 = simp link at i.sq3;
  tq0 = i.tq0;
  tq1 = simp link at i.tq1;
  tq2 = simp link at i.tq2;
  tq3 = under (qat q 21) (λ h j. simp link at (h (num j) (small j))) i.tq3;
  uq0 = i.uq0;
  uq1 = simp link at i.uq1;
  uq2 = simp link at i.uq2;
  uq3 = simp link at i.uq3;
  uq4 = simp link at i.uq4;
  uq5 = simp link at i.uq5;
}
