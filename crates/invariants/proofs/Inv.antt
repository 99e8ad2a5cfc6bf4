-- The 29 invariants of the device, in the order and with the tests of specs/Invariants.antt. FromDevice.antt and ToDevice.antt carry them to and
-- from the contract's state. Assumes nothing.
use mathlib.Core.Path.{◌≡◌}
use mathlib.Core.Bool.{Bool, true, false, not, ◌||◌, beq}
use Prim.Native.Nat.{ℕ, suc, ◌≤◌, ◌<◌}
use lib.Dec.{T, eqb}
use Rattle.invariants.specs.Invariants.{◌⇒◌}
use Rattle.invariants.proofs.Device.{WLoc, w20, w21, w22, w23, w24, w25, w26, w27, RLoc, r40, r41, r42, r43, r44, Data}

-- where a test stays, what stands behind it is proved from what stands behind the same test
pub under : (g : Bool) {A B : Type 0} → (A → B) → (g ⇒ A) → (g ⇒ B)
under true f a = f a
under false f a = tt

pub under₂ : (g : Bool) {A B C : Type 0} → (A → B → C) → (g ⇒ A) → (g ⇒ B) → (g ⇒ C)
under₂ true f a b = f a b
under₂ false f a b = tt

pub always : (g : Bool) {A : Type 0} → A → (g ⇒ A)
always true a = a
always false a = tt

-- equality of two bits as a test
infix 4 ◌≐◌
abbrev pub ◌≐◌ : Bool → Bool → Type 0
a ≐ b = T (beq a b)

pub ≐_refl : (a : Bool) → a ≐ a
≐_refl true = tt
≐_refl false = tt

-- the locations' numbers
abbrev pub wnum : WLoc → ℕ
wnum w20 = 20
wnum w21 = 21
wnum w22 = 22
wnum w23 = 23
wnum w24 = 24
wnum w25 = 25
wnum w26 = 26
wnum w27 = 27

abbrev pub rnum : RLoc → ℕ
rnum r40 = 40
rnum r41 = 41
rnum r42 = 42
rnum r43 = 43
rnum r44 = 44

abbrev pub qat : WLoc → ℕ → Bool
qat q n = eqb (wnum q) n

abbrev pub rat : RLoc → ℕ → Bool
rat r n = eqb (rnum r) n

abbrev pub at40or44 : RLoc → Bool
at40or44 r = rat r 40 || rat r 44

abbrev pub same : Data → Bool
same d = beq d.aw d.br

module _ (q : WLoc) (r : RLoc) (d : Data) where
  abbrev pub Iq0 : Type 0
  Iq0 = (qat q 20 || qat q 26 || qat q 27) ⇒ rat r 43 ⇒ same d ⇒ d.cr ≡ d.c d.br

  abbrev pub Iq1 : Type 0
  Iq1 = qat q 23 ⇒ rat r 43 ⇒ beq (not d.aw) d.br ⇒ d.cr ≡ d.c d.br

  abbrev pub Jq0 : Type 0
  Jq0 = d.startw < d.numberw

  abbrev pub Jq1 : Type 0
  Jq1 = rat r 44 ⇒ d.startr ≤ d.numberr

  abbrev pub Kq0 : Type 0
  Kq0 = not (rat r 41) ⇒ d.rr ≐ d.br

  abbrev pub Kq1 : Type 0
  Kq1 = not (qat q 26) ⇒ d.ww ≐ d.aw

  abbrev pub Kq2 : Type 0
  Kq2 = d.masq ≤ d.numberw

  abbrev pub Kq3 : Type 0
  Kq3 = d.numberr ≤ d.numberw

  abbrev pub Kq4 : Type 0
  Kq4 = (i j : Bool) → d.tag i j ≤ d.numberw

  abbrev pub Lq0 : Type 0
  Lq0 = d.startr ≤ d.masq

  abbrev pub Lq1 : Type 0
  Lq1 = not (qat q 21) ⇒ d.tag d.aw (d.c d.aw) ≡ d.numberw

  abbrev pub Lq2 : Type 0
  Lq2 = qat q 21 ⇒ d.tag d.aw d.cw ≡ d.numberw

  abbrev pub Lq3 : Type 0
  Lq3 = qat q 21 ⇒ suc (d.tag d.aw (not d.cw)) ≡ d.numberw

  abbrev pub Lq4 : Type 0
  Lq4 = (qat q 25 || qat q 26) ⇒ d.tag (not d.aw) (d.c (not d.aw)) ≡ d.numberw

  abbrev pub Lq5 : Type 0
  Lq5 = qat q 24 ⇒ d.tag (not d.aw) d.cw ≡ d.numberw

  abbrev pub Sq0 : Type 0
  Sq0 = rat r 43 ⇒ d.startr ≤ d.tag d.br d.cr

  abbrev pub Sq1 : Type 0
  Sq1 = (rat r 41 || rat r 42) ⇒ d.startr ≤ d.tag d.br (d.c d.br)

  abbrev pub Sq2 : Type 0
  Sq2 = qat q 24 ⇒ not (same d) ⇒ d.startr ≤ d.tag d.br (not d.cw)

  abbrev pub Sq3 : Type 0
  Sq3 = qat q 23 ⇒ not (same d) ⇒ d.startr ≤ d.tag d.br (d.c d.br)

  abbrev pub Tq0 : Type 0
  Tq0 = qat q 21 ⇒ not (at40or44 r) ⇒ d.masq < d.numberw

  abbrev pub Tq1 : Type 0
  Tq1 = qat q 21 ⇒ not (same d) ⇒ d.masq < d.numberw

  abbrev pub Tq2 : Type 0
  Tq2 = qat q 21 ⇒ not (same d) ⇒ d.numberr < d.numberw

  abbrev pub Tq3 : Type 0
  Tq3 = qat q 21 ⇒ ((j : Bool) → d.tag (not d.aw) j < d.numberw)

  abbrev pub Uq0 : Type 0
  Uq0 = at40or44 r ⇒ qat q 26 ⇒ d.masq ≤ d.numberr

  abbrev pub Uq1 : Type 0
  Uq1 = at40or44 r ⇒ same d ⇒ d.masq ≤ d.numberr

  abbrev pub Uq2 : Type 0
  Uq2 = at40or44 r ⇒ same d ⇒ (qat q 26 || qat q 27) ⇒ d.numberw ≡ d.numberr

  abbrev pub Uq3 : Type 0
  Uq3 = rat r 43 ⇒ qat q 26 ⇒ d.masq ≤ d.tag d.br d.cr

  abbrev pub Uq4 : Type 0
  Uq4 = rat r 43 ⇒ same d ⇒ d.masq ≤ d.tag d.br d.cr

  abbrev pub Uq5 : Type 0
  Uq5 = rat r 43 ⇒ same d ⇒ (qat q 26 || qat q 27) ⇒ d.numberw ≡ d.tag d.br d.cr

pub record Inv (q : WLoc) (r : RLoc) (d : Data) : Type 0 where
  pub iq0 : Iq0 q r d
  pub iq1 : Iq1 q r d
  pub jq0 : Jq0 q r d
  pub jq1 : Jq1 q r d
  pub kq0 : Kq0 q r d
  pub kq1 : Kq1 q r d
  pub kq2 : Kq2 q r d
  pub kq3 : Kq3 q r d
  pub kq4 : Kq4 q r d
  pub lq0 : Lq0 q r d
  pub lq1 : Lq1 q r d
  pub lq2 : Lq2 q r d
  pub lq3 : Lq3 q r d
  pub lq4 : Lq4 q r d
  pub lq5 : Lq5 q r d
  pub sq0 : Sq0 q r d
  pub sq1 : Sq1 q r d
  pub sq2 : Sq2 q r d
  pub sq3 : Sq3 q r d
  pub tq0 : Tq0 q r d
  pub tq1 : Tq1 q r d
  pub tq2 : Tq2 q r d
  pub tq3 : Tq3 q r d
  pub uq0 : Uq0 q r d
  pub uq1 : Uq1 q r d
  pub uq2 : Uq2 q r d
  pub uq3 : Uq3 q r d
  pub uq4 : Uq4 q r d
  pub uq5 : Uq5 q r d
