-- Each step of the device keeps its invariants: a lemma for each location. `search plain` finds every invariant that the step does not threaten; a
-- `let` proves each one that it does. Assumes nothing.
use mathlib.Core.Path.{◌≡◌, ap, sym, ◌∙◌}
use mathlib.Core.Bool.{Bool, true, false, not, ◌||◌, beq}
use Prim.Native.Nat.{ℕ, suc, ◌≤◌, ◌<◌}
use native.Mathlib.Omega.{arith}
use native.Mathlib.Nat.{le_refl}
use Rattle.terms.specs.Value.{Value}
use Rattle.invariants.specs.Invariants.{◌⇒◌}
use Rattle.invariants.proofs.Device.{WLoc, w20, w21, w22, w23, w24, w25, w26, w27, RLoc, r40, r41, r42, r43, r44, Data, put₂, bits, wnext, wdata, rnext, rdata, wflick, rflick}
use Rattle.invariants.proofs.Inv.{Inv, ≐_refl, under, under₂, always, at40or44, same, rat, qat, Sq0, Sq1, Tq1, Tq3, Uq0, Uq1, Uq4}
use Rattle.invariants.proofs.Tables.{not_not, either, put_same, put_not, put_row, put_back, put_le, put_grows}

abbrev pub WStep : WLoc → RLoc → Data → Type 0
WStep q r d = (v : Value) → Inv q r d → Inv (wnext q d) r (wdata q v d)

abbrev pub WFlick : WLoc → RLoc → Data → Type 0
WFlick q r d = (x : Bool) → Inv q r d → Inv q r (wflick q x d)

abbrev pub RStep : WLoc → RLoc → Data → Type 0
RStep q r d = Inv q r d → Inv q (rnext r d) (rdata r d)

abbrev pub RFlick : WLoc → RLoc → Data → Type 0
RFlick q r d = (x : Bool) → Inv q r d → Inv q r (rflick r x d)

ruleset plain = (arith, always, ≐_refl)

-- WHAT THE INVARIANTS GIVE, at a location that is not known
-- a test that fails everywhere but at one location
only41 : {r : RLoc} (P : RLoc → Type 0) → (not (rat r 41) ⇒ ⊥) → P r41 → P r
only41 {r = r40} P z p = absurd z
only41 {r = r41} P z p = p
only41 {r = r42} P z p = absurd z
only41 {r = r43} P z p = absurd z
only41 {r = r44} P z p = absurd z

only26 : {q : WLoc} (P : WLoc → Type 0) → (not (qat q 26) ⇒ ⊥) → P w26 → P q
only26 {q = w20} P z p = absurd z
only26 {q = w21} P z p = absurd z
only26 {q = w22} P z p = absurd z
only26 {q = w23} P z p = absurd z
only26 {q = w24} P z p = absurd z
only26 {q = w25} P z p = absurd z
only26 {q = w26} P z p = p
only26 {q = w27} P z p = absurd z

busy : (r : RLoc) {A B : Type 0} → (A → B) → (not (at40or44 r) ⇒ A) → (rat r 41 || rat r 42 ⇒ B)
busy r40 f a = tt
busy r41 f a = f a
busy r42 f a = f a
busy r43 f a = tt
busy r44 f a = tt

-- the writer's current buffer is at least as new as masq
current : {q : WLoc} {r : RLoc} {d : Data} → Inv q r d → (qat q 21 ⇒ d.masq < d.numberw) → d.masq ≤ d.tag d.aw (d.c d.aw)
current {q = w20} i h = omega arith
current {q = w21} {r} {d} i h = either (λ j. d.masq ≤ d.tag d.aw j) d.cw (omega arith) (omega arith) (d.c d.aw)
current {q = w22} i h = omega arith
current {q = w23} i h = omega arith
current {q = w24} i h = omega arith
current {q = w25} i h = omega arith
current {q = w26} i h = omega arith
current {q = w27} i h = omega arith

-- at 26 the other row's is too; and at 26 and 27 the current one is the newest
other : {q : WLoc} {r : RLoc} {d : Data} → Inv q r d → qat q 26 ⇒ d.masq ≤ d.tag (not d.aw) (d.c (not d.aw))
other {q = w20} i = tt
other {q = w21} i = tt
other {q = w22} i = tt
other {q = w23} i = tt
other {q = w24} i = tt
other {q = w25} i = tt
other {q = w26} i = omega arith
other {q = w27} i = tt

newest : {q : WLoc} {r : RLoc} {d : Data} → Inv q r d → qat q 26 || qat q 27 ⇒ d.numberw ≡ d.tag d.aw (d.c d.aw)
newest {q = w20} i = tt
newest {q = w21} i = tt
newest {q = w22} i = tt
newest {q = w23} i = tt
newest {q = w24} i = tt
newest {q = w25} i = tt
newest {q = w26} i = sym i.lq1
newest {q = w27} i = sym i.lq1

-- THE WRITER. At 20 a tag grows, to the greatest number: kq4, lq2, lq3, sq0, sq1, tq0 to tq3, uq4
pub keeps20 : (r : RLoc) (d : Data) → WStep w20 r d
keeps20 r d v i =
    let n = suc d.numberw in
    let e = wdata w20 v d in
    let j = not (d.c d.aw) in
    let top : (a b : Bool) → d.tag a b ≤ n = λ a b. omega (arith, i.kq4 a b) in
    let up = put_grows d.tag d.aw j n top in
    let k4 = put_le d.tag d.aw j n n (le_refl n) top in
    let l2 = put_same d.tag d.aw j n in
    let l3 : suc (put₂ d.tag d.aw j n d.aw (not j)) ≡ n =
    rw (not_not (d.c d.aw)) (ap suc (put_not d.tag d.aw (d.c d.aw) n ∙ i.lq1)) in
    let s0 : Sq0 w21 r e = under (rat r 43) (λ h. omega (arith, up d.br d.cr)) i.sq0 in
    let s1 : Sq1 w21 r e = under (rat r 41 || rat r 42) (λ h. omega (arith, up d.br (d.c d.br))) i.sq1 in
    let t1 : d.masq < n = omega arith in
    let t2 : d.numberr < n = omega arith in
    let t3 : Tq3 w21 r e = λ k. rw put_row (omega (arith, i.kq4 (not d.aw) k)) in
    let u4 : Uq4 w21 r e = under (rat r 43) (under (same d) (λ h. omega (arith, up d.br d.cr))) i.uq4 in
    search plain

-- at 21, and while c[aw] flickers: sq1, where the reader is in the writer's row (and lq1, by computing)
pub keeps21 : (a b : Bool) (r : RLoc) (d : Data) → WStep w21 r (bits d a b d.ww d.rr)
keeps21 true true r d v i = let s1 : d.startr ≤ d.tag true d.cw = omega arith in search plain
keeps21 true false r d v i = search plain
keeps21 false true r d v i = search plain
keeps21 false false r d v i = let s1 : d.startr ≤ d.tag false d.cw = omega arith in search plain

near : (t : Bool → ℕ) (c x : Bool) (n m s : ℕ) → t c ≡ n → suc (t (not c)) ≡ n → s ≤ m → m < n → s ≤ t x
near t c x n m s a b h k = either (λ j. s ≤ t j) c (omega arith) (omega arith) x

pub flicker21 : (a b : Bool) (r : RLoc) (d : Data) → WFlick w21 r (bits d a b d.ww d.rr)
flicker21 true true r d x i =
    let s1 = busy r (near (d.tag true) d.cw x d.numberw d.masq d.startr i.lq2 i.lq3 i.lq0) i.tq0 in
    search plain
flicker21 true false r d x i = search plain
flicker21 false true r d x i = search plain
flicker21 false false r d x i =
    let s1 = busy r (near (d.tag false) d.cw x d.numberw d.masq d.startr i.lq2 i.lq3 i.lq0) i.tq0 in
    search plain

-- at 22 and 25 the writer has seen aw = rr or not: where rr is not br the reader is at 41, by kq0, and nothing more is asked
pub keeps22 : (a b s : Bool) (r : RLoc) (d : Data) → WStep w22 r (bits d a b d.ww s)
keeps22 true true true r d v i = search plain
keeps22 true true false r d v i = only41 (λ r. WStep w22 r (bits d true true d.ww false)) i.kq0 (λ v i. search plain) v i
keeps22 true false true r d v i = only41 (λ r. WStep w22 r (bits d true false d.ww true)) i.kq0 (λ v i. search plain) v i
keeps22 true false false r d v i = search plain
keeps22 false true true r d v i = search plain
keeps22 false true false r d v i = only41 (λ r. WStep w22 r (bits d false true d.ww false)) i.kq0 (λ v i. search plain) v i
keeps22 false false true r d v i = only41 (λ r. WStep w22 r (bits d false false d.ww true)) i.kq0 (λ v i. search plain) v i
keeps22 false false false r d v i = search plain

-- at 23 a tag of the other row becomes the greatest number: kq4, lq1, lq5, sq0, sq1, sq2, uq4
sq2_at_23 : (a b : Bool) (t : Bool → Bool → ℕ) (c : Bool → Bool) (n s : ℕ) → (not (beq a b) ⇒ s ≤ t b (c b)) →
    not (beq a b) ⇒ s ≤ put₂ t (not a) (not (c (not a))) n b (not (not (c (not a))))
sq2_at_23 true true t c n s h = tt
sq2_at_23 true false t c n s h = rw (not_not (c false)) (omega (arith, put_not t false (c false) n))
sq2_at_23 false true t c n s h = rw (not_not (c true)) (omega (arith, put_not t true (c true) n))
sq2_at_23 false false t c n s h = tt

pub keeps23 : (r : RLoc) (d : Data) → WStep w23 r d
keeps23 r d v i =
    let o = not d.aw in
    let j = not (d.c o) in
    let e = wdata w23 v d in
    let up = put_grows d.tag o j d.numberw i.kq4 in
    let k4 = put_le d.tag o j d.numberw d.numberw (le_refl d.numberw) i.kq4 in
    let l1 = put_back d.tag d.aw j d.numberw (d.c d.aw) ∙ i.lq1 in
    let l5 = put_same d.tag o j d.numberw in
    let s0 : Sq0 w24 r e = under (rat r 43) (λ h. omega (arith, up d.br d.cr)) i.sq0 in
    let s1 : Sq1 w24 r e = under (rat r 41 || rat r 42) (λ h. omega (arith, up d.br (d.c d.br))) i.sq1 in
    let s2 = sq2_at_23 d.aw d.br d.tag d.c d.numberw d.startr i.sq3 in
    let u4 : Uq4 w24 r e = under (rat r 43) (under (same d) (λ h. omega (arith, up d.br d.cr))) i.uq4 in
    search plain

-- at 24, and while c[not aw] flickers: sq1, where the reader is in the other row
pub keeps24 : (a b : Bool) (r : RLoc) (d : Data) → WStep w24 r (bits d a b d.ww d.rr)
keeps24 true true r d v i = search plain
keeps24 true false r d v i = let s1 : d.startr ≤ d.tag false d.cw = omega arith in search plain
keeps24 false true r d v i = let s1 : d.startr ≤ d.tag true d.cw = omega arith in search plain
keeps24 false false r d v i = search plain

pub flicker24 : (a b : Bool) (r : RLoc) (d : Data) → WFlick w24 r (bits d a b d.ww d.rr)
flicker24 true true r d x i = search plain
flicker24 true false r d x i = let s1 = either (λ j. d.startr ≤ d.tag false j) d.cw (omega arith) (omega arith) x in search plain
flicker24 false true r d x i = let s1 = either (λ j. d.startr ≤ d.tag true j) d.cw (omega arith) (omega arith) x in search plain
flicker24 false false r d x i = search plain

pub keeps25 : (a b s : Bool) (r : RLoc) (d : Data) → WStep w25 r (bits d a b d.ww s)
keeps25 true true true r d v i = search plain
keeps25 true true false r d v i = only41 (λ r. WStep w25 r (bits d true true d.ww false)) i.kq0 (λ v i. search plain) v i
keeps25 true false true r d v i = only41 (λ r. WStep w25 r (bits d true false d.ww true)) i.kq0 (λ v i. search plain) v i
keeps25 true false false r d v i = search plain
keeps25 false true true r d v i = search plain
keeps25 false true false r d v i = only41 (λ r. WStep w25 r (bits d false true d.ww false)) i.kq0 (λ v i. search plain) v i
keeps25 false false true r d v i = only41 (λ r. WStep w25 r (bits d false false d.ww true)) i.kq0 (λ v i. search plain) v i
keeps25 false false false r d v i = search plain

pub keeps26 : (r : RLoc) (d : Data) → WStep w26 r d
keeps26 r d v i = search plain

pub flicker26 : (r : RLoc) (d : Data) → WFlick w26 r d
flicker26 r d x i = search plain

-- at 27 masq grows: uq1, uq4
pub keeps27 : (r : RLoc) (d : Data) → WStep w27 r d
keeps27 r d v i =
    let u1 : Uq1 w20 r (wdata w27 v d) = under (at40or44 r) (under (same d) (λ h. omega arith)) i.uq2 in
    let u4 : Uq4 w20 r (wdata w27 v d) = under (rat r 43) (under (same d) (λ h. omega arith)) i.uq5 in
    search plain

-- THE READER. At 40: jq1 where it stays; sq1 where it turns to the writer's row; and where ww is not aw the writer is at 26, by kq1
pub keeps40 : (a b w : Bool) (q : WLoc) (d : Data) → RStep q r40 (bits d a b w d.rr)
keeps40 true true true q d i = search plain
keeps40 true true false q d i = only26 (λ q. RStep q r40 (bits d true true false d.rr)) i.kq1 (λ i. search plain) i
keeps40 true false true q d i = let s1 = current i i.tq1 in search plain
keeps40 true false false q d i = only26 (λ q. RStep q r40 (bits d true false false d.rr)) i.kq1 (λ i. search plain) i
keeps40 false true true q d i = only26 (λ q. RStep q r40 (bits d false true true d.rr)) i.kq1 (λ i. search plain) i
keeps40 false true false q d i = let s1 = current i i.tq1 in search plain
keeps40 false false true q d i = only26 (λ q. RStep q r40 (bits d false false true d.rr)) i.kq1 (λ i. search plain) i
keeps40 false false false q d i = search plain

pub keeps41 : (q : WLoc) (d : Data) → RStep q r41 d
keeps41 q d i = search plain

pub flicker41 : (q : WLoc) (d : Data) → RFlick q r41 d
flicker41 q d x i = search plain

-- at 42 the reader has chosen: uq3, uq4, uq5
pub keeps42 : (a b : Bool) (q : WLoc) (d : Data) → RStep q r42 (bits d a b d.ww d.rr)
keeps42 true true q d i = let u4 = current i i.tq0 in let u5 = newest i in search plain
keeps42 true false q d i = let u3 = other i in search plain
keeps42 false true q d i = let u3 = other i in search plain
keeps42 false false q d i = let u4 = current i i.tq0 in let u5 = newest i in search plain

-- at 43 it has read: kq3, tq2
pub keeps43 : (a b : Bool) (q : WLoc) (d : Data) → RStep q r43 (bits d a b d.ww d.rr)
keeps43 true true q d i = let k3 = i.kq4 true d.cr in search plain
keeps43 true false q d i =
    let k3 = i.kq4 false d.cr in
    let t2 = under (qat q 21) (λ (h : (j : Bool) → d.tag false j < d.numberw). h d.cr) i.tq3 in
    search plain
keeps43 false true q d i =
    let k3 = i.kq4 true d.cr in
    let t2 = under (qat q 21) (λ (h : (j : Bool) → d.tag true j < d.numberw). h d.cr) i.tq3 in
    search plain
keeps43 false false q d i = let k3 = i.kq4 false d.cr in search plain

-- at 44 masq grows: tq1, uq0, uq1
pub keeps44 : (q : WLoc) (d : Data) → RStep q r44 d
keeps44 q d i =
    let e = rdata r44 d in
    let t1 : Tq1 q r40 e = under₂ (qat q 21) (under₂ (not (same d)) (λ h k. omega arith)) i.tq1 i.tq2 in
    let u0 : Uq0 q r40 e = under (qat q 26) (λ h. omega arith) i.uq0 in
    let u1 : Uq1 q r40 e = under (same d) (λ h. omega arith) i.uq1 in
    search plain
