-- A state in range with tables of 4, 4 and 2 is that of a state of the device, and a move in range is a move of the device. Assumes nothing.
use mathlib.Core.Path.{◌≡◌, refl, ap}
use mathlib.Core.Bool.{Bool, true, false}
use mathlib.Core.List.{List, [], ◌∷◌}
use Prim.Native.Nat.{ℕ, zero, suc, ◌+◌, ◌-◌, ◌≤◌}
use native.Mathlib.Omega.{arith}
use lib.ListN.{length, get_or}
use Rattle.register.specs.declared.State.{State}
use Rattle.register.specs.declared.Move.{Move}
use Rattle.register.specs.declared.Move.TheVariants.{WriterStart, WriterStep, WriterFlicker, ReaderStep, ReaderFlicker}
use Rattle.register.specs.Move.{is_in_range, bit_carried}
use Rattle.register.proofs.Range.{bounds}
use Rattle.register.specs.Shaped.{Shaped}
use Rattle.invariants.proofs.Device.{WLoc, w20, w21, w22, w23, w24, w25, w26, w27, RLoc, r40, r41, r42, r43, r44, Data, Act, start, writes, writer_flickers, reads, reader_flickers}
use Rattle.invariants.proofs.Inv.{wnum, rnum}
use Rattle.invariants.proofs.Link.{num, pair, table, conc, move}

pub bit_of : (n : ℕ) → n ≤ 1 → (b : Bool) × (n ≡ num b)
bit_of zero h = (false, refl)
bit_of (suc zero) h = (true, refl)
bit_of (suc (suc n)) h = absurd (omega arith)

writer_location : (k : ℕ) → k ≤ 7 → (q : WLoc) × (20 + k ≡ wnum q)
writer_location zero h = (w20, refl)
writer_location (suc zero) h = (w21, refl)
writer_location (suc (suc zero)) h = (w22, refl)
writer_location (suc (suc (suc zero))) h = (w23, refl)
writer_location (suc (suc (suc (suc zero)))) h = (w24, refl)
writer_location (suc (suc (suc (suc (suc zero))))) h = (w25, refl)
writer_location (suc (suc (suc (suc (suc (suc zero)))))) h = (w26, refl)
writer_location (suc (suc (suc (suc (suc (suc (suc zero))))))) h = (w27, refl)
writer_location (suc (suc (suc (suc (suc (suc (suc (suc k)))))))) h = absurd (omega arith)

reader_location : (k : ℕ) → k ≤ 4 → (r : RLoc) × (40 + k ≡ rnum r)
reader_location zero h = (r40, refl)
reader_location (suc zero) h = (r41, refl)
reader_location (suc (suc zero)) h = (r42, refl)
reader_location (suc (suc (suc zero))) h = (r43, refl)
reader_location (suc (suc (suc (suc zero)))) h = (r44, refl)
reader_location (suc (suc (suc (suc (suc k))))) h = absurd (omega arith)

-- a function of one bit, and of two, by its values
one_of : {A : Type 0} → A → A → Bool → A
one_of a b false = a
one_of a b true = b

pair_of : (l : List ℕ) → length l ≡ 2 → get_or l 0 0 ≤ 1 → get_or l 1 0 ≤ 1 → (c : Bool → Bool) × (l ≡ pair c)
unfolding one_of
pair_of [] h a b = absurd (omega arith)
pair_of (x ∷ []) h a b = absurd (omega arith)
pair_of (x ∷ y ∷ []) h a b =
    let i = bit_of x a in
    let j = bit_of y b in
    (one_of i.0 j.0, λ k. i.1 k ∷ j.1 k ∷ [])
pair_of (x ∷ y ∷ z ∷ l) h a b = absurd (omega arith)

table_of : {A : Type 0} (l : List A) → length l ≡ 4 → (f : Bool → Bool → A) × (l ≡ table f)
unfolding one_of
table_of [] h = absurd (omega arith)
table_of (x ∷ []) h = absurd (omega arith)
table_of (x ∷ y ∷ []) h = absurd (omega arith)
table_of (x ∷ y ∷ z ∷ []) h = absurd (omega arith)
table_of (x ∷ y ∷ z ∷ w ∷ []) h = (one_of (one_of x y) (one_of z w), refl)
table_of (x ∷ y ∷ z ∷ w ∷ v ∷ l) h = absurd (omega arith)

pub record Decoded (s : State) : Type 0 where
  pub q : WLoc
  pub r : RLoc
  pub d : Data
  pub is : s ≡ conc q r d

pub decode : (s : State) → is_in_range s ≡ true → Shaped s → Decoded s
decode s e h =
    let b = bounds s e in
    let q = writer_location (s.q - 20) (omega arith) in
    let r = reader_location (s.r - 40) (omega arith) in
    let q-is : s.q ≡ wnum q.0 = omega (arith, q.1) in
    let r-is : s.r ≡ rnum r.0 = omega (arith, r.1) in
    let buf = table_of s.bufs h.four_bufs in
    let tag = table_of s.tags h.four_tags in
    let c = pair_of s.c h.two_bits b.c0 b.c1 in
    let ww = bit_of s.ww b.ww in
    let rr = bit_of s.rr b.rr in
    let aw = bit_of s.aw b.aw in
    let cw = bit_of s.cw b.cw in
    let br = bit_of s.br b.br in
    let cr = bit_of s.cr b.cr in
    record {
      q = q.0;
      r = r.0;
      d = record {
        ww = ww.0;
        rr = rr.0;
        aw = aw.0;
        cw = cw.0;
        startw = s.startw;
        numberw = s.numberw;
        kept = s.kept;
        br = br.0;
        cr = cr.0;
        value = s.value;
        startr = s.startr;
        numberr = s.numberr;
        masq = s.masq;
        buf = buf.0;
        tag = tag.0;
        c = c.0;
      };
      is = λ i. record {
        bufs = buf.1 i;
        tags = tag.1 i;
        ww = ww.1 i;
        rr = rr.1 i;
        c = c.1 i;
        q = q-is i;
        aw = aw.1 i;
        cw = cw.1 i;
        startw = s.startw;
        numberw = s.numberw;
        kept = s.kept;
        r = r-is i;
        br = br.1 i;
        cr = cr.1 i;
        value = s.value;
        startr = s.startr;
        numberr = s.numberr;
        masq = s.masq;
      };
    }

pub act_of : (m : Move) → bit_carried m ≤ 1 → (a : Act) × (m ≡ move a)
act_of (WriterStart v) h = (start v, refl)
act_of WriterStep h = (writes, refl)
act_of (WriterFlicker b) h = let x = bit_of b h in (writer_flickers x.0, ap WriterFlicker x.1)
act_of ReaderStep h = (reads, refl)
act_of (ReaderFlicker b) h = let x = bit_of b h in (reader_flickers x.0, ap ReaderFlicker x.1)
