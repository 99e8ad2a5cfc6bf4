-- What a state in range is: each bound of refusal 9's list, read back from the test, and the test from the bounds.
-- Assumes nothing.
use mathlib.Core.Path.{◌≡◌}
use mathlib.Core.Bool.{true, ◌&&◌}
use Prim.Native.Nat.{ℕ, zero, suc, ◌≤◌, zero-le}
use mathlib.Core.List.{List, [], ◌∷◌}
use lib.ListN.{get_or}
use lib.Dec.{leb}
use borrow.Author.Tests.{leb-true, le-leb}
use Rattle.register.specs.declared.State.{State}
use Rattle.register.specs.Steps.{c_at, tag_at}
use Rattle.register.specs.Move.{is_in_range, all_at_most, bits_of, numbers_of, between}
use Rattle.terms.proofs.Tests.{both}

pub each : (n : ℕ) (xs : List ℕ) → all_at_most n xs ≡ true → (i : ℕ) → get_or xs i 0 ≤ n
each n [] e i = zero-le
each n (x ∷ xs) e zero = leb-true x n (both (leb x n) (all_at_most n xs) e).0
each n (x ∷ xs) e (suc i) = each n xs (both (leb x n) (all_at_most n xs) e).1 i

-- The bounds.
pub record Bounds (s : State) : Type 0 where
  pub q_from : 20 ≤ s.q
  pub q_to : s.q ≤ 27
  pub r_from : 40 ≤ s.r
  pub r_to : s.r ≤ 44
  pub ww : s.ww ≤ 1
  pub rr : s.rr ≤ 1
  pub c0 : c_at s 0 ≤ 1
  pub c1 : c_at s 1 ≤ 1
  pub aw : s.aw ≤ 1
  pub cw : s.cw ≤ 1
  pub br : s.br ≤ 1
  pub cr : s.cr ≤ 1
  pub tag00 : tag_at s 0 0 ≤ 65535
  pub tag01 : tag_at s 0 1 ≤ 65535
  pub tag10 : tag_at s 1 0 ≤ 65535
  pub tag11 : tag_at s 1 1 ≤ 65535
  pub startw : s.startw ≤ 65535
  pub startr : s.startr ≤ 65535
  pub numberw : s.numberw ≤ 65535
  pub numberr : s.numberr ≤ 65535
  pub masq : s.masq ≤ 65535

pub bounds : (s : State) → is_in_range s ≡ true → Bounds s
bounds s e =
    let t = both (between 20 27 s.q && between 40 44 s.r && all_at_most 1 (bits_of s)) (all_at_most 65535 (numbers_of s)) e in
    let u = both (between 20 27 s.q && between 40 44 s.r) (all_at_most 1 (bits_of s)) t.0 in
    let w = both (between 20 27 s.q) (between 40 44 s.r) u.0 in
    let q = both (leb 20 s.q) (leb s.q 27) w.0 in
    let r = both (leb 40 s.r) (leb s.r 44) w.1 in
    let bit = each 1 (bits_of s) u.1 in
    let number = each 65535 (numbers_of s) t.1 in
    record {
      q_from = leb-true 20 s.q q.0;
      q_to = leb-true s.q 27 q.1;
      r_from = leb-true 40 s.r r.0;
      r_to = leb-true s.r 44 r.1;
      ww = bit 0;
      rr = bit 1;
      c0 = bit 2;
      c1 = bit 3;
      aw = bit 4;
      cw = bit 5;
      br = bit 6;
      cr = bit 7;
      tag00 = number 0;
      tag01 = number 1;
      tag10 = number 2;
      tag11 = number 3;
      startw = number 4;
      startr = number 5;
      numberw = number 6;
      numberr = number 7;
      masq = number 8;
    }

pub in_range : (s : State) → Bounds s → is_in_range s ≡ true
in_range s b =
    rw (
      le-leb 20 s.q b.q_from,
      le-leb s.q 27 b.q_to,
      le-leb 40 s.r b.r_from,
      le-leb s.r 44 b.r_to,
      le-leb s.ww 1 b.ww,
      le-leb s.rr 1 b.rr,
      le-leb (c_at s 0) 1 b.c0,
      le-leb (c_at s 1) 1 b.c1,
      le-leb s.aw 1 b.aw,
      le-leb s.cw 1 b.cw,
      le-leb s.br 1 b.br,
      le-leb s.cr 1 b.cr,
      le-leb (tag_at s 0 0) 65535 b.tag00,
      le-leb (tag_at s 0 1) 65535 b.tag01,
      le-leb (tag_at s 1 0) 65535 b.tag10,
      le-leb (tag_at s 1 1) 65535 b.tag11,
      le-leb s.startw 65535 b.startw,
      le-leb s.startr 65535 b.startr,
      le-leb s.numberw 65535 b.numberw,
      le-leb s.numberr 65535 b.numberr,
      le-leb s.masq 65535 b.masq,
    )
