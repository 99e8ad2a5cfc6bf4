-- The initial state, entry by entry and field by field, as document 01's paragraph "Initial: .." and its "This paper adds: .." word it.
-- Assumes nothing.
use mathlib.Core.Path.{◌≡◌, refl}
use lib.ListN.{length}
use Rattle.terms.specs.Value.{Value}
use Rattle.register.specs.declared.State.{State}
use Rattle.register.specs.Initial.{initial}
use Rattle.register.specs.Steps.{buf_at, tag_at, c_at}

pub record Pinned (v0 : Value) (s : State) : Type 0 where
  -- "buf[0,0] = v0"
  pub buf_00 : buf_at s 0 0 ≡ v0
  -- "ww = 0, rr = 1, c[0] = c[1] = 0"
  pub ww : s.ww ≡ 0
  pub rr : s.rr ≡ 1
  pub c_0 : c_at s 0 ≡ 0
  pub c_1 : c_at s 1 ≡ 0
  -- "aw = 0, br = 1"
  pub aw : s.aw ≡ 0
  pub br : s.br ≡ 1
  -- "all tags 1"
  pub tag_00 : tag_at s 0 0 ≡ 1
  pub tag_01 : tag_at s 0 1 ≡ 1
  pub tag_10 : tag_at s 1 0 ≡ 1
  pub tag_11 : tag_at s 1 1 ≡ 1
  -- "masq = 1"
  pub masq : s.masq ≡ 1
  -- "writer's number 1, writer's start 0, reader's number 0"
  pub writer's_number : s.numberw ≡ 1
  pub writer's_start : s.startw ≡ 0
  pub reader's_number : s.numberr ≡ 0
  -- "q = 20, r = 40"
  pub q : s.q ≡ 20
  pub r : s.r ≡ 40
  -- "the other buffers hold v0"
  pub buf_01 : buf_at s 0 1 ≡ v0
  pub buf_10 : buf_at s 1 0 ≡ v0
  pub buf_11 : buf_at s 1 1 ≡ v0
  -- "cw = cr = 0"
  pub cw : s.cw ≡ 0
  pub cr : s.cr ≡ 0
  -- "the writer's kept value and the reader's value are v0"
  pub kept : s.kept ≡ v0
  pub value : s.value ≡ v0
  -- "reader's start 0"
  pub reader's_start : s.startr ≡ 0
  -- there are four buffers, four tags and two bits c, no more
  pub four_buffers : length s.bufs ≡ 4
  pub four_tags : length s.tags ≡ 4
  pub two_bits : length s.c ≡ 2

pub initial_pinned : (v0 : Value) → Pinned v0 (initial v0)
initial_pinned v0 = record {
  buf_00 = refl;
  ww = refl;
  rr = refl;
  c_0 = refl;
  c_1 = refl;
  aw = refl;
  br = refl;
  tag_00 = refl;
  tag_01 = refl;
  tag_10 = refl;
  tag_11 = refl;
  masq = refl;
  writer's_number = refl;
  writer's_start = refl;
  reader's_number = refl;
  q = refl;
  r = refl;
  buf_01 = refl;
  buf_10 = refl;
  buf_11 = refl;
  cw = refl;
  cr = refl;
  kept = refl;
  value = refl;
  reader's_start = refl;
  four_buffers = refl;
  four_tags = refl;
  two_bits = refl;
}
