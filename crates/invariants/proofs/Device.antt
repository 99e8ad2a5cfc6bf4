-- A device: the register's machine with locations as a data type, bits as `Bool` and tables as functions of two bits, so that tests and stores
-- compute. Link.antt proves that each of its steps is the contract's. Assumes nothing.
use mathlib.Core.Bool.{Bool, not, cond, beq}
use Prim.Native.Nat.{ℕ, suc, max}
use Rattle.terms.specs.Value.{Value, no_value}

pub data WLoc : Type 0 where
  w20 w21 w22 w23 w24 w25 w26 w27 : WLoc

pub data RLoc : Type 0 where
  r40 r41 r42 r43 r44 : RLoc

-- all but the two locations
pub record Data : Type 0 where
  pub ww : Bool
  pub rr : Bool
  pub aw : Bool
  pub cw : Bool
  pub startw : ℕ
  pub numberw : ℕ
  pub kept : Value
  pub br : Bool
  pub cr : Bool
  pub value : Value
  pub startr : ℕ
  pub numberr : ℕ
  pub masq : ℕ
  pub buf : Bool → Bool → Value
  pub tag : Bool → Bool → ℕ
  pub c : Bool → Bool

-- a function of one bit, and one of two bits, with one entry set
abbrev pub put : {A : Type 0} → (Bool → A) → Bool → A → Bool → A
put f i v j = cond (beq i j) v (f j)

abbrev pub put₂ : {A : Type 0} → (Bool → Bool → A) → Bool → Bool → A → Bool → Bool → A
put₂ f i j v = put f i (put (f i) j v)

-- 20 and 23: the number and the value go to the buffer [i, not c[i]]
abbrev pub store : Data → Bool → ℕ → ℕ → Value → Data
store d i start number v = record {
  ww = d.ww;
  rr = d.rr;
  aw = d.aw;
  cw = not (d.c i);
  startw = start;
  numberw = number;
  kept = v;
  br = d.br;
  cr = d.cr;
  value = d.value;
  startr = d.startr;
  numberr = d.numberr;
  masq = d.masq;
  buf = put₂ d.buf i (not (d.c i)) v;
  tag = put₂ d.tag i (not (d.c i)) number;
  c = d.c;
}

-- 21 and 24: c[i] becomes b
abbrev pub putc : Data → Bool → Bool → Data
putc d i b = record {
  ww = d.ww;
  rr = d.rr;
  aw = d.aw;
  cw = d.cw;
  startw = d.startw;
  numberw = d.numberw;
  kept = d.kept;
  br = d.br;
  cr = d.cr;
  value = d.value;
  startr = d.startr;
  numberr = d.numberr;
  masq = d.masq;
  buf = d.buf;
  tag = d.tag;
  c = put d.c i b;
}

-- other values of aw, br, ww, rr: for steps, and so that a proof can split on these bits (d is `bits d d.aw d.br d.ww d.rr`, by η)
abbrev pub bits : Data → Bool → Bool → Bool → Bool → Data
bits d a b w s = record {
  ww = w;
  rr = s;
  aw = a;
  cw = d.cw;
  startw = d.startw;
  numberw = d.numberw;
  kept = d.kept;
  br = b;
  cr = d.cr;
  value = d.value;
  startr = d.startr;
  numberr = d.numberr;
  masq = d.masq;
  buf = d.buf;
  tag = d.tag;
  c = d.c;
}

-- 27 and 44: masq is at least n
abbrev pub ended : Data → ℕ → Data
ended d n = record {
  ww = d.ww;
  rr = d.rr;
  aw = d.aw;
  cw = d.cw;
  startw = d.startw;
  numberw = d.numberw;
  kept = d.kept;
  br = d.br;
  cr = d.cr;
  value = d.value;
  startr = d.startr;
  numberr = d.numberr;
  masq = max d.masq n;
  buf = d.buf;
  tag = d.tag;
  c = d.c;
}

-- 40, 42 and 43: the reader's own
abbrev pub reader : Data → Bool → Bool → Value → ℕ → ℕ → Data
reader d b c v start number = record {
  ww = d.ww;
  rr = d.rr;
  aw = d.aw;
  cw = d.cw;
  startw = d.startw;
  numberw = d.numberw;
  kept = d.kept;
  br = b;
  cr = c;
  value = v;
  startr = start;
  numberr = number;
  masq = d.masq;
  buf = d.buf;
  tag = d.tag;
  c = d.c;
}

-- THE STEPS. The writer's at q: the location after it and the data after it; v is the value of a start, at 20.
abbrev pub wnext : WLoc → Data → WLoc
wnext w20 d = w21
wnext w21 d = w22
wnext w22 d = cond (beq d.aw d.rr) w23 w27
wnext w23 d = w24
wnext w24 d = w25
wnext w25 d = cond (beq d.aw d.rr) w26 w27
wnext w26 d = w27
wnext w27 d = w20

abbrev pub wdata : WLoc → Value → Data → Data
wdata w20 v d = store d d.aw d.masq (suc d.numberw) v
wdata w21 v d = putc d d.aw d.cw
wdata w22 v d = d
wdata w23 v d = store d (not d.aw) d.startw d.numberw d.kept
wdata w24 v d = putc d (not d.aw) d.cw
wdata w25 v d = bits d (cond (beq d.aw d.rr) (not d.aw) d.aw) d.br d.ww d.rr
wdata w26 v d = bits d d.aw d.br d.aw d.rr
wdata w27 v d = ended d d.numberw

abbrev pub rnext : RLoc → Data → RLoc
rnext r40 d = cond (beq d.br d.ww) r44 r41
rnext r41 d = r42
rnext r42 d = r43
rnext r43 d = r44
rnext r44 d = r40

abbrev pub rdata : RLoc → Data → Data
rdata r40 d = reader d (cond (beq d.br d.ww) d.br (not d.br)) d.cr d.value d.masq d.numberr
rdata r41 d = bits d d.aw d.br d.ww d.br
rdata r42 d = reader d d.br (d.c d.br) d.value d.startr d.numberr
rdata r43 d = reader d d.br d.cr (d.buf d.br d.cr) d.startr (d.tag d.br d.cr)
rdata r44 d = ended d d.numberr

-- the flickers: at 21, 24 and 26, and at 41, the bit being assigned becomes b
abbrev pub wflick : WLoc → Bool → Data → Data
wflick w20 b d = d
wflick w21 b d = putc d d.aw b
wflick w22 b d = d
wflick w23 b d = d
wflick w24 b d = putc d (not d.aw) b
wflick w25 b d = d
wflick w26 b d = bits d d.aw d.br b d.rr
wflick w27 b d = d

abbrev pub rflick : RLoc → Bool → Data → Data
rflick r40 b d = d
rflick r41 b d = bits d d.aw d.br d.ww b
rflick r42 b d = d
rflick r43 b d = d
rflick r44 b d = d

-- THE MOVES.
pub data Act : Type 0 where
  start : Value → Act
  writes : Act
  writer_flickers : Bool → Act
  reads : Act
  reader_flickers : Bool → Act

abbrev pub q_after : Act → WLoc → Data → WLoc
q_after (start v) q d = wnext q d
q_after writes q d = wnext q d
q_after (writer_flickers b) q d = q
q_after reads q d = q
q_after (reader_flickers b) q d = q

abbrev pub r_after : Act → RLoc → Data → RLoc
r_after (start v) r d = r
r_after writes r d = r
r_after (writer_flickers b) r d = r
r_after reads r d = rnext r d
r_after (reader_flickers b) r d = r

abbrev pub data_after : Act → WLoc → RLoc → Data → Data
data_after (start v) q r d = wdata q v d
data_after writes q r d = wdata q no_value d
data_after (writer_flickers b) q r d = wflick q b d
data_after reads q r d = rdata r d
data_after (reader_flickers b) q r d = rflick r b d
