-- The contract's state that a state of the device stands for, and that a move of the device is the contract's own step. Assumes nothing.
use mathlib.Core.Path.{◌≡◌, refl}
use mathlib.Core.Bool.{Bool, true, false, not, beq}
use mathlib.Core.List.{List, [], ◌∷◌}
use Prim.Native.Nat.{ℕ, ◌≤◌}
use native.Mathlib.Numerals.{add-one}
use native.Mathlib.Omega.{arith}
use lib.Dec.{eqb}
use lib.ListN.{get_or, set}
use Rattle.terms.specs.Value.{Value}
use Rattle.register.specs.declared.State.{State}
use Rattle.register.specs.declared.Move.{Move}
use Rattle.register.specs.declared.Move.TheVariants.{WriterStart, WriterStep, WriterFlicker, ReaderStep, ReaderFlicker}
use Rattle.register.specs.Steps.{opposite, slot}
use Rattle.register.specs.Move.{good, step_of}
use Rattle.invariants.proofs.Device.{WLoc, w20, w21, w22, w23, w24, w25, w26, w27, RLoc, r40, r41, r42, r43, r44, Data, put, put₂, bits, Act, start, writes, writer_flickers, reads, reader_flickers, q_after, r_after, data_after}
use Rattle.invariants.proofs.Inv.{wnum, rnum}

-- a bit's number
abbrev pub num : Bool → ℕ
num false = 0
num true = 1

pub small : (b : Bool) → num b ≤ 1
small true = omega arith
small false = omega arith

-- c[0] and c[1]; a table of four
abbrev pub pair : (Bool → Bool) → List ℕ
pair c = num (c false) ∷ num (c true) ∷ []

abbrev pub table : {A : Type 0} → (Bool → Bool → A) → List A
table f = f false false ∷ f false true ∷ f true false ∷ f true true ∷ []

abbrev pub conc : WLoc → RLoc → Data → State
conc q r d = record {
  bufs = table d.buf;
  tags = table d.tag;
  ww = num d.ww;
  rr = num d.rr;
  c = pair d.c;
  q = wnum q;
  aw = num d.aw;
  cw = num d.cw;
  startw = d.startw;
  numberw = d.numberw;
  kept = d.kept;
  r = rnum r;
  br = num d.br;
  cr = num d.cr;
  value = d.value;
  startr = d.startr;
  numberr = d.numberr;
  masq = d.masq;
}

pub flip : (b : Bool) → opposite (num b) ≡ num (not b)
flip true = refl
flip false = refl

pub eqb_num : (a b : Bool) → eqb (num a) (num b) ≡ beq a b
eqb_num true true = refl
eqb_num true false = refl
eqb_num false true = refl
eqb_num false false = refl

pub get_pair : (c : Bool → Bool) (i : Bool) → get_or (pair c) (num i) 0 ≡ num (c i)
get_pair c true = refl
get_pair c false = refl

pub set_pair : (c : Bool → Bool) (i b : Bool) → set (pair c) (num i) (num b) ≡ pair (put c i b)
set_pair c true b = refl
set_pair c false b = refl

pub get_table : {A : Type 0} (f : Bool → Bool → A) (i j : Bool) (none : A) → get_or (table f) (slot (num i) (num j)) none ≡ f i j
get_table f true true z = refl
get_table f true false z = refl
get_table f false true z = refl
get_table f false false z = refl

pub set_table : {A : Type 0} (f : Bool → Bool → A) (i j : Bool) (v : A) → set (table f) (slot (num i) (num j)) v ≡ table (put₂ f i j v)
set_table f true true v = refl
set_table f true false v = refl
set_table f false true v = refl
set_table f false false v = refl

pub ruleset link = (add-one, flip, eqb_num, get_pair, set_pair, get_table, set_table)

-- The moves of the device are moves.
abbrev pub move : Act → Move
move (start v) = WriterStart v
move writes = WriterStep
move (writer_flickers b) = WriterFlicker (num b)
move reads = ReaderStep
move (reader_flickers b) = ReaderFlicker (num b)

abbrev pub after : Act → WLoc → RLoc → Data → State
after a q r d = conc (q_after a q d) (r_after a r d) (data_after a q r d)

-- The contract's step is answered 0.
abbrev pub Answered : Act → WLoc → RLoc → Data → Type 0
Answered a q r d = (step_of (move a) (conc q r d)).number ≡ 0

abbrev Linked : Act → WLoc → RLoc → Data → Type 0
Linked a q r d = Answered a q r d → step_of (move a) (conc q r d) ≡ good (after a q r d)

start_at_20 : (v : Value) (r : RLoc) (d : Data) (b : Bool) → eqb d.numberw 65535 ≡ b → Linked (start v) w20 r d
start_at_20 v r d true e h = absurd (omega (arith, rw e at h))
start_at_20 v r d false e h = simp (link, e)

link_start : (v : Value) (q : WLoc) (r : RLoc) (d : Data) → Linked (start v) q r d
link_start v w20 r d h = start_at_20 v r d (eqb d.numberw 65535) refl h
link_start v w21 r d h = absurd (omega arith)
link_start v w22 r d h = absurd (omega arith)
link_start v w23 r d h = absurd (omega arith)
link_start v w24 r d h = absurd (omega arith)
link_start v w25 r d h = absurd (omega arith)
link_start v w26 r d h = absurd (omega arith)
link_start v w27 r d h = absurd (omega arith)

link_writes : (a s : Bool) (q : WLoc) (r : RLoc) (d : Data) → Linked writes q r (bits d a d.br d.ww s)
link_writes a s w20 r d h = absurd (omega arith)
link_writes a s w21 r d h = simp link
link_writes true true w22 r d h = refl
link_writes true false w22 r d h = refl
link_writes false true w22 r d h = refl
link_writes false false w22 r d h = refl
link_writes a s w23 r d h = simp link
link_writes a s w24 r d h = simp link
link_writes true true w25 r d h = refl
link_writes true false w25 r d h = refl
link_writes false true w25 r d h = refl
link_writes false false w25 r d h = refl
link_writes a s w26 r d h = refl
link_writes a s w27 r d h = refl

link_writer_flickers : (b : Bool) (q : WLoc) (r : RLoc) (d : Data) → Linked (writer_flickers b) q r d
link_writer_flickers b w20 r d h = absurd (omega arith)
link_writer_flickers b w21 r d h = simp link
link_writer_flickers b w22 r d h = absurd (omega arith)
link_writer_flickers b w23 r d h = absurd (omega arith)
link_writer_flickers b w24 r d h = simp link
link_writer_flickers b w25 r d h = absurd (omega arith)
link_writer_flickers b w26 r d h = refl
link_writer_flickers b w27 r d h = absurd (omega arith)

link_reads : (b w : Bool) (q : WLoc) (r : RLoc) (d : Data) → Linked reads q r (bits d d.aw b w d.rr)
link_reads true true q r40 d h = refl
link_reads true false q r40 d h = refl
link_reads false true q r40 d h = refl
link_reads false false q r40 d h = refl
link_reads b w q r41 d h = refl
link_reads b w q r42 d h = simp link
link_reads b w q r43 d h = simp link
link_reads b w q r44 d h = refl

link_reader_flickers : (b : Bool) (q : WLoc) (r : RLoc) (d : Data) → Linked (reader_flickers b) q r d
link_reader_flickers b q r40 d h = absurd (omega arith)
link_reader_flickers b q r41 d h = refl
link_reader_flickers b q r42 d h = absurd (omega arith)
link_reader_flickers b q r43 d h = absurd (omega arith)
link_reader_flickers b q r44 d h = absurd (omega arith)

-- Where the contract's step is answered 0, it is the device's.
pub linked : (a : Act) (q : WLoc) (r : RLoc) (d : Data) → Linked a q r d
linked (start v) q r d = link_start v q r d
linked writes q r d = link_writes d.aw d.rr q r d
linked (writer_flickers b) q r d = link_writer_flickers b q r d
linked reads q r d = link_reads d.br d.ww q r d
linked (reader_flickers b) q r d = link_reader_flickers b q r d
