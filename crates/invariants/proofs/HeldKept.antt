-- In the device, too, every buffer holds the value of its tag, and each move that is answered 0 keeps that, with the value that it gives added.
-- Assumes nothing.
use mathlib.Core.Path.{◌≡◌, sym, ◌∙◌}
use mathlib.Core.Bool.{Bool, not}
use mathlib.Core.List.{List, [], ◌∷◌, ◌++◌, append-nil}
use Prim.Native.Nat.{ℕ, suc, ◌-◌, ◌≤◌, ◌<◌}
use native.Mathlib.Omega.{arith}
use lib.ListN.{length, length-append, get_or-append}
use lib.Seq.{get_or-append_seam}
use Rattle.terms.specs.Value.{Value, no_value}
use Rattle.register.specs.Steps.{buf_at, tag_at}
use Rattle.register.specs.Run.{given, value_of}
use Rattle.invariants.specs.Held.{Held}
use Rattle.invariants.proofs.Device.{WLoc, w20, w21, w22, w23, w24, w25, w26, w27, RLoc, r40, r41, r42, r43, r44, Data, Act, start, writes, writer_flickers, reads, reader_flickers, wdata, rdata, wflick, rflick, data_after}
use Rattle.invariants.proofs.Inv.{Inv}
use Rattle.invariants.proofs.Tables.{put_case}
use Rattle.invariants.proofs.Link.{num, small, conc, move, Answered, get_table}
use Rattle.invariants.proofs.FromDevice.{at_bits}
use Rattle.invariants.proofs.HeldDevice.{Holds}

-- from the contract's state, and to it
pub to_holds : (q : WLoc) (r : RLoc) (d : Data) (vs : List Value) → Held (conc q r d) vs → Holds d vs
to_holds q r d vs h = record {
  count = h.count;
  kept = h.kept;
  value = h.value;
  bufs = λ i j. simp get_table at (h.bufs (num i) (num j) (small i) (small j));
  tag_from = λ i j. rw get_table at (h.tag_from (num i) (num j) (small i) (small j));
}

pub from_holds : (q : WLoc) (r : RLoc) (d : Data) (vs : List Value) → Inv q r d → Holds d vs → Held (conc q r d) vs
from_holds q r d vs i h = record {
  count = h.count;
  kept = h.kept;
  value = h.value;
  bufs = at_bits (λ a b. buf_at (conc q r d) a b ≡ value_of vs (tag_at (conc q r d) a b)) (λ a b. simp get_table (h.bufs a b));
  tag_from = at_bits (λ a b. 1 ≤ tag_at (conc q r d) a b) (λ a b. rw get_table (h.tag_from a b));
  tag_to = at_bits (λ a b. tag_at (conc q r d) a b ≤ length vs) (λ a b. rw get_table (omega (arith, i.kq4 a b)));
}

-- the value of an earlier number stays when a value is added; the added one has the next number
value_old : (vs : List Value) (v : Value) (n : ℕ) → n ≤ length vs → 0 < length vs → value_of (vs ++ (v ∷ [])) n ≡ value_of vs n
value_old vs v n a b = get_or-append vs (v ∷ []) no_value (n - 1) (omega arith)

value_lasts : (vs : List Value) (v x : Value) (n : ℕ) → n ≤ length vs → 0 < length vs → x ≡ value_of vs n → x ≡ value_of (vs ++ (v ∷ [])) n
value_lasts vs v x n a b h = h ∙ sym (value_old vs v n a b)

value_new : (vs : List Value) (v : Value) (n : ℕ) → n ≡ suc (length vs) → value_of (vs ++ (v ∷ [])) n ≡ v
value_new vs v n e = let k : n - 1 ≡ length vs = omega arith in rw k (get_or-append_seam vs v [] no_value)

holds_start : (v : Value) (r : RLoc) (d : Data) (vs : List Value) → Inv w20 r d → Holds d vs → Holds (wdata w20 v d) (vs ++ (v ∷ []))
holds_start v r d vs i h =
    let j = not (d.c d.aw) in
    let n = suc d.numberw in
    let new = value_new vs v n (omega arith) in
    let some : 0 < length vs = omega arith in
    record {
      count = rw length-append (omega arith);
      kept = sym new;
      value = value_lasts vs v d.value d.numberr (omega arith) some h.value;
      bufs = put_case (λ a b x t. x ≡ value_of (vs ++ (v ∷ [])) t) d.buf d.tag d.aw j v n (sym new)
          (λ a b. h.bufs a b ∙ sym (value_old vs v (d.tag a b) (omega (arith, i.kq4 a b)) some));
      tag_from = put_case (λ a b x t. 1 ≤ t) d.buf d.tag d.aw j v n (omega arith) h.tag_from;
    }

start_holds : (v : Value) (q : WLoc) (r : RLoc) (d : Data) (vs : List Value) → Answered (start v) q r d → Inv q r d → Holds d vs
    → Holds (wdata q v d) (vs ++ (v ∷ []))
start_holds v w20 r d vs f i h = holds_start v r d vs i h
start_holds v w21 r d vs f i h = absurd (omega arith)
start_holds v w22 r d vs f i h = absurd (omega arith)
start_holds v w23 r d vs f i h = absurd (omega arith)
start_holds v w24 r d vs f i h = absurd (omega arith)
start_holds v w25 r d vs f i h = absurd (omega arith)
start_holds v w26 r d vs f i h = absurd (omega arith)
start_holds v w27 r d vs f i h = absurd (omega arith)

writes_holds : (q : WLoc) (r : RLoc) (d : Data) (vs : List Value) → Answered writes q r d → Inv q r d → Holds d vs
    → Holds (wdata q no_value d) vs
writes_holds w20 r d vs f i h = absurd (omega arith)
writes_holds w21 r d vs f i h = search
writes_holds w22 r d vs f i h = search
writes_holds w23 r d vs f i h =
    let o = not d.aw in
    let j = not (d.c o) in
    let b = put_case (λ a b x t. x ≡ value_of vs t) d.buf d.tag o j d.kept d.numberw h.kept h.bufs in
    let t = put_case (λ a b x t. 1 ≤ t) d.buf d.tag o j d.kept d.numberw (omega arith) h.tag_from in
    search
writes_holds w24 r d vs f i h = search
writes_holds w25 r d vs f i h = search
writes_holds w26 r d vs f i h = search
writes_holds w27 r d vs f i h = search

writer_flickers_holds : (b : Bool) (q : WLoc) (d : Data) (vs : List Value) → Holds d vs → Holds (wflick q b d) vs
writer_flickers_holds b w20 d vs h = h
writer_flickers_holds b w21 d vs h = search
writer_flickers_holds b w22 d vs h = h
writer_flickers_holds b w23 d vs h = h
writer_flickers_holds b w24 d vs h = search
writer_flickers_holds b w25 d vs h = h
writer_flickers_holds b w26 d vs h = search
writer_flickers_holds b w27 d vs h = h

reads_holds : (r : RLoc) (d : Data) (vs : List Value) → Holds d vs → Holds (rdata r d) vs
reads_holds r40 d vs h = search
reads_holds r41 d vs h = search
reads_holds r42 d vs h = search
reads_holds r43 d vs h = search h.bufs
reads_holds r44 d vs h = search

reader_flickers_holds : (b : Bool) (r : RLoc) (d : Data) (vs : List Value) → Holds d vs → Holds (rflick r b d) vs
reader_flickers_holds b r40 d vs h = h
reader_flickers_holds b r41 d vs h = search
reader_flickers_holds b r42 d vs h = h
reader_flickers_holds b r43 d vs h = h
reader_flickers_holds b r44 d vs h = h

pub holds_after : (a : Act) (q : WLoc) (r : RLoc) (d : Data) (vs : List Value) → Answered a q r d → Inv q r d → Holds d vs
    → Holds (data_after a q r d) (vs ++ given (move a ∷ []))
holds_after (start v) q r d vs f i h = start_holds v q r d vs f i h
holds_after writes q r d vs f i h = rw append-nil (writes_holds q r d vs f i h)
holds_after (writer_flickers b) q r d vs f i h = rw append-nil (writer_flickers_holds b q d vs h)
holds_after reads q r d vs f i h = rw append-nil (reads_holds r d vs h)
holds_after (reader_flickers b) q r d vs f i h = rw append-nil (reader_flickers_holds b r d vs h)
