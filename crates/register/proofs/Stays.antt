-- A move, refused or not, keeps a state in range and keeps the lengths of its lists; the initial state is in range, with the lengths.
-- Assumes nothing.
use mathlib.Core.Path.{◌≡◌, refl}
use mathlib.Core.List.{List, [], ◌∷◌}
use mathlib.Core.Bool.{true}
use Prim.Native.Nat.{ℕ, zero, suc, ◌≤◌, ◌+◌}
use native.Mathlib.Omega.{arith}
use borrow.Author.Rules.{rules}
use borrow.Author.Tests.{eqb-false}
use lib.Dec.{eqb}
use lib.ListN.{length-set, get_or, set}
use Rattle.terms.specs.Value.{Value}
use Rattle.terms.proofs.Tests.{if_case}
use Rattle.register.specs.declared.State.{State}
use Rattle.register.specs.declared.Move.{Move}
use Rattle.register.specs.declared.Move.TheVariants.{WriterStart, WriterStep, WriterFlicker, ReaderStep, ReaderFlicker}
use Rattle.register.specs.Initial.{initial}
use Rattle.register.specs.Shaped.{Lengths, Shaped}
use Rattle.register.specs.Steps.{tag_at}
use Rattle.register.specs.Move.{Moved, step_of, answer_to, is_in_range, bit_carried, start_rows, writer_rows, writer_flicker_rows, reader_rows, reader_flicker_rows}
use Rattle.register.proofs.Cases.{rows_case, answer_case, ◌⨾◌}
use Rattle.register.proofs.Range.{Bounds, bounds, in_range}
use Rattle.register.proofs.InBounds.{picked}

abbrev ShapedAfter : Moved → Type 0
ShapedAfter a = Shaped a.state

in_c : {b : List Value} {t c : List ℕ} (i v : ℕ) → Lengths b t c → Lengths b t (set c i v)
in_c i v h = record { four_bufs = h.four_bufs; four_tags = h.four_tags; two_bits = simp length-set h.two_bits }

in_buf : {b : List Value} {t c : List ℕ} (i : ℕ) (v : Value) (w : ℕ) → Lengths b t c → Lengths (set b i v) (set t i w) c
in_buf i v w h = record { four_bufs = simp length-set h.four_bufs; four_tags = simp length-set h.four_tags; two_bits = h.two_bits }

step_shaped : (m : Move) (s : State) → Shaped s → ShapedAfter (step_of m s)
step_shaped (WriterStart v) s h =
    rows_case ShapedAfter s.q (start_rows v s) s
    ((λ e. if_case ShapedAfter (eqb s.numberw 65535) (λ t. h) (λ t. in_buf _ _ _ h)) ⨾ tt)
    h
step_shaped WriterStep s h =
    rows_case ShapedAfter s.q (writer_rows s) s
    ((λ e. in_c _ _ h)
    ⨾ (λ e. if_case Shaped (eqb s.aw s.rr) (λ t. h) (λ t. h))
    ⨾ (λ e. in_buf _ _ _ h)
    ⨾ (λ e. in_c _ _ h)
    ⨾ (λ e. if_case Shaped (eqb s.aw s.rr) (λ t. h) (λ t. h))
    ⨾ (λ e. h)
    ⨾ (λ e. h)
    ⨾ tt)
    h
step_shaped (WriterFlicker b) s h =
    rows_case ShapedAfter s.q (writer_flicker_rows b s) s ((λ e. in_c _ _ h) ⨾ (λ e. in_c _ _ h) ⨾ (λ e. h) ⨾ tt) h
step_shaped ReaderStep s h =
    rows_case ShapedAfter s.r (reader_rows s) s
    ((λ e. if_case Shaped (eqb s.br s.ww) (λ t. h) (λ t. h)) ⨾ (λ e. h) ⨾ (λ e. h) ⨾ (λ e. h) ⨾ (λ e. h) ⨾ tt)
    h
step_shaped (ReaderFlicker b) s h = rows_case ShapedAfter s.r (reader_flicker_rows b s) s ((λ e. h) ⨾ tt) h

pub shaped_kept : (s : State) (m : Move) → Shaped s → Shaped (answer_to s m).state
shaped_kept s m h = answer_case ShapedAfter s m (λ n. h) (λ r b k. step_shaped m s h)

pub initial_shaped : (v0 : Value) → Shaped (initial v0)
initial_shaped v0 = record { four_bufs = refl; four_tags = refl; two_bits = refl }

pub initial_in_range : (v0 : Value) → is_in_range (initial v0) ≡ true
initial_in_range v0 = refl

-- An entry after a store of a number within its bound.
set_bound : (n : ℕ) (xs : List ℕ) (i v j : ℕ) → v ≤ n → get_or xs j 0 ≤ n → get_or (set xs i v) j 0 ≤ n
set_bound n [] i v j e h = h
set_bound n (x ∷ xs) zero v zero e h = e
set_bound n (x ∷ xs) zero v (suc j) e h = h
set_bound n (x ∷ xs) (suc i) v zero e h = h
set_bound n (x ∷ xs) (suc i) v (suc j) e h = set_bound n xs i v j e h

-- the tag that two bits pick
tag_picked : (s : State) (i j : ℕ) → i ≤ 1 → j ≤ 1 → Bounds s → tag_at s i j ≤ 65535
tag_picked s zero zero h k b = b.tag00
tag_picked s zero (suc zero) h k b = b.tag01
tag_picked s (suc zero) zero h k b = b.tag10
tag_picked s (suc zero) (suc zero) h k b = b.tag11
tag_picked s zero (suc (suc j)) h k b = absurd (omega arith)
tag_picked s (suc zero) (suc (suc j)) h k b = absurd (omega arith)
tag_picked s (suc (suc i)) j h k b = absurd (omega arith)

abbrev BoundsAfter : Moved → Type 0
BoundsAfter a = Bounds a.state

step_bounds : (m : Move) (s : State) → bit_carried m ≤ 1 → Bounds s → BoundsAfter (step_of m s)
step_bounds (WriterStart v) s b h =
    rows_case BoundsAfter s.q (start_rows v s) s
    ((λ e. if_case BoundsAfter (eqb s.numberw 65535) (λ t. h) (λ t.
    let n : s.numberw + 1 ≤ 65535 = omega (arith, eqb-false s.numberw 65535 t) in
    search (rules, set_bound))) ⨾ tt)
    h
step_bounds WriterStep s b h =
    rows_case BoundsAfter s.q (writer_rows s) s
    ((λ e. search (rules, set_bound))
    ⨾ (λ e. if_case Bounds (eqb s.aw s.rr) (λ t. search rules) (λ t. search rules))
    ⨾ (λ e. search (rules, set_bound))
    ⨾ (λ e. search (rules, set_bound))
    ⨾ (λ e. if_case Bounds (eqb s.aw s.rr) (λ t. search rules) (λ t. search rules))
    ⨾ (λ e. search rules)
    ⨾ (λ e. search rules)
    ⨾ tt)
    h
step_bounds (WriterFlicker b') s b h =
    rows_case BoundsAfter s.q (writer_flicker_rows b' s) s
    ((λ e. search (rules, set_bound)) ⨾ (λ e. search (rules, set_bound)) ⨾ (λ e. search rules) ⨾ tt)
    h
step_bounds ReaderStep s b h =
    rows_case BoundsAfter s.r (reader_rows s) s
    ((λ e. if_case Bounds (eqb s.br s.ww) (λ t. search rules) (λ t. search rules))
    ⨾ (λ e. search rules)
    ⨾ (λ e.
    let cr = picked s.c s.br h.br h.c0 h.c1 in
    search rules)
    ⨾ (λ e.
    let tag = tag_picked s s.br s.cr h.br h.cr h in
    search rules)
    ⨾ (λ e. search rules)
    ⨾ tt)
    h
step_bounds (ReaderFlicker b') s b h = rows_case BoundsAfter s.r (reader_flicker_rows b' s) s ((λ e. search rules) ⨾ tt) h

pub stays : (s : State) (m : Move) → is_in_range s ≡ true → is_in_range (answer_to s m).state ≡ true
stays s m h =
    in_range (answer_to s m).state
    (answer_case BoundsAfter s m (λ n. bounds s h) (λ r b k. step_bounds m s b (bounds s h)))
