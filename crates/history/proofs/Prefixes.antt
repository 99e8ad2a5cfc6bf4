-- What is known of a longer log, said of its first part, and back: values, choices. Assumes nothing.
use Prim.Native.Nat.{ℕ, zero, suc, ◌≤◌, ◌<◌}
use mathlib.Core.Path.{◌≡◌}
use mathlib.Core.List.{List, ◌++◌}
use mathlib.Core.Option.{some}
use native.Mathlib.Omega.{arith}
use native.Mathlib.Decide.{dec_lt}
use lib.ListN.{take, get_elem?, length}
use Rattle.history.specs.Events.{Event, write_began, read_ended}
use Rattle.history.specs.Operations.{read, count, WellFormed, begins_write, ends_write, begins_read, ends_read, BeginsAt, EndsAt, Ended, Wrote, Returned}
use Rattle.history.proofs.Counting.{count_mono, count_all, nth_unique}
use Rattle.history.proofs.Appending.{at_append, at_bound, count_append, count_seam, nth_bound, nth_grow}
use Rattle.history.proofs.EventKinds.{returned_nth}
use Rattle.history.proofs.Turns.{well_formed_prefix, read_begun}
use Rattle.history.proofs.Choice.{Holds, Choice}

module _ {Val : Type 0} (x y : List (Event Val)) where
  pub ended_grow : (i : ℕ) → Ended x (read i) → Ended (x ++ y) (read i)
  ended_grow i (q, n) = (q, nth_grow ends_read x y i q n)

  pub returned_grow : (i : ℕ) (v : Val) → Returned x i v → Returned (x ++ y) i v
  returned_grow i v (p, t, n) = let h : p < length x = at_bound x p (read_ended v) t in let l : p ≤ length x = omega arith in
      (p, rw at_append t, rw count_append n)

  pub holds_grow : (v₀ : Val) (k : ℕ) (v : Val) → Holds v₀ x k v → Holds v₀ (x ++ y) k v
  holds_grow v₀ zero v e = e
  holds_grow v₀ (suc j) v (p, t, n) = let h : p < length x = at_bound x p (write_began v) t in let l : p ≤ length x = omega arith in
      (p, rw at_append t, rw count_append n)

  pub holds_cut : (v₀ : Val) (k : ℕ) (v : Val) → k ≤ count begins_write x → Holds v₀ (x ++ y) k v → Holds v₀ x k v
  holds_cut v₀ zero v h e = e
  holds_cut v₀ (suc j) v h (p, t, n) = go (dec_lt p (length x))
    where
      go : Dec (p < length x) → Wrote x j v
      go (yes u) = let l : p ≤ length x = omega arith in (p, rw at_append at t, rw count_append at n)
      go (no u) = absurd (omega (arith, count_mono begins_write (x ++ y) (length x) p (omega arith), count_seam begins_write x y, n))

  pub choice_prefix : (v₀ : Val) (k : ℕ → ℕ) → Choice v₀ (x ++ y) k → Choice v₀ x k
  choice_prefix v₀ k C = record {
    low = λ i p r b. let l : p ≤ length x = omega (arith, nth_bound begins_read x y i p b) in
        rw count_append at (C.low i p (ended_grow i r) (nth_grow begins_read x y i p b));
    high = high;
    value = λ i v s. holds_cut v₀ (k i) v (omega (arith, high i s.0 (returned_nth x i v s), count_all begins_write x s.0)) (C.value i v (returned_grow i v s));
    mono = λ i l h r. C.mono i l h (ended_grow l r);
  }
    where
      high : (i q : ℕ) → EndsAt x (read i) q → k i ≤ count begins_write (take q x)
      high i q n = let l : q ≤ length x = omega (arith, nth_bound ends_read x y i q n) in
          rw count_append at (C.high i q (nth_grow ends_read x y i q n))

  -- What a choice says of the reads of x, said of the longer log.
  module _ (v₀ : Val) (k : ℕ → ℕ) (wf : WellFormed (x ++ y)) (C : Choice v₀ x k) where
    pub old_low : (i p : ℕ) → Ended x (read i) → BeginsAt (x ++ y) (read i) p → count ends_write (take p (x ++ y)) ≤ k i
    old_low i p (q, n) b =
        let (p', b') = read_begun x (well_formed_prefix x y wf) i q n in
        let e : p ≡ p' = nth_unique begins_read (x ++ y) i p p' b (nth_grow begins_read x y i p' b') in
        let l : p' ≤ length x = omega (arith, nth_bound begins_read x y i p' b') in
        rw (e, count_append ends_write x y p' l) (C.low i p' (q, n) b')

    pub old_high : (i q : ℕ) → EndsAt x (read i) q → k i ≤ count begins_write (take q (x ++ y))
    old_high i q n = let l : q ≤ length x = omega (arith, nth_bound ends_read x y i q n) in
        rw (count_append begins_write x y q l) (C.high i q n)

    pub old_value : (i q : ℕ) (v : Val) → get_elem? (x ++ y) q ≡ some (read_ended v) → EndsAt x (read i) q → Holds v₀ (x ++ y) (k i) v
    old_value i q v t n = let h : q < length x = nth_bound ends_read x y i q n in
        holds_grow v₀ (k i) v (C.value i v (q, rw at_append at t, n.number))
