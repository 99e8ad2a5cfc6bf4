-- From a legal order to a choice: each read is given the number of the last write before it. Assumes nothing.
use Prim.Native.Nat.{ℕ, zero, suc, ◌≤◌, ◌<◌}
use mathlib.Core.Path.{◌≡◌, refl, ◌∙◌}
use mathlib.Core.List.{List}
use mathlib.Core.Bool.{Bool}
use mathlib.Core.Logic.{◌⊎◌, inl, inr}
use native.Mathlib.Omega.{arith}
use native.Mathlib.Decide.{dec_le, dec_lt}
use lib.ListN.{take}
use Rattle.history.specs.Events.{Event}
use Rattle.history.specs.Operations.{Op, write, read, count, WellFormed, begins_write, ends_write, ends_read, BeginsAt, EndsAt, Begun, Ended, Precedes, Wrote, Returned}
use Rattle.history.specs.Serialization.{Taken, LastWrite, NoWrite, Legal}
use Rattle.history.proofs.Counting.{nth_of_count, nth_below, nth_lt, nth_from, count_same}
use Rattle.history.proofs.EventKinds.{end_begin_apart, returned, returned_nth, returned_unique}
use Rattle.history.proofs.Turns.{write_ended_before, read_ended_before, write_begun, read_begun}
use Rattle.history.proofs.Choice.{Holds, Choice, After}

module _ {Val : Type 0} (v₀ : Val) (es : List (Event Val)) (wf : WellFormed es) (with_open : Bool) (◌≺◌ : Op → Op → Type 0) (L : Legal v₀ es (Taken es with_open) ◌≺◌) where
  abbrev taken : Op → Type 0
  taken = Taken es with_open

  all_ended : (a : Op) → Ended es a → taken a
  all_ended (write j) e = inl e
  all_ended (read i) e = e

  -- The read i has k writes before it.
  abbrev Last : ℕ → ℕ → Type 0
  Last = After taken ◌≺◌

  never : (a b : Op) → taken a → taken b → ◌≺◌ a b → ◌≺◌ b a → ⊥
  never a b ta tb h k = L.irreflexive a ta (L.transitive a b a ta tb ta h k)

  taken_begun : (j : ℕ) → taken (write j) → Begun es (write j)
  taken_begun j (inl (p, n)) = write_begun es wf j p n
  taken_begun j (inr o) = o.1.0

  write_order : (j l : ℕ) → taken (write j) → taken (write l) → ◌≺◌ (write j) (write l) → j < l
  write_order j l tj tl h = go (dec_lt j l) (dec_lt l j)
    where
      go : Dec (j < l) → Dec (l < j) → j < l
      go (yes u) d = u
      go (no u) (yes w) =
          let (q, n) = taken_begun j tj in
          let (p, m, s) = write_ended_before es wf l j q w n in
          absurd (never (write j) (write l) tj tl h (L.keeps (write l) (write j) tl tj (record { end = p; beginning = q; ends = m; begins = n; before = s })))
      go (no u) (no w) = let e : j ≡ l = omega arith in absurd (L.irreflexive (write l) tl (rw e at h))

  module _ (i : ℕ) (ri : Ended es (read i)) where
    beyond : (k : ℕ) → Last i k → taken (write k) → ◌≺◌ (write k) (read i) → ⊥
    beyond zero h t w = h zero t w
    beyond (suc j) h t w = go (h.is_last (suc j) t w)
      where
        go : (suc j ≡ j) ⊎ (◌≺◌ (write (suc j)) (write j)) → ⊥
        go (inl e) = omega arith
        go (inr u) = omega (arith, write_order (suc j) j t h.is_taken u)

    last_low : (k p : ℕ) → Last i k → BeginsAt es (read i) p → count ends_write (take p es) ≤ k
    last_low k p h b = go (dec_le (count ends_write (take p es)) k)
      where
        go : Dec (count ends_write (take p es) ≤ k) → count ends_write (take p es) ≤ k
        go (yes u) = u
        go (no u) =
            let (q, m, s) = nth_of_count ends_write es p k (omega arith) in
            let t : taken (write k) = all_ended (write k) (q, m) in
            absurd (beyond k h t (L.keeps (write k) (read i) t (all_ended (read i) ri) (record { end = q; beginning = p; ends = m; begins = b; before = s })))

    last_high : (k q : ℕ) → Last i k → EndsAt es (read i) q → k ≤ count begins_write (take q es)
    last_high zero q h n = omega arith
    last_high (suc j) q h n = go (dec_le (suc j) (count begins_write (take q es)))
      where
        go : Dec (suc j ≤ count begins_write (take q es)) → suc j ≤ count begins_write (take q es)
        go (yes u) = u
        go (no u) =
            let (p, m) = taken_begun j h.is_taken in
            let s : q < p = nth_from begins_write es j p (suc q) m (omega (arith, count_same begins_write es q n.event n.there (end_begin_apart n.event n.of_kind))) in
            let tr : taken (read i) = all_ended (read i) ri in
            absurd (never (write j) (read i) h.is_taken tr h.is_before
            (L.keeps (read i) (write j) tr h.is_taken (record { end = q; beginning = p; ends = n; begins = m; before = s })))

  earlier : (i l : ℕ) → i < l → Ended es (read l) → Ended es (read i) × Precedes es (read i) (read l)
  earlier i l h (r, n) =
      let (q, b) = read_begun es wf l r n in
      let (p, e, s) = read_ended_before es wf i l q h b in
      ((p, e), record { end = p; beginning = q; ends = e; begins = b; before = s })

  last_mono : (i l k m : ℕ) → i < l → Ended es (read l) → Last i k → Last l m → k ≤ m
  last_mono i l zero m h r a b = omega arith
  last_mono i l (suc j) m h r a b =
      let (ri, pre) = earlier i l h r in
      let ti : taken (read i) = all_ended (read i) ri in
      let tl : taken (read l) = all_ended (read l) r in
      go m b (L.transitive (write j) (read i) (read l) a.is_taken ti tl a.is_before (L.keeps (read i) (read l) ti tl pre))
    where
      go : (m : ℕ) → Last l m → ◌≺◌ (write j) (read l) → suc j ≤ m
      go zero b w = absurd (b j a.is_taken w)
      go (suc x) b w = on (b.is_last j a.is_taken w)
        where
          on : (j ≡ x) ⊎ (◌≺◌ (write j) (write x)) → suc j ≤ suc x
          on (inl e) = omega arith
          on (inr u) = omega (arith, write_order j x a.is_taken b.is_taken u)

  pick : (i : ℕ) → Dec (i < count ends_read es) → (k : ℕ) × ((v : Val) → Returned es i v → Last i k × Holds v₀ es k v)
  pick i (yes h) = let (v, r) = returned es i (nth_below ends_read es i h) in go v r (L.returns i v r)
    where
      go : (v : Val) → Returned es i v → ((j : ℕ) × LastWrite taken ◌≺◌ j i × Wrote es j v) ⊎ (NoWrite taken ◌≺◌ i × (v ≡ v₀))
          → (k : ℕ) × ((v : Val) → Returned es i v → Last i k × Holds v₀ es k v)
      go v r (inl (j, w, x)) = (suc j, λ u s. (w, rw (returned_unique es i u v s r) x))
      go v r (inr (n, e)) = (zero, λ u s. (n, returned_unique es i u v s r ∙ e))
  pick i (no h) = (zero, λ v r. absurd (h (nth_lt ends_read es i r.0 (returned_nth es i v r))))

  pub choose : ℕ → ℕ
  choose i = (pick i (dec_lt i (count ends_read es))).0

  chosen : (i : ℕ) (v : Val) → Returned es i v → Last i (choose i) × Holds v₀ es (choose i) v
  unfolding choose
  chosen i = (pick i (dec_lt i (count ends_read es))).1

  last_of : (i : ℕ) → Ended es (read i) → Last i (choose i)
  last_of i r = let (v, s) = returned es i r in (chosen i v s).0

  last_unique : (i c d : ℕ) → Last i c → Last i d → c ≡ d
  last_unique i zero zero a b = refl
  last_unique i zero (suc l) a b = absurd (a l b.is_taken b.is_before)
  last_unique i (suc j) zero a b = absurd (b j a.is_taken a.is_before)
  last_unique i (suc j) (suc l) a b = go (a.is_last l b.is_taken b.is_before) (b.is_last j a.is_taken a.is_before)
    where
      go : (l ≡ j) ⊎ (◌≺◌ (write l) (write j)) → (j ≡ l) ⊎ (◌≺◌ (write j) (write l)) → suc j ≡ suc l
      go (inl e) s = omega arith
      go (inr u) (inl e) = omega arith
      go (inr u) (inr w) = absurd (never (write l) (write j) b.is_taken a.is_taken u w)

  -- The choice is what the order says.
  pub choice_after : (i c : ℕ) → Ended es (read i) → After taken ◌≺◌ i c → choose i ≡ c
  choice_after i c r a = last_unique i (choose i) c (last_of i r) a

  pub choose_choice : Choice v₀ es choose
  choose_choice = record {
    low = λ i p r b. last_low i r (choose i) p (last_of i r) b;
    high = λ i q n. last_high i (q, n) (choose i) q (last_of i (q, n)) n;
    value = λ i v s. (chosen i v s).1;
    mono = λ i l h r. last_mono i l (choose i) (choose l) h r (last_of i (earlier i l h r).0) (last_of l r);
  }
