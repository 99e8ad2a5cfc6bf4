-- From a choice to a legal order: the ranks are found by arithmetic, each read behind the writes that are chosen for it. Assumes nothing.
use Prim.Native.Nat.{ℕ, zero, suc, ◌+◌, ◌*◌, ◌≤◌, ◌<◌}
use mathlib.Core.Path.{◌≡◌, refl}
use mathlib.Core.List.{List}
use mathlib.Core.Bool.{true}
use mathlib.Core.Logic.{◌⊎◌, inl, inr}
use native.Mathlib.Omega.{arith}
use native.Mathlib.Decide.{dec_lt}
use native.Mathlib.Nat.{mul-le-mul_right}
use Rattle.history.specs.Events.{Event}
use Rattle.history.specs.Operations.{Op, write, read, count, WellFormed, begins_write, ends_write, ends_read, Begun, Ended, Precedes, Wrote, Returned}
use Rattle.history.specs.Serialization.{Taken, LastWrite, NoWrite, Serialization}
use Rattle.history.proofs.Counting.{nth_below, nth_lt, nth_count, count_mono}
use Rattle.history.proofs.EventKinds.{returned, returned_nth, wrote_nth}
use Rattle.history.proofs.Turns.{write_numbers, read_numbers}
use Rattle.history.proofs.Choice.{Holds, Choice, After, SeenIn}

module _ {Val : Type 0} (v₀ : Val) (es : List (Event Val)) (wf : WellFormed es) (k : ℕ → ℕ) (C : Choice v₀ es k) where
  abbrev size : ℕ
  size = suc (count ends_read es)

  abbrev rank : Op → ℕ
  rank (write j) = suc j * size
  rank (read i) = k i * size + suc i

  abbrev taken : Op → Type 0
  taken = Taken es true

  taken_begun : (j : ℕ) → Begun es (write j) → taken (write j)
  taken_begun j b = go (dec_lt j (count ends_write es))
    where
      go : Dec (j < count ends_write es) → taken (write j)
      go (yes h) = inl (nth_below ends_write es j h)
      go (no h) = inr (refl, (b, λ e. h (nth_lt ends_write es j e.0 e.1)))

  ww : (j l : ℕ) → j < l → rank (write j) < rank (write l)
  ww j l h = omega (arith, mul-le-mul_right size h)

  wr : (j i : ℕ) → j < k i → rank (write j) < rank (read i)
  wr j i h = omega (arith, mul-le-mul_right size h)

  rd_wr : (i j : ℕ) → Ended es (read i) → k i ≤ j → rank (read i) < rank (write j)
  rd_wr i j r h = omega (arith, mul-le-mul_right size h, nth_lt ends_read es i r.0 r.1)

  rr : (i l : ℕ) → i < l → Ended es (read l) → rank (read i) < rank (read l)
  rr i l h r = omega (arith, mul-le-mul_right size (C.mono i l h r))

  wr_back : (j i : ℕ) → Ended es (read i) → rank (write j) < rank (read i) → j < k i
  wr_back j i r h = go (dec_lt j (k i))
    where
      go : Dec (j < k i) → j < k i
      go (yes u) = u
      go (no u) = absurd (omega (arith, h, rd_wr i j r (omega arith)))

  total : (a b : Op) → taken a → taken b → ¬ (a ≡ b) → (rank a < rank b) ⊎ (rank b < rank a)
  total (write j) (write l) ta tb ne = go (dec_lt j l) (dec_lt l j)
    where
      go : Dec (j < l) → Dec (l < j) → (rank (write j) < rank (write l)) ⊎ (rank (write l) < rank (write j))
      go (yes h) d = inl (ww j l h)
      go (no h) (yes u) = inr (ww l j u)
      go (no h) (no u) = let e : j ≡ l = omega arith in absurd (ne (cc))
  total (read i) (read l) ta tb ne = go (dec_lt i l) (dec_lt l i)
    where
      go : Dec (i < l) → Dec (l < i) → (rank (read i) < rank (read l)) ⊎ (rank (read l) < rank (read i))
      go (yes h) d = inl (rr i l h tb)
      go (no h) (yes u) = inr (rr l i u ta)
      go (no h) (no u) = let e : i ≡ l = omega arith in absurd (ne (cc))
  total (write j) (read i) ta tb ne = go (dec_lt j (k i))
    where
      go : Dec (j < k i) → (rank (write j) < rank (read i)) ⊎ (rank (read i) < rank (write j))
      go (yes h) = inl (wr j i h)
      go (no h) = inr (rd_wr i j tb (omega arith))
  total (read i) (write j) ta tb ne = go (dec_lt j (k i))
    where
      go : Dec (j < k i) → (rank (read i) < rank (write j)) ⊎ (rank (write j) < rank (read i))
      go (yes h) = inr (wr j i h)
      go (no h) = inl (rd_wr i j ta (omega arith))

  keeps : (a b : Op) → taken a → taken b → Precedes es a b → rank a < rank b
  keeps (write j) (write l) ta tb p = ww j l (write_numbers es wf j l p.end p.beginning p.ends p.begins p.before)
  keeps (read i) (read l) ta tb p =
      rr i l (read_numbers es wf i l p.end p.beginning p.ends p.begins p.before) tb
  keeps (write j) (read i) ta tb p =
      wr j i (omega (arith, nth_count ends_write es j p.end p.beginning p.ends p.before, C.low i p.beginning tb p.begins))
  keeps (read i) (write j) ta tb p =
      rd_wr i j ta (omega (arith, C.high i p.end p.ends, count_mono begins_write es p.end p.beginning (omega arith), p.begins.number))

  pub after : (i : ℕ) (v : Val) → Returned es i v → After taken (λ a b. rank a < rank b) i (k i)
  after i v r = go (k i) refl (C.value i v r)
    where
      back : (l : ℕ) → rank (write l) < rank (read i) → l < k i
      back l = wr_back l i ((r.0, returned_nth es i v r))

      go : (m : ℕ) → k i ≡ m → Holds v₀ es m v → After taken (λ a b. rank a < rank b) i m
      go zero q h = λ l t b. omega (arith, back l b)
      go (suc j) q h = record {
        is_taken = taken_begun j (h.0, wrote_nth es j v h);
        is_before = wr j i (omega arith);
        is_last = λ l t b. near l (dec_lt l j) (back l b);
      }
        where
          near : (l : ℕ) → Dec (l < j) → l < k i → (l ≡ j) ⊎ (rank (write l) < rank (write j))
          near l (yes u) b = inr (ww l j u)
          near l (no u) b = inl (omega arith)

  returns : (i : ℕ) (v : Val) → Returned es i v
      → ((j : ℕ) × LastWrite taken (λ a b. rank a < rank b) j i × Wrote es j v) ⊎ (NoWrite taken (λ a b. rank a < rank b) i × (v ≡ v₀))
  returns i v r = go (k i) (after i v r) (C.value i v r)
    where
      go : (m : ℕ) → After taken (λ a b. rank a < rank b) i m → Holds v₀ es m v
          → ((j : ℕ) × LastWrite taken (λ a b. rank a < rank b) j i × Wrote es j v) ⊎ (NoWrite taken (λ a b. rank a < rank b) i × (v ≡ v₀))
      go zero a h = inr (a, h)
      go (suc j) a h = inl (j, a, h)

  pub order_of_choice : Serialization v₀ es
  order_of_choice = record {
    with_open = true;
    rank = rank;
    legal = record {
      irreflexive = λ a t h. omega arith;
      transitive = λ a b c ta tb tc h u. omega arith;
      total = total;
      keeps = keeps;
      returns = returns;
    };
  }

  -- In that order each read has seen what was chosen for it.
  pub order_seen : (i : ℕ) → Ended es (read i) → SeenIn v₀ es order_of_choice i (k i)
  unfolding order_of_choice
  order_seen i r = let (v, s) = returned es i r in after i v s
