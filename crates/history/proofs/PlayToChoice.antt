-- From a play to a choice: each read stands after the writes that had taken place when it did. Assumes nothing.
use Prim.Native.Nat.{ℕ, zero, suc, ◌≤◌, ◌<◌}
use mathlib.Core.Path.{◌≡◌, refl, ap, sym, ◌∙◌}
use mathlib.Core.List.{List, [], ◌∷◌, ◌++◌}
use mathlib.Core.Bool.{false}
use native.Mathlib.Omega.{arith}
use native.Mathlib.Decide.{dec_lt}
use native.Mathlib.Nat.{le_of_eq}
use lib.ListN.{take, length}
use Rattle.history.specs.Events.{Event, write_began, write_ended, read_began, read_ended}
use Rattle.history.specs.Operations.{read, count, WellFormed, begins_write, ends_write, begins_read, ends_read, BeginsAt, Ended, Wrote}
use Rattle.history.proofs.Counting.{nth_lt, nth_below}
use Rattle.history.proofs.Appending.{at_seam, nth_bound, nth_grow, count_append, count_seam, count_snoc}
use Rattle.history.proofs.Turns.{counts, well_formed_nil, well_formed_snoc, in_turn_of}
use Rattle.history.proofs.Choice.{Holds, Choice}
use Rattle.history.proofs.Prefixes.{holds_grow}
use Rattle.history.proofs.Least.{put, put_below, put_at, least_nil, choice_other, choice_read, ended_cut}
use Rattle.history.proofs.Play.{Writer, Reader, got, Play, nothing, invoke_write, do_write, respond_write, invoke_read, do_read, respond_read}

put_le : (k : ℕ → ℕ) (i c n l : ℕ) → (l < i → k l ≤ n) → c ≤ n → put k i c l ≤ n
put_le k i c n l f h = go (dec_lt l i)
  where
    go : Dec (l < i) → put k i c l ≤ n
    go (yes u) = rw (put_below k i c l u) (f u)
    go (no u) = rw (put_at k i c l (omega arith)) h

module _ {Val : Type 0} (v₀ : Val) where
  -- n writes have taken rank.
  abbrev pub WriterAt : List (Event Val) → ℕ → Writer Val → Type 0
  WriterAt x n Writer.resting = (count begins_write x ≡ n) × (count ends_write x ≡ n)
  WriterAt x n (Writer.invoked v) = (count begins_write x ≡ suc n) × (count ends_write x ≡ n) × Wrote x n v
  WriterAt x n Writer.done = (count begins_write x ≡ n) × (suc (count ends_write x) ≡ n)

  -- The read that began at p has seen v, after c of them.
  record Seen (x : List (Event Val)) (k : ℕ → ℕ) (n : ℕ) (v : Val) (p : ℕ) : Type 0 where
    c : ℕ
    at_most : c ≤ n
    low : count ends_write (take p x) ≤ c
    value : Holds v₀ x c v
    top : (i : ℕ) → Ended x (read i) → k i ≤ c

  abbrev ReaderAt : List (Event Val) → (ℕ → ℕ) → ℕ → Reader Val → Type 0
  ReaderAt x k n Reader.resting = count begins_read x ≡ count ends_read x
  ReaderAt x k n Reader.invoked = (p : ℕ) × BeginsAt x (read (count ends_read x)) p × (count ends_write (take p x) ≤ n)
  ReaderAt x k n (got v) = (p : ℕ) × BeginsAt x (read (count ends_read x)) p × Seen x k n v p

  record Explained (x : List (Event Val)) (a : Val) (w : Writer Val) (r : Reader Val) : Type 0 where
    wf : WellFormed x
    k : ℕ → ℕ
    n : ℕ
    choice : Choice v₀ x k
    top : (i : ℕ) → Ended x (read i) → k i ≤ n
    holds : Holds v₀ x n a
    writer : WriterAt x n w
    reader : ReaderAt x k n r

  pub writer_bounds : (x : List (Event Val)) (n : ℕ) (w : Writer Val) → WriterAt x n w → (count ends_write x ≤ n) × (n ≤ count begins_write x)
  writer_bounds x n Writer.resting h = omega arith
  writer_bounds x n (Writer.invoked v) h = omega arith
  writer_bounds x n Writer.done h = omega arith

  pub wrote_grow : (x y : List (Event Val)) (j : ℕ) (v : Val) → Wrote x j v → Wrote (x ++ y) j v
  wrote_grow x y j v h = holds_grow x y v₀ (suc j) v h

  -- The writer stands still at the reader's events ..
  pub writer_grow : (x : List (Event Val)) (e : Event Val) (n : ℕ) (w : Writer Val) → begins_write e ≡ false → ends_write e ≡ false → WriterAt x n w → WriterAt (x ++ (e ∷ [])) n w
  writer_grow x e n Writer.resting b d h = rw (count_snoc begins_write x e, count_snoc ends_write x e, b, d) h
  writer_grow x e n (Writer.invoked v) b d (h, i, t) = (rw (count_snoc begins_write x e, b) h, rw (count_snoc ends_write x e, d) i, wrote_grow x (e ∷ []) n v t)
  writer_grow x e n Writer.done b d h = rw (count_snoc begins_write x e, count_snoc ends_write x e, b, d) h

  -- .. and the reader at the writer's.
  reader_grow : (x : List (Event Val)) (e : Event Val) → WellFormed (x ++ (e ∷ [])) → (k : ℕ → ℕ) (n : ℕ) (r : Reader Val) → begins_read e ≡ false → ends_read e ≡ false
      → ReaderAt x k n r → ReaderAt (x ++ (e ∷ [])) k n r
  reader_grow x e wf k n Reader.resting b d h = rw (count_snoc begins_read x e, count_snoc ends_read x e, b, d) h
  reader_grow x e wf k n Reader.invoked b d (p, a, l) =
      let u : p ≤ length x = omega (arith, nth_bound begins_read x [] (count ends_read x) p a) in
      (p, rw (count_snoc ends_read x e, d) (nth_grow begins_read x (e ∷ []) (count ends_read x) p a), rw (count_append ends_write x (e ∷ []) p u) l)
  reader_grow x e wf k n (got v) b d (p, a, s) =
      let u : p ≤ length x = omega (arith, nth_bound begins_read x [] (count ends_read x) p a) in (
        p,
        rw (count_snoc ends_read x e, d) (nth_grow begins_read x (e ∷ []) (count ends_read x) p a),
        record {
          c = s.c;
          at_most = s.at_most;
          low = rw (count_append ends_write x (e ∷ []) p u) s.low;
          value = holds_grow x (e ∷ []) v₀ s.c v s.value;
          top = λ i r. s.top i (r.0, ended_cut v₀ x e wf d i r.0 r.1);
        },
      )

  reader_up : (x : List (Event Val)) (k : ℕ → ℕ) (n : ℕ) (r : Reader Val) → ReaderAt x k n r → ReaderAt x k (suc n) r
  reader_up x k n Reader.resting h = h
  reader_up x k n Reader.invoked (p, b, l) = (p, b, omega arith)
  reader_up x k n (got v) (p, b, s) = (p, b, record { c = s.c; at_most = omega arith; low = s.low; value = s.value; top = s.top })

  explained : {x : List (Event Val)} {a : Val} {w : Writer Val} {r : Reader Val} → Play v₀ x a w r → Explained x a w r
  explained nothing = record { wf = well_formed_nil; k = λ i. zero; n = zero; choice = (least_nil v₀).choice; top = λ i r. omega arith; holds = refl; writer = (refl, refl); reader = refl }
  explained (invoke_write {es = x} {r = r} v h) = go (explained h)
    where
      go : {a : Val} → Explained x a Writer.resting r → Explained (x ++ (write_began v ∷ [])) a (Writer.invoked v) r
      go {a} E =
          let wf = well_formed_snoc x (write_began v) E.wf (in_turn_of x (write_began v) (omega (arith, E.writer))) in
          record {
            wf = wf;
            k = E.k;
            n = E.n;
            choice = choice_other v₀ x (write_began v) wf refl E.k E.choice;
            top = λ i r. E.top i (r.0, ended_cut v₀ x (write_began v) wf refl i r.0 r.1);
            holds = holds_grow x (write_began v ∷ []) v₀ E.n a E.holds;
            writer = (rw count_snoc (ap suc E.writer.0), rw count_snoc E.writer.1, (length x, at_seam x (write_began v) [], count_seam begins_write x (write_began v ∷ []) ∙ E.writer.0));
            reader = reader_grow x (write_began v) wf E.k E.n r refl refl E.reader;
          }
  explained (do_write {es = x} {v = v} {r = r} h) = go (explained h)
    where
      go : {a : Val} → Explained x a (Writer.invoked v) r → Explained x v Writer.done r
      go E = record {
        wf = E.wf;
        k = E.k;
        n = suc E.n;
        choice = E.choice;
        top = λ i r. omega (arith, E.top i r);
        holds = E.writer.2;
        writer = (E.writer.0, ap suc E.writer.1);
        reader = reader_up x E.k E.n r E.reader;
      }
  explained (respond_write {es = x} {r = r} h) = go (explained h)
    where
      go : {a : Val} → Explained x a Writer.done r → Explained (x ++ (write_ended ∷ [])) a Writer.resting r
      go {a} E =
          let wf = well_formed_snoc x write_ended E.wf (in_turn_of x write_ended (omega (arith, E.writer))) in
          record {
            wf = wf;
            k = E.k;
            n = E.n;
            choice = choice_other v₀ x write_ended wf refl E.k E.choice;
            top = λ i r. E.top i (r.0, ended_cut v₀ x write_ended wf refl i r.0 r.1);
            holds = holds_grow x (write_ended ∷ []) v₀ E.n a E.holds;
            writer = (rw count_snoc E.writer.0, rw count_snoc E.writer.1);
            reader = reader_grow x write_ended wf E.k E.n r refl refl E.reader;
          }
  explained (invoke_read {es = x} {w = w} h) = go (explained h)
    where
      go : {a : Val} → Explained x a w Reader.resting → Explained (x ++ (read_began ∷ [])) a w Reader.invoked
      go {a} E =
          let wf = well_formed_snoc x read_began E.wf (in_turn_of x read_began (le_of_eq E.reader)) in
          record {
            wf = wf;
            k = E.k;
            n = E.n;
            choice = choice_other v₀ x read_began wf refl E.k E.choice;
            top = λ i r. E.top i (r.0, ended_cut v₀ x read_began wf refl i r.0 r.1);
            holds = holds_grow x (read_began ∷ []) v₀ E.n a E.holds;
            writer = writer_grow x read_began E.n w refl refl E.writer;
            reader = (
              length x,
              record { event = read_began; there = at_seam x read_began []; of_kind = refl; number = count_seam begins_read x (read_began ∷ []) ∙ E.reader ∙ sym (count_snoc ends_read x read_began) },
              rw (count_seam ends_write x (read_began ∷ [])) (writer_bounds x E.n w E.writer).0,
            );
          }
  explained (do_read {es = x} {a = a} {w = w} h) = go (explained h)
    where
      go : Explained x a w Reader.invoked → Explained x a w (got a)
      go E = record {
        wf = E.wf;
        k = E.k;
        n = E.n;
        choice = E.choice;
        top = E.top;
        holds = E.holds;
        writer = E.writer;
        reader = (E.reader.0, E.reader.1, record { c = E.n; at_most = omega arith; low = E.reader.2; value = E.holds; top = E.top });
      }
  explained (respond_read {es = x} {v = v} {w = w} h) = go (explained h)
    where
      go : {a : Val} → Explained x a w (got v) → Explained (x ++ (read_ended v ∷ [])) a w Reader.resting
      go {a} E =
          let p = E.reader.0 in
          let b = E.reader.1 in
          let s = E.reader.2 in
          let l : count ends_read x < count begins_read x = nth_lt begins_read x (count ends_read x) p b in
          let wf = well_formed_snoc x (read_ended v) E.wf (in_turn_of x (read_ended v) l) in
          record {
            wf = wf;
            k = put E.k (count ends_read x) s.c;
            n = E.n;
            choice = choice_read v₀ x v wf p b E.k s.c E.choice (record { low = s.low; high = omega (arith, s.at_most, writer_bounds x E.n w E.writer); value = s.value }) s.top;
            top = λ i r. put_le E.k (count ends_read x) s.c E.n i (λ h. E.top i (nth_below ends_read x i h)) s.at_most;
            holds = holds_grow x (read_ended v ∷ []) v₀ E.n a E.holds;
            writer = writer_grow x (read_ended v) E.n w refl refl E.writer;
            reader = omega (arith, count_snoc begins_read x (read_ended v), count_snoc ends_read x (read_ended v), counts x E.wf);
          }

  pub choice_of_play : {x : List (Event Val)} {a : Val} {w : Writer Val} {r : Reader Val} → Play v₀ x a w r → WellFormed x × ((k : ℕ → ℕ) × Choice v₀ x k)
  choice_of_play h = let E = explained h in (E.wf, (E.k, E.choice))
