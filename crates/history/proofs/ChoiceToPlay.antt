-- From a choice to a play: each operation takes place as late as the choice lets it. Assumes nothing.
use Prim.Native.Nat.{ℕ, zero, suc, ◌≤◌, ◌<◌}
use mathlib.Core.Path.{◌≡◌, refl, ap, sym, ◌∙◌}
use mathlib.Core.List.{List, [], ◌∷◌, ◌++◌, append-nil}
use mathlib.Core.Bool.{false}
use native.Mathlib.Omega.{arith}
use native.Mathlib.Decide.{dec_lt, ℕ_discrete}
use lib.ListN.{take, length}
use lib.Seq.{append_snoc}
use Rattle.history.specs.Events.{Event, write_began, write_ended, read_began, read_ended}
use Rattle.history.specs.Operations.{read, count, Nth, WellFormed, begins_write, ends_write, begins_read, ends_read, Ended}
use Rattle.history.proofs.Appending.{by_snoc, at_seam, nth_bound, nth_grow, count_append, count_seam, count_snoc}
use Rattle.history.proofs.Turns.{Turn, turn_from, in_turn_last, counts, well_formed_prefix}
use Rattle.history.proofs.Choice.{Holds, holds_unique, Choice}
use Rattle.history.proofs.Prefixes.{holds_grow, choice_prefix}
use Rattle.history.proofs.Least.{fits_of_choice, ends_last, open_read}
use Rattle.history.proofs.Play.{Writer, Reader, got, Play, nothing, invoke_write, do_write, respond_write, invoke_read, do_read, respond_read, Played}
use Rattle.history.proofs.PlayToChoice.{WriterAt, writer_grow}

module _ {Val : Type 0} (v₀ : Val) where
  module _ (es : List (Event Val)) (wf : WellFormed es) (k : ℕ → ℕ) (C : Choice v₀ es k) where
    -- The open read has not taken rank, and is not too late; or it has, at its time.
    abbrev ReaderAt : List (Event Val) → ℕ → Reader Val → Type 0
    ReaderAt x n Reader.resting = count begins_read x ≡ count ends_read x
    ReaderAt x n Reader.invoked = (count begins_read x ≡ suc (count ends_read x)) × (Ended es (read (count ends_read x)) → n ≤ k (count ends_read x))
    ReaderAt x n (got v) = (count begins_read x ≡ suc (count ends_read x)) × Holds v₀ x (k (count ends_read x)) v × (k (count ends_read x) ≤ n)

    record Made (x : List (Event Val)) : Type 0 where
      n : ℕ
      a : Val
      w : Writer Val
      r : Reader Val
      play : Play v₀ x a w r
      holds : Holds v₀ x n a
      writer : WriterAt v₀ x n w
      reader : ReaderAt x n r
      late : count ends_write x < n → (i : ℕ) → count ends_read x ≤ i → Ended es (read i) → n ≤ k i

    reader_still : (x : List (Event Val)) (e : Event Val) (n : ℕ) (r : Reader Val) → begins_read e ≡ false → ends_read e ≡ false → ReaderAt x n r → ReaderAt (x ++ (e ∷ [])) n r
    reader_still x e n Reader.resting b d h = rw (count_snoc begins_read x e, count_snoc ends_read x e, b, d) h
    reader_still x e n Reader.invoked b d h = rw (count_snoc begins_read x e, count_snoc ends_read x e, b, d) h
    reader_still x e n (got v) b d (h, o, l) = rw (count_snoc begins_read x e, count_snoc ends_read x e, b, d) (h, holds_grow x (e ∷ []) v₀ (k (count ends_read x)) v o, l)

    module _ (x : List (Event Val)) (v : Val) (fit : Turn x (write_began v)) where
      begin_write : (n : ℕ) (a : Val) (w : Writer Val) (r : Reader Val) → Play v₀ x a w r → Holds v₀ x n a → WriterAt v₀ x n w → ReaderAt x n r → Made (x ++ (write_began v ∷ []))
      begin_write n a Writer.resting r h e W R = record {
        n = n;
        a = a;
        w = Writer.invoked v;
        r = r;
        play = invoke_write v h;
        holds = holds_grow x (write_began v ∷ []) v₀ n a e;
        writer = (rw count_snoc (ap suc W.0), rw count_snoc W.1, (length x, at_seam x (write_began v) [], count_seam begins_write x (write_began v ∷ []) ∙ W.0));
        reader = reader_still x (write_began v) n r refl refl R;
        late = λ l. absurd (omega (arith, count_snoc ends_write x (write_began v)));
      }
      begin_write n a (Writer.invoked u) r h e W R = absurd (omega arith)
      begin_write n a Writer.done r h e W R = absurd (omega arith)

    module _ (x : List (Event Val)) (fit : Turn x write_ended) where
      leave : (n : ℕ) (a : Val) (r : Reader Val) → Play v₀ x a Writer.done r → Holds v₀ x n a → WriterAt v₀ x n Writer.done → ReaderAt x n r → Made (x ++ (write_ended ∷ []))
      leave n a r h e W R = record {
        n = n;
        a = a;
        w = Writer.resting;
        r = r;
        play = respond_write h;
        holds = holds_grow x (write_ended ∷ []) v₀ n a e;
        writer = (rw count_snoc W.0, rw count_snoc W.1);
        reader = reader_still x write_ended n r refl refl R;
        late = λ l. absurd (omega (arith, count_snoc ends_write x write_ended));
      }

      now : (n : ℕ) (a u : Val) (r : Reader Val) → Play v₀ x a (Writer.invoked u) r → WriterAt v₀ x n (Writer.invoked u) → ReaderAt x (suc n) r → Made (x ++ (write_ended ∷ []))
      now n a u r h W R = leave (suc n) u r (do_write h) W.2 (W.0, ap suc W.1) R

      end_write : (n : ℕ) (a : Val) (w : Writer Val) (r : Reader Val) → Play v₀ x a w r → Holds v₀ x n a → WriterAt v₀ x n w → ReaderAt x n r → Made (x ++ (write_ended ∷ []))
      end_write n a Writer.resting r h e W R = absurd (omega arith)
      end_write n a Writer.done r h e W R = leave n a r h e W R
      end_write n a (Writer.invoked u) Reader.resting h e W R = now n a u Reader.resting h W R
      end_write n a (Writer.invoked u) (got v) h e W (b, o, l) = now n a u (got v) h W (b, o, omega arith)
      end_write n a (Writer.invoked u) Reader.invoked h e W (b, f) = go (ℕ_discrete (k (count ends_read x)) n)
        where
          go : Dec (k (count ends_read x) ≡ n) → Made (x ++ (write_ended ∷ []))
          go (yes q) = now n a u (got a) (do_read h) W (b, rw q e, omega arith)
          go (no q) = now n a u Reader.invoked h W (b, λ E. omega (arith, f E))

    module _ (x y : List (Event Val)) (whole : x ++ (read_began ∷ []) ++ y ≡ es) (fit : Turn x read_began) where
      not_early : Ended es (read (count ends_read x)) → count ends_write x ≤ k (count ends_read x)
      not_early E =
          let c = counts x (well_formed_prefix x (read_began ∷ []) (well_formed_prefix (x ++ (read_began ∷ [])) y (rw whole wf))) in
          let all : count begins_read x ≡ count ends_read x = omega arith in
          let b : Nth begins_read (x ++ (read_began ∷ [])) (count ends_read x) (length x) =
          record { event = read_began; there = at_seam x read_began []; of_kind = refl; number = count_seam begins_read x (read_began ∷ []) ∙ all } in
          let l : length x ≤ length (x ++ (read_began ∷ [])) = omega (arith, nth_bound begins_read (x ++ (read_began ∷ [])) [] (count ends_read x) (length x) b) in
          let c : count ends_write (take (length x) es) ≡ count ends_write x = rw whole at (count_append ends_write (x ++ (read_began ∷ [])) y (length x) l ∙ count_seam ends_write x (read_began ∷ [])) in
          omega (arith, C.low (count ends_read x) (length x) E (rw whole at (nth_grow begins_read (x ++ (read_began ∷ [])) y (count ends_read x) (length x) b)))

      begin_read : (M : Made x) (r : Reader Val) → Play v₀ x M.a M.w r → ReaderAt x M.n r → Made (x ++ (read_began ∷ []))
      begin_read M Reader.resting h R = record {
        n = M.n;
        a = M.a;
        w = M.w;
        r = Reader.invoked;
        play = invoke_read h;
        holds = holds_grow x (read_began ∷ []) v₀ M.n M.a M.holds;
        writer = writer_grow v₀ x read_began M.n M.w refl refl M.writer;
        reader = rw (count_snoc begins_read x read_began, count_snoc ends_read x read_began) (ap suc R, λ E. go E (dec_lt (count ends_write x) M.n));
        late = rw (count_snoc ends_write x read_began, count_snoc ends_read x read_began) M.late;
      }
        where
          go : Ended es (read (count ends_read x)) → Dec (count ends_write x < M.n) → M.n ≤ k (count ends_read x)
          go E (yes l) = M.late l (count ends_read x) (omega arith) E
          go E (no l) = omega (arith, not_early E)
      begin_read M Reader.invoked h R = absurd (omega arith)
      begin_read M (got v) h R = absurd (omega arith)

    module _ (x y : List (Event Val)) (v : Val) (whole : x ++ (read_ended v ∷ []) ++ y ≡ es) (fit : Turn x (read_ended v)) where
      ends_in_es : Ended es (read (count ends_read x))
      ends_in_es = (length x, rw whole at (nth_grow ends_read (x ++ (read_ended v ∷ [])) y (count ends_read x) (length x) (ends_last x v)))

      fits : (k (count ends_read x) ≤ count begins_write x) × Holds v₀ x (k (count ends_read x)) v
      fits =
          let wf' : WellFormed (x ++ (read_ended v ∷ [])) = well_formed_prefix (x ++ (read_ended v ∷ [])) y (rw whole wf) in
          let (p, b) = open_read x v wf' in
          let F = fits_of_choice v₀ x v wf' p b k (choice_prefix (x ++ (read_ended v ∷ [])) y v₀ k (rw whole C)) in
          (F.high, F.value)

      Later : ℕ → Type 0
      Later n = count ends_write x < n → (i : ℕ) → suc (count ends_read x) ≤ i → Ended es (read i) → n ≤ k i

      answer : (n : ℕ) (a u : Val) (w : Writer Val) → Play v₀ x a w (got u) → u ≡ v → Holds v₀ x n a → WriterAt v₀ x n w → count begins_read x ≡ suc (count ends_read x) → Later n
          → Made (x ++ (read_ended v ∷ []))
      unfolding Later
      answer n a u w h q e W b l = record {
        n = n;
        a = a;
        w = w;
        r = Reader.resting;
        play = respond_read (rw q at h);
        holds = holds_grow x (read_ended v ∷ []) v₀ n a e;
        writer = writer_grow v₀ x (read_ended v) n w refl refl W;
        reader = rw (count_snoc begins_read x (read_ended v), count_snoc ends_read x (read_ended v)) b;
        late = rw (count_snoc ends_write x (read_ended v), count_snoc ends_read x (read_ended v)) l;
      }

      now_both : (n : ℕ) (a : Val) (w : Writer Val) → Play v₀ x a w Reader.invoked → WriterAt v₀ x n w → count begins_read x ≡ suc (count ends_read x) → suc n ≤ k (count ends_read x)
          → Made (x ++ (read_ended v ∷ []))
      unfolding Later
      now_both n a Writer.resting h W b l = absurd (omega (arith, fits.0))
      now_both n a Writer.done h W b l = absurd (omega (arith, fits.0))
      now_both n a (Writer.invoked u) h W b l =
          let q : k (count ends_read x) ≡ suc n = omega (arith, fits.0) in
          answer (suc n) u u Writer.done (do_read (do_write h)) (holds_unique v₀ x (suc n) u v W.2 (rw q at fits.1)) W.2 (W.0, ap suc W.1) b
          (λ g i j E. omega (arith, C.mono (count ends_read x) i j E))

      end_read : (M : Made x) (r : Reader Val) → Play v₀ x M.a M.w r → ReaderAt x M.n r → Made (x ++ (read_ended v ∷ []))
      unfolding Later
      end_read M Reader.resting h R = absurd (omega arith)
      end_read M (got u) h (b, o, l) = answer M.n M.a u M.w h (holds_unique v₀ x (k (count ends_read x)) u v o fits.1) M.holds M.writer b (λ g i j E. M.late g i (omega arith) E)
      end_read M Reader.invoked h (b, f) = go (ℕ_discrete (k (count ends_read x)) M.n)
        where
          go : Dec (k (count ends_read x) ≡ M.n) → Made (x ++ (read_ended v ∷ []))
          go (yes q) = answer M.n M.a M.a M.w (do_read h) (holds_unique v₀ x M.n M.a v M.holds (rw q at fits.1)) M.holds M.writer b (λ g i j E. M.late g i (omega arith) E)
          go (no q) = now_both M.n M.a M.w h M.writer b (omega (arith, f ends_in_es))

    step : (x : List (Event Val)) (e : Event Val) (y : List (Event Val)) → x ++ (e ∷ []) ++ y ≡ es → Turn x e → Made x → Made (x ++ (e ∷ []))
    step x (write_began v) y q f M = begin_write x v f M.n M.a M.w M.r M.play M.holds M.writer M.reader
    step x write_ended y q f M = end_write x f M.n M.a M.w M.r M.play M.holds M.writer M.reader
    step x read_began y q f M = begin_read x y q f M M.r M.play M.reader
    step x (read_ended v) y q f M = end_read x y v q f M M.r M.play M.reader

    made : (x y : List (Event Val)) → x ++ y ≡ es → Made x
    made x = by_snoc (λ x. (y : List (Event Val)) → x ++ y ≡ es → Made x) base more_events x
      where
        base : (y : List (Event Val)) → [] ++ y ≡ es → Made []
        base y q = record { n = zero; a = v₀; w = Writer.resting; r = Reader.resting; play = nothing; holds = refl; writer = (refl, refl); reader = refl; late = λ l. absurd (omega arith) }

        more_events : (x : List (Event Val)) (e : Event Val) → ((y : List (Event Val)) → x ++ y ≡ es → Made x) → (y : List (Event Val)) → x ++ (e ∷ []) ++ y ≡ es → Made (x ++ (e ∷ []))
        more_events x e before y q = step x e y q (turn_from x e (in_turn_last x e (well_formed_prefix (x ++ (e ∷ [])) y (rw q wf)))) (before (e ∷ y) (sym (append_snoc x e y) ∙ q))

    pub play_of_choice : Played v₀ es
    play_of_choice = let M = made es [] (append-nil es) in record { value = M.a; writer = M.w; reader = M.r; play = M.play }
