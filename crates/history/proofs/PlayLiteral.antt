-- The automaton of one writer and one reader plays just the logs that are legal executions of document 000. Assumes nothing.
use Prim.Native.Nat.{ℕ}
use mathlib.Core.Path.{◌≡◌, refl, ap, sym, subst, ◌∙◌}
use mathlib.Core.List.{List, [], ◌∷◌, ◌++◌, append-nil}
use mathlib.Core.Logic.{◌≢◌, ◌↔◌}
use native.Mathlib.Omega.{arith}
use native.Mathlib.Decide.{ℕ_discrete}
use lib.Seq.{append_snoc}
use Rattle.history.specs.Events.{Event, write_began, write_ended, read_began, read_ended}
use Rattle.history.specs.Document000.{Communication, invocation, response, Execution, Item, communication, operation, History, communications}
use Rattle.history.specs.ReadWrite.{Invocation, Write, Read, Response, Ack, value, transition}
use Rattle.history.specs.Execution.{communicated, execution, LegalLog}
use Rattle.history.proofs.Plays.{Status, resting, invoked, done, after, Suits, set, set_same, set_other, Makes, value_after, Plays}
use Rattle.history.proofs.Replays.{legal_iff_playable}
use Rattle.history.proofs.PlayMore.{stand, held, play_more, stand_more, held_more, communications_append}
use Rattle.history.proofs.Play.{Writer, Reader, got, Play, nothing, invoke_write, do_write, respond_write, invoke_read, do_read, respond_read, Played}

impossible : {B : Type 0} → ◌≡◌ {A = ℕ} 0 1 → B
impossible e = absurd (omega arith)

-- The parties' states as statuses of the ports 0 and 1, and back.
module _ {Val : Type 0} where
  abbrev of_writer : Writer Val → Status (Invocation Val) (Response Val)
  of_writer Writer.resting = resting
  of_writer (Writer.invoked v) = invoked (Write v)
  of_writer Writer.done = done Ack

  abbrev of_reader : Reader Val → Status (Invocation Val) (Response Val)
  of_reader Reader.resting = resting
  of_reader Reader.invoked = invoked Read
  of_reader (got v) = done (value v)

  writer_resting : (w : Writer Val) → of_writer w ≡ resting → w ≡ Writer.resting
  writer_resting Writer.resting e = refl
  writer_resting (Writer.invoked v) e = impossible (cc)
  writer_resting Writer.done e = impossible (cc)

  writer_done : (w : Writer Val) (r : Response Val) → of_writer w ≡ done r → w ≡ Writer.done
  writer_done Writer.resting r e = impossible (cc)
  writer_done (Writer.invoked v) r e = impossible (cc)
  writer_done Writer.done r e = refl

  writer_invoked : (w : Writer Val) (u : Invocation Val) → of_writer w ≡ invoked u → (v : Val) × (w ≡ Writer.invoked v) × (u ≡ Write v)
  writer_invoked Writer.resting u e = impossible (cc)
  writer_invoked (Writer.invoked v) u e = (v, refl, cc)
  writer_invoked Writer.done u e = impossible (cc)

  reader_resting : (r : Reader Val) → of_reader r ≡ resting → r ≡ Reader.resting
  reader_resting Reader.resting e = refl
  reader_resting Reader.invoked e = impossible (cc)
  reader_resting (got v) e = impossible (cc)

  reader_done : (r : Reader Val) (v : Val) → of_reader r ≡ done (value v) → r ≡ got v
  reader_done Reader.resting v e = impossible (cc)
  reader_done Reader.invoked v e = impossible (cc)
  reader_done (got w) v e = let q : w ≡ v = cc in rw q

  reader_invoked : (r : Reader Val) (u : Invocation Val) → of_reader r ≡ invoked u → (r ≡ Reader.invoked) × (u ≡ Read)
  reader_invoked Reader.resting u e = impossible (cc)
  reader_invoked Reader.invoked u e = (refl, cc)
  reader_invoked (got v) u e = impossible (cc)

abbrev Statuses : Type 0 → Type 0
Statuses Val = ℕ → Status (Invocation Val) (Response Val)

record Stand {Val : Type 0} (st : Statuses Val) (w : Writer Val) (r : Reader Val) : Type 0 where
  writer : st 0 ≡ of_writer w
  reader : st 1 ≡ of_reader r
  other : (q : ℕ) → q ≢ 0 → q ≢ 1 → st q ≡ resting

module _ {Val : Type 0} (st : Statuses Val) (w : Writer Val) (r : Reader Val) (s : Stand st w r) (x : Status (Invocation Val) (Response Val)) where
  writer_set : (w' : Writer Val) → x ≡ of_writer w' → Stand (set ℕ_discrete st 0 x) w' r
  writer_set w' e = record { writer = set_same ℕ_discrete st 0 x ∙ e; reader = set_other ℕ_discrete st 0 x 1 (omega arith) ∙ s.reader; other = λ q a b. set_other ℕ_discrete st 0 x q a ∙ s.other q a b }

  reader_set : (r' : Reader Val) → x ≡ of_reader r' → Stand (set ℕ_discrete st 1 x) w r'
  reader_set r' e = record { writer = set_other ℕ_discrete st 1 x 0 (omega arith) ∙ s.writer; reader = set_same ℕ_discrete st 1 x ∙ e; other = λ q a b. set_other ℕ_discrete st 1 x q b ∙ s.other q a b }

module _ {Val : Type 0} (v₀ : Val) where
  -- FROM A PLAYED HISTORY TO THE AUTOMATON: after the events x it holds a and stands as the ports do.
  record Stands (x : List (Event Val)) (a : Val) (st : Statuses Val) : Type 0 where
    w : Writer Val
    r : Reader Val
    play : Play v₀ x a w r
    stand : Stand st w r

  -- One communication more,
  communicates : (e : Event Val) (x : List (Event Val)) (a : Val) (st : Statuses Val) → Suits {Val = Val} (communication (communicated e).1) (st (communicated e).0) → Stands x a st
      → Stands (x ++ (e ∷ [])) a (set ℕ_discrete st (communicated e).0 (after {Val = Val} (communication (communicated e).1)))
  communicates (write_began v) x a st u S = let q : S.w ≡ Writer.resting = writer_resting S.w (sym S.stand.writer ∙ u) in record {
    w = Writer.invoked v;
    r = S.r;
    play = invoke_write v (rw q at S.play);
    stand = writer_set st S.w S.r S.stand (invoked (Write v)) (Writer.invoked v) refl;
  }
  communicates write_ended x a st u S = let q : S.w ≡ Writer.done = writer_done S.w Ack (sym S.stand.writer ∙ u) in record {
    w = Writer.resting;
    r = S.r;
    play = respond_write (rw q at S.play);
    stand = writer_set st S.w S.r S.stand resting Writer.resting refl;
  }
  communicates read_began x a st u S = let q : S.r ≡ Reader.resting = reader_resting S.r (sym S.stand.reader ∙ u) in record {
    w = S.w;
    r = Reader.invoked;
    play = invoke_read (rw q at S.play);
    stand = reader_set st S.w S.r S.stand (invoked Read) Reader.invoked refl;
  }
  communicates (read_ended v) x a st u S = let q : S.r ≡ got v = reader_done S.r v (sym S.stand.reader ∙ u) in record {
    w = S.w;
    r = Reader.resting;
    play = respond_read (rw q at S.play);
    stand = reader_set st S.w S.r S.stand resting Reader.resting refl;
  }

  -- or one operation.
  operates : (p : ℕ) (u : Invocation Val) (b : Val) (z : Response Val) (x : List (Event Val)) (a : Val) (st : Statuses Val) → st p ≡ invoked u → transition a u ≡ (b, z) → Stands x a st
      → Stands x b (set ℕ_discrete st p (done z))
  unfolding transition
  operates p u b z x a st i t S = go (ℕ_discrete p 0) (ℕ_discrete p 1)
    where
      unfolds : (c : Val) (y : Response Val) → ◌≡◌ {A = Val × Response Val} (c, y) (b, z) → (c ≡ b) × (y ≡ z)
      unfolds c y e = (ap (λ (n : Val × Response Val). n.0) e, ap (λ (n : Val × Response Val). n.1) e)

      go : Dec (p ≡ 0) → Dec (p ≡ 1) → Stands x b (set ℕ_discrete st p (done z))
      go (yes e) d =
          let (v, ew, eu) = writer_invoked S.w u (sym S.stand.writer ∙ ap st (sym e) ∙ i) in
          let (ev, er) = unfolds v Ack (subst (λ (n : Invocation Val). transition a n ≡ (b, z)) eu t) in
          let k : Play v₀ x v Writer.done S.r = do_write (rw ew at S.play) in
          record { w = Writer.done; r = S.r; play = rw ev at k; stand = rw e (writer_set st S.w S.r S.stand (done z) Writer.done (ap (λ (y : Response Val). done y) (sym er))) }
      go (no n) (yes e) =
          let (er, eu) = reader_invoked S.r u (sym S.stand.reader ∙ ap st (sym e) ∙ i) in
          let (ev, ez) = unfolds a (value a) (subst (λ (n : Invocation Val). transition a n ≡ (b, z)) eu t) in
          let k : Play v₀ x a S.w (got a) = do_read (rw er at S.play) in
          record { w = S.w; r = got a; play = subst (λ (y : Val). Play v₀ x y S.w (got a)) ev k; stand = rw e (reader_set st S.w S.r S.stand (done z) (got a) (ap (λ (y : Response Val). done y) (sym ez))) }
      go (no n) (no e) = let z = sym (S.stand.other p n e) ∙ i in impossible (cc)

  from_plays : (h : History ℕ Val (Invocation Val) (Response Val)) (st : Statuses Val) (a : Val) (x es : List (Event Val)) → Plays ℕ_discrete transition st a h → Stands x a st → communications h ≡ execution es → Played v₀ (x ++ es)
  unfolding Plays communications execution
  from_plays [] st a x [] pl S e = rw append-nil (record { value = a; writer = S.w; reader = S.r; play = S.play })
  from_plays [] st a x (y ∷ es) pl S e = impossible (cc)
  from_plays ((p, communication c) ∷ h) st a x [] pl S e = impossible (cc)
  from_plays ((p, communication c) ∷ h) st a x (y ∷ es) pl S e =
      let e₀ : ◌≡◌ {A = ℕ × Communication (Invocation Val) (Response Val)} (p, c) (communicated y) = cc in
      let e₁ : communications h ≡ execution es = cc in
      let q = subst (λ (n : ℕ × Communication (Invocation Val) (Response Val)). Plays ℕ_discrete transition st a ((n.0, communication n.1) ∷ h)) e₀ pl in
      rw append_snoc at (from_plays h (set ℕ_discrete st (communicated y).0 (after {Val = Val} (communication (communicated y).1))) a (x ++ (y ∷ [])) es q.2 (communicates y x a st q.0 S) e₁)
  from_plays ((p, operation o) ∷ h) st a x es pl S e =
      from_plays h (set ℕ_discrete st p (done o.r)) o.w x es pl.2 (operates p o.u o.w o.r x a st pl.0 pl.1 S) e

  -- FROM THE AUTOMATON TO A PLAYED HISTORY
  abbrev standing : History ℕ Val (Invocation Val) (Response Val) → Statuses Val
  standing h = stand ℕ_discrete transition (λ p. resting) h

  record Made (x : List (Event Val)) (a : Val) (w : Writer Val) (r : Reader Val) : Type 0 where
    history : History ℕ Val (Invocation Val) (Response Val)
    plays : Plays ℕ_discrete transition (λ p. resting) v₀ history
    fits : communications history ≡ execution x
    stands : Stand (standing history) w r
    holds : held ℕ_discrete transition v₀ history ≡ a

  execution_append : (x y : List (Event Val)) → execution (x ++ y) ≡ execution x ++ execution y
  unfolding execution
  execution_append [] y = refl
  execution_append (e ∷ x) y = ap (λ (l : Execution ℕ (Invocation Val) (Response Val)). communicated e ∷ l) (execution_append x y)

  -- One item more.
  item : (x y : List (Event Val)) (a : Val) (w w' : Writer Val) (r r' : Reader Val) (p : ℕ) (z : Item Val (Invocation Val) (Response Val)) (M : Made x a w r)
      → Suits z (standing M.history p) → Makes transition a z → Stand (set ℕ_discrete (standing M.history) p (after z)) w' r' → communications ((p, z) ∷ []) ≡ execution y → Made (x ++ y) (value_after a z) w' r'
  item x y a w w' r r' p z M su ma st co = record {
    history = M.history ++ ((p, z) ∷ []);
    plays = play_more ℕ_discrete transition (λ p. resting) v₀ M.history p z M.plays su (rw M.holds ma);
    fits = rw (communications_append M.history ((p, z) ∷ []), M.fits, co, execution_append x y);
    stands = subst (λ (g : Statuses Val). Stand g w' r') (sym (stand_more ℕ_discrete transition (λ p. resting) M.history p z)) st;
    holds = held_more ℕ_discrete transition v₀ M.history p z ∙ ap (λ (v : Val). value_after v z) M.holds;
  }

  by_writer : (x y : List (Event Val)) (a : Val) (w w' : Writer Val) (r : Reader Val) (z : Item Val (Invocation Val) (Response Val)) → Made x a w r
      → Suits z (of_writer w) → Makes transition a z → after z ≡ of_writer w' → communications ((0, z) ∷ []) ≡ execution y → Made (x ++ y) (value_after a z) w' r
  by_writer x y a w w' r z M su ma af co = item x y a w w' r r 0 z M (rw M.stands.writer su) ma (writer_set (standing M.history) w r M.stands (after z) w' af) co

  by_reader : (x y : List (Event Val)) (a : Val) (w : Writer Val) (r r' : Reader Val) (z : Item Val (Invocation Val) (Response Val)) → Made x a w r
      → Suits z (of_reader r) → Makes transition a z → after z ≡ of_reader r' → communications ((1, z) ∷ []) ≡ execution y → Made (x ++ y) (value_after a z) w r'
  by_reader x y a w r r' z M su ma af co = item x y a w w r r' 1 z M (rw M.stands.reader su) ma (reader_set (standing M.history) w r M.stands (after z) r' af) co

  to_plays : {x : List (Event Val)} {a : Val} {w : Writer Val} {r : Reader Val} → Play v₀ x a w r → Made x a w r
  unfolding Plays communications execution transition stand held
  to_plays nothing = record { history = []; plays = tt; fits = refl; stands = record { writer = refl; reader = refl; other = λ q a b. refl }; holds = refl }
  to_plays (invoke_write {es = x} {a = a} {r = r} v k) = by_writer x (write_began v ∷ []) a Writer.resting (Writer.invoked v) r (communication (invocation (Write v))) (to_plays k) refl tt refl refl
  to_plays (do_write {es = x} {a = a} {v = v} {r = r} k) = rw append-nil at (by_writer x [] a (Writer.invoked v) Writer.done r (operation (record { u = Write v; w = v; r = Ack })) (to_plays k) refl refl refl refl)
  to_plays (respond_write {es = x} {a = a} {r = r} k) = by_writer x (write_ended ∷ []) a Writer.done Writer.resting r (communication (response Ack)) (to_plays k) refl tt refl refl
  to_plays (invoke_read {es = x} {a = a} {w = w} k) = by_reader x (read_began ∷ []) a w Reader.resting Reader.invoked (communication (invocation Read)) (to_plays k) refl tt refl refl
  to_plays (do_read {es = x} {a = a} {w = w} k) = rw append-nil at (by_reader x [] a w Reader.invoked (got a) (operation (record { u = Read; w = a; r = value a })) (to_plays k) refl refl refl refl)
  to_plays (respond_read {es = x} {a = a} {v = v} {w = w} k) = by_reader x (read_ended v ∷ []) a w (got v) Reader.resting (communication (response (value v))) (to_plays k) refl tt refl refl

  -- THE AUTOMATON AND DOCUMENT 000 agree.
  pub played_iff_legal : (es : List (Event Val)) → Played v₀ es ↔ LegalLog v₀ es
  played_iff_legal es = (
    λ E. let M = to_plays E.play in (legal_iff_playable ℕ_discrete transition v₀ (execution es)).1 (record { history = M.history; plays = M.plays; fits = M.fits }),
    λ L. let P = (legal_iff_playable ℕ_discrete transition v₀ (execution es)).0 L in
        from_plays P.history (λ p. resting) v₀ [] es P.plays
        (record { w = Writer.resting; r = Reader.resting; play = nothing; stand = record { writer = refl; reader = refl; other = λ q a b. refl } }) P.fits,
  )
