-- A SINGLE MOVE, ROW BY ROW: the number that a move is answered is n exactly when the row of n holds, and every number is one of 9, 10, 6,
-- 12 and 0. Assumes nothing.
use Prim.Native.Nat.{ℕ, ◌≤◌, ◌<◌}
use mathlib.Core.List.{List, [], ◌∷◌}
use mathlib.Core.Path.{◌≡◌, refl, sym, ◌∙◌}
use mathlib.Core.Logic.{◌⊎◌, ◌≢◌, ◌↔◌, inl, inr}
use mathlib.Core.Bool.{not, ◌&&◌, false≢true}
use native.Mathlib.Omega.{arith}
use lib.Dec.{eqb, leb}
use borrow.Author.Tests.{eqb-true, eqb-false, not-true, not-false}
use Rattle.terms.specs.Refusals.{good_number, misfit, out_of_range, clash, number_spent}
use Rattle.register.specs.declared.State.{State}
use Rattle.register.specs.declared.Move.{Move}
use Rattle.register.specs.declared.Move.TheVariants.{WriterStart, WriterStep, WriterFlicker, ReaderStep, ReaderFlicker}
use Rattle.register.specs.Move.{Moved, Row, refused, step_of, answer_to, is_in_range, is_a_clash, bit_carried, start_rows, writer_rows, writer_flicker_rows, reader_rows, reader_flicker_rows, answer_at}
use Rattle.terms.proofs.Tests.{if_case}
use Rattle.register.proofs.Cases.{Rows, ◌⨾◌}
use Rattle.refusal_rows.specs.MoveRows.{OutOfRange, q_below, q_above, r_below, r_above, Clash, Misfit, NumberSpent, MoveRow, row_9, row_10, row_6, row_12, no_row}
use Rattle.refusal_rows.proofs.MoveTests.{out_of_range_of, in_range_else, clash_of, clash_test}

module _ (s : State) (m : Move) where
  -- Rows exclude each other.
  pub move_row_unique : (n n' : ℕ) → MoveRow s m n → MoveRow s m n' → n ≡ n'
  move_row_unique n n' (row_9 e h) (row_9 e' h') = omega arith
  move_row_unique n n' (row_9 e h) (row_10 e' a h') = absurd (a h)
  move_row_unique n n' (row_9 e h) (row_6 e' a b h') = absurd (a h)
  move_row_unique n n' (row_9 e h) (row_12 e' a b c h') = absurd (a h)
  move_row_unique n n' (row_9 e h) (no_row e' a b c d) = absurd (a h)
  move_row_unique n n' (row_10 e a h) (row_9 e' h') = absurd (a h')
  move_row_unique n n' (row_10 e a h) (row_10 e' a' h') = omega arith
  move_row_unique n n' (row_10 e a h) (row_6 e' a' b' h') = absurd (b' h)
  move_row_unique n n' (row_10 e a h) (row_12 e' a' b' c' h') = absurd (b' h)
  move_row_unique n n' (row_10 e a h) (no_row e' a' b' c' d') = absurd (b' h)
  move_row_unique n n' (row_6 e a b h) (row_9 e' h') = absurd (a h')
  move_row_unique n n' (row_6 e a b h) (row_10 e' a' h') = absurd (b h')
  move_row_unique n n' (row_6 e a b h) (row_6 e' a' b' h') = omega arith
  move_row_unique n n' (row_6 e a b h) (row_12 e' a' b' c' h') = absurd (c' h)
  move_row_unique n n' (row_6 e a b h) (no_row e' a' b' c' d') = absurd (c' h)
  move_row_unique n n' (row_12 e a b c h) (row_9 e' h') = absurd (a h')
  move_row_unique n n' (row_12 e a b c h) (row_10 e' a' h') = absurd (b h')
  move_row_unique n n' (row_12 e a b c h) (row_6 e' a' b' h') = absurd (c h')
  move_row_unique n n' (row_12 e a b c h) (row_12 e' a' b' c' h') = omega arith
  move_row_unique n n' (row_12 e a b c h) (no_row e' a' b' c' d') = absurd (d' h)
  move_row_unique n n' (no_row e a b c d) (row_9 e' h') = absurd (a h')
  move_row_unique n n' (no_row e a b c d) (row_10 e' a' h') = absurd (b h')
  move_row_unique n n' (no_row e a b c d) (row_6 e' a' b' h') = absurd (c h')
  move_row_unique n n' (no_row e a b c d) (row_12 e' a' b' c' h') = absurd (d h')
  move_row_unique n n' (no_row e a b c d) (no_row e' a' b' c' d') = omega arith

-- A table of answers, with what is known where no row is for the location.
abbrev Apart : ℕ → List Row → Type 0
Apart l [] = Unit {0}
Apart l (w ∷ ws) = (l ≢ w.location) × Apart l ws

rows_else : (P : Moved → Type 0) (l : ℕ) (ws : List Row) (s : State) → Rows P l ws → (Apart l ws → P (refused misfit s)) → P (answer_at l ws s)
rows_else P l [] s r h = h tt
rows_else P l (w ∷ ws) s r h =
    if_case P (eqb l w.location) (λ e. r.0 (eqb-true l w.location e)) (λ e. rows_else P l ws s r.1 (λ a. h (eqb-false l w.location e, a)))

below_24 : (q : ℕ) → q ≢ 24 → q ≢ 25 → q ≢ 26 → q ≢ 27 → q ≤ 27 → q < 24
below_24 q a b c d h = omega arith

below_21 : (q : ℕ) → q ≢ 21 → q ≢ 22 → q ≢ 23 → q < 24 → 20 ≤ q → q ≡ 20
below_21 q a b c h k = omega arith

outside : (r : ℕ) → r ≢ 40 → r ≢ 41 → r ≢ 42 → r ≢ 43 → r ≢ 44 → 40 ≤ r → r ≤ 44 → ⊥
outside r a b c d e h k = omega arith

module _ (s : State) where
  -- Where 9 does not hold, the locations are in their ranges.
  q_in : (m : Move) → ¬ OutOfRange s m → (20 ≤ s.q) × (s.q ≤ 27)
  q_in m a = let h : ¬ (s.q < 20) = λ h. a (q_below h) in let k : ¬ (27 < s.q) = λ h. a (q_above h) in (omega arith, omega arith)

  r_in : (m : Move) → ¬ OutOfRange s m → (40 ≤ s.r) × (s.r ≤ 44)
  r_in m a = let h : ¬ (s.r < 40) = λ h. a (r_below h) in let k : ¬ (44 < s.r) = λ h. a (r_above h) in (omega arith, omega arith)

  -- Behind 9 and 10 stand 6 and 12.
  step_row : (m : Move) → ¬ OutOfRange s m → ¬ Clash s → MoveRow s m (step_of m s).number
  step_row (WriterStart v) a b =
      rows_else (λ (x : Moved). MoveRow s (WriterStart v) x.number) s.q (start_rows v s) s
      ((λ q. if_case (λ (x : Moved). MoveRow s (WriterStart v) x.number) (eqb s.numberw 65535)
      (λ e. row_12 refl a b (λ h. h q) (q, eqb-true s.numberw 65535 e))
      (λ e. no_row refl a b (λ h. h q) (λ h. eqb-false s.numberw 65535 e h.1))) ⨾ tt)
      (λ p. row_6 refl a b p.0)
  step_row WriterStep a b =
      rows_else (λ (x : Moved). MoveRow s WriterStep x.number) s.q (writer_rows s) s
      (at 21 (omega arith) ⨾ at 22 (omega arith) ⨾ at 23 (omega arith) ⨾ at 24 (omega arith) ⨾ at 25 (omega arith) ⨾ at 26 (omega arith) ⨾ at 27 (omega arith) ⨾ tt)
      (λ p. row_6 refl a b (at_20 p (q_in WriterStep a)))
    where
      at : (l : ℕ) → 20 < l → s.q ≡ l → MoveRow s WriterStep good_number
      at l k e = no_row refl a b (λ h. omega arith) (λ h. h)

      at_20 : Apart s.q (writer_rows s) → (20 ≤ s.q) × (s.q ≤ 27) → s.q ≡ 20
      at_20 p i =
          below_21 s.q p.0 p.1.0 p.1.1.0
          (below_24 s.q p.1.1.1.0 p.1.1.1.1.0 p.1.1.1.1.1.0 p.1.1.1.1.1.1.0 i.1) i.0
  step_row (WriterFlicker c) a b =
      rows_else (λ (x : Moved). MoveRow s (WriterFlicker c) x.number) s.q (writer_flicker_rows c s) s
      ((λ e. no_row refl a b (λ h. h.0 e) (λ h. h)) ⨾ (λ e. no_row refl a b (λ h. h.1 e) (λ h. h)) ⨾ (λ e. no_row refl a b (λ h. h.2 e) (λ h. h)) ⨾ tt)
      (λ p. row_6 refl a b (p.0, p.1.0, p.1.1.0))
  step_row ReaderStep a b =
      rows_else (λ (x : Moved). MoveRow s ReaderStep x.number) s.r (reader_rows s) s
      (fits ⨾ fits ⨾ fits ⨾ fits ⨾ fits ⨾ tt)
      (λ p. absurd (nowhere p (r_in ReaderStep a)))
    where
      fits : {l : ℕ} → s.r ≡ l → MoveRow s ReaderStep good_number
      fits e = no_row refl a b (λ h. h) (λ h. h)

      nowhere : Apart s.r (reader_rows s) → (40 ≤ s.r) × (s.r ≤ 44) → ⊥
      nowhere p i = outside s.r p.0 p.1.0 p.1.1.0 p.1.1.1.0 p.1.1.1.1.0 i.0 i.1
  step_row (ReaderFlicker c) a b =
      rows_else (λ (x : Moved). MoveRow s (ReaderFlicker c) x.number) s.r (reader_flicker_rows c s) s
      ((λ e. no_row refl a b (λ h. h e) (λ h. h)) ⨾ tt)
      (λ p. row_6 refl a b p.0)

  -- The row of the answer's number holds.
  pub move_row : (m : Move) → MoveRow s m (answer_to s m).number
  unfolding answer_to
  move_row m =
      if_case (λ (x : Moved). MoveRow s m x.number) (not (is_in_range s && leb (bit_carried m) 1))
      (λ e. row_9 refl (out_of_range_of s m (not-true _ e)))
      (λ e. let a = in_range_else s m (not-false _ e) in
      if_case (λ (x : Moved). MoveRow s m x.number) (is_a_clash s)
      (λ k. row_10 refl a (clash_of s k))
      (λ k. step_row m a (λ h. false≢true (sym k ∙ clash_test s h))))

-- THE THEOREM, for every number; then for each of the table's.
module _ (s : State) (m : Move) where
  pub move_number : (n : ℕ) → ((answer_to s m).number ≡ n) ↔ MoveRow s m n
  move_number n = (λ e. rw e at (move_row s m), λ h. move_row_unique s m (answer_to s m).number n (move_row s m) h)

  pub move_9 : ((answer_to s m).number ≡ out_of_range) ↔ OutOfRange s m
  move_9 = (λ e. told ((move_number out_of_range).0 e), λ h. (move_number out_of_range).1 (row_9 refl h))
    where
      told : MoveRow s m out_of_range → OutOfRange s m
      told (row_9 e h) = h
      told (row_10 e a h) = absurd (omega arith)
      told (row_6 e a b h) = absurd (omega arith)
      told (row_12 e a b c h) = absurd (omega arith)
      told (no_row e a b c d) = absurd (omega arith)

  pub move_10 : ((answer_to s m).number ≡ clash) ↔ (¬ OutOfRange s m × Clash s)
  move_10 = (λ e. told ((move_number clash).0 e), λ h. (move_number clash).1 (row_10 refl h.0 h.1))
    where
      told : MoveRow s m clash → ¬ OutOfRange s m × Clash s
      told (row_9 e h) = absurd (omega arith)
      told (row_10 e a h) = (a, h)
      told (row_6 e a b h) = absurd (omega arith)
      told (row_12 e a b c h) = absurd (omega arith)
      told (no_row e a b c d) = absurd (omega arith)

  pub move_6 : ((answer_to s m).number ≡ misfit) ↔ (¬ OutOfRange s m × ¬ Clash s × Misfit s m)
  move_6 = (λ e. told ((move_number misfit).0 e), λ h. (move_number misfit).1 (row_6 refl h.0 h.1 h.2))
    where
      told : MoveRow s m misfit → ¬ OutOfRange s m × ¬ Clash s × Misfit s m
      told (row_9 e h) = absurd (omega arith)
      told (row_10 e a h) = absurd (omega arith)
      told (row_6 e a b h) = (a, b, h)
      told (row_12 e a b c h) = absurd (omega arith)
      told (no_row e a b c d) = absurd (omega arith)

  pub move_12 : ((answer_to s m).number ≡ number_spent) ↔ (¬ OutOfRange s m × ¬ Clash s × ¬ Misfit s m × NumberSpent s m)
  move_12 = (λ e. told ((move_number number_spent).0 e), λ h. (move_number number_spent).1 (row_12 refl h.0 h.1 h.2 h.3))
    where
      told : MoveRow s m number_spent → ¬ OutOfRange s m × ¬ Clash s × ¬ Misfit s m × NumberSpent s m
      told (row_9 e h) = absurd (omega arith)
      told (row_10 e a h) = absurd (omega arith)
      told (row_6 e a b h) = absurd (omega arith)
      told (row_12 e a b c h) = (a, b, c, h)
      told (no_row e a b c d) = absurd (omega arith)

  pub move_0 : ((answer_to s m).number ≡ good_number) ↔ (¬ OutOfRange s m × ¬ Clash s × ¬ Misfit s m × ¬ NumberSpent s m)
  move_0 = (λ e. told ((move_number good_number).0 e), λ h. (move_number good_number).1 (no_row refl h.0 h.1 h.2 h.3))
    where
      told : MoveRow s m good_number → ¬ OutOfRange s m × ¬ Clash s × ¬ Misfit s m × ¬ NumberSpent s m
      told (row_9 e h) = absurd (omega arith)
      told (row_10 e a h) = absurd (omega arith)
      told (row_6 e a b h) = absurd (omega arith)
      told (row_12 e a b c h) = absurd (omega arith)
      told (no_row e a b c d) = (a, b, c, d)

  -- "9, 10, 6, 12", or 0: no other number is ever answered.
  pub move_numbers : ((answer_to s m).number ≡ out_of_range) ⊎ ((answer_to s m).number ≡ clash) ⊎ ((answer_to s m).number ≡ misfit) ⊎ ((answer_to s m).number ≡ number_spent) ⊎ ((answer_to s m).number ≡ good_number)
  move_numbers = on (move_row s m)
    where
      on : {n : ℕ} → MoveRow s m n → (n ≡ out_of_range) ⊎ (n ≡ clash) ⊎ (n ≡ misfit) ⊎ (n ≡ number_spent) ⊎ (n ≡ good_number)
      on (row_9 e h) = inl e
      on (row_10 e a h) = inr (inl e)
      on (row_6 e a b h) = inr (inr (inl e))
      on (row_12 e a b c h) = inr (inr (inr (inl e)))
      on (no_row e a b c d) = inr (inr (inr (inr e)))
