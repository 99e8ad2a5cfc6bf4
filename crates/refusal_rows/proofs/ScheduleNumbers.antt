-- A SCHEDULE, NUMBER BY NUMBER: the run is refused with each number of document 01's table exactly when that number's row holds, and with no
-- other number; and so it is in the run's answer. Assumes nothing.
use Prim.Native.Nat.{ℕ, ◌≤◌}
use mathlib.Core.Path.{◌≡◌, refl, sym}
use mathlib.Core.Logic.{◌≢◌, ◌↔◌}
use mathlib.Core.List.{List}
use native.Mathlib.Omega.{arith}
use Rattle.terms.specs.Refusals.{good_number, cut, foreign_tag, wrong_length, not_first, no_bit, misfit, too_long, no_room}
use Rattle.fields.specs.declared.Kind.TheVariants.{Schedule}
use Rattle.fields.specs.Walk.{Walked, ended, refused}
use Rattle.replay.specs.Run.{start, step, run_of, answer_of}
use Rattle.refusal_rows.specs.FileRows.{Row1, Row2, Row3, Row4, Row5, Row7, FileRow, row_1, row_2, row_3, row_4, row_5, row_7}
use Rattle.refusal_rows.specs.ScheduleRows.{Row6, Row8, ScheduleRow, shared, row_6, row_8}
use Rattle.refusal_rows.proofs.FileNumbers.{only_1, only_2, only_3, only_4, only_5, only_7, only_these}
use Rattle.refusal_rows.proofs.ScheduleRows.{schedule_row_of, schedule_good}

module _ (file : List ℕ) (room : ℕ) where
  -- A number that is neither 6 nor 8.
  shared_number : (k p : ℕ) (R : Type 0) → k ≢ misfit → k ≢ no_room → (FileRow step Schedule file start k p → R) → (R → FileRow step Schedule file start k p)
      → (run_of file room ≡ refused k p) ↔ R
  shared_number k p R six eight f g = (λ e. told ((schedule_row_of file room k p).0 e), λ h. (schedule_row_of file room k p).1 (shared (g h)))
    where
      told : ScheduleRow file room k p → R
      told (shared h) = f h
      told (row_6 e h) = absurd (six e)
      told (row_8 e h) = absurd (eight e)

  module _ (p : ℕ) where
    pub schedule_1 : (run_of file room ≡ refused cut p) ↔ Row1 step Schedule file start p
    schedule_1 = shared_number cut p (Row1 step Schedule file start p) (λ e. omega arith) (λ e. omega arith) (λ h. only_1 step Schedule file start cut p h refl) (row_1 refl)

    pub schedule_2 : (run_of file room ≡ refused foreign_tag p) ↔ Row2 step Schedule file start p
    schedule_2 =
        shared_number foreign_tag p (Row2 step Schedule file start p) (λ e. omega arith) (λ e. omega arith) (λ h. only_2 step Schedule file start foreign_tag p h refl) (row_2 refl)

    pub schedule_3 : (run_of file room ≡ refused wrong_length p) ↔ Row3 step Schedule file start p
    schedule_3 =
        shared_number wrong_length p (Row3 step Schedule file start p) (λ e. omega arith) (λ e. omega arith) (λ h. only_3 step Schedule file start wrong_length p h refl) (row_3 refl)

    pub schedule_4 : (run_of file room ≡ refused not_first p) ↔ Row4 step Schedule file start p
    schedule_4 =
        shared_number not_first p (Row4 step Schedule file start p) (λ e. omega arith) (λ e. omega arith) (λ h. only_4 step Schedule file start not_first p h refl) (row_4 refl)

    pub schedule_5 : (run_of file room ≡ refused no_bit p) ↔ Row5 step Schedule file start p
    schedule_5 = shared_number no_bit p (Row5 step Schedule file start p) (λ e. omega arith) (λ e. omega arith) (λ h. only_5 step Schedule file start no_bit p h refl) (row_5 refl)

    pub schedule_6 : (run_of file room ≡ refused misfit p) ↔ Row6 file p
    schedule_6 = (λ e. told ((schedule_row_of file room misfit p).0 e), λ h. (schedule_row_of file room misfit p).1 (row_6 refl h))
      where
        told : ScheduleRow file room misfit p → Row6 file p
        told (shared h) = absurd ((only_these step Schedule file start misfit p h).2 refl)
        told (row_6 e h) = h
        told (row_8 e h) = absurd (omega arith)

    pub schedule_7 : (run_of file room ≡ refused too_long p) ↔ Row7 step Schedule file start p
    schedule_7 = shared_number too_long p (Row7 step Schedule file start p) (λ e. omega arith) (λ e. omega arith) (λ h. only_7 step Schedule file start too_long p h refl) (row_7 refl)

    pub schedule_8 : (run_of file room ≡ refused no_room p) ↔ Row8 file room p
    schedule_8 = (λ e. told ((schedule_row_of file room no_room p).0 e), λ h. (schedule_row_of file room no_room p).1 (row_8 refl h))
      where
        told : ScheduleRow file room no_room p → Row8 file room p
        told (shared h) = absurd (omega (arith, (only_these step Schedule file start no_room p h).1))
        told (row_6 e h) = absurd (omega arith)
        told (row_8 e h) = h

    -- No other number: 1 to 8, so never 9, 10, 11 or 12.
    numbers : (n : ℕ) → ScheduleRow file room n p → (1 ≤ n) × (n ≤ 8)
    numbers n (shared h) = let k = only_these step Schedule file start n p h in (omega arith, omega arith)
    numbers n (row_6 e h) = (omega arith, omega arith)
    numbers n (row_8 e h) = (omega arith, omega arith)

    pub schedule_numbers : (n : ℕ) → run_of file room ≡ refused n p → (1 ≤ n) × (n ≤ 8)
    schedule_numbers n e = numbers n ((schedule_row_of file room n p).0 e)

  -- The same of the run's answer: its number and place are n and p, n not 0, exactly when the row of n holds at p; and 0 when no row holds.
  answered : (w : Walked (List ℕ)) (n p : ℕ) → n ≢ good_number → (((answer_of w).number ≡ n) × ((answer_of w).place ≡ p)) ↔ (w ≡ refused n p)
  answered (ended log) n p z = (λ h. absurd (z (sym h.0)), λ e. let i : ◌≡◌ {A = ℕ} 0 1 = cc in absurd (omega arith))
  answered (refused m q) n p z = (λ (i, j). rw (i, j), λ e. (cc, cc))

  pub schedule_answer : (n p : ℕ) → n ≢ good_number
      → (((answer_of (run_of file room)).number ≡ n) × ((answer_of (run_of file room)).place ≡ p)) ↔ ScheduleRow file room n p
  schedule_answer n p z =
      (λ h. (schedule_row_of file room n p).0 ((answered (run_of file room) n p z).0 h), λ h. (answered (run_of file room) n p z).1 ((schedule_row_of file room n p).1 h))

  pub schedule_answer_0 : ((answer_of (run_of file room)).number ≡ good_number) ↔ ((n p : ℕ) → ¬ ScheduleRow file room n p)
  schedule_answer_0 = (λ h. (schedule_good file room).0 (is_good (run_of file room) refl h), λ h. zero_number ((schedule_good file room).1 h))
    where
      is_good : (w : Walked (List ℕ)) → run_of file room ≡ w → (answer_of (run_of file room)).number ≡ good_number → (log : List ℕ) × (run_of file room ≡ ended log)
      is_good (ended log) e h = (log, e)
      is_good (refused n p) e h = let k : (answer_of (refused n p)).number ≡ good_number = rw e at h in absurd (omega (arith, schedule_numbers p n e))

      zero_number : (log : List ℕ) × (run_of file room ≡ ended log) → (answer_of (run_of file room)).number ≡ good_number
      zero_number (log, e) = rw e
