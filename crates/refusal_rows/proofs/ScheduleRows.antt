-- A SCHEDULE, ROW BY ROW: the run is refused with a number and a place exactly when the row of that number holds at that place. Assumes nothing.
use Prim.Native.Nat.{ℕ, ◌<◌}
use mathlib.Core.Path.{◌≡◌, refl, sym, ap, ◌∙◌}
use mathlib.Core.Logic.{◌≢◌, ◌↔◌}
use mathlib.Core.Bool.{Bool, true, false}
use mathlib.Core.List.{List}
use native.Mathlib.Omega.{arith}
use lib.Dec.{eqb, ltb}
use lib.ListN.{length}
use borrow.Author.Tests.{eqb-false, ne_eqb, ltb-true, lt-ltb}
use Rattle.std.specs.Prelude.{if◌then◌else◌}
use Rattle.terms.specs.Refusals.{good_number, misfit, no_room}
use Rattle.fields.specs.declared.Kind.TheVariants.{Schedule}
use Rattle.fields.specs.Walk.{ended, refused, Checked, on, no}
use Rattle.register.specs.declared.Move.{Move}
use Rattle.register.specs.Move.{Moved, answer_to}
use Rattle.replay.specs.Run.{Run, start, step, move_of, after_move, advanced, finished, run_of, log_of}
use Rattle.refusal_rows.specs.MoveRows.{MoveRow}
use Rattle.refusal_rows.specs.Bytes.{tag_byte, field_at}
use Rattle.refusal_rows.specs.Reached.{Later}
use Rattle.refusal_rows.specs.FileRows.{OwnRow, Row, of_file, of_check, of_end}
use Rattle.refusal_rows.specs.ScheduleRows.{MisfitTag, ScheduleReached, Row6, ScheduleRow, shared, row_6, row_8}
use Rattle.refusal_rows.proofs.MoveRows.{move_number}
use Rattle.refusal_rows.proofs.FileRows.{row_of, no_row_of}
use Rattle.refusal_rows.proofs.ScheduleMoves.{later_moves, later_bit, misfit_tag, tag_misfit}
use Rattle.refusal_rows.proofs.ScheduleRuns.{reached_ran, reached_number, only_misfit, misfit_row}

-- The run's own check refuses a field with the number that its move is answered.
check_refuses : (run : Run) (m : Move) (n : ℕ) (a : Moved) → (after_move run m a ≡ no n) ↔ ((a.number ≡ n) × (n ≢ good_number))
check_refuses run m n a = (choose (eqb a.number good_number) refl, back)
  where
    choose : (b : Bool) → eqb a.number good_number ≡ b → (if b then on (advanced run m a.state) else no a.number) ≡ no n → (a.number ≡ n) × (n ≢ good_number)
    choose true p e = let z : ◌≡◌ {A = ℕ} 0 1 = cc in absurd (omega arith)
    choose false p e = let i : a.number ≡ n = cc in (i, λ k. eqb-false a.number good_number p (i ∙ k))

    back : (a.number ≡ n) × (n ≢ good_number) → after_move run m a ≡ no n
    back (i, z) = rw (ne_eqb a.number good_number (λ k. z (sym i ∙ k))) (ap no i)

-- The row of the own check, in a move's words: the field's move has the row n of a single move at the state there.
pub schedule_own : (file : List ℕ) (n p : ℕ)
    → OwnRow step Schedule file start n p ↔ ((run : Run) × ScheduleReached file p run × Later Schedule file p × MoveRow run.state (move_of (field_at file p)) n × (n ≢ good_number))
schedule_own file n p = (
  λ (run, r, l, e). let (i, z) = (check_refuses run (move_of (field_at file p)) n (answer_to run.state (move_of (field_at file p)))).0 e in
      (run, r, l, (move_number run.state (move_of (field_at file p)) n).0 i, z),
  λ (run, r, l, h, z). (run, r, l, (check_refuses run (move_of (field_at file p)) n (answer_to run.state (move_of (field_at file p)))).1 ((move_number run.state (move_of (field_at file p)) n).1 h, z)),
)

-- And that is 6 alone, in the words of the tag and the locations.
module _ (file : List ℕ) (p : ℕ) (run : Run) (r : ScheduleReached file p run) (l : Later Schedule file p) where
  refuses_6 : (n : ℕ) → step run (field_at file p) ≡ no n → (n ≡ misfit) × MisfitTag run.state (tag_byte file p)
  refuses_6 n e =
      let i = reached_ran file r in
      let m = move_of (field_at file p) in
      let (q, z) = (check_refuses run m n (answer_to run.state m)).0 e in
      let (j, k) = only_misfit run.initial i.moves run.state i.ran (reached_number file p run r) m (later_bit file p l) n ((move_number run.state m n).0 q) z in
      (j, misfit_tag run.state (field_at file p) (later_moves file p l) k)

  six_refuses : MisfitTag run.state (tag_byte file p) → step run (field_at file p) ≡ no misfit
  six_refuses h =
      let i = reached_ran file r in
      let m = move_of (field_at file p) in
      let k = tag_misfit run.state (field_at file p) (later_moves file p l) h in
      let w = misfit_row run.initial i.moves run.state i.ran m (later_bit file p l) k in
      (check_refuses run m misfit (answer_to run.state m)).1 ((move_number run.state m misfit).1 w, λ z. omega arith)

  -- A field goes on exactly where 6 does not hold.
  pub schedule_on : ((next : Run) × (step run (field_at file p) ≡ on next)) ↔ ¬ MisfitTag run.state (tag_byte file p)
  schedule_on = (one_way, other (step run (field_at file p)) refl)
    where
      one_way : (next : Run) × (step run (field_at file p) ≡ on next) → ¬ MisfitTag run.state (tag_byte file p)
      one_way (next, e) o =
          let q = six_refuses o in
          let z : ◌≡◌ {A = ℕ} 0 1 = cc in
          omega arith

      other : (c : Checked Run) → step run (field_at file p) ≡ c → ¬ MisfitTag run.state (tag_byte file p)
          → (next : Run) × (step run (field_at file p) ≡ on next)
      other (on next) e o = (next, e)
      other (no n) e o = absurd (o (refuses_6 n e).1)

pub schedule_own_6 : (file : List ℕ) (n p : ℕ) → OwnRow step Schedule file start n p ↔ ((n ≡ misfit) × Row6 file p)
schedule_own_6 file n p = (
  λ (run, r, l, e). let (i, k) = refuses_6 file p run r l n e in (i, record { run = run; reached = r; later = l; misfits = k }),
  λ (i, h). (h.run, h.reached, h.later, rw i (six_refuses file p h.run h.reached h.later h.misfits)),
)

-- 8.
end_refuses : (room : ℕ) (run : Run) (n p : ℕ) → (finished room run ≡ refused n p) ↔ ((n ≡ no_room) × (p ≡ 0) × (room < length (log_of run)))
end_refuses room run n p = (choose (ltb room (length (log_of run))) refl, back)
  where
    choose : (b : Bool) → ltb room (length (log_of run)) ≡ b → (if b then refused no_room 0 else ended (log_of run)) ≡ refused n p → (n ≡ no_room) × (p ≡ 0) × (room < length (log_of run))
    choose true q e = (cc, cc, ltb-true room (length (log_of run)) q)
    choose false q e = let z : ◌≡◌ {A = ℕ} 0 1 = cc in absurd (omega arith)

    back : (n ≡ no_room) × (p ≡ 0) × (room < length (log_of run)) → finished room run ≡ refused n p
    back (i, j, h) = rw (lt-ltb room (length (log_of run)) h, i, j)

module _ (file : List ℕ) (room : ℕ) where
  to_schedule : (n p : ℕ) → Row step Schedule file start (finished room) n p → ScheduleRow file room n p
  to_schedule n p (of_file h) = shared h
  to_schedule n p (of_check h) = let (e, k) = (schedule_own_6 file n p).0 h in row_6 e k
  to_schedule n p (of_end (run, r, h)) = let (i, j, k) = (end_refuses room run n p).0 h in row_8 i (record { place = j; run = run; reached = r; short = k })

  from_schedule : (n p : ℕ) → ScheduleRow file room n p → Row step Schedule file start (finished room) n p
  from_schedule n p (shared h) = of_file h
  from_schedule n p (row_6 e h) = of_check ((schedule_own_6 file n p).1 (e, h))
  from_schedule n p (row_8 e h) = of_end (h.run, h.reached, (end_refuses room h.run n p).1 (e, h.place, h.short))

  -- THE THEOREMS.
  pub schedule_row_of : (n p : ℕ) → (run_of file room ≡ refused n p) ↔ ScheduleRow file room n p
  schedule_row_of n p =
      (λ e. to_schedule n p ((row_of step (finished room) Schedule file start n p).0 e), λ h. (row_of step (finished room) Schedule file start n p).1 (from_schedule n p h))

  -- Good exactly when no row holds.
  pub schedule_good : ((log : List ℕ) × (run_of file room ≡ ended log)) ↔ ((n p : ℕ) → ¬ ScheduleRow file room n p)
  schedule_good = (
    λ g n p h. (no_row_of step (finished room) Schedule file start).0 g n p (from_schedule n p h),
    λ h. (no_row_of step (finished room) Schedule file start).1 (λ n p k. h n p (to_schedule n p k)),
  )

  pub schedule_row_unique : (n p n' p' : ℕ) → ScheduleRow file room n p → ScheduleRow file room n' p' → (n ≡ n') × (p ≡ p')
  schedule_row_unique n p n' p' h h' =
      let e : refused n p ≡ refused n' p' = sym ((schedule_row_of n p).1 h) ∙ (schedule_row_of n' p').1 h' in (cc, cc)
