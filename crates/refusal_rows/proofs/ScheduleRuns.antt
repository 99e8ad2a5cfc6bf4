-- A state that a schedule reaches is a run's, with so few writes that its number is below 65,535. So of the refusals of a single move only 6 can
-- occur there. Assumes nothing.
use Prim.Native.Nat.{ℕ, ◌+◌, ◌*◌, ◌≤◌, ◌<◌}
use mathlib.Core.Path.{◌≡◌, refl, sym, ap, ◌∙◌}
use mathlib.Core.Logic.{◌≢◌}
use mathlib.Core.Bool.{Bool, true, false, false≢true}
use mathlib.Core.List.{List, [], ◌∷◌, ◌++◌}
use native.Mathlib.Omega.{arith}
use lib.Dec.{eqb}
use lib.ListN.{length}
use borrow.Author.Tests.{eqb-true, eq-eqb}
use Rattle.std.specs.Prelude.{if◌then◌else◌}
use Rattle.terms.specs.Value.{Value}
use Rattle.terms.specs.Refusals.{good_number, misfit}
use Rattle.fields.specs.Walk.{on, no}
use Rattle.register.specs.declared.State.{State}
use Rattle.register.specs.declared.Move.{Move}
use Rattle.register.specs.declared.Move.TheVariants.{WriterStart, WriterStep, WriterFlicker, ReaderStep, ReaderFlicker}
use Rattle.register.specs.Move.{Moved, good, answer_to, bit_carried}
use Rattle.register.specs.Run as moving
use Rattle.register.specs.Run.{Ran, given}
use Rattle.invariants.proofs.Theorems.{ran_append, ran_in_range, ran_no_clash, ran_held}
use Rattle.replay.specs.Run.{Run, move_of, after_move, advanced}
use Rattle.refusal_rows.specs.MoveRows.{Misfit, MoveRow, row_9, row_10, row_6, row_12, no_row}
use Rattle.refusal_rows.specs.Bytes.{field_at}
use Rattle.refusal_rows.specs.Reached.{behind_head, behind_field}
use Rattle.refusal_rows.specs.ScheduleRows.{ScheduleReached}
use Rattle.refusal_rows.proofs.MoveTests.{never_out, clash_test}
use Rattle.refusal_rows.proofs.ScheduleMoves.{not_spent, seven_bytes}

-- A run's own check that goes on: the move was answered 0, and the run goes on at the next state.
pub record Goes (run : Run) (m : Move) (next : Run) : Type 0 where
  pub answered : (answer_to run.state m).number ≡ good_number
  pub initial_same : next.initial ≡ run.initial
  pub state_next : next.state ≡ (answer_to run.state m).state

pub goes : (run : Run) (m : Move) (next : Run) (a : Moved) → answer_to run.state m ≡ a → after_move run m a ≡ on next → Goes run m next
goes run m next a q e = choose (eqb a.number good_number) refl e
  where
    choose : (b : Bool) → eqb a.number good_number ≡ b → (if b then on (advanced run m a.state) else no a.number) ≡ on next → Goes run m next
    choose true p e =
        let i : advanced run m a.state ≡ next = cc in
        record {
          answered = ap (λ (x : Moved). x.number) q ∙ eqb-true a.number good_number p;
          initial_same = ap (λ (x : Run). x.initial) (sym i);
          state_next = ap (λ (x : Run). x.state) (sym i) ∙ ap (λ (x : Moved). x.state) (sym q);
        }
    choose false p e = let z : ◌≡◌ {A = ℕ} 0 1 = cc in absurd (omega arith)

-- One move more of a run.
pub one_more : (s : State) (m : Move) → (answer_to s m).number ≡ good_number → moving.made s (m ∷ []) ≡ good (answer_to s m).state
one_more s m e = rw (eq-eqb (answer_to s m).number good_number e)

given_more : (ms : List Move) (m : Move) → length (given (ms ++ (m ∷ []))) ≡ length (given ms) + length (given (m ∷ []))
given_more [] m = omega arith
given_more (WriterStart v ∷ ms) m = omega (arith, given_more ms m)
given_more (WriterStep ∷ ms) m = given_more ms m
given_more (WriterFlicker b ∷ ms) m = given_more ms m
given_more (ReaderStep ∷ ms) m = given_more ms m
given_more (ReaderFlicker b ∷ ms) m = given_more ms m

-- The state at a reached offset is a run's, and each of its writes took 7 bytes before the offset; the offset is in the file, within the limit.
pub record RunThere (file : List ℕ) (at : ℕ) (run : Run) : Type 0 where
  pub moves : List Move
  pub ran : Ran run.initial moves run.state
  pub writes : 7 + 7 * length (given moves) ≤ at
  pub inside : at ≤ length file
  pub within : length file ≤ 32768

pub reached_ran : (file : List ℕ) {at : ℕ} {run : Run} → ScheduleReached file at run → RunThere file at run
reached_ran file (behind_head h) = record { moves = []; ran = refl; writes = omega arith; inside = h.long; within = h.within }
reached_ran file (behind_field at run next r l e) =
    let i = reached_ran file r in
    let m = move_of (field_at file at) in
    let g = goes run m next (answer_to run.state m) refl e in
    record {
      moves = i.moves ++ (m ∷ []);
      ran = rw (g.initial_same, g.state_next) (ran_append run.initial i.moves (m ∷ []) run.state (answer_to run.state m).state i.ran (one_more run.state m g.answered));
      writes = omega (arith, i.writes, given_more i.moves m, seven_bytes file at l);
      inside = l.field.inside;
      within = i.within;
    }

-- Of the refusals of a single move only 6 can occur in a run whose number is below 65,535, for a move whose bit is 0 or 1.
pub only_misfit : (v : Value) (ms : List Move) (s : State) → Ran v ms s → s.numberw < 65535 → (m : Move) → bit_carried m ≤ 1
    → (n : ℕ) → MoveRow s m n → n ≢ good_number → (n ≡ misfit) × Misfit s m
only_misfit v ms s r k m b n (row_9 e h) z = absurd (never_out s m (ran_in_range v ms s r) b h)
only_misfit v ms s r k m b n (row_10 e a h) z = absurd (false≢true (sym (ran_no_clash v ms s r) ∙ clash_test s h))
only_misfit v ms s r k m b n (row_6 e a c h) z = (e, h)
only_misfit v ms s r k m b n (row_12 e a c d h) z = absurd (not_spent s m k h)
only_misfit v ms s r k m b n (no_row e a c d f) z = absurd (z e)

-- And 6 does, for a move that doesn't fit.
pub misfit_row : (v : Value) (ms : List Move) (s : State) → Ran v ms s → (m : Move) → bit_carried m ≤ 1 → Misfit s m → MoveRow s m misfit
misfit_row v ms s r m b h =
    row_6 refl (never_out s m (ran_in_range v ms s r) b) (λ k. false≢true (sym (ran_no_clash v ms s r) ∙ clash_test s k)) h

-- The number at a reached offset: the count of the values that the run has, the initial one with them.
pub reached_number : (file : List ℕ) (at : ℕ) (run : Run) → ScheduleReached file at run → run.state.numberw < 65535
reached_number file at run r =
    let i = reached_ran file r in
    let h = (ran_held run.initial i.moves run.state i.ran).count in
    omega (arith, i.writes, i.inside, i.within)
