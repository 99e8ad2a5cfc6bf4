-- "A refused move hands back the state it was given", with place 0; and every answer's place is 0.
-- Assumes nothing.
use mathlib.Core.Path.{◌≡◌, refl}
use Prim.Native.Nat.{ℕ}
use lib.Dec.{eqb}
use Rattle.terms.proofs.Tests.{if_case}
use Rattle.register.specs.declared.State.{State}
use Rattle.register.specs.declared.Move.{Move}
use Rattle.register.specs.declared.Move.TheVariants.{WriterStart, WriterStep, WriterFlicker, ReaderStep, ReaderFlicker}
use Rattle.register.specs.Move.{Moved, good, refused, step_of, answer_to, start_rows, writer_rows, writer_flicker_rows, reader_rows, reader_flicker_rows}
use Rattle.register.proofs.Cases.{rows_case, answer_case, ◌⨾◌}

module _ (s : State) where
  -- of an answer: good, or the state given
  pub record HandsBack (a : Moved) : Type 0 where
    pub state : (a.number ≡ 0 → ⊥) → a.state ≡ s
    pub place : a.place ≡ 0

  is_good : (t : State) → HandsBack (good t)
  is_good t = record { state = λ h. absurd (h refl); place = refl }

  is_refused : (n : ℕ) → HandsBack (refused n s)
  is_refused n = record { state = λ h. refl; place = refl }

  step_hands_back : (m : Move) → HandsBack (step_of m s)
  step_hands_back (WriterStart v) =
      rows_case HandsBack s.q (start_rows v s) s
      ((λ e. if_case HandsBack (eqb s.numberw 65535) (λ t. is_refused _) (λ t. is_good _)) ⨾ tt)
      (is_refused _)
  step_hands_back WriterStep =
      rows_case HandsBack s.q (writer_rows s) s
      ((λ e. is_good _) ⨾ (λ e. is_good _) ⨾ (λ e. is_good _) ⨾ (λ e. is_good _) ⨾ (λ e. is_good _) ⨾ (λ e. is_good _) ⨾ (λ e. is_good _) ⨾ tt)
      (is_refused _)
  step_hands_back (WriterFlicker b) =
      rows_case HandsBack s.q (writer_flicker_rows b s) s ((λ e. is_good _) ⨾ (λ e. is_good _) ⨾ (λ e. is_good _) ⨾ tt)
      (is_refused _)
  step_hands_back ReaderStep =
      rows_case HandsBack s.r (reader_rows s) s
      ((λ e. is_good _) ⨾ (λ e. is_good _) ⨾ (λ e. is_good _) ⨾ (λ e. is_good _) ⨾ (λ e. is_good _) ⨾ tt)
      (is_refused _)
  step_hands_back (ReaderFlicker b) =
      rows_case HandsBack s.r (reader_flicker_rows b s) s ((λ e. is_good _) ⨾ tt) (is_refused _)

  pub hands_back : (m : Move) → HandsBack (answer_to s m)
  hands_back m = answer_case HandsBack s m is_refused (λ r b k. step_hands_back m)
