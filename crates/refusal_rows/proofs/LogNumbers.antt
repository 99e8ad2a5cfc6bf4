-- A LOG, NUMBER BY NUMBER: it is refused with each number of document 01's table exactly when that number's row holds, and with no other number.
-- Assumes nothing.
use Prim.Native.Nat.{ℕ, ◌≤◌}
use mathlib.Core.Path.{◌≡◌, refl}
use mathlib.Core.Logic.{◌⊎◌, ◌≢◌, ◌↔◌, inl, inr}
use mathlib.Core.List.{List}
use native.Mathlib.Omega.{arith}
use Rattle.terms.specs.Refusals.{cut, foreign_tag, wrong_length, not_first, no_bit, too_long, out_of_turn}
use Rattle.fields.specs.declared.Kind.TheVariants.{Log}
use Rattle.fields.specs.Walk.{refused}
use Rattle.fields.specs.Events.{Recorded}
use Rattle.refusal_rows.specs.FileRows.{Row1, Row2, Row3, Row4, Row5, Row7, FileRow, row_1, row_2, row_3, row_4, row_5, row_7}
use Rattle.refusal_rows.specs.LogRows.{log_check, log_start, log_whole, Row11, LogRow, shared, row_11}
use Rattle.refusal_rows.proofs.FileNumbers.{only_1, only_2, only_3, only_4, only_5, only_7, only_these}
use Rattle.refusal_rows.proofs.LogRows.{log_row_of}

module _ {A : Type 0} (answer : Recorded → A) (file : List ℕ) where
  -- A number that is not 11.
  shared_number : (k p : ℕ) (R : Type 0) → k ≢ out_of_turn → (FileRow log_check Log file log_start k p → R) → (R → FileRow log_check Log file log_start k p)
      → (log_whole answer file ≡ refused k p) ↔ R
  shared_number k p R eleven f g = (λ e. told ((log_row_of answer file k p).0 e), λ h. (log_row_of answer file k p).1 (shared (g h)))
    where
      told : LogRow file k p → R
      told (shared h) = f h
      told (row_11 e h) = absurd (eleven e)

  module _ (p : ℕ) where
    pub log_1 : (log_whole answer file ≡ refused cut p) ↔ Row1 log_check Log file log_start p
    log_1 = shared_number cut p (Row1 log_check Log file log_start p) (λ e. omega arith) (λ h. only_1 log_check Log file log_start cut p h refl) (row_1 refl)

    pub log_2 : (log_whole answer file ≡ refused foreign_tag p) ↔ Row2 log_check Log file log_start p
    log_2 =
        shared_number foreign_tag p (Row2 log_check Log file log_start p) (λ e. omega arith) (λ h. only_2 log_check Log file log_start foreign_tag p h refl) (row_2 refl)

    pub log_3 : (log_whole answer file ≡ refused wrong_length p) ↔ Row3 log_check Log file log_start p
    log_3 =
        shared_number wrong_length p (Row3 log_check Log file log_start p) (λ e. omega arith) (λ h. only_3 log_check Log file log_start wrong_length p h refl) (row_3 refl)

    pub log_4 : (log_whole answer file ≡ refused not_first p) ↔ Row4 log_check Log file log_start p
    log_4 =
        shared_number not_first p (Row4 log_check Log file log_start p) (λ e. omega arith) (λ h. only_4 log_check Log file log_start not_first p h refl) (row_4 refl)

    pub log_5 : (log_whole answer file ≡ refused no_bit p) ↔ Row5 log_check Log file log_start p
    log_5 = shared_number no_bit p (Row5 log_check Log file log_start p) (λ e. omega arith) (λ h. only_5 log_check Log file log_start no_bit p h refl) (row_5 refl)

    pub log_7 : (log_whole answer file ≡ refused too_long p) ↔ Row7 log_check Log file log_start p
    log_7 = shared_number too_long p (Row7 log_check Log file log_start p) (λ e. omega arith) (λ h. only_7 log_check Log file log_start too_long p h refl) (row_7 refl)

    pub log_11 : (log_whole answer file ≡ refused out_of_turn p) ↔ Row11 file p
    log_11 = (λ e. told ((log_row_of answer file out_of_turn p).0 e), λ h. (log_row_of answer file out_of_turn p).1 (row_11 refl h))
      where
        told : LogRow file out_of_turn p → Row11 file p
        told (shared h) = absurd (omega (arith, (only_these log_check Log file log_start out_of_turn p h).1))
        told (row_11 e h) = h

    -- No other number: 1 to 5, 7 or 11.
    numbers : (n : ℕ) → LogRow file n p → ((1 ≤ n) × (n ≤ 7) × (n ≢ 6)) ⊎ (n ≡ out_of_turn)
    numbers n (shared h) = inl (only_these log_check Log file log_start n p h)
    numbers n (row_11 e h) = inr e

    pub log_numbers : (n : ℕ) → log_whole answer file ≡ refused n p → ((1 ≤ n) × (n ≤ 7) × (n ≢ 6)) ⊎ (n ≡ out_of_turn)
    log_numbers n e = numbers n ((log_row_of answer file n p).0 e)
