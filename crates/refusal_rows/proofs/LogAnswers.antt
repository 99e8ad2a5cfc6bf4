-- The refusal table of a log, of every answer that the judge's promise allows: a number other than 0, with its place, exactly when its row holds.
-- Assumes nothing.
use Prim.Native.Nat.{ℕ}
use mathlib.Core.Path.{◌≡◌, refl, ap, sym, ◌∙◌}
use mathlib.Core.List.{List}
use mathlib.Core.Logic.{◌↔◌, ◌≢◌}
use native.Mathlib.Omega.{arith}
use Rattle.fields.specs.Walk.{Walked, ended, refused}
use Rattle.fields.specs.Events.{Recorded}
use Rattle.judge.specs.declared.Answer.{Answer}
use Rattle.judge.specs.Promise.{read_log, JudgesRead, Judges}
use Rattle.refusal_rows.specs.LogRows.{LogRow}
use Rattle.refusal_rows.proofs.LogRows.{log_row_of, log_row_unique}

module _ (log : List ℕ) (a : Answer) (j : Judges log a) where
  -- by what the log reads as
  answered : (w : Walked Recorded) → read_log log ≡ w → JudgesRead w a → (n p : ℕ) → n ≢ 0 → ((a.number ≡ n) × (a.place ≡ p)) ↔ LogRow log n p
  answered (ended l) e k n p z = (
    (λ h. absurd (z (sym h.0 ∙ k.number))),
    (λ h. let q : ended l ≡ refused n p = sym e ∙ (log_row_of (λ l. l) log n p).1 h in let i : ◌≡◌ {A = ℕ} 0 1 = cc in absurd (omega arith)),
  )
  answered (refused m q) e k n p z =
      let row = (log_row_of (λ l. l) log m q).0 e in
      let number : a.number ≡ m = ap (λ (x : Answer). x.number) k in
      let place : a.place ≡ q = ap (λ (x : Answer). x.place) k in (
        (λ h. rw (sym number ∙ h.0, sym place ∙ h.1) at row),
        (λ h. let u = log_row_unique log m q n p row h in (number ∙ u.0, place ∙ u.1)),
      )

  pub log_answer : (n p : ℕ) → n ≢ 0 → ((a.number ≡ n) × (a.place ≡ p)) ↔ LogRow log n p
  log_answer = answered (read_log log) refl j
