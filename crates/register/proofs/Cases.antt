-- How to show something of every answer: by the rows of the tables, and by the tests before them. And what a good answer tells.
-- Assumes nothing.
use mathlib.Core.Path.{◌≡◌, refl}
use mathlib.Core.List.{List, [], ◌∷◌}
use mathlib.Core.Bool.{Bool, true, false, not, ◌&&◌}
use Prim.Native.Nat.{ℕ, ◌≤◌}
use native.Mathlib.Omega.{arith}
use lib.Dec.{eqb, leb}
use borrow.Author.Tests.{eqb-true, leb-true, not-false}
use Rattle.std.specs.Prelude.{if◌then◌else◌}
use Rattle.terms.specs.Refusals.{misfit, out_of_range, clash}
use Rattle.terms.proofs.Tests.{both, if_case}
use Rattle.register.specs.declared.State.{State}
use Rattle.register.specs.declared.Move.{Move}
use Rattle.register.specs.Move.{Moved, Row, answer_at, refused, step_of, answer_to, is_in_range, is_a_clash, bit_carried}

-- a fact of a row, and those of the rows after it
infixr 8 ◌⨾◌
abbrev pub ◌⨾◌ : {A B : Type 0} → A → B → A × B
a ⨾ b = (a, b)

-- P holds of each row's answer, at its own location
abbrev pub Rows : (Moved → Type 0) → ℕ → List Row → Type 0
Rows P l [] = Unit
Rows P l (w ∷ ws) = (l ≡ w.location → P w.answer) × Rows P l ws

pub rows_case : (P : Moved → Type 0) (l : ℕ) (ws : List Row) (s : State) → Rows P l ws → P (refused misfit s) → P (answer_at l ws s)
rows_case P l [] s r h = h
rows_case P l (w ∷ ws) s r h = if_case P (eqb l w.location) (λ e. r.0 (eqb-true l w.location e)) (λ e. rows_case P l ws s r.1 h)

-- P holds of every refusal, and of the step where the state and the move's bit are in range and the state is no clash
pub answer_case : (P : Moved → Type 0) (s : State) (m : Move) → ((n : ℕ) → P (refused n s))
    → (is_in_range s ≡ true → bit_carried m ≤ 1 → is_a_clash s ≡ false → P (step_of m s)) → P (answer_to s m)
unfolding answer_to
answer_case P s m r f =
    if_case P (not (is_in_range s && leb (bit_carried m) 1)) (λ e. r out_of_range) (λ e.
    let t = both (is_in_range s) (leb (bit_carried m) 1) (not-false _ e) in
    if_case P (is_a_clash s) (λ k. r clash) (λ k. f t.0 (leb-true (bit_carried m) 1 t.1) k))

-- A move that is not refused: the state and the bit are in range, there is no clash, and the answer is the step's.
pub record Accepted (s : State) (m : Move) : Type 0 where
  pub in_range : is_in_range s ≡ true
  pub bit : bit_carried m ≤ 1
  pub no_clash : is_a_clash s ≡ false
  pub is_step : answer_to s m ≡ step_of m s

pub accepted : (s : State) (m : Move) → (answer_to s m).number ≡ 0 → Accepted s m
unfolding answer_to
accepted s m h =
    on (is_in_range s && leb (bit_carried m) 1) refl (is_a_clash s) refl h
  where
    on : (a : Bool) → (is_in_range s && leb (bit_carried m) 1) ≡ a → (b : Bool) → is_a_clash s ≡ b
        → (if not a then refused out_of_range s else if b then refused clash s else step_of m s).number ≡ 0 → Accepted s m
    on true p true q e = absurd (omega arith)
    on false p b q e = absurd (omega arith)
    on true p false q e =
        let t = both (is_in_range s) (leb (bit_carried m) 1) p in
        record { in_range = t.0; bit = leb-true (bit_carried m) 1 t.1; no_clash = q; is_step = rw (p, q) }
