-- Well-formed logs are document 000's well-formed executions. Assumes nothing.
use Prim.Native.Nat.{ℕ, zero, suc}
use mathlib.Core.Path.{◌≡◌, refl, ap, ◌∙◌}
use mathlib.Core.List.{List, [], ◌∷◌, ◌++◌}
use mathlib.Core.Bool.{Bool, true, false, not}
use mathlib.Core.Logic.{◌↔◌, if_neg}
use native.Mathlib.Omega.{arith}
use native.Mathlib.Decide.{ℕ_discrete}
use Rattle.history.specs.Events.{Event, write_began, write_ended, read_began, read_ended}
use Rattle.history.specs.Operations.{WellFormed, write_open, read_open}
use Rattle.history.specs.Document000.{Alternates, local, WellFormedExecution}
use Rattle.history.specs.Execution.{execution}
use Rattle.history.proofs.EventKinds.{false_not_true}
use Rattle.history.proofs.Turns.{all_in_turn, all_in_turn_holds, well_formed_nil, well_formed_snoc, well_formed_all, write_open_began, write_open_ended, read_open_began, read_open_ended, write_open_same, read_open_same}

never : {A B : Type 0} → ¬ A → ¬ B → A ↔ B
never a b = (λ x. absurd (a x), λ x. absurd (b x))

module _ {Val : Type 0} where
  -- After x, where a write is open or not, and a read: the rest is in turn if each port's part alternates.
  Both : Bool → Bool → List (Event Val) → Type 0
  Both w r es = Alternates w (local ℕ_discrete 0 (execution es)) × Alternates r (local ℕ_discrete 1 (execution es))

  turns : (es x : List (Event Val)) (w r : Bool) → WellFormed x → write_open x ≡ w → read_open x ≡ r → (all_in_turn x es ≡ true) ↔ Both w r es
  unfolding Both local execution ℕ_discrete
  turns [] x w r wf p q = (λ h. (tt, tt), λ h. refl)
  turns (write_began v ∷ es) x false r wf p q = rw p
      (turns es (x ++ (write_began v ∷ [])) true r (well_formed_snoc x (write_began v) wf (ap not p)) (write_open_began x wf v) (read_open_same x (write_began v) refl refl ∙ q))
  turns (write_began v ∷ es) x true r wf p q = rw p (never false_not_true (λ h. h.0))
  turns (write_ended ∷ es) x true r wf p q = rw p
      (turns es (x ++ (write_ended ∷ [])) false r (well_formed_snoc x write_ended wf p) (write_open_ended x wf) (read_open_same x write_ended refl refl ∙ q))
  turns (write_ended ∷ es) x false r wf p q = rw p (never false_not_true (λ h. h.0))
  turns (read_began ∷ es) x w false wf p q = rw q
      (turns es (x ++ (read_began ∷ [])) w true (well_formed_snoc x read_began wf (ap not q)) (write_open_same x read_began refl refl ∙ p) (read_open_began x wf))
  turns (read_began ∷ es) x w true wf p q = rw q (never false_not_true (λ h. h.1))
  turns (read_ended v ∷ es) x w true wf p q = rw q
      (turns es (x ++ (read_ended v ∷ [])) w false (well_formed_snoc x (read_ended v) wf q) (write_open_same x (read_ended v) refl refl ∙ p) (read_open_ended x wf v))
  turns (read_ended v ∷ es) x w false wf p q = rw q (never false_not_true (λ h. h.1))

  -- The other ports communicate nothing.
  elsewhere : (q : ℕ) (es : List (Event Val)) → local ℕ_discrete (suc (suc q)) (execution es) ≡ []
  unfolding local execution
  elsewhere q [] = refl
  elsewhere q (write_began v ∷ es) = if_neg (ℕ_discrete (suc (suc q)) 0) (λ e. omega arith) _ _ ∙ elsewhere q es
  elsewhere q (write_ended ∷ es) = if_neg (ℕ_discrete (suc (suc q)) 0) (λ e. omega arith) _ _ ∙ elsewhere q es
  elsewhere q (read_began ∷ es) = if_neg (ℕ_discrete (suc (suc q)) 1) (λ e. omega arith) _ _ ∙ elsewhere q es
  elsewhere q (read_ended v ∷ es) = if_neg (ℕ_discrete (suc (suc q)) 1) (λ e. omega arith) _ _ ∙ elsewhere q es

  -- WELL-FORMED LOGS are document 000's well-formed executions.
  pub well_formed_iff : (es : List (Event Val)) → WellFormed es ↔ WellFormedExecution ℕ_discrete (execution es)
  unfolding Both
  well_formed_iff es = (
    λ wf. to ((turns es [] false false well_formed_nil refl refl).0 (all_in_turn_holds es [] wf)),
    λ h. well_formed_all es [] well_formed_nil ((turns es [] false false well_formed_nil refl refl).1 (h 0, h 1)),
  )
    where
      to : Both false false es → (q : ℕ) → Alternates false (local ℕ_discrete q (execution es))
      to b zero = b.0
      to b (suc zero) = b.1
      to b (suc (suc q)) = rw (elsewhere q es) tt
