-- The example of document 000, section 2.1, with numbers for the ports; and local histories that are not well formed. Assumes nothing.
use Prim.Native.Nat.{ℕ}
use mathlib.Core.Path.{◌≡◌, refl}
use mathlib.Core.List.{[], ◌∷◌}
use mathlib.Core.Logic.{◌↔◌}
use native.Mathlib.Omega.{arith}
use native.Mathlib.Decide.{ℕ_discrete}
use Rattle.history.specs.Document000.{invocation, response, Execution, communication, operation, Operation, History, local, LocallyWellFormed, communications, Fits, operation_history, LegalOperations}
use Rattle.history.proofs.Plays.{no_none}

module _ {Val Inv Res : Type 0} (u0 u1 u2 u3 : Inv) (w0 w1 : Val) (r0 r1 : Res) where
  abbrev e : Execution ℕ Inv Res
  e = (0, invocation u0) ∷ (1, invocation u1) ∷ (2, invocation u2) ∷ (3, invocation u3) ∷ (0, response r1) ∷ []

  abbrev o1 : Operation Val Inv Res
  o1 = record { u = u1; w = w0; r = r0 }

  abbrev o0 : Operation Val Inv Res
  o0 = record { u = u0; w = w1; r = r1 }

  abbrev h : History ℕ Val Inv Res
  h = (0, communication (invocation u0)) ∷ (1, communication (invocation u1)) ∷ (1, operation o1) ∷ (2, communication (invocation u2)) ∷ (0, operation o0)
      ∷ (3, communication (invocation u3)) ∷ (0, communication (response r1)) ∷ []

  pub it_fits : Fits h e
  unfolding communications
  it_fits = refl

  pub its_operations : operation_history h ≡ o1 ∷ o0 ∷ []
  unfolding operation_history
  its_operations = refl

  pub of_port_1 : local ℕ_discrete 1 h ≡ communication (invocation u1) ∷ operation o1 ∷ []
  unfolding local ℕ_discrete
  of_port_1 = refl

  -- "The histories h and h' are legal iff f(v₀, u1) = (w0, r0) and f(w0, u0) = (w1, r1)."
  pub its_legality : (f : Val → Inv → Val × Res) (v₀ : Val) → LegalOperations f v₀ (operation_history h) ↔ ((f v₀ u1 ≡ (w0, r0)) × (f w0 u0 ≡ (w1, r1)))
  unfolding operation_history LegalOperations
  its_legality f v₀ = (λ l. (l.0, l.1.0), λ l. (l.0, (l.1, tt)))

module _ {Val Inv Res : Type 0} where
  pub response_alone : (r : Res) → LocallyWellFormed {Val = Val} {Inv = Inv} (communication (response r) ∷ []) → ⊥
  response_alone r w = (w.responses 0 r refl).2

  pub operation_alone : (o : Operation Val Inv Res) → LocallyWellFormed (operation o ∷ []) → ⊥
  operation_alone o w = w.operations 0 o refl

  pub two_invocations : (u v : Inv) → LocallyWellFormed {Val = Val} {Res = Res} (communication (invocation u) ∷ communication (invocation v) ∷ []) → ⊥
  two_invocations u v w = let x = w.invocations 0 1 u v (omega arith) refl refl in let y : ◌≡◌ {A = ℕ} 0 1 = cc x.1 in absurd (omega arith)

  pub nothing : LocallyWellFormed {Val = Val} {Inv = Inv} {Res = Res} []
  nothing = record { responses = λ i r e. no_none e; operations = λ i o e. no_none e; invocations = λ f i u v h a b. no_none a }
