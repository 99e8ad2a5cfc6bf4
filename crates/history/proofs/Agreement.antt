-- AGREEMENT: document 01's serializations by orders and document 000's legal executions pass the same well-formed logs. Assumes nothing.
use mathlib.Core.List.{List}
use mathlib.Core.Logic.{◌↔◌}
use Rattle.history.specs.Events.{Event}
use Rattle.history.specs.Operations.{WellFormed}
use Rattle.history.specs.Serialization.{Serialization}
use Rattle.history.specs.Execution.{LegalLog}
use Rattle.history.proofs.ChoiceToOrder.{order_of_choice}
use Rattle.history.proofs.Serializations.{choice_of}
use Rattle.history.proofs.PlayToChoice.{choice_of_play}
use Rattle.history.proofs.ChoiceToPlay.{play_of_choice}
use Rattle.history.proofs.PlayLiteral.{played_iff_legal}

module _ {Val : Type 0} (v₀ : Val) (es : List (Event Val)) where
  -- A well-formed log has a legal serialization exactly when its execution is legal.
  pub serialization_iff_legal : WellFormed es → Serialization v₀ es ↔ LegalLog v₀ es
  serialization_iff_legal wf = (
    λ s. let (k, C) = choice_of v₀ es wf s in (played_iff_legal v₀ es).0 (play_of_choice v₀ es wf k C),
    λ l. let (k, C) = (choice_of_play v₀ ((played_iff_legal v₀ es).1 l).play).1 in order_of_choice v₀ es wf k C,
  )

  -- Only a well-formed log is a legal execution.
  pub legal_well_formed : LegalLog v₀ es → WellFormed es
  legal_well_formed l = (choice_of_play v₀ ((played_iff_legal v₀ es).1 l).play).0
