-- To be believed: a log of document 01 as an execution of document 000. The writer is port 0, the reader is port 1; a beginning is an
-- invocation, an end is a response.
use Rattle.std.specs.Prelude.{ℕ, List, [], ◌∷◌}
use Rattle.std.proofs.Math.Decide.{ℕ_discrete}
use Rattle.history.specs.Events.{Event, write_began, write_ended, read_began, read_ended}
use Rattle.history.specs.Document000.{Communication, invocation, response, Execution, LegalExecution}
use Rattle.history.specs.ReadWrite.{Invocation, Write, Read, Response, Ack, value, transition}

module _ {Val : Type 0} where
  abbrev pub communicated : Event Val → ℕ × Communication (Invocation Val) (Response Val)
  communicated (write_began v) = (0, invocation (Write v))
  communicated write_ended = (0, response Ack)
  communicated read_began = (1, invocation Read)
  communicated (read_ended v) = (1, response (value v))

  unfoldable pub execution : List (Event Val) → Execution ℕ (Invocation Val) (Response Val)
  execution [] = []
  execution (e ∷ es) = communicated e ∷ execution es

  -- The log is legal in document 000's sense.
  abbrev pub LegalLog : Val → List (Event Val) → Type 0
  LegalLog v₀ es = LegalExecution ℕ_discrete transition v₀ (execution es)
