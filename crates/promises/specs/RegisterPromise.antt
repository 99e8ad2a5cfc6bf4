-- To be believed: THE REGISTER'S PROMISE over events, in one record. It speaks of a log alone, the initial value and the events of document 01,
-- and of no machine: who builds on the register needs this and nothing else of it. Assumes nothing.
use Rattle.std.specs.Prelude.{List}
use Rattle.terms.specs.Value.{Value}
use Rattle.history.specs.Events.{Event}
use Rattle.history.specs.Operations.{WellFormed}
use Rattle.history.specs.Serialization.{Serialization}
use Rattle.history.specs.Execution.{LegalLog}

pub record RegisterPromise (v0 : Value) (es : List (Event Value)) : Type 0 where
  -- No operation begins while the same party's is open, or ends while none is.
  pub well_formed : WellFormed es
  -- There is a legal serialization: a total order of all ended operations, and at choice the open write, that keeps precedence and in which
  -- each read returns the value of the last write before it, or the initial value.
  pub serialization : Serialization v0 es
  -- The log is legal in document 000's sense: a legal history fits it, in which each operation stands between its beginning and its end.
  pub legal : LegalLog v0 es
