-- An automaton that plays a log of one writer and one reader: between its invocation and its response each operation takes place once, in one
-- moment. A device between choices and document 000's histories. Assumes nothing.
use mathlib.Core.List.{List, [], ◌∷◌, ◌++◌}
use Rattle.history.specs.Events.{Event, write_began, write_ended, read_began, read_ended}

-- Where a party stands between invocation, operation and response.
pub data Writer (Val : Type 0) : Type 0 where
  resting : Writer Val
  invoked : Val → Writer Val
  done : Writer Val

pub data Reader (Val : Type 0) : Type 0 where
  resting : Reader Val
  invoked : Reader Val
  got : Val → Reader Val

-- A play of the events es, after which the object holds a value and the two stand so.
pub data Play {Val : Type 0} (v₀ : Val) : List (Event Val) → Val → Writer Val → Reader Val → Type 0 where
  nothing : Play v₀ [] v₀ Writer.resting Reader.resting
  invoke_write : {es : List (Event Val)} {a : Val} {r : Reader Val} (v : Val) → Play v₀ es a Writer.resting r → Play v₀ (es ++ (write_began v ∷ [])) a (Writer.invoked v) r
  do_write : {es : List (Event Val)} {a v : Val} {r : Reader Val} → Play v₀ es a (Writer.invoked v) r → Play v₀ es v Writer.done r
  respond_write : {es : List (Event Val)} {a : Val} {r : Reader Val} → Play v₀ es a Writer.done r → Play v₀ (es ++ (write_ended ∷ [])) a Writer.resting r
  invoke_read : {es : List (Event Val)} {a : Val} {w : Writer Val} → Play v₀ es a w Reader.resting → Play v₀ (es ++ (read_began ∷ [])) a w Reader.invoked
  do_read : {es : List (Event Val)} {a : Val} {w : Writer Val} → Play v₀ es a w Reader.invoked → Play v₀ es a w (got a)
  respond_read : {es : List (Event Val)} {a v : Val} {w : Writer Val} → Play v₀ es a w (got v) → Play v₀ (es ++ (read_ended v ∷ [])) a w Reader.resting

pub record Played {Val : Type 0} (v₀ : Val) (es : List (Event Val)) : Type 0 where
  pub value : Val
  pub writer : Writer Val
  pub reader : Reader Val
  pub play : Play v₀ es value writer reader
