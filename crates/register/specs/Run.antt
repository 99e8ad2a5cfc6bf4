-- To be believed: moves made one after another, of which none is refused, and the values that they write.
use Rattle.std.specs.Prelude.{ℕ, ◌-◌, ◌≡◌, List, [], ◌∷◌, eqb, get_or, if◌then◌else◌}
use Rattle.terms.specs.Value.{Value, no_value}
use Rattle.terms.specs.Refusals.{good_number}
use Rattle.register.specs.declared.State.{State}
use Rattle.register.specs.declared.Move.{Move}
use Rattle.register.specs.declared.Move.TheVariants.{WriterStart, WriterStep, WriterFlicker, ReaderStep, ReaderFlicker}
use Rattle.register.specs.Initial.{initial}
use Rattle.register.specs.Move.{Moved, good, answer_to}

-- An answer, and what follows if it is good.
abbrev pub and_then : Moved → (State → Moved) → Moved
and_then a next = if eqb a.number good_number then next a.state else a

-- The moves made one after another from a state: the last one's answer, or the first refusal.
abbrev pub made : State → List Move → Moved
made s [] = good s
made s (m ∷ ms) = and_then (answer_to s m) (λ t. made t ms)

-- From the initial state, moves of which none is refused reach the state s.
abbrev pub Ran : Value → List Move → State → Type 0
Ran v0 ms s = made (initial v0) ms ≡ good s

-- The values that the moves' writes give, in order.
abbrev pub given : List Move → List Value
given [] = []
given (WriterStart v ∷ ms) = v ∷ given ms
given (WriterStep ∷ ms) = given ms
given (WriterFlicker b ∷ ms) = given ms
given (ReaderStep ∷ ms) = given ms
given (ReaderFlicker b ∷ ms) = given ms

-- The value that the write of a number gave, out of all values, the initial one first: number 1 is the initial value's, and the first
-- write has number 2. Number 0, the reader's until its first step 43, counts as 1 (1 - 1 and 0 - 1 are both 0): its value is the initial one.
abbrev pub value_of : List Value → ℕ → Value
value_of values number = get_or values (number - 1) no_value
