-- Laws of the contract's `made`: what a good answer of several moves tells, and moves made in two parts. Assumes nothing.
use mathlib.Core.Path.{◌≡◌, refl, ap, sym, ◌∙◌}
use mathlib.Core.Bool.{Bool, true, false}
use mathlib.Core.List.{List, [], ◌∷◌, ◌++◌}
use lib.Dec.{eqb}
use borrow.Author.Tests.{eqb-true, eqb-false}
use Rattle.terms.specs.Value.{Value}
use Rattle.register.specs.declared.State.{State}
use Rattle.register.specs.declared.Move.{Move}
use Rattle.register.specs.declared.Move.TheVariants.{WriterStart, WriterStep, WriterFlicker, ReaderStep, ReaderFlicker}
use Rattle.register.specs.Initial.{initial}
use Rattle.std.specs.Prelude.{if◌then◌else◌}
use Rattle.register.specs.Move.{Moved, good, answer_to}
use Rattle.register.specs.Run.{and_then, made, Ran, given}

-- Where an answer and what follows it come to a good answer, the first answer is good, and what follows comes to the same.
pub and_then_good : (a : Moved) (next : State → Moved) (t : State) → and_then a next ≡ good t → (a.number ≡ 0) × (next a.state ≡ good t)
and_then_good a next t h = on (eqb a.number 0) refl h
  where
    on : (b : Bool) → eqb a.number 0 ≡ b → (if b then next a.state else a) ≡ good t → (a.number ≡ 0) × (next a.state ≡ good t)
    on true e h = (eqb-true a.number 0 e, h)
    on false e h = absurd (eqb-false a.number 0 e (ap (λ (x : Moved). x.number) h))

-- Several moves that are answered 0 are answered by the state alone.
pub made_good : (s : State) (ms : List Move) → (made s ms).number ≡ 0 → made s ms ≡ good (made s ms).state
made_good s [] h = refl
made_good s (m ∷ ms) h = on (answer_to s m) (eqb (answer_to s m).number 0) refl (made_good (answer_to s m).state ms) h
  where
    on : (a : Moved) (b : Bool) → eqb a.number 0 ≡ b
        → ((made a.state ms).number ≡ 0 → made a.state ms ≡ good (made a.state ms).state)
        → (if b then made a.state ms else a).number ≡ 0
        → (if b then made a.state ms else a) ≡ good (if b then made a.state ms else a).state
    on a true e f h = f h
    on a false e f h = absurd (eqb-false a.number 0 e h)

-- "an answer, and what follows if it is good", twice
and_then_assoc : (a : Moved) (f g : State → Moved) → and_then (and_then a f) g ≡ and_then a (λ t. and_then (f t) g)
and_then_assoc a f g = on (eqb a.number 0) refl
  where
    on : (b : Bool) → eqb a.number 0 ≡ b → and_then (if b then f a.state else a) g ≡ (if b then and_then (f a.state) g else a)
    on true e = refl
    on false e = rw e

-- THE PREFIX LAW. Moves made in two parts.
pub made_append : (s : State) (ms ns : List Move) → made s (ms ++ ns) ≡ and_then (made s ms) (λ t. made t ns)
made_append s [] ns = refl
made_append s (m ∷ ms) ns =
    (λ i. and_then (answer_to s m) (λ t. made_append t ms ns i)) ∙ sym (and_then_assoc (answer_to s m) (λ t. made t ms) (λ t. made t ns))

-- So a run's first moves are a run, from whose state the others lead on.
pub ran_prefix : (v : Value) (ms ns : List Move) (s : State) → Ran v (ms ++ ns) s → (t : State) × Ran v ms t × (made t ns ≡ good s)
ran_prefix v ms ns s h =
    let a = made (initial v) ms in
    let p = and_then_good a (λ t. made t ns) s (sym (made_append (initial v) ms ns) ∙ h) in
    (a.state, made_good (initial v) ms p.0, p.1)

-- And the other way.
pub ran_append : (v : Value) (ms ns : List Move) (t s : State) → Ran v ms t → made t ns ≡ good s → Ran v (ms ++ ns) s
ran_append v ms ns t s h k = made_append (initial v) ms ns ∙ rw h k

-- The values given by a move, and by the others.
pub given_first : (m : Move) (ms : List Move) → given (m ∷ ms) ≡ given (m ∷ []) ++ given ms
given_first (WriterStart v) ms = refl
given_first WriterStep ms = refl
given_first (WriterFlicker b) ms = refl
given_first ReaderStep ms = refl
given_first (ReaderFlicker b) ms = refl
