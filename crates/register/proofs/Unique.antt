-- Each public promise determines its result: any two results that it allows are equal (document 01, "What the promises are held to", a).
-- Assumes nothing.
use mathlib.Core.Path.{◌≡◌, refl, sym, ap, ◌∙◌}
use Rattle.terms.specs.Value.{Value}
use Rattle.terms.proofs.Numbers.{answer_once}
use Rattle.register.specs.declared.State.{State}
use Rattle.register.specs.declared.Moved.{Moved}
use Rattle.register.specs.declared.Move.{Move}
use Rattle.register.specs.Initial.{IsInitial}
use Rattle.register.specs.Move as spec
use Rattle.register.specs.Move.{MakesMove}

-- of `State::initial`
pub initial_unique : (v0 : Value) (a b : State) → IsInitial v0 a → IsInitial v0 b → a ≡ b
initial_unique v0 a b p q = p ∙ sym q

-- of `State::moved`
pub move_unique : (s : State) (m : Move) (a b : Moved) → MakesMove s m a → MakesMove s m b → a ≡ b
move_unique s m a b p q =
    let e = p ∙ sym q in
    let r = answer_once a.answer b.answer (ap (λ (x : spec.Moved). x.number) e) (ap (λ (x : spec.Moved). x.place) e) (λ x y h k. refl) in
    λ i. record { answer = r i; state = (e i).state }
