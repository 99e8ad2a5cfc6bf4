-- What is left of `register::State::sound`: a state that passed the test of the ranges has what the steps rest on.
use Rattle.std.proofs.Common.{sym, ◌∙◌}
use Rattle.register.proofs.InBounds.{in_bounds}
use Rattle.register.proofs.State.sound.Goals as goal

pub invariant_of-result : goal.invariant_of-result
invariant_of-result c = record { in_bounds = in_bounds c.args.self (sym c.in_range.ensures ∙ c.if-in_range.true) }
