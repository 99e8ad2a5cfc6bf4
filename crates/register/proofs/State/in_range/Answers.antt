-- What is left of `register::State::in_range`: the tests of the bits and of the numbers, in the words of the definition.
use Rattle.std.proofs.Common.{rules}
use Rattle.register.specs.Move.{bits_of, numbers_of}
use Rattle.register.proofs.Tested.{all_tested}
use Rattle.register.proofs.State.in_range.Goals as goal

pub returns : goal.returns
returns c =
    let bits = all_tested 1 (bits_of c.args.self) _ c.are_at_most.ensures in
    let numbers = all_tested 65535 (numbers_of c.args.self) _ c.are_at_most-2.ensures in
    rw (c.is_between.ensures, c.is_between-2.ensures, bits, numbers) (search rules)
