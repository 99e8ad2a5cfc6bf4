-- The place fits 32 bits.
use Rattle.std.proofs.Common.{arith}
use Rattle.judge.proofs.Unique.{place_within}
use Rattle.capi.proofs.chaemodul_judge.Goals as goal

pub overflow_cast-answer : goal.overflow_cast-answer
overflow_cast-answer c = omega (arith, place_within c.args.log.now c.from-a.result (rw c.from-a.ensures c.judge.ensures))
