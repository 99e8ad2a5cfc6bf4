-- The place and the length fit 32 bits.
use Rattle.std.proofs.Common.{arith}
use Rattle.replay.proofs.Theorems.{log_bound}
use Rattle.capi.proofs.Bounds.{run_place, length_unwrapped}
use Rattle.capi.proofs.chaemodul_run.Goals as goal

pub overflow_cast-answer : goal.overflow_cast-answer
overflow_cast-answer c = omega (arith, c.place.ensures, run_place c.args.schedule.now c.args.out.now _ _ c.run-ran.ensures)

pub overflow_cast-answer-2 : goal.overflow_cast-answer-2
overflow_cast-answer-2 c =
    omega (arith, c.unwrap_or.ensures, length_unwrapped c.run-ran.result, log_bound c.args.schedule.now c.args.out.now _ _ c.run-ran.ensures)
