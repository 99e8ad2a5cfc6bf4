-- The places and lengths of the answers fit 32 bits. Assumes nothing.
use Prim.Native.Nat.{ℕ, ◌≤◌, zero-le}
use mathlib.Core.Path.{◌≡◌, refl, ap}
use mathlib.Core.List.{List}
use mathlib.Core.Bool.{Bool, true, false}
use native.Mathlib.Omega.{arith}
use lib.Dec.{ltb}
use lib.ListN.{length}
use Rattle.std.specs.Prelude.{Result, Ok, Err, if◌then◌else◌}
use Rattle.std.specs.Result.{result_unwrap_or}
use Rattle.terms.specs.declared.Refused.{Refused}
use Rattle.terms.specs.Refusals.{no_room}
use Rattle.fields.specs.declared.Kind.TheVariants.{Schedule}
use Rattle.fields.specs.Walk.{Walked, ended, refused}
use Rattle.fields.proofs.Inside.{Inside, place_inside}
use Rattle.replay.specs.Run.{Run, start, step, finished, log_of, run_of, Answer, length_in, answer_of, Runs}

-- The run's own ending is refused at 0.
finished_inside : (room : ℕ) (run : Run) → Inside 32768 (finished room run)
finished_inside room run = on (ltb room (length (log_of run)))
  where
    on : (b : Bool) → Inside 32768 (if b then refused no_room 0 else ended (log_of run))
    on true = zero-le
    on false = tt

pub run_place : (schedule out out' : List ℕ) (a : Answer) → Runs schedule out out' a → a.place ≤ 32768
run_place schedule out out' a h =
    on (run_of schedule (length out)) (place_inside step (finished (length out)) Schedule schedule (finished_inside (length out)) start) h.answer
  where
    on : (w : Walked (List ℕ)) → Inside 32768 w → a ≡ answer_of w → a.place ≤ 32768
    on (ended log) i e = omega (arith, ap (λ (x : Answer). x.place) e)
    on (refused number place) i e = omega (arith, ap (λ (x : Answer). x.place) e)

-- The length as the code takes it from the run's result.
pub length_unwrapped : (r : Result ℕ Refused) → result_unwrap_or r 0 ≡ length_in r
length_unwrapped (Ok length) = refl
length_unwrapped (Err e) = refl
