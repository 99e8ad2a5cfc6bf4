-- To be believed: what demand 3 says of the machine itself, at every state on the way of moves of which none is refused. Assumes nothing.
use Rattle.std.specs.Prelude.{◌≡◌, false, List, ◌++◌, ◌≤◌, ◌<◌}
use Rattle.terms.specs.Value.{Value}
use Rattle.register.specs.declared.State.{State}
use Rattle.register.specs.declared.Move.{Move}
use Rattle.register.specs.Move.{is_a_clash}
use Rattle.register.specs.Run.{Ran}

-- Of a state. "Finished": start and number as they stand in the state in which step 27 or 44 is made.
pub record SoundState (t : State) : Type 0 where
  -- each finished write has start < number,
  pub finished_write : t.q ≡ 27 → t.startw < t.numberw
  -- each finished read has start ≤ number,
  pub finished_read : t.r ≡ 44 → t.startr ≤ t.numberr
  -- and the state is no clash.
  pub no_clash : is_a_clash t ≡ false

-- Of moves from the initial value: however they are cut in two, the first part xs reaches a state, and that state is sound.
pub record Demand3Machine (v0 : Value) (ms : List Move) : Type 0 where
  pub on_the_way : (xs ys : List Move) → ms ≡ xs ++ ys → (t : State) × Ran v0 xs t × SoundState t
