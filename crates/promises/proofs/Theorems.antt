-- THE THEOREMS, of the contract's own moves, over all sequences of moves of which none is refused, however many (12
-- refuses a start with the writer's number at 65,535). Schedules are a special
-- case. Assumes nothing.
use mathlib.Core.Path.{◌≡◌}
use mathlib.Core.List.{List}
use mathlib.Core.Option.{some}
use Prim.Native.Nat.{ℕ, suc, ◌+◌}
use native.Mathlib.Omega.{arith}
use native.Mathlib.Decide.{ℕ_discrete}
use lib.ListN.{get_elem?}
use Rattle.terms.specs.Value.{Value}
use Rattle.history.specs.Events.{Event}
use Rattle.history.specs.Operations.{ends_read}
use Rattle.history.specs.Numbered.{without_numbers}
use Rattle.history.specs.Serialization.{Serialization}
use Rattle.history.specs.Document000.{AtomicObject}
use Rattle.history.specs.ReadWrite.{transition}
use Rattle.history.specs.Execution.{execution}
use Rattle.history.proofs.Appending.{at_bound}
use Rattle.history.proofs.Counting.{nth_below}
use Rattle.history.proofs.Choice.{SeenIn}
use Rattle.history.proofs.ChoiceToOrder.{order_of_choice, order_seen}
use Rattle.history.proofs.Agreement.{serialization_iff_legal}
use Rattle.register.specs.declared.State.{State}
use Rattle.register.specs.declared.Move.{Move}
use Rattle.register.specs.Initial.{initial}
use Rattle.register.specs.Run.{Ran}
use Rattle.invariants.proofs.Theorems.{ran_prefix, ran_no_clash, ran_write, ran_read}
use Rattle.replay.specs.Scheduled.{events_along}
use Rattle.promises.specs.RegisterPromise.{RegisterPromise}
use Rattle.promises.specs.MachineDemand.{SoundState, Demand3Machine}
use Rattle.promises.specs.SeenNumbers.{read_numbers, SeenNumbers}
use Rattle.promises.proofs.Follows.{Tracked, marks}
use Rattle.promises.proofs.Along.{ran_tracked}
use Rattle.promises.proofs.WriteNumbers.{each_write, write_number_is}

-- The state that a run reaches is sound.
pub sound_state : (v : Value) (ms : List Move) (s : State) → Ran v ms s → SoundState s
sound_state v ms s ran =
    record { finished_write = ran_write v ms s ran; finished_read = ran_read v ms s ran; no_clash = ran_no_clash v ms s ran }

module _ (v : Value) (ms : List Move) (s : State) (ran : Ran v ms s) where
  -- the run's events, what is known after them, and the order of the choice by numbers
  abbrev es : List (Event Value)
  es = without_numbers (events_along (initial v) ms)

  abbrev tracked : Tracked v (marks s) es (read_numbers (events_along (initial v) ms))
  tracked = ran_tracked v ms s ran

  abbrev order : Serialization v es
  order = order_of_choice v es tracked.so_far.well_formed tracked.k tracked.so_far.choice

  -- THE REGISTER'S PROMISE holds of the events of every run.
  pub register_promise : RegisterPromise v (without_numbers (events_along (initial v) ms))
  register_promise =
      let wf = tracked.so_far.well_formed in
      record { well_formed = wf; serialization = order; legal = (serialization_iff_legal v es wf).0 order }

  -- DEMAND 3 OF THE MACHINE holds at every state on the way.
  pub demand_3_machine : Demand3Machine v ms
  demand_3_machine =
      record { on_the_way = λ xs ys e. let (t, r, rest) = ran_prefix v xs ys s (rw e at ran) in (t, r, sound_state v xs t r) }

  -- THE NUMBERS of the reads say which write each of them saw.
  seen : (i n c : ℕ) → get_elem? (read_numbers (events_along (initial v) ms)) i ≡ some n → n ≡ c + 1 → SeenIn v es order i c
  seen i n c h e =
      let S = tracked.so_far in
      let same : tracked.k i ≡ c = omega (arith, S.by_number i n h) in
      let ended = nth_below ends_read es i (omega (arith, S.all_numbers, at_bound (read_numbers (events_along (initial v) ms)) i n h)) in
      rw same at (order_seen v es S.well_formed tracked.k S.choice i ended)

  pub seen_numbers : SeenNumbers v (events_along (initial v) ms)
  seen_numbers = record {
    serialization = order;
    each_write = each_write v ms s ran;
    write_number_is = write_number_is v ms s ran;
    each_read = tracked.so_far.all_numbers;
    from_one = λ i n h. omega (arith, tracked.so_far.by_number i n h);
    first = λ i h. seen i 1 0 h (omega arith);
    later = λ i j h. seen i (j + 2) (suc j) h (omega arith);
  }

-- THE REGISTER IS ATOMIC in document 000's sense: every execution that occurs, as the events of moves of which none is refused, is legal.
pub register_atomic : (v : Value)
    → AtomicObject ℕ_discrete transition v (λ e. (ms : List Move) × (s : State) × Ran v ms s × (e ≡ execution (without_numbers (events_along (initial v) ms))))
register_atomic v e (ms, s, ran, q) = rw q (register_promise v ms s ran).legal
