-- THE THEOREMS, of the contract's own moves (`answer_to`) and runs (`Ran`), for moves one after another in any number. Assumes nothing.
use mathlib.Core.Path.{◌≡◌, ap}
use mathlib.Core.Bool.{true, false}
use mathlib.Core.List.{List, [], ◌∷◌, ◌++◌, append-nil, append_assoc}
use Prim.Native.Nat.{◌≤◌, ◌<◌}
use Rattle.terms.specs.Value.{Value}
use Rattle.register.specs.declared.State.{State}
use Rattle.register.specs.declared.Move.{Move}
use Rattle.register.specs.Initial.{initial}
use Rattle.register.specs.Move.{Moved, good, answer_to, is_in_range, is_a_clash}
use Rattle.register.specs.Run.{made, Ran, given}
use Rattle.invariants.specs.Invariants.{Invariants}
use Rattle.register.specs.Shaped.{Shaped}
use Rattle.invariants.specs.Held.{Held}
use Rattle.invariants.proofs.Start.{initial_lawful, initial_held}
use Rattle.invariants.proofs.NoClash.{no_clash}
use Rattle.invariants.proofs.Preserved.{Lawful, lawful_after, held_after}
use Rattle.invariants.proofs.Runs.{and_then_good, given_first}
pub use Rattle.invariants.proofs.Runs.{made_append, ran_prefix, ran_append}

-- The invariants hold at the start, and a move that is not refused keeps them.
pub initially : (v : Value) → Invariants (initial v)
initially v = (initial_lawful v).invariants

pub preserved : (s : State) (m : Move) → Shaped s → Invariants s → (answer_to s m).number ≡ 0 → Invariants (answer_to s m).state
preserved s m h i f = (lawful_after s m h i f).invariants

pub shape_preserved : (s : State) (m : Move) → Shaped s → Invariants s → (answer_to s m).number ≡ 0 → Shaped (answer_to s m).state
shape_preserved s m h i f = (lawful_after s m h i f).shaped

pub range_preserved : (s : State) (m : Move) → Shaped s → Invariants s → (answer_to s m).number ≡ 0 → is_in_range (answer_to s m).state ≡ true
range_preserved s m h i f = (lawful_after s m h i f).in_range

-- From any state that has them, by moves of which none is refused.
pub made_lawful : (s : State) (ms : List Move) (t : State) → Lawful s → made s ms ≡ good t → Lawful t
made_lawful s [] t h e = rw (ap (λ (x : Moved). x.state) e) at h
made_lawful s (m ∷ ms) t h e =
    let f = and_then_good (answer_to s m) (λ x. made x ms) t e in
    made_lawful (answer_to s m).state ms t (lawful_after s m h.shaped h.invariants f.0) f.1

pub made_held : (s : State) (ms : List Move) (t : State) (values : List Value) → Lawful s → Held s values → made s ms ≡ good t
    → Held t (values ++ given ms)
made_held s [] t vs h k e = rw (append-nil, ← ap (λ (x : Moved). x.state) e) k
made_held s (m ∷ ms) t vs h k e =
    let f = and_then_good (answer_to s m) (λ x. made x ms) t e in
    let next = lawful_after s m h.shaped h.invariants f.0 in
    let held = held_after s m vs h.shaped h.invariants f.0 k in
    rw (given_first, ← append_assoc) (made_held (answer_to s m).state ms t (vs ++ given (m ∷ [])) next held f.1)

-- OVER ALL RUNS.
module _ (v : Value) (ms : List Move) (s : State) (ran : Ran v ms s) where
  lawful : Lawful s
  lawful = made_lawful (initial v) ms s (initial_lawful v) ran

  pub ran_invariants : Invariants s
  ran_invariants = lawful.invariants

  pub ran_shaped : Shaped s
  ran_shaped = lawful.shaped

  pub ran_in_range : is_in_range s ≡ true
  ran_in_range = lawful.in_range

  -- no clash, so the buffers are never written where they are read
  pub ran_no_clash : is_a_clash s ≡ false
  ran_no_clash = no_clash s ran_invariants

  -- at the end of a write, and at the end of a read
  pub ran_write : s.q ≡ 27 → s.startw < s.numberw
  ran_write h = ran_invariants.jq0

  pub ran_read : s.r ≡ 44 → s.startr ≤ s.numberr
  ran_read h = rw h at ran_invariants.jq1

  -- every buffer holds the value that the write of its tag gave
  pub ran_held : Held s (v ∷ given ms)
  ran_held = made_held (initial v) ms s (v ∷ []) (initial_lawful v) (initial_held v) ran
