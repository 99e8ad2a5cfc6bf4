-- One move of the contract that is answered 0, from a state whose tables have their lengths and whose invariants hold: the state after it is in
-- range, has such tables, keeps the invariants and holds the values. Assumes nothing.
use mathlib.Core.Path.{◌≡◌, sym, subst₂}
use mathlib.Core.Bool.{true}
use mathlib.Core.List.{List, [], ◌∷◌, ◌++◌}
use Rattle.terms.specs.Value.{Value}
use Rattle.register.specs.declared.State.{State}
use Rattle.register.specs.declared.Move.{Move}
use Rattle.register.specs.Move.{answer_to, step_of, is_in_range}
use Rattle.register.specs.Run.{given}
use Rattle.register.proofs.Cases.{accepted}
use Rattle.register.proofs.Stays.{stays, shaped_kept}
use Rattle.invariants.specs.Invariants.{Invariants}
use Rattle.register.specs.Shaped.{Shaped}
use Rattle.invariants.specs.Held.{Held}
use Rattle.invariants.proofs.Device.{WLoc, RLoc, Data, Act, q_after, r_after, data_after}
use Rattle.invariants.proofs.Kept.{kept}
use Rattle.invariants.proofs.Link.{conc, move, linked}
use Rattle.invariants.proofs.Decode.{decode, act_of}
use Rattle.invariants.proofs.FromDevice.{from_device}
use Rattle.invariants.proofs.ToDevice.{to_device}
use Rattle.invariants.proofs.HeldKept.{to_holds, from_holds, holds_after}

-- what every state of a run has
pub record Lawful (s : State) : Type 0 where
  pub in_range : is_in_range s ≡ true
  pub shaped : Shaped s
  pub invariants : Invariants s

-- what a move m makes of s: t
record Makes (s : State) (m : Move) (t : State) : Type 0 where
  invariants : Invariants t
  held : (vs : List Value) → Held s vs → Held t (vs ++ given (m ∷ []))

-- in the device
device_makes : (a : Act) (q : WLoc) (r : RLoc) (d : Data) → Invariants (conc q r d)
    → (step_of (move a) (conc q r d)).number ≡ 0 → Makes (conc q r d) (move a) (step_of (move a) (conc q r d)).state
device_makes a q r d h f =
    let i = to_device q r d h in
    let q' = q_after a q d in
    let r' = r_after a r d in
    let d' = data_after a q r d in
    let i' = kept a q r d i in
    rw (linked a q r d f) (record {
      invariants = from_device q' r' d' i';
      held = λ vs k. from_holds q' r' d' (vs ++ given (move a ∷ [])) i' (holds_after a q r d vs f i (to_holds q r d vs k));
    })

makes : (s : State) (m : Move) → Shaped s → Invariants s → (answer_to s m).number ≡ 0 → Makes s m (answer_to s m).state
makes s m h i f =
    let k = accepted s m f in
    let d = decode s k.in_range h in
    let a = act_of m k.bit in
    let on-device = subst₂ (λ (x : State) (y : Move). Invariants x → (step_of y x).number ≡ 0 → Makes x y (step_of y x).state)
    (sym d.is) (sym a.1) (device_makes a.0 d.q d.r d.d) in
    rw k.is_step (on-device i (rw k.is_step at f))

pub lawful_after : (s : State) (m : Move) → Shaped s → Invariants s → (answer_to s m).number ≡ 0 → Lawful (answer_to s m).state
lawful_after s m h i f =
    record { in_range = stays s m (accepted s m f).in_range; shaped = shaped_kept s m h; invariants = (makes s m h i f).invariants }

pub held_after : (s : State) (m : Move) (vs : List Value) → Shaped s → Invariants s → (answer_to s m).number ≡ 0 → Held s vs
    → Held (answer_to s m).state (vs ++ given (m ∷ []))
held_after s m vs h i f k = (makes s m h i f).held vs k
