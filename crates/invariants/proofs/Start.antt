-- The initial state: it is one of the device's, and has all that a state of a run has. Assumes nothing.
use mathlib.Core.Path.{refl}
use mathlib.Core.Bool.{true, false}
use mathlib.Core.List.{[], ◌∷◌}
use native.Mathlib.Omega.{arith}
use Rattle.terms.specs.Value.{Value}
use Rattle.register.specs.Initial.{initial}
use Rattle.register.proofs.Stays.{initial_shaped, initial_in_range}
use Rattle.invariants.specs.Held.{Held}
use Rattle.invariants.proofs.Device.{w20, r40, Data}
use Rattle.invariants.proofs.Inv.{Inv}
use Rattle.invariants.proofs.FromDevice.{from_device}
use Rattle.invariants.proofs.HeldKept.{from_holds}
use Rattle.invariants.proofs.Preserved.{Lawful}

abbrev first : Value → Data
first v = record {
  ww = false;
  rr = true;
  aw = false;
  cw = false;
  startw = 0;
  numberw = 1;
  kept = v;
  br = true;
  cr = false;
  value = v;
  startr = 0;
  numberr = 0;
  masq = 1;
  buf = λ i j. v;
  tag = λ i j. 1;
  c = λ i. false;
}

first_invariants : (v : Value) → Inv w20 r40 (first v)
first_invariants v = search arith

pub initial_lawful : (v : Value) → Lawful (initial v)
initial_lawful v = record {
  in_range = initial_in_range v;
  shaped = initial_shaped v;
  invariants = from_device w20 r40 (first v) (first_invariants v);
}

pub initial_held : (v : Value) → Held (initial v) (v ∷ [])
initial_held v =
    from_holds w20 r40 (first v) (v ∷ []) (first_invariants v)
    (record { count = refl; kept = refl; value = refl; bufs = λ i j. refl; tag_from = λ i j. omega arith })
