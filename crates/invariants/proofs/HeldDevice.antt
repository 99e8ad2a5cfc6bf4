-- What every buffer of the device holds: the value of its tag.
-- Assumes nothing.
use Rattle.std.proofs.Common.{◌≡◌, Bool, List, ◌≤◌, length}
use Rattle.terms.specs.Value.{Value}
use Rattle.register.specs.Run.{value_of}
use Rattle.invariants.proofs.Device.{Data}

pub record Holds (d : Data) (values : List Value) : Type 0 where
  pub count : length values ≡ d.numberw
  pub kept : d.kept ≡ value_of values d.numberw
  pub value : d.value ≡ value_of values d.numberr
  pub bufs : (i j : Bool) → d.buf i j ≡ value_of values (d.tag i j)
  pub tag_from : (i j : Bool) → 1 ≤ d.tag i j
