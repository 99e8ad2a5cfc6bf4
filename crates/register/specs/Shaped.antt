-- To be believed: the shape of a state's tables. The struct has arrays of 4, 4 and 2; as lists they could have any length, and laws about
-- every state say so.
use Rattle.std.specs.Prelude.{◌≡◌, List, ℕ, length}
use Rattle.terms.specs.Value.{Value}
use Rattle.register.specs.declared.State.{State}

pub record Lengths (bufs : List Value) (tags c : List ℕ) : Type 0 where
  pub four_bufs : length bufs ≡ 4
  pub four_tags : length tags ≡ 4
  pub two_bits : length c ≡ 2

abbrev pub Shaped : State → Type 0
Shaped s = Lengths s.bufs s.tags s.c
