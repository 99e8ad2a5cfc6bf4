-- A state in range has what the private functions of a step rest on.
-- Assumes nothing.
use mathlib.Core.Path.{◌≡◌}
use mathlib.Core.Bool.{true}
use mathlib.Core.List.{List}
use Prim.Native.Nat.{ℕ, zero, suc, ◌≤◌}
use native.Mathlib.Omega.{arith}
use lib.ListN.{get_or}
use Rattle.register.specs.declared.State.{State}
use Rattle.register.specs.Steps.{opposite}
use Rattle.register.specs.Move.{is_in_range}
use Rattle.register.specs.Device.{InBounds}
use Rattle.register.proofs.Range.{bounds}

-- one of two bits, picked by a bit
pub picked : (xs : List ℕ) (i : ℕ) → i ≤ 1 → get_or xs 0 0 ≤ 1 → get_or xs 1 0 ≤ 1 → get_or xs i 0 ≤ 1
picked xs zero h x y = x
picked xs (suc zero) h x y = y
picked xs (suc (suc i)) h x y = absurd (omega arith)

pub in_bounds : (s : State) → is_in_range s ≡ true → InBounds s
in_bounds s e =
    let b = bounds s e in
    record {
      q_from = b.q_from;
      q_to = b.q_to;
      r_from = b.r_from;
      r_to = b.r_to;
      aw = b.aw;
      br = b.br;
      cr = b.cr;
      c_aw = picked s.c s.aw b.aw b.c0 b.c1;
      c_other = picked s.c (opposite s.aw) (omega arith) b.c0 b.c1;
      numberw = b.numberw;
    }
