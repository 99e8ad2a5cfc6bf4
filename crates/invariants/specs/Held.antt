-- To be believed: every buffer holds the value that the write of its tag gave, and so do the writer's kept value and the reader's value by
-- their numbers. `values` are all values given, the initial one first (`value_of` of the register's Run). Assumes nothing.
use Rattle.std.specs.Prelude.{◌≡◌, List, ℕ, ◌≤◌, length}
use Rattle.terms.specs.Value.{Value}
use Rattle.register.specs.declared.State.{State}
use Rattle.register.specs.Steps.{buf_at, tag_at}
use Rattle.register.specs.Run.{value_of}

pub record Held (s : State) (values : List Value) : Type 0 where
  pub count : length values ≡ s.numberw
  pub kept : s.kept ≡ value_of values s.numberw
  pub value : s.value ≡ value_of values s.numberr
  pub bufs : (i j : ℕ) → i ≤ 1 → j ≤ 1 → buf_at s i j ≡ value_of values (tag_at s i j)
  pub tag_from : (i j : ℕ) → i ≤ 1 → j ≤ 1 → 1 ≤ tag_at s i j
  pub tag_to : (i j : ℕ) → i ≤ 1 → j ≤ 1 → tag_at s i j ≤ length values
