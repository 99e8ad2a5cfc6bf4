-- What a row of a file says when its number is known. Assumes nothing.
use Prim.Native.Nat.{ℕ, ◌≤◌}
use mathlib.Core.Path.{◌≡◌}
use mathlib.Core.Logic.{◌≢◌}
use mathlib.Core.List.{List}
use native.Mathlib.Omega.{arith}
use Rattle.terms.specs.Value.{Value}
use Rattle.terms.specs.Refusals.{cut, foreign_tag, wrong_length, not_first, no_bit, too_long}
use Rattle.fields.specs.declared.Kind.{Kind}
use Rattle.fields.specs.Field.{Tagged}
use Rattle.fields.specs.Walk.{Checked}
use Rattle.refusal_rows.specs.FileRows.{Row1, Row2, Row3, Row4, Row5, Row7, FileRow, row_1, row_2, row_3, row_4, row_5, row_7}

module _ {S : Type 0} (own : S → Tagged → Checked S) (kind : Kind) (file : List ℕ) (start : Value → S) (n p : ℕ) where
  pub only_1 : FileRow own kind file start n p → n ≡ cut → Row1 own kind file start p
  only_1 (row_1 e h) i = h
  only_1 (row_2 e h) i = absurd (omega arith)
  only_1 (row_3 e h) i = absurd (omega arith)
  only_1 (row_4 e h) i = absurd (omega arith)
  only_1 (row_5 e h) i = absurd (omega arith)
  only_1 (row_7 e h) i = absurd (omega arith)

  pub only_2 : FileRow own kind file start n p → n ≡ foreign_tag → Row2 own kind file start p
  only_2 (row_1 e h) i = absurd (omega arith)
  only_2 (row_2 e h) i = h
  only_2 (row_3 e h) i = absurd (omega arith)
  only_2 (row_4 e h) i = absurd (omega arith)
  only_2 (row_5 e h) i = absurd (omega arith)
  only_2 (row_7 e h) i = absurd (omega arith)

  pub only_3 : FileRow own kind file start n p → n ≡ wrong_length → Row3 own kind file start p
  only_3 (row_1 e h) i = absurd (omega arith)
  only_3 (row_2 e h) i = absurd (omega arith)
  only_3 (row_3 e h) i = h
  only_3 (row_4 e h) i = absurd (omega arith)
  only_3 (row_5 e h) i = absurd (omega arith)
  only_3 (row_7 e h) i = absurd (omega arith)

  pub only_4 : FileRow own kind file start n p → n ≡ not_first → Row4 own kind file start p
  only_4 (row_1 e h) i = absurd (omega arith)
  only_4 (row_2 e h) i = absurd (omega arith)
  only_4 (row_3 e h) i = absurd (omega arith)
  only_4 (row_4 e h) i = h
  only_4 (row_5 e h) i = absurd (omega arith)
  only_4 (row_7 e h) i = absurd (omega arith)

  pub only_5 : FileRow own kind file start n p → n ≡ no_bit → Row5 own kind file start p
  only_5 (row_1 e h) i = absurd (omega arith)
  only_5 (row_2 e h) i = absurd (omega arith)
  only_5 (row_3 e h) i = absurd (omega arith)
  only_5 (row_4 e h) i = absurd (omega arith)
  only_5 (row_5 e h) i = h
  only_5 (row_7 e h) i = absurd (omega arith)

  pub only_7 : FileRow own kind file start n p → n ≡ too_long → Row7 own kind file start p
  only_7 (row_1 e h) i = absurd (omega arith)
  only_7 (row_2 e h) i = absurd (omega arith)
  only_7 (row_3 e h) i = absurd (omega arith)
  only_7 (row_4 e h) i = absurd (omega arith)
  only_7 (row_5 e h) i = absurd (omega arith)
  only_7 (row_7 e h) i = h

  -- No other number: 1 to 5, or 7.
  pub only_these : FileRow own kind file start n p → (1 ≤ n) × (n ≤ 7) × (n ≢ 6)
  only_these (row_1 e h) = omega arith
  only_these (row_2 e h) = omega arith
  only_these (row_3 e h) = omega arith
  only_these (row_4 e h) = omega arith
  only_these (row_5 e h) = omega arith
  only_these (row_7 e h) = omega arith
