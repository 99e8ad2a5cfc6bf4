-- To be believed: the offsets of a file that are reached over good fields, and what is known there. `own` is the kind's own check of a field,
-- `start` what is known after the head. Assumes nothing.
use Rattle.std.specs.Prelude.{ℕ, ◌+◌, ◌≤◌, ◌≡◌, ◌≢◌, List, length}
use Rattle.terms.specs.Value.{Value}
use Rattle.fields.specs.declared.Kind.{Kind}
use Rattle.fields.specs.Tags.{limit_of}
use Rattle.fields.specs.Field.{Tagged, value_in}
use Rattle.fields.specs.Walk.{Checked, on}
use Rattle.refusal_rows.specs.Bytes.{tag_byte, length_bytes, field_at, WholeField, FlickerBody}

-- The head: a file within its limit begins with the 7 bytes of tag 1, "4, initial value".
pub record Head (kind : Kind) (file : List ℕ) : Type 0 where
  pub within : length file ≤ limit_of kind
  pub long : 7 ≤ length file
  pub first : tag_byte file 0 ≡ 1
  pub four : length_bytes file 0 ≡ 4

-- A field behind the head of which none of 1, 2, 3, 4 and 5 holds: whole, not tag 1, and no flicker with a body above 1.
pub record Later (kind : Kind) (file : List ℕ) (at : ℕ) : Type 0 where
  pub field : WholeField kind file at
  pub not_one : tag_byte file at ≢ 1
  pub bit : ¬ FlickerBody file at

-- The offset is reached over good fields, and s is known there: behind the head, or behind a good field that stands at a reached offset.
pub data Reached {S : Type 0} (own : S → Tagged → Checked S) (kind : Kind) (file : List ℕ) (start : Value → S) : ℕ → S → Type 0 where
  behind_head : Head kind file → Reached own kind file start 7 (start (value_in (field_at file 0).body))
  behind_field : (at : ℕ) (s t : S) → Reached own kind file start at s → Later kind file at → own s (field_at file at) ≡ on t
      → Reached own kind file start (at + 3 + length_bytes file at) t

-- A field is looked for at the offset: at the beginning of a file within its limit, or at a reached offset.
pub data Due {S : Type 0} (own : S → Tagged → Checked S) (kind : Kind) (file : List ℕ) (start : Value → S) (at : ℕ) : Type 0 where
  at_first : at ≡ 0 → length file ≤ limit_of kind → Due own kind file start at
  at_later : (s : S) → Reached own kind file start at s → Due own kind file start at
