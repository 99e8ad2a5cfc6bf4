-- To be believed: document 01's refusal table for a file, row by row, once for both kinds, over any own check of a field and any ending
-- (proofs/FileRows: a file is refused with the number n and the place p exactly when the row of n holds at p). "The place: the offset of the
-- field's first byte; 0 for .. 7, 8". The order, "7; then field by field: 1 (header), 2, 3, 1 (body), 4, 5, then 6 or 11; at the end 8", stands
-- in the words: at a field that is looked for (`Due`, `Reached`) no field before is refused and the file is within its limit; at one field each
-- row says which rows before it do not hold. Assumes nothing.
use Rattle.std.specs.Prelude.{ℕ, ◌≤◌, ◌<◌, ◌≡◌, ◌⊎◌, ◌≢◌, List, length}
use Rattle.terms.specs.Value.{Value}
use Rattle.terms.specs.Refusals.{cut, foreign_tag, wrong_length, not_first, no_bit, too_long}
use Rattle.fields.specs.declared.Kind.{Kind}
use Rattle.fields.specs.Tags.{limit_of}
use Rattle.fields.specs.Field.{Tagged}
use Rattle.fields.specs.Walk.{Walked, ended, refused, Checked, no}
use Rattle.refusal_rows.specs.Bytes.{tag_byte, field_at, HeaderCut, ForeignTag, WrongLength, BodyCut, WholeField, FlickerBody}
use Rattle.refusal_rows.specs.Reached.{Later, Reached, Due}

module _ {S : Type 0} (own : S → Tagged → Checked S) (kind : Kind) (file : List ℕ) (start : Value → S) where
  -- 1: "1 or 2 bytes remain for a header, or the body is cut"
  abbrev pub Row1 : ℕ → Type 0
  Row1 p = Due own kind file start p × (HeaderCut file p ⊎ BodyCut kind file p)

  -- 2: "the tag isn't of this kind of file"
  abbrev pub Row2 : ℕ → Type 0
  Row2 p = Due own kind file start p × ForeignTag kind file p

  -- 3: "the body length isn't the tag's"
  abbrev pub Row3 : ℕ → Type 0
  Row3 p = Due own kind file start p × WrongLength kind file p

  -- 4: "no first field, the first is not tag 1, or tag 1 stands later"
  pub data Row4 (p : ℕ) : Type 0 where
    no_first : p ≡ 0 → length file ≡ 0 → Row4 p
    other_first : p ≡ 0 → length file ≤ limit_of kind → WholeField kind file p → tag_byte file p ≢ 1 → Row4 p
    one_later : (s : S) → Reached own kind file start p s → WholeField kind file p → tag_byte file p ≡ 1 → Row4 p

  -- 5: "flicker body other than 0 or 1"
  abbrev pub Row5 : ℕ → Type 0
  Row5 p = (s : S) × Reached own kind file start p s × WholeField kind file p × FlickerBody file p

  -- 6 or 11, the kind's own: its check refuses the field, and none of the rows before it holds there.
  abbrev pub OwnRow : ℕ → ℕ → Type 0
  OwnRow n p = (s : S) × Reached own kind file start p s × Later kind file p × (own s (field_at file p) ≡ no n)

  -- 7: "file over its limit"
  abbrev pub Row7 : ℕ → Type 0
  Row7 p = (p ≡ 0) × (limit_of kind < length file)

  -- The rows that both kinds share.
  pub data FileRow (n p : ℕ) : Type 0 where
    row_1 : n ≡ cut → Row1 p → FileRow n p
    row_2 : n ≡ foreign_tag → Row2 p → FileRow n p
    row_3 : n ≡ wrong_length → Row3 p → FileRow n p
    row_4 : n ≡ not_first → Row4 p → FileRow n p
    row_5 : n ≡ no_bit → Row5 p → FileRow n p
    row_7 : n ≡ too_long → Row7 p → FileRow n p

  -- With the ending: what is known at the file's end decides.
  module _ {A : Type 0} (finish : S → Walked A) where
    abbrev pub EndRow : ℕ → ℕ → Type 0
    EndRow n p = (s : S) × Reached own kind file start (length file) s × (finish s ≡ refused n p)

    pub data Row (n p : ℕ) : Type 0 where
      of_file : FileRow n p → Row n p
      of_check : OwnRow n p → Row n p
      of_end : EndRow n p → Row n p

    -- Good: the end is reached, and the ending answers a.
    abbrev pub Good : A → Type 0
    Good a = (s : S) × Reached own kind file start (length file) s × (finish s ≡ ended a)
