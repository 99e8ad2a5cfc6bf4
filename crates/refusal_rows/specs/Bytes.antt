-- To be believed: what stands in a file at an offset, in bytes (document 01, "A field is a one-byte tag, a two-byte body length (high byte
-- first) and the body"), and the words of the refusal table that speak of one field alone. Assumes nothing.
use Rattle.std.specs.Prelude.{ℕ, ◌+◌, ◌≤◌, ◌<◌, ◌≡◌, ◌⊎◌, ◌≢◌, List, length, get_or, take, drop}
use Rattle.fields.specs.declared.Kind.{Kind}
use Rattle.fields.specs.declared.Kind.TheVariants.{Schedule, Log}
use Rattle.fields.specs.Numbers.{number}
use Rattle.fields.specs.Tags.{body_length_of}
use Rattle.fields.specs.Field.{Tagged, tagged}

-- The field at an offset: its tag, the body length that it says, its body.
abbrev pub tag_byte : List ℕ → ℕ → ℕ
tag_byte file at = get_or file at 0

abbrev pub length_bytes : List ℕ → ℕ → ℕ
length_bytes file at = number 2 (drop (at + 1) file)

abbrev pub field_at : List ℕ → ℕ → Tagged
field_at file at = tagged (tag_byte file at) (take (length_bytes file at) (drop (at + 3) file))

-- The tags of the kind of file: the columns "Schedule" and "Log" of the document's table.
abbrev pub TagOf : Kind → ℕ → Type 0
TagOf Schedule tag = (1 ≤ tag) × (tag ≤ 6)
TagOf Log tag = (tag ≡ 1) ⊎ ((7 ≤ tag) × (tag ≤ 10))

-- 1: "1 or 2 bytes remain for a header"
abbrev pub HeaderCut : List ℕ → ℕ → Type 0
HeaderCut file at = (length file ≡ at + 1) ⊎ (length file ≡ at + 2)

module _ (kind : Kind) (file : List ℕ) (at : ℕ) where
  -- 2: "the tag isn't of this kind of file". Before it in the order: the header is whole.
  pub record ForeignTag : Type 0 where
    pub header : at + 3 ≤ length file
    pub foreign : ¬ TagOf kind (tag_byte file at)

  -- 3: "the body length isn't the tag's". Before it: the header is whole, and the tag of this kind.
  pub record WrongLength : Type 0 where
    pub header : at + 3 ≤ length file
    pub known : TagOf kind (tag_byte file at)
    pub other : length_bytes file at ≢ body_length_of (tag_byte file at)

  -- 1: "the body is cut". Before it: the header is whole, the tag of this kind, and the length the tag's.
  pub record BodyCut : Type 0 where
    pub header : at + 3 ≤ length file
    pub known : TagOf kind (tag_byte file at)
    pub fitting : length_bytes file at ≡ body_length_of (tag_byte file at)
    pub missing : length file < at + 3 + length_bytes file at

  -- None of these: a whole field of this kind.
  pub record WholeField : Type 0 where
    pub header : at + 3 ≤ length file
    pub known : TagOf kind (tag_byte file at)
    pub fitting : length_bytes file at ≡ body_length_of (tag_byte file at)
    pub inside : at + 3 + length_bytes file at ≤ length file

-- 5: "flicker body other than 0 or 1", tags 4 and 6, whose body is one byte
abbrev pub FlickerBody : List ℕ → ℕ → Type 0
FlickerBody file at = ((tag_byte file at ≡ 4) ⊎ (tag_byte file at ≡ 6)) × (1 < get_or file (at + 3) 0)
