-- To be believed: the numbers that the machine's events carry say which write each read saw. Assumes nothing.
use Rattle.std.specs.Prelude.{ℕ, ◌+◌, ◌≤◌, ◌<◌, ◌≡◌, List, [], ◌∷◌, ◌++◌, length}
use Rattle.std.proofs.Math.Option.{some}
use Rattle.std.proofs.Math.ListN.{get_elem?}
use Rattle.terms.specs.Value.{Value}
use Rattle.history.specs.Numbered.{Numbered, AtPort, write_began, write_numbered, write_ended, read_began, read_ended, without_numbers}
use Rattle.history.specs.Operations.{count, begins_write, ends_read}
use Rattle.history.specs.Serialization.{Taken, LastWrite, NoWrite, Serialization}

-- The numbers of the reads that ended, in order.
abbrev pub read_number : Numbered Value → List ℕ
read_number (write_began v) = []
read_number (write_numbered n) = []
read_number write_ended = []
read_number read_began = []
read_number (read_ended v n) = n ∷ []

abbrev pub read_numbers : List (AtPort Value) → List ℕ
read_numbers [] = []
read_numbers (e ∷ es) = read_number e.event ++ read_numbers es

-- The numbers of the writes, in order.
abbrev pub write_number : Numbered Value → List ℕ
write_number (write_began v) = []
write_number (write_numbered n) = n ∷ []
write_number write_ended = []
write_number read_began = []
write_number (read_ended v n) = []

abbrev pub write_numbers : List (AtPort Value) → List ℕ
write_numbers [] = []
write_numbers (e ∷ es) = write_number e.event ++ write_numbers es

-- In one legal serialization the numbers of the reads say which write each of them saw. The initial value has number 1.
pub record SeenNumbers (v0 : Value) (es : List (AtPort Value)) : Type 0 where
  pub serialization : Serialization v0 (without_numbers es)
  -- every write has a number, the write j (from 0) the number j + 2;
  pub each_write : length (write_numbers es) ≡ count begins_write (without_numbers es)
  pub write_number_is : (j n : ℕ) → get_elem? (write_numbers es) j ≡ some n → n ≡ j + 2
  -- every ended read has a number, from 1 on;
  pub each_read : length (read_numbers es) ≡ count ends_read (without_numbers es)
  pub from_one : (i n : ℕ) → get_elem? (read_numbers es) i ≡ some n → 1 ≤ n
  -- before a read of number 1 there is no write,
  pub first : (i : ℕ) → get_elem? (read_numbers es) i ≡ some 1
      → NoWrite (Taken (without_numbers es) serialization.with_open) (λ a b. serialization.rank a < serialization.rank b) i
  -- and the last write before a read of number j + 2 is the write j.
  pub later : (i j : ℕ) → get_elem? (read_numbers es) i ≡ some (j + 2)
      → LastWrite (Taken (without_numbers es) serialization.with_open) (λ a b. serialization.rank a < serialization.rank b) j i
