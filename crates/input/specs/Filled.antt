-- To be believed: what reading into a buffer promises. `old` and `new` are the bytes that the reader has left before and after, where they are known.
use Rattle.std.specs.Prelude.{ℕ, ◌≤◌, ◌<◌, List, length, take, Option, Result, Ok, Err}
use Rattle.std.specs.Io.KnownBytes.{Consumes, IsAtEnd}

-- The first n bytes of the buffer are the reader's next ones, in order, and it has lost no others.
abbrev pub ReadToFront : Option (List ℕ) → Option (List ℕ) → ℕ → List ℕ → Type 0
ReadToFront old new n buffer = (n ≤ length buffer) × Consumes old new (take n buffer)

-- `fill`: the n bytes that came, fewer than the buffer has only at the input's end; or a read's error, and what came before it is at the front.
abbrev pub Fills : {E : Type 0} → Option (List ℕ) → Option (List ℕ) → Result ℕ E → List ℕ → Type 0
Fills old new (Ok n) buffer = ReadToFront old new n buffer × (n < length buffer → IsAtEnd new)
Fills old new (Err e) buffer = (n : ℕ) × ReadToFront old new n buffer
