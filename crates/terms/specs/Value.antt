-- To be believed: the value that the register holds ("values of 32 bits"; how large it may be is the code's type).
use Rattle.std.specs.Prelude.{ℕ}

abbrev pub Value : Type 0
Value = ℕ

-- What stands where a table has no entry. No promise rests on it: every table that is read has the entry.
abbrev pub no_value : Value
no_value = 0
