-- To be believed: the refusal numbers (document 01, "Refusal numbers"), each by name, in the table's order.
use Rattle.std.specs.Prelude.{ℕ}
use Rattle.terms.specs.declared.Refusal.{Refusal}
use Rattle.terms.specs.declared.Refusal.TheVariants.{Cut, ForeignTag, WrongLength, NotFirst, NoBit, Misfit, TooLong, NoRoom, OutOfRange, Clash, OutOfTurn, NumberSpent}

-- "0 is good"
abbrev pub good_number : ℕ
good_number = 0

-- 1 or 2 bytes remain for a header, or the body is cut
abbrev pub cut : ℕ
cut = 1

-- the tag isn't of this kind of file
abbrev pub foreign_tag : ℕ
foreign_tag = 2

-- the body length isn't the tag's
abbrev pub wrong_length : ℕ
wrong_length = 3

-- no first field, the first is not tag 1, or tag 1 stands later
abbrev pub not_first : ℕ
not_first = 4

-- flicker body other than 0 or 1
abbrev pub no_bit : ℕ
no_bit = 5

-- the move doesn't fit the location
abbrev pub misfit : ℕ
misfit = 6

-- file over its limit
abbrev pub too_long : ℕ
too_long = 7

-- output shorter than the whole log
abbrev pub no_room : ℕ
no_room = 8

-- single move: a location outside its range, a bit of the state or the move above 1, or a tag, start, number or masq above 65,535
abbrev pub out_of_range : ℕ
out_of_range = 9

-- single move: the state is a clash, for every move
abbrev pub clash : ℕ
clash = 10

-- log: an operation begun while the same party's is open, or ended while none is
abbrev pub out_of_turn : ℕ
out_of_turn = 11

-- single move: step 20 with the writer's number at 65,535
abbrev pub number_spent : ℕ
number_spent = 12

-- The number of each refusal that the code names.
abbrev pub refusal_number : Refusal → ℕ
refusal_number Cut = cut
refusal_number ForeignTag = foreign_tag
refusal_number WrongLength = wrong_length
refusal_number NotFirst = not_first
refusal_number NoBit = no_bit
refusal_number Misfit = misfit
refusal_number TooLong = too_long
refusal_number NoRoom = no_room
refusal_number OutOfRange = out_of_range
refusal_number Clash = clash
refusal_number OutOfTurn = out_of_turn
refusal_number NumberSpent = number_spent
