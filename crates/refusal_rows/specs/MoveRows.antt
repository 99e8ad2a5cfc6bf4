-- To be believed: document 01's refusal table for a single move, row by row, in its own order ("For a single move: 9, 10, 6, 12"). Each row
-- is said of the state's fields in plain arithmetic. Proved in proofs/MoveRows: `answer_to` gives a number exactly when its row holds.
-- Assumes nothing.
use Rattle.std.specs.Prelude.{ℕ, ◌-◌, ◌<◌, ◌≡◌, ◌⊎◌, ◌≢◌, List, [], ◌∷◌}
use Rattle.terms.specs.Refusals.{good_number, misfit, out_of_range, clash, number_spent}
use Rattle.register.specs.declared.State.{State}
use Rattle.register.specs.declared.Move.{Move}
use Rattle.register.specs.declared.Move.TheVariants.{WriterStart, WriterStep, WriterFlicker, ReaderStep, ReaderFlicker}
use Rattle.register.specs.Steps.{c_at, tag_at}

-- Some entry of the list is above n.
abbrev pub SomeAbove : ℕ → List ℕ → Type 0
SomeAbove n [] = ⊥
SomeAbove n (x ∷ xs) = (n < x) ⊎ SomeAbove n xs

-- The bits of a move: a flicker's.
abbrev pub move_bits : Move → List ℕ
move_bits (WriterStart v) = []
move_bits WriterStep = []
move_bits (WriterFlicker b) = b ∷ []
move_bits ReaderStep = []
move_bits (ReaderFlicker b) = b ∷ []

-- 9: "a location outside its range, a bit of the state or the move above 1, or a tag, start, number or masq above 65,535"
pub data OutOfRange (s : State) (m : Move) : Type 0 where
  q_below : s.q < 20 → OutOfRange s m
  q_above : 27 < s.q → OutOfRange s m
  r_below : s.r < 40 → OutOfRange s m
  r_above : 44 < s.r → OutOfRange s m
  state_bit : SomeAbove 1 (s.ww ∷ s.rr ∷ c_at s 0 ∷ c_at s 1 ∷ s.aw ∷ s.cw ∷ s.br ∷ s.cr ∷ []) → OutOfRange s m
  move_bit : SomeAbove 1 (move_bits m) → OutOfRange s m
  tag : SomeAbove 65535 (tag_at s 0 0 ∷ tag_at s 0 1 ∷ tag_at s 1 0 ∷ tag_at s 1 1 ∷ []) → OutOfRange s m
  start_number_or_masq : SomeAbove 65535 (s.startw ∷ s.startr ∷ s.numberw ∷ s.numberr ∷ s.masq ∷ []) → OutOfRange s m

-- 10: "the state is a clash, for every move": "a state with r = 43 in which the writer at 20 would write buf[br,cr], or the writer at 23
-- would." Step 20 writes buf[aw, not c[aw]], step 23 buf[not aw, not c[not aw]].
pub data Clash (s : State) : Type 0 where
  at_20 : s.r ≡ 43 → s.q ≡ 20 → s.aw ≡ s.br → 1 - c_at s s.aw ≡ s.cr → Clash s
  at_23 : s.r ≡ 43 → s.q ≡ 23 → 1 - s.aw ≡ s.br → 1 - c_at s (1 - s.aw) ≡ s.cr → Clash s

-- 6: "the move doesn't fit the location": "A writer's start fits only at 20, another writer step only at 21 to 27, a reader step everywhere";
-- "A flicker is allowed only at 21, 24, 26 (writer) or 41 (reader)". (Where 9 does not hold, q is 20 to 27.)
abbrev pub Misfit : State → Move → Type 0
Misfit s (WriterStart v) = s.q ≢ 20
Misfit s WriterStep = s.q ≡ 20
Misfit s (WriterFlicker b) = (s.q ≢ 21) × (s.q ≢ 24) × (s.q ≢ 26)
Misfit s ReaderStep = ⊥
Misfit s (ReaderFlicker b) = s.r ≢ 41

-- 12: "step 20 with the writer's number at 65,535"
abbrev pub NumberSpent : State → Move → Type 0
NumberSpent s (WriterStart v) = (s.q ≡ 20) × (s.numberw ≡ 65535)
NumberSpent s WriterStep = ⊥
NumberSpent s (WriterFlicker b) = ⊥
NumberSpent s ReaderStep = ⊥
NumberSpent s (ReaderFlicker b) = ⊥

-- The order: a row holds where its words do and no row before it in the order. "0 is good": none holds.
pub data MoveRow (s : State) (m : Move) (n : ℕ) : Type 0 where
  row_9 : n ≡ out_of_range → OutOfRange s m → MoveRow s m n
  row_10 : n ≡ clash → ¬ OutOfRange s m → Clash s → MoveRow s m n
  row_6 : n ≡ misfit → ¬ OutOfRange s m → ¬ Clash s → Misfit s m → MoveRow s m n
  row_12 : n ≡ number_spent → ¬ OutOfRange s m → ¬ Clash s → ¬ Misfit s m → NumberSpent s m → MoveRow s m n
  no_row : n ≡ good_number → ¬ OutOfRange s m → ¬ Clash s → ¬ Misfit s m → ¬ NumberSpent s m → MoveRow s m n
