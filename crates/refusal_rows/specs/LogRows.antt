-- To be believed: document 01's refusal table for a log: the rows that both kinds share, and 11 (proofs/LogRows: a log is refused with the
-- number n and the place p exactly when the row of n holds at p). Assumes nothing.
use Rattle.std.specs.Prelude.{ℕ, ◌≡◌, List, []}
use Rattle.terms.specs.Value.{Value}
use Rattle.terms.specs.Refusals.{out_of_turn}
use Rattle.history.specs.Events.{Event}
use Rattle.history.specs.Operations.{write, read, Open}
use Rattle.fields.specs.declared.Kind.TheVariants.{Log}
use Rattle.fields.specs.Field.{Tagged}
use Rattle.fields.specs.Walk.{Walked, ended, Checked, whole}
use Rattle.fields.specs.Events.{Recorded, recorded, recorded_event}
use Rattle.judge.specs.Promise.{in_turn_with}
use Rattle.refusal_rows.specs.Bytes.{tag_byte}
use Rattle.refusal_rows.specs.Reached.{Later, Reached}
use Rattle.refusal_rows.specs.FileRows.{FileRow}

-- A log's own check is the judge's (judge, specs/Promise.antt).
abbrev pub log_check : Recorded → Tagged → Checked Recorded
log_check l t = in_turn_with l (recorded_event t)

-- What is known after the head: the initial value, and no event yet.
abbrev pub log_start : Value → Recorded
log_start v = recorded v []

-- A log as the judge walks over it, whatever it answers of the events in the end.
abbrev pub log_whole : {A : Type 0} → (Recorded → A) → List ℕ → Walked A
log_whole answer file = whole log_check (λ l. ended (answer l)) Log file log_start

-- A write is open, a read is open: one has begun, and has not ended.
abbrev pub WriteOpen : List (Event Value) → Type 0
WriteOpen es = (j : ℕ) × Open es (write j)

abbrev pub ReadOpen : List (Event Value) → Type 0
ReadOpen es = (i : ℕ) × Open es (read i)

-- "an operation begun while the same party's is open, or ended while none is", by the field's tag: 7, write began; 8, write ended; 9, read
-- began; 10, read ended.
pub data OutOfTurn (es : List (Event Value)) (tag : ℕ) : Type 0 where
  tag_7 : tag ≡ 7 → WriteOpen es → OutOfTurn es tag
  tag_8 : tag ≡ 8 → ¬ WriteOpen es → OutOfTurn es tag
  tag_9 : tag ≡ 9 → ReadOpen es → OutOfTurn es tag
  tag_10 : tag ≡ 10 → ¬ ReadOpen es → OutOfTurn es tag

-- The offset is reached over good fields, and the events before it are known.
abbrev pub LogReached : List ℕ → ℕ → Recorded → Type 0
LogReached file at l = Reached log_check Log file log_start at l

-- 11: at a reached offset a field of which none of 1 to 5 holds, and its event is out of turn after those before it.
pub record Row11 (file : List ℕ) (p : ℕ) : Type 0 where
  pub log : Recorded
  pub reached : LogReached file p log
  pub later : Later Log file p
  pub turn : OutOfTurn log.events (tag_byte file p)

pub data LogRow (file : List ℕ) (n p : ℕ) : Type 0 where
  shared : FileRow log_check Log file log_start n p → LogRow file n p
  row_11 : n ≡ out_of_turn → Row11 file p → LogRow file n p
