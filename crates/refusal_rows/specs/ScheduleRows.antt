-- To be believed: document 01's refusal table for a schedule: the rows that both kinds share, 6 and 8 (proofs/ScheduleRows: the run is
-- refused with the number n and the place p exactly when the row of n holds at p). Assumes nothing.
use Rattle.std.specs.Prelude.{ℕ, ◌<◌, ◌≡◌, ◌≢◌, List, length}
use Rattle.terms.specs.Refusals.{misfit, no_room}
use Rattle.fields.specs.declared.Kind.TheVariants.{Schedule}
use Rattle.register.specs.declared.State.{State}
use Rattle.replay.specs.Run.{Run, start, step, log_of}
use Rattle.refusal_rows.specs.Bytes.{tag_byte}
use Rattle.refusal_rows.specs.Reached.{Later, Reached}
use Rattle.refusal_rows.specs.FileRows.{FileRow}

-- "the move doesn't fit the location", by the field's tag and the state's locations: 2, "A writer's start fits only at 20"; 3, "another writer
-- step only at 21 to 27"; 4, a writer flicker "only at 21, 24, 26"; 5, "a reader step everywhere"; 6, a reader flicker only at 41.
pub data MisfitTag (s : State) (tag : ℕ) : Type 0 where
  tag_2 : tag ≡ 2 → s.q ≢ 20 → MisfitTag s tag
  tag_3 : tag ≡ 3 → s.q ≡ 20 → MisfitTag s tag
  tag_4 : tag ≡ 4 → s.q ≢ 21 → s.q ≢ 24 → s.q ≢ 26 → MisfitTag s tag
  tag_6 : tag ≡ 6 → s.r ≢ 41 → MisfitTag s tag

-- The offset is reached over good fields, and the run is known there.
abbrev pub ScheduleReached : List ℕ → ℕ → Run → Type 0
ScheduleReached file at run = Reached step Schedule file start at run

-- 6: at a reached offset a field of which none of 1 to 5 holds, and its move doesn't fit the location of the machine's state there.
pub record Row6 (file : List ℕ) (p : ℕ) : Type 0 where
  pub run : Run
  pub reached : ScheduleReached file p run
  pub later : Later Schedule file p
  pub misfits : MisfitTag run.state (tag_byte file p)

-- 8: "output shorter than the whole log", at the file's end; `room` is the output's length.
pub record Row8 (file : List ℕ) (room p : ℕ) : Type 0 where
  pub place : p ≡ 0
  pub run : Run
  pub reached : ScheduleReached file (length file) run
  pub short : room < length (log_of run)

pub data ScheduleRow (file : List ℕ) (room n p : ℕ) : Type 0 where
  shared : FileRow step Schedule file start n p → ScheduleRow file room n p
  row_6 : n ≡ misfit → Row6 file p → ScheduleRow file room n p
  row_8 : n ≡ no_room → Row8 file room p → ScheduleRow file room n p
