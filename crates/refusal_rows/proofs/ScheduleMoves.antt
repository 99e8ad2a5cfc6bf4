-- The move of a schedule's field: by its tag, which bit it carries, and when it doesn't fit the location. Assumes nothing.
use Prim.Native.Nat.{ℕ, ◌+◌, ◌*◌, ◌≤◌, ◌<◌}
use mathlib.Core.Path.{◌≡◌, refl, ap, ◌∙◌}
use mathlib.Core.Logic.{◌⊎◌, ◌≢◌, inl, inr}
use mathlib.Core.Bool.{Bool, true, false}
use mathlib.Core.List.{List, [], ◌∷◌}
use native.Mathlib.Omega.{arith}
use lib.Dec.{eqb}
use lib.ListN.{length, get_or}
use borrow.Author.Tests.{eqb-true, eqb-false}
use Rattle.fields.specs.declared.Kind.TheVariants.{Schedule}
use Rattle.fields.specs.Numbers.{number}
use Rattle.fields.specs.Tags.{body_length_of}
use Rattle.fields.specs.Field.{Tagged, value_in}
use Rattle.register.specs.declared.State.{State}
use Rattle.register.specs.declared.Move.{Move}
use Rattle.register.specs.declared.Move.TheVariants.{WriterStart, WriterStep, WriterFlicker, ReaderStep, ReaderFlicker}
use Rattle.register.specs.Move.{bit_carried}
use Rattle.register.specs.Run.{given}
use Rattle.replay.specs.Run.{move_of}
use Rattle.refusal_rows.specs.MoveRows.{Misfit, NumberSpent}
use Rattle.refusal_rows.specs.Bytes.{tag_byte, length_bytes, field_at, TagOf}
use Rattle.refusal_rows.specs.Reached.{Later}
use Rattle.refusal_rows.specs.ScheduleRows.{MisfitTag, tag_2, tag_3, tag_4, tag_6}
use Rattle.refusal_rows.proofs.Behind.{flicker_byte}

-- The move of a field, by its tag.
pub data Moves (t : Tagged) : Type 0 where
  start : t.tag ≡ 2 → move_of t ≡ WriterStart (value_in t.body) → Moves t
  step : t.tag ≡ 3 → move_of t ≡ WriterStep → Moves t
  writer_flicker : t.tag ≡ 4 → move_of t ≡ WriterFlicker (number 1 t.body) → Moves t
  reader_step : t.tag ≡ 5 → move_of t ≡ ReaderStep → Moves t
  reader_flicker : t.tag ≡ 6 → move_of t ≡ ReaderFlicker (number 1 t.body) → Moves t

pub moves : (t : Tagged) → TagOf Schedule t.tag → t.tag ≢ 1 → Moves t
unfolding move_of
moves t k n = on (eqb t.tag 2) refl (eqb t.tag 3) refl (eqb t.tag 4) refl (eqb t.tag 5) refl
  where
    on : (a : Bool) → eqb t.tag 2 ≡ a → (b : Bool) → eqb t.tag 3 ≡ b → (c : Bool) → eqb t.tag 4 ≡ c → (d : Bool) → eqb t.tag 5 ≡ d → Moves t
    on true p b q c r d u = start (eqb-true t.tag 2 p) (rw p)
    on false p true q c r d u = step (eqb-true t.tag 3 q) (rw (p, q))
    on false p false q true r d u = writer_flicker (eqb-true t.tag 4 r) (rw (p, q, r))
    on false p false q false r true u = reader_step (eqb-true t.tag 5 u) (rw (p, q, r, u))
    on false p false q false r false u =
        reader_flicker (omega (arith, eqb-false t.tag 2 p, eqb-false t.tag 3 q, eqb-false t.tag 4 r, eqb-false t.tag 5 u)) (rw (p, q, r, u))

-- 6 by the move, and 6 by the tag.
pub misfit_tag : (s : State) (t : Tagged) → Moves t → Misfit s (move_of t) → MisfitTag s t.tag
misfit_tag s t (start e m) h = tag_2 e (rw m at h)
misfit_tag s t (step e m) h = tag_3 e (rw m at h)
misfit_tag s t (writer_flicker e m) h = let k : Misfit s (WriterFlicker (number 1 t.body)) = rw m at h in tag_4 e k.0 k.1 k.2
misfit_tag s t (reader_step e m) h = let k : Misfit s ReaderStep = rw m at h in absurd k
misfit_tag s t (reader_flicker e m) h = tag_6 e (rw m at h)

pub tag_misfit : (s : State) (t : Tagged) → Moves t → MisfitTag s t.tag → Misfit s (move_of t)
tag_misfit s t (start e m) (tag_2 f h) = rw m h
tag_misfit s t (start e m) (tag_3 f h) = absurd (omega arith)
tag_misfit s t (start e m) (tag_4 f h i j) = absurd (omega arith)
tag_misfit s t (start e m) (tag_6 f h) = absurd (omega arith)
tag_misfit s t (step e m) (tag_2 f h) = absurd (omega arith)
tag_misfit s t (step e m) (tag_3 f h) = rw m h
tag_misfit s t (step e m) (tag_4 f h i j) = absurd (omega arith)
tag_misfit s t (step e m) (tag_6 f h) = absurd (omega arith)
tag_misfit s t (writer_flicker e m) (tag_2 f h) = absurd (omega arith)
tag_misfit s t (writer_flicker e m) (tag_3 f h) = absurd (omega arith)
tag_misfit s t (writer_flicker e m) (tag_4 f h i j) = rw m (h, i, j)
tag_misfit s t (writer_flicker e m) (tag_6 f h) = absurd (omega arith)
tag_misfit s t (reader_step e m) (tag_2 f h) = absurd (omega arith)
tag_misfit s t (reader_step e m) (tag_3 f h) = absurd (omega arith)
tag_misfit s t (reader_step e m) (tag_4 f h i j) = absurd (omega arith)
tag_misfit s t (reader_step e m) (tag_6 f h) = absurd (omega arith)
tag_misfit s t (reader_flicker e m) (tag_2 f h) = absurd (omega arith)
tag_misfit s t (reader_flicker e m) (tag_3 f h) = absurd (omega arith)
tag_misfit s t (reader_flicker e m) (tag_4 f h i j) = absurd (omega arith)
tag_misfit s t (reader_flicker e m) (tag_6 f h) = rw m h

-- 12 wants the number 65,535.
pub not_spent : (s : State) (m : Move) → s.numberw < 65535 → ¬ NumberSpent s m
not_spent s (WriterStart v) h k = omega (arith, k.1)
not_spent s WriterStep h k = k
not_spent s (WriterFlicker b) h k = k
not_spent s ReaderStep h k = k
not_spent s (ReaderFlicker b) h k = k

-- A field behind the head: its move's bit is 0 or 1, and a start takes 7 bytes.
module _ (file : List ℕ) (at : ℕ) (l : Later Schedule file at) where
  pub later_moves : Moves (field_at file at)
  later_moves = moves (field_at file at) l.field.known l.not_one

  small : (tag_byte file at ≡ 4) ⊎ (tag_byte file at ≡ 6) → number 1 (field_at file at).body ≤ 1
  small t = let k : ¬ (1 < get_or file (at + 3) 0) = λ h. l.bit (t, h) in omega (arith, flicker_byte Schedule file at l.field t)

  pub later_bit : bit_carried (move_of (field_at file at)) ≤ 1
  later_bit = on later_moves
    where
      on : Moves (field_at file at) → bit_carried (move_of (field_at file at)) ≤ 1
      on (start e m) = rw m (omega arith)
      on (step e m) = rw m (omega arith)
      on (writer_flicker e m) = rw m (small (inl e))
      on (reader_step e m) = rw m (omega arith)
      on (reader_flicker e m) = rw m (small (inr e))

  pub seven_bytes : 7 * length (given (move_of (field_at file at) ∷ [])) ≤ 3 + length_bytes file at
  unfolding body_length_of
  seven_bytes = on later_moves
    where
      on : Moves (field_at file at) → 7 * length (given (move_of (field_at file at) ∷ [])) ≤ 3 + length_bytes file at
      on (start e m) = let f : length_bytes file at ≡ 4 = l.field.fitting ∙ ap body_length_of e in rw m (omega arith)
      on (step e m) = rw m (omega arith)
      on (writer_flicker e m) = rw m (omega arith)
      on (reader_step e m) = rw m (omega arith)
      on (reader_flicker e m) = rw m (omega arith)
