-- A LOG, ROW BY ROW: it is refused with a number and a place exactly when the row of that number holds at that place. Assumes nothing.
use Prim.Native.Nat.{ℕ}
use mathlib.Core.Path.{◌≡◌, refl, sym, ap, ◌∙◌}
use mathlib.Core.Logic.{◌≢◌, ◌↔◌, inl, inr}
use mathlib.Core.Bool.{Bool, true, false, not, false≢true}
use mathlib.Core.List.{List, [], ◌∷◌, ◌++◌}
use mathlib.Core.Option.{some}
use native.Mathlib.Omega.{arith}
use lib.Dec.{eqb}
use borrow.Author.Tests.{eqb-true, eqb-false, not-false}
use Rattle.std.specs.Prelude.{if◌then◌else◌}
use Rattle.terms.specs.Value.{Value}
use Rattle.terms.specs.Refusals.{out_of_turn}
use Rattle.history.specs.Events.{Event, write_began, write_ended, read_began, read_ended}
use Rattle.history.specs.Operations.{in_turn, write_open, read_open}
use Rattle.history.proofs.Turns.{write_open_is, read_open_is}
use Rattle.fields.specs.declared.Kind.TheVariants.{Log}
use Rattle.fields.specs.Field.{Tagged, value_in}
use Rattle.fields.specs.Walk.{ended, refused, Checked, on, no}
use Rattle.fields.specs.Events.{Recorded, recorded, recorded_event}
use Rattle.refusal_rows.specs.Bytes.{tag_byte, field_at, TagOf}
use Rattle.refusal_rows.specs.Reached.{Later}
use Rattle.refusal_rows.specs.FileRows.{OwnRow, Row, of_file, of_check, of_end}
use Rattle.judge.specs.Promise.{in_turn_with}
use Rattle.refusal_rows.specs.LogRows.{log_check, log_start, log_whole, WriteOpen, ReadOpen, OutOfTurn, tag_7, tag_8, tag_9, tag_10, Row11, LogRow, shared, row_11}
use Rattle.refusal_rows.proofs.FileRows.{row_of, no_row_of}

-- The event of a log's field behind the head, by its tag.
data Tells (t : Tagged) : Type 0 where
  seven : t.tag ≡ 7 → recorded_event t ≡ some (write_began (value_in t.body)) → Tells t
  eight : t.tag ≡ 8 → recorded_event t ≡ some write_ended → Tells t
  nine : t.tag ≡ 9 → recorded_event t ≡ some read_began → Tells t
  ten : t.tag ≡ 10 → recorded_event t ≡ some (read_ended (value_in t.body)) → Tells t

tells : (t : Tagged) → TagOf Log t.tag → t.tag ≢ 1 → Tells t
unfolding recorded_event
tells t (inl e) n = absurd (n e)
tells t (inr k) n = on (eqb t.tag 7) refl (eqb t.tag 8) refl (eqb t.tag 9) refl (eqb t.tag 10) refl
  where
    on : (a : Bool) → eqb t.tag 7 ≡ a → (b : Bool) → eqb t.tag 8 ≡ b → (c : Bool) → eqb t.tag 9 ≡ c → (d : Bool) → eqb t.tag 10 ≡ d → Tells t
    on true p b q c r d u = seven (eqb-true t.tag 7 p) (rw p)
    on false p true q c r d u = eight (eqb-true t.tag 8 q) (rw (p, q))
    on false p false q true r d u = nine (eqb-true t.tag 9 r) (rw (p, q, r))
    on false p false q false r true u = ten (eqb-true t.tag 10 u) (rw (p, q, r, u))
    on false p false q false r false u =
        absurd (omega (arith, eqb-false t.tag 7 p, eqb-false t.tag 8 q, eqb-false t.tag 9 r, eqb-false t.tag 10 u))

-- The tests of what is open, as facts.
closed_write : (es : List (Event Value)) → write_open es ≡ false → ¬ WriteOpen es
closed_write es e o = false≢true (sym e ∙ (write_open_is es).1 o)

closed_read : (es : List (Event Value)) → read_open es ≡ false → ¬ ReadOpen es
closed_read es e o = false≢true (sym e ∙ (read_open_is es).1 o)

decided : (b : Bool) → ¬ (b ≡ true) → b ≡ false
decided true h = absurd (h refl)
decided false h = refl

-- Out of turn, by the event and by the tag.
module _ (es : List (Event Value)) (t : Tagged) where
  turn_tag : (e : Event Value) → Tells t → recorded_event t ≡ some e → in_turn es e ≡ false → OutOfTurn es t.tag
  turn_tag e (seven k i) j h = let q : write_began (value_in t.body) ≡ e = cc in
      tag_7 k ((write_open_is es).0 (not-false (write_open es) (rw (← q) at h)))
  turn_tag e (eight k i) j h = let q : write_ended ≡ e = cc in tag_8 k (closed_write es (rw (← q) at h))
  turn_tag e (nine k i) j h = let q : read_began ≡ e = cc in tag_9 k ((read_open_is es).0 (not-false (read_open es) (rw (← q) at h)))
  turn_tag e (ten k i) j h = let q : read_ended (value_in t.body) ≡ e = cc in tag_10 k (closed_read es (rw (← q) at h))

  out : (e : Event Value) → recorded_event t ≡ some e → in_turn es e ≡ false → (e : Event Value) × (recorded_event t ≡ some e) × (in_turn es e ≡ false)
  out e i h = (e, i, h)

  tag_turn : Tells t → OutOfTurn es t.tag → (e : Event Value) × (recorded_event t ≡ some e) × (in_turn es e ≡ false)
  tag_turn (seven k i) (tag_7 f o) = out (write_began (value_in t.body)) i (ap not ((write_open_is es).1 o))
  tag_turn (seven k i) (tag_8 f o) = absurd (omega arith)
  tag_turn (seven k i) (tag_9 f o) = absurd (omega arith)
  tag_turn (seven k i) (tag_10 f o) = absurd (omega arith)
  tag_turn (eight k i) (tag_7 f o) = absurd (omega arith)
  tag_turn (eight k i) (tag_8 f o) = out write_ended i (decided (write_open es) (λ h. o ((write_open_is es).0 h)))
  tag_turn (eight k i) (tag_9 f o) = absurd (omega arith)
  tag_turn (eight k i) (tag_10 f o) = absurd (omega arith)
  tag_turn (nine k i) (tag_7 f o) = absurd (omega arith)
  tag_turn (nine k i) (tag_8 f o) = absurd (omega arith)
  tag_turn (nine k i) (tag_9 f o) = out read_began i (ap not ((read_open_is es).1 o))
  tag_turn (nine k i) (tag_10 f o) = absurd (omega arith)
  tag_turn (ten k i) (tag_7 f o) = absurd (omega arith)
  tag_turn (ten k i) (tag_8 f o) = absurd (omega arith)
  tag_turn (ten k i) (tag_9 f o) = absurd (omega arith)
  tag_turn (ten k i) (tag_10 f o) = out (read_ended (value_in t.body)) i (decided (read_open es) (λ h. o ((read_open_is es).0 h)))

-- The own check refuses 11, and nothing else, exactly where the event is out of turn.
module _ (l : Recorded) (t : Tagged) (k : Tells t) where
  check_turn : (n : ℕ) → log_check l t ≡ no n → (n ≡ out_of_turn) × OutOfTurn l.events t.tag
  check_turn n h = each k
    where
      says : (e : Event Value) → recorded_event t ≡ some e → (b : Bool) → in_turn l.events e ≡ b
          → (if b then on (recorded l.initial (l.events ++ (e ∷ []))) else no out_of_turn) ≡ no n → (n ≡ out_of_turn) × OutOfTurn l.events t.tag
      says e i true b q = let z : ◌≡◌ {A = ℕ} 0 1 = cc in absurd (omega arith)
      says e i false b q = (cc, turn_tag l.events t e k i b)

      event : (e : Event Value) → recorded_event t ≡ some e → (n ≡ out_of_turn) × OutOfTurn l.events t.tag
      event e i = says e i (in_turn l.events e) refl (sym (ap (in_turn_with l) i) ∙ h)

      each : Tells t → (n ≡ out_of_turn) × OutOfTurn l.events t.tag
      each (seven a i) = event (write_began (value_in t.body)) i
      each (eight a i) = event write_ended i
      each (nine a i) = event read_began i
      each (ten a i) = event (read_ended (value_in t.body)) i

  turn_check : OutOfTurn l.events t.tag → log_check l t ≡ no out_of_turn
  turn_check h = let (e, i, q) = tag_turn l.events t k h in ap (in_turn_with l) i ∙ rw q

module _ (file : List ℕ) (p : ℕ) where
  field_tells : Later Log file p → Tells (field_at file p)
  field_tells h = tells (field_at file p) h.field.known h.not_one

  pub log_own : (n : ℕ) → OwnRow log_check Log file log_start n p ↔ ((n ≡ out_of_turn) × Row11 file p)
  log_own n = (
    λ (l, r, h, e). let (i, o) = check_turn l (field_at file p) (field_tells h) n e in (i, record { log = l; reached = r; later = h; turn = o }),
    λ (i, w). (w.log, w.reached, w.later, rw i (turn_check w.log (field_at file p) (field_tells w.later) w.turn)),
  )

module _ {A : Type 0} (answer : Recorded → A) (file : List ℕ) where
  to_log : (n p : ℕ) → Row log_check Log file log_start (λ l. ended (answer l)) n p → LogRow file n p
  to_log n p (of_file h) = shared h
  to_log n p (of_check h) = let (e, k) = (log_own file p n).0 h in row_11 e k
  to_log n p (of_end (l, r, h)) = let z : ◌≡◌ {A = ℕ} 0 1 = cc in absurd (omega arith)

  from_log : (n p : ℕ) → LogRow file n p → Row log_check Log file log_start (λ l. ended (answer l)) n p
  from_log n p (shared h) = of_file h
  from_log n p (row_11 e h) = of_check ((log_own file p n).1 (e, h))

  -- THE THEOREMS.
  pub log_row_of : (n p : ℕ) → (log_whole answer file ≡ refused n p) ↔ LogRow file n p
  log_row_of n p =
      (λ e. to_log n p ((row_of log_check (λ l. ended (answer l)) Log file log_start n p).0 e), λ h. (row_of log_check (λ l. ended (answer l)) Log file log_start n p).1 (from_log n p h))

  -- Good exactly when no row holds.
  pub log_good : ((a : A) × (log_whole answer file ≡ ended a)) ↔ ((n p : ℕ) → ¬ LogRow file n p)
  log_good = (
    λ g n p h. (no_row_of log_check (λ l. ended (answer l)) Log file log_start).0 g n p (from_log n p h),
    λ h. (no_row_of log_check (λ l. ended (answer l)) Log file log_start).1 (λ n p k. h n p (to_log n p k)),
  )

-- Rows exclude each other.
pub log_row_unique : (file : List ℕ) (n p n' p' : ℕ) → LogRow file n p → LogRow file n' p' → (n ≡ n') × (p ≡ p')
log_row_unique file n p n' p' h h' =
    let e : refused n p ≡ refused n' p' = sym ((log_row_of (λ l. l) file n p).1 h) ∙ (log_row_of (λ l. l) file n' p').1 h' in (cc, cc)

-- A field goes on exactly where 11 does not hold.
pub log_on : (l : Recorded) (file : List ℕ) (p : ℕ) → Later Log file p
    → ((next : Recorded) × (log_check l (field_at file p) ≡ on next)) ↔ ¬ OutOfTurn l.events (tag_byte file p)
log_on l file p h = (one_way, λ o. other (log_check l (field_at file p)) refl o)
  where
    one_way : (next : Recorded) × (log_check l (field_at file p) ≡ on next) → ¬ OutOfTurn l.events (tag_byte file p)
    one_way (next, e) o =
        let q = turn_check l (field_at file p) (field_tells file p h) o in
        let z : ◌≡◌ {A = ℕ} 0 1 = cc in
        omega arith

    other : (c : Checked Recorded) → log_check l (field_at file p) ≡ c → ¬ OutOfTurn l.events (tag_byte file p)
        → (next : Recorded) × (log_check l (field_at file p) ≡ on next)
    other (on next) e o = (next, e)
    other (no n) e o = absurd (o (check_turn l (field_at file p) (field_tells file p h) n e).1)
