-- A FILE, ROW BY ROW, for any kind, any own check and any ending: it is refused with a number and a place exactly when the row of that number
-- holds at that place, rows exclude each other, and it is good exactly when no row holds. Assumes nothing.
use Prim.Native.Nat.{ℕ, zero, suc, ◌+◌, ◌≤◌, ◌<◌}
use mathlib.Core.Path.{◌≡◌, refl, sym, ◌∙◌}
use mathlib.Core.Logic.{◌⊎◌, ◌↔◌, inl, inr}
use mathlib.Core.Bool.{Bool, true, false}
use mathlib.Core.List.{List}
use native.Mathlib.Omega.{arith}
use lib.Dec.{leb, eqb}
use lib.ListN.{length}
use borrow.Author.Tests.{leb-true, leb-false, eqb-true, eqb-false}
use Rattle.std.specs.Prelude.{if◌then◌else◌}
use Rattle.terms.specs.Value.{Value}
use Rattle.fields.specs.declared.Kind.{Kind}
use Rattle.fields.specs.Tags.{limit_of}
use Rattle.fields.specs.Field.{Tagged, value_in, found}
use Rattle.fields.specs.Walk.{Walked, ended, refused, Checked, on, no, checked, go_on, turn, walk, whole}
use Rattle.refusal_rows.specs.Bytes.{tag_byte, length_bytes, field_at, WholeField}
use Rattle.refusal_rows.specs.Reached.{Head, Later, Reached, behind_head, behind_field, Due, at_first, at_later}
use Rattle.refusal_rows.specs.FileRows.{no_first, other_first, one_later, FileRow, row_1, row_2, row_3, row_4, row_5, row_7, Row, of_file, of_check, of_end, Good}
use Rattle.refusal_rows.proofs.Fields.{Stopped, header_cut, foreign, other_length, body_cut, found_field, found_stopped, looked}
use Rattle.refusal_rows.proofs.Behind.{Behind, is_one, no_bit_there, later, behind, checked_one, checked_bit, checked_later}
use Rattle.refusal_rows.proofs.RowToWalk.{whole_head, head_of, row_whole, good_whole}

module _ {S A : Type 0} (own : S → Tagged → Checked S) (finish : S → Walked A) (kind : Kind) (file : List ℕ) (start : Value → S) where
  -- What is to be shown of what the walk comes to.
  abbrev Told : Walked A → Type 0
  Told (ended a) = Good own kind file start finish a
  Told (refused n p) = Row own kind file start finish n p

  stopped_row : (n p : ℕ) → Due own kind file start p → Stopped kind file p n → FileRow own kind file start n p
  stopped_row n p d (header_cut h) = row_1 refl (d, inl h)
  stopped_row n p d (foreign h) = row_2 refl (d, h)
  stopped_row n p d (other_length h) = row_3 refl (d, h)
  stopped_row n p d (body_cut h) = row_1 refl (d, inr h)

  told_end : (s : S) → Reached own kind file start (length file) s → Told (finish s)
  told_end s r = on (finish s) refl
    where
      on : (w : Walked A) → finish s ≡ w → Told w
      on (ended a) e = (s, r, e)
      on (refused n p) e = of_end (s, r, e)

  -- One field at a reached offset; `rest` is what is shown of the walk behind it.
  module _ (k at : ℕ) (s : S) (r : Reached own kind file start at s)
      (rest : (t : S) → Reached own kind file start (at + 3 + length_bytes file at) t → WholeField kind file at → Told (walk own finish kind file k (at + 3 + length_bytes file at) t)) where
    told_check : WholeField kind file at → (c : Checked S) → checked own s (field_at file at) ≡ c
        → Told (go_on own finish kind file at (at + 3 + length_bytes file at) c (walk own finish kind file k))
    told_check w c e = on (behind kind file at w) c e
      where
        own_says : Later kind file at → (c : Checked S) → own s (field_at file at) ≡ c → Told (go_on own finish kind file at (at + 3 + length_bytes file at) c (walk own finish kind file k))
        own_says l (on t) e = rest t (behind_field at s t r l e) w
        own_says l (no n) e = of_check (s, r, l, e)

        on : Behind kind file at w → (c : Checked S) → checked own s (field_at file at) ≡ c → Told (go_on own finish kind file at (at + 3 + length_bytes file at) c (walk own finish kind file k))
        on (is_one h) c e = rw (sym e ∙ checked_one kind file at w own s h) (of_file (row_4 refl (one_later s r w h)))
        on (no_bit_there h) c e = rw (sym e ∙ checked_bit kind file at w own s h) (of_file (row_5 refl (s, r, w, h)))
        on (later l) c e = own_says l c (sym (checked_later kind file at w own s l) ∙ e)

    told_turn : at < length file → Told (turn own finish kind file at s (found kind file at) (walk own finish kind file k))
    told_turn i = on (looked kind file at i)
      where
        on : ((n : ℕ) × Stopped kind file at n) ⊎ WholeField kind file at → Told (turn own finish kind file at s (found kind file at) (walk own finish kind file k))
        on (inl (n, h)) = rw (found_stopped kind file at n h) (of_file (stopped_row n at (at_later s r) h))
        on (inr w) = rw (found_field kind file at w) (told_check w (checked own s (field_at file at)) refl)

  told_walk : (k at : ℕ) (s : S) → Reached own kind file start at s → at ≤ length file → length file ≤ at + k → Told (walk own finish kind file k at s)
  told_walk zero at s r i l = let e : at ≡ length file = omega arith in told_end s (rw e at r)
  told_walk (suc k) at s r i l = choose (leb (length file) at) refl
      (λ j. told_turn k at s r (λ t q w. told_walk k (at + 3 + length_bytes file at) t q w.inside (omega arith)) j)
    where
      choose : (b : Bool) → leb (length file) at ≡ b → (at < length file → Told (turn own finish kind file at s (found kind file at) (walk own finish kind file k)))
          → Told (if b then finish s else turn own finish kind file at s (found kind file at) (walk own finish kind file k))
      choose true e f = let i : at ≡ length file = omega (arith, leb-true (length file) at e) in told_end s (rw i at r)
      choose false e f = f (leb-false (length file) at e)

  -- The head.
  told : Told (whole own finish kind file start)
  told = limit (leb (length file) (limit_of kind)) refl
    where
      row : (n p : ℕ) → Row own kind file start finish n p → Told (whole own finish kind file start)
      row n p h = rw (row_whole own finish kind file start n p h) h

      begins : Head kind file → Told (whole own finish kind file start)
      begins h = rw (head_of kind file h) (told_walk (length file) 7 (start (value_in (field_at file 0).body)) (behind_head h) h.long (omega arith))

      first : length file ≤ limit_of kind → WholeField kind file 0 → (b : Bool) → eqb (tag_byte file 0) 1 ≡ b → Told (whole own finish kind file start)
      first l w true e = begins (whole_head kind file l w (eqb-true (tag_byte file 0) 1 e))
      first l w false e = row _ 0 (of_file (row_4 refl (other_first refl l w (eqb-false (tag_byte file 0) 1 e))))

      look : length file ≤ limit_of kind → ((n : ℕ) × Stopped kind file 0 n) ⊎ WholeField kind file 0 → Told (whole own finish kind file start)
      look l (inl (n, h)) = row n 0 (of_file (stopped_row n 0 (at_first refl l) h))
      look l (inr w) = first l w (eqb (tag_byte file 0) 1) refl

      empty : length file ≤ limit_of kind → (b : Bool) → eqb (length file) 0 ≡ b → Told (whole own finish kind file start)
      empty l true e = row _ 0 (of_file (row_4 refl (no_first refl (eqb-true (length file) 0 e))))
      empty l false e = look l (looked kind file 0 (omega (arith, eqb-false (length file) 0 e)))

      limit : (b : Bool) → leb (length file) (limit_of kind) ≡ b → Told (whole own finish kind file start)
      limit true e = empty (leb-true (length file) (limit_of kind) e) (eqb (length file) 0) refl
      limit false e = row _ 0 (of_file (row_7 refl (refl, leb-false (length file) (limit_of kind) e)))

  -- THE THEOREMS.
  pub row_of : (n p : ℕ) → (whole own finish kind file start ≡ refused n p) ↔ Row own kind file start finish n p
  row_of n p = (λ e. rw e at told, row_whole own finish kind file start n p)

  pub row_unique : (n p n' p' : ℕ) → Row own kind file start finish n p → Row own kind file start finish n' p' → (n ≡ n') × (p ≡ p')
  row_unique n p n' p' h h' =
      let e : refused n p ≡ refused n' p' = sym (row_whole own finish kind file start n p h) ∙ row_whole own finish kind file start n' p' h' in
      (cc, cc)

  pub good_of : (a : A) → (whole own finish kind file start ≡ ended a) ↔ Good own kind file start finish a
  good_of a = (λ e. rw e at told, good_whole own finish kind file start a)

  -- Good exactly when no row holds.
  pub no_row_of : ((a : A) × (whole own finish kind file start ≡ ended a)) ↔ ((n p : ℕ) → ¬ Row own kind file start finish n p)
  no_row_of = (none, λ h. some_answer (whole own finish kind file start) refl h)
    where
      none : (a : A) × (whole own finish kind file start ≡ ended a) → (n p : ℕ) → ¬ Row own kind file start finish n p
      none (a, e) n p h = let e' = row_whole own finish kind file start n p h in let z : ◌≡◌ {A = ℕ} 0 1 = cc in omega arith

      some_answer : (w : Walked A) → whole own finish kind file start ≡ w → ((n p : ℕ) → ¬ Row own kind file start finish n p)
          → (a : A) × (whole own finish kind file start ≡ ended a)
      some_answer (ended a) e h = (a, e)
      some_answer (refused n p) e h = absurd (h n p ((row_of n p).0 e))
