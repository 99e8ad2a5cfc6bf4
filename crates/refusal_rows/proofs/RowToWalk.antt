-- From the rows to the walk: a reached offset is one where the walk stands, so a row that holds is the refusal that the whole file gets.
-- Assumes nothing.
use Prim.Native.Nat.{ℕ, ◌+◌, ◌≤◌, ◌<◌, zero-le}
use mathlib.Core.Path.{◌≡◌, refl, sym, ap, ◌∙◌}
use mathlib.Core.Logic.{◌≢◌, inl, inr}
use mathlib.Core.List.{List}
use native.Mathlib.Omega.{arith}
use lib.ListN.{length}
use Rattle.terms.specs.Value.{Value}
use Rattle.terms.specs.Refusals.{not_first, no_bit, too_long}
use Rattle.fields.specs.declared.Kind.{Kind}
use Rattle.fields.specs.declared.Kind.TheVariants.{Schedule, Log}
use Rattle.fields.specs.Field.{Refused}
use Rattle.fields.specs.Walk.{Begins}
use Rattle.fields.specs.Tags.{body_length_of, limit_of}
use Rattle.fields.specs.Field.{Tagged, value_in}
use Rattle.fields.specs.Walk.{Walked, ended, refused, Checked, no, checked, whole, head_of_file}
use Rattle.fields.proofs.Reading.{head_long, head_none, head_refused, head_begins, head_other}
use Rattle.fields.proofs.Walks.{Walking, walking_stops, walking_begins, walking_ends, walking_refused, walking_no, walking_on}
use Rattle.refusal_rows.specs.Bytes.{tag_byte, length_bytes, field_at, TagOf, HeaderCut, WholeField}
use Rattle.refusal_rows.specs.Reached.{Head, Reached, behind_head, behind_field, Due, at_first, at_later}
use Rattle.refusal_rows.specs.FileRows.{Row4, no_first, other_first, one_later, FileRow, row_1, row_2, row_3, row_4, row_5, row_7, Row, of_file, of_check, of_end, Good}
use Rattle.refusal_rows.proofs.Fields.{Stopped, header_cut, foreign, other_length, body_cut, found_field, found_stopped}
use Rattle.refusal_rows.proofs.Behind.{checked_one, checked_bit, checked_later}

-- Tag 1 is of both kinds.
tag_one : (kind : Kind) (tag : ℕ) → tag ≡ 1 → TagOf kind tag
tag_one Schedule tag e = (omega arith, omega arith)
tag_one Log tag e = inl e

one_length : (tag : ℕ) → tag ≡ 1 → body_length_of tag ≡ 4
unfolding body_length_of
one_length tag e = rw e

-- The head is a whole field of tag 1, and the other way.
pub head_whole : (kind : Kind) (file : List ℕ) → Head kind file → WholeField kind file 0
head_whole kind file h = record {
  header = omega arith;
  known = tag_one kind (tag_byte file 0) h.first;
  fitting = h.four ∙ sym (one_length (tag_byte file 0) h.first);
  inside = omega arith;
}

pub whole_head : (kind : Kind) (file : List ℕ) → length file ≤ limit_of kind → WholeField kind file 0 → tag_byte file 0 ≡ 1 → Head kind file
whole_head kind file l w e = let f : length_bytes file 0 ≡ 4 = w.fitting ∙ one_length (tag_byte file 0) e in
    record { within = l; long = omega arith; first = e; four = f }

pub head_of : (kind : Kind) (file : List ℕ) → Head kind file → head_of_file kind file ≡ Begins (value_in (field_at file 0).body) 7
head_of kind file h =
    let n : 0 + 3 + length_bytes file 0 ≡ 7 = omega arith in
    sym (head_begins kind file h.within (λ z. omega arith) (tag_byte file 0) (0 + 3) (length_bytes file 0) (0 + 3 + length_bytes file 0)
    (sym (found_field kind file 0 (head_whole kind file h))) h.first (value_in (field_at file 0).body) refl)
    ∙ ap (Begins (value_in (field_at file 0).body)) n

few : (file : List ℕ) (at : ℕ) → HeaderCut file at → at < length file
few file at (inl e) = omega arith
few file at (inr e) = omega arith

stopped_inside : (kind : Kind) (file : List ℕ) (at n : ℕ) → Stopped kind file at n → at < length file
stopped_inside kind file at n (header_cut h) = few file at h
stopped_inside kind file at n (foreign h) = omega (arith, h.header)
stopped_inside kind file at n (other_length h) = omega (arith, h.header)
stopped_inside kind file at n (body_cut h) = omega (arith, h.header)

module _ {S A : Type 0} (own : S → Tagged → Checked S) (finish : S → Walked A) (kind : Kind) (file : List ℕ) (start : Value → S) where
  pub reached_walking : {at : ℕ} {s : S} → Reached own kind file start at s → Walking own finish kind file start at s
  reached_walking (behind_head h) = walking_begins own finish kind file start (value_in (field_at file 0).body) 7 (head_of kind file h)
  reached_walking (behind_field at s t r l e) =
      walking_on own finish kind file start at s (reached_walking r) (omega (arith, l.field.header)) (tag_byte file at) (at + 3) (length_bytes file at) (at + 3 + length_bytes file at)
      (found_field kind file at l.field) t (checked_later kind file at l.field own s l ∙ e)

  pub good_whole : (a : A) → Good own kind file start finish a → whole own finish kind file start ≡ ended a
  good_whole a (s, r, e) = walking_ends own finish kind file start (length file) s (reached_walking r) (omega arith) ∙ e

  -- A field at a reached offset that is whole and whose check refuses.
  refused_there : (at n : ℕ) (s : S) → Reached own kind file start at s → WholeField kind file at → checked own s (field_at file at) ≡ no n
      → whole own finish kind file start ≡ refused n at
  refused_there at n s r w c =
      walking_no own finish kind file start at s (reached_walking r) (omega (arith, w.header)) (tag_byte file at) (at + 3) (length_bytes file at) (at + 3 + length_bytes file at)
      (found_field kind file at w) n c

  due_stopped : (p n : ℕ) → Due own kind file start p → Stopped kind file p n → whole own finish kind file start ≡ refused n p
  due_stopped p n (at_later s r) h =
      walking_refused own finish kind file start p s (reached_walking r) (stopped_inside kind file p n h) n p (found_stopped kind file p n h)
  due_stopped p n (at_first e l) h =
      let h₀ : Stopped kind file 0 n = rw e at h in
      let i = stopped_inside kind file 0 n h₀ in
      rw e (walking_stops own finish kind file start n 0
      (sym (head_refused kind file l (λ z. omega arith) (Refused n 0) (sym (found_stopped kind file 0 n h₀)) n 0 refl n 0 refl refl)))

  no_bytes : length file ≡ 0 → length file ≤ limit_of kind
  no_bytes z = rw z zero-le

  row4_whole : (p : ℕ) → Row4 own kind file start p → whole own finish kind file start ≡ refused not_first p
  row4_whole p (no_first e z) = rw e (walking_stops own finish kind file start not_first 0 (sym (head_none kind file (no_bytes z) z)))
  row4_whole p (other_first e l w t) =
      let w₀ : WholeField kind file 0 = rw e at w in
      let t₀ : tag_byte file 0 ≢ 1 = rw e at t in
      rw e (walking_stops own finish kind file start not_first 0
      (sym (head_other kind file l (λ z. omega (arith, w₀.header)) (tag_byte file 0) (0 + 3) (length_bytes file 0) (0 + 3 + length_bytes file 0) (sym (found_field kind file 0 w₀)) t₀)))
  row4_whole p (one_later s r w t) = refused_there p not_first s r w (checked_one kind file p w own s t)

  file_row_whole : (n p : ℕ) → FileRow own kind file start n p → whole own finish kind file start ≡ refused n p
  file_row_whole n p (row_1 e (d, inl h)) = rw e (due_stopped p _ d (header_cut h))
  file_row_whole n p (row_1 e (d, inr h)) = rw e (due_stopped p _ d (body_cut h))
  file_row_whole n p (row_2 e (d, h)) = rw e (due_stopped p _ d (foreign h))
  file_row_whole n p (row_3 e (d, h)) = rw e (due_stopped p _ d (other_length h))
  file_row_whole n p (row_4 e h) = rw e (row4_whole p h)
  file_row_whole n p (row_5 e (s, r, w, h)) = rw e (refused_there p no_bit s r w (checked_bit kind file p w own s h))
  file_row_whole n p (row_7 e (q, h)) = rw (e, q) (walking_stops own finish kind file start too_long 0 (sym (head_long kind file h)))

  pub row_whole : (n p : ℕ) → Row own kind file start finish n p → whole own finish kind file start ≡ refused n p
  row_whole n p (of_file h) = file_row_whole n p h
  row_whole n p (of_check (s, r, l, e)) = refused_there p n s r l.field (checked_later kind file p l.field own s l ∙ e)
  row_whole n p (of_end (s, r, e)) = walking_ends own finish kind file start (length file) s (reached_walking r) (omega arith) ∙ e
