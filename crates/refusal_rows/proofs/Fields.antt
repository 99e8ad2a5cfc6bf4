-- One field: the words of Bytes, and what `found` and `checked` answer. Each set of words leads to one answer, and one of them always holds.
-- Assumes nothing.
use Prim.Native.Nat.{ℕ, zero, suc, ◌+◌, ◌-◌, ◌≤◌, ◌<◌}
use mathlib.Core.Path.{◌≡◌, refl, sym, ◌∙◌}
use mathlib.Core.Logic.{◌⊎◌, ◌≢◌, inl, inr}
use mathlib.Core.Bool.{Bool, true, false, ◌||◌, false≢true}
use mathlib.Core.List.{List}
use native.Mathlib.Omega.{arith}
use lib.Dec.{eqb, leb}
use lib.ListN.{length}
use borrow.Author.Tests.{eqb-true, eqb-false, eq-eqb, ne_eqb, leb-true, leb-false}
use Rattle.terms.specs.Refusals.{cut, foreign_tag, wrong_length}
use Rattle.fields.specs.declared.Kind.{Kind}
use Rattle.fields.specs.declared.Kind.TheVariants.{Schedule, Log}
use Rattle.fields.specs.Field.{Field, Refused}
use Rattle.fields.specs.Tags.{body_length_of, knows, fits}
use Rattle.fields.specs.Field.{found}
use Rattle.fields.proofs.Reading.{found_short, found_foreign, found_length, found_cut, found_whole}
use Rattle.refusal_rows.specs.Bytes.{tag_byte, length_bytes, TagOf, HeaderCut, ForeignTag, WrongLength, BodyCut, WholeField}

-- The tags of a kind, as the table's test has them.
module _ (tag : ℕ) where
  schedule_tag : knows Schedule tag ≡ true → TagOf Schedule tag
  unfolding knows
  schedule_tag h = on (eqb tag 1) refl (eqb tag 2) refl (eqb tag 3) refl (eqb tag 4) refl (eqb tag 5) refl (eqb tag 6) refl h
    where
      is : (n : ℕ) → eqb tag n ≡ true → 1 ≤ n → n ≤ 6 → TagOf Schedule tag
      is n e a b = let i = eqb-true tag n e in (omega arith, omega arith)

      on : (a : Bool) → eqb tag 1 ≡ a → (b : Bool) → eqb tag 2 ≡ b → (c : Bool) → eqb tag 3 ≡ c → (d : Bool) → eqb tag 4 ≡ d → (e : Bool) → eqb tag 5 ≡ e
          → (f : Bool) → eqb tag 6 ≡ f → (a || (b || (c || (d || (e || (f || false)))))) ≡ true → TagOf Schedule tag
      on true p b q c r d t e u f v h = is 1 p (omega arith) (omega arith)
      on false p true q c r d t e u f v h = is 2 q (omega arith) (omega arith)
      on false p false q true r d t e u f v h = is 3 r (omega arith) (omega arith)
      on false p false q false r true t e u f v h = is 4 t (omega arith) (omega arith)
      on false p false q false r false t true u f v h = is 5 u (omega arith) (omega arith)
      on false p false q false r false t false u true v h = is 6 v (omega arith) (omega arith)
      on false p false q false r false t false u false v h = absurd (false≢true h)

  log_tag : knows Log tag ≡ true → TagOf Log tag
  unfolding knows
  log_tag h = on (eqb tag 1) refl (eqb tag 7) refl (eqb tag 8) refl (eqb tag 9) refl (eqb tag 10) refl h
    where
      is : (n : ℕ) → eqb tag n ≡ true → 7 ≤ n → n ≤ 10 → TagOf Log tag
      is n e a b = let i = eqb-true tag n e in inr (omega arith, omega arith)

      on : (a : Bool) → eqb tag 1 ≡ a → (b : Bool) → eqb tag 7 ≡ b → (c : Bool) → eqb tag 8 ≡ c → (d : Bool) → eqb tag 9 ≡ d → (e : Bool) → eqb tag 10 ≡ e
          → (a || (b || (c || (d || (e || false))))) ≡ true → TagOf Log tag
      on true p b q c r d t e u h = inl (eqb-true tag 1 p)
      on false p true q c r d t e u h = is 7 q (omega arith) (omega arith)
      on false p false q true r d t e u h = is 8 r (omega arith) (omega arith)
      on false p false q false r true t e u h = is 9 t (omega arith) (omega arith)
      on false p false q false r false t true u h = is 10 u (omega arith) (omega arith)
      on false p false q false r false t false u h = absurd (false≢true h)

-- And the other way.
schedule_known : (tag : ℕ) → TagOf Schedule tag → knows Schedule tag ≡ true
unfolding knows
schedule_known zero h = absurd (omega arith)
schedule_known (suc zero) h = refl
schedule_known (suc (suc zero)) h = refl
schedule_known (suc (suc (suc zero))) h = refl
schedule_known (suc (suc (suc (suc zero)))) h = refl
schedule_known (suc (suc (suc (suc (suc zero))))) h = refl
schedule_known (suc (suc (suc (suc (suc (suc zero)))))) h = refl
schedule_known (suc (suc (suc (suc (suc (suc (suc n))))))) h = absurd (omega arith)

behind_6 : (n : ℕ) → 1 ≤ n → n ≤ 4 → knows Log (6 + n) ≡ true
unfolding knows
behind_6 zero h k = absurd (omega arith)
behind_6 (suc zero) h k = refl
behind_6 (suc (suc zero)) h k = refl
behind_6 (suc (suc (suc zero))) h k = refl
behind_6 (suc (suc (suc (suc zero)))) h k = refl
behind_6 (suc (suc (suc (suc (suc n))))) h k = absurd (omega arith)

log_known : (tag : ℕ) → TagOf Log tag → knows Log tag ≡ true
unfolding knows
log_known tag (inl e) = rw e
log_known tag (inr (h, k)) = let e : tag ≡ 6 + (tag - 6) = omega arith in rw e (behind_6 (tag - 6) (omega arith) (omega arith))

pub tag_of : (kind : Kind) (tag : ℕ) → knows kind tag ≡ true → TagOf kind tag
tag_of Schedule tag h = schedule_tag tag h
tag_of Log tag h = log_tag tag h

pub tag_known : (kind : Kind) (tag : ℕ) → TagOf kind tag → knows kind tag ≡ true
tag_known Schedule tag h = schedule_known tag h
tag_known Log tag h = log_known tag h

not_known : (kind : Kind) (tag : ℕ) → ¬ TagOf kind tag → knows kind tag ≡ false
not_known kind tag h = on (knows kind tag) refl
  where
    on : (b : Bool) → knows kind tag ≡ b → b ≡ false
    on true e = absurd (h (tag_of kind tag e))
    on false e = refl

-- The words of 1, 2, 3 and 1 at an offset, by their number.
pub data Stopped (kind : Kind) (file : List ℕ) (at : ℕ) : ℕ → Type 0 where
  header_cut : HeaderCut file at → Stopped kind file at cut
  foreign : ForeignTag kind file at → Stopped kind file at foreign_tag
  other_length : WrongLength kind file at → Stopped kind file at wrong_length
  body_cut : BodyCut kind file at → Stopped kind file at cut

module _ (kind : Kind) (file : List ℕ) (at : ℕ) where
  pub found_field : WholeField kind file at
      → found kind file at ≡ Field (tag_byte file at) (at + 3) (length_bytes file at) (at + 3 + length_bytes file at)
  unfolding fits
  found_field w =
      sym (found_whole kind file at (omega arith) (tag_known kind (tag_byte file at) w.known) (eq-eqb (length_bytes file at) (body_length_of (tag_byte file at)) w.fitting) (omega arith))

  few : HeaderCut file at → length file - at < 3
  few (inl e) = omega arith
  few (inr e) = omega arith

  pub found_stopped : (n : ℕ) → Stopped kind file at n → found kind file at ≡ Refused n at
  unfolding fits
  found_stopped n (header_cut h) = sym (found_short kind file at (few h))
  found_stopped n (foreign h) = sym (found_foreign kind file at (omega arith) (not_known kind (tag_byte file at) h.foreign))
  found_stopped n (other_length h) =
      sym (found_length kind file at (omega arith) (tag_known kind (tag_byte file at) h.known) (ne_eqb (length_bytes file at) (body_length_of (tag_byte file at)) h.other))
  found_stopped n (body_cut h) =
      sym (found_cut kind file at (omega arith) (tag_known kind (tag_byte file at) h.known) (eq-eqb (length_bytes file at) (body_length_of (tag_byte file at)) h.fitting) (omega arith))

  -- One of them holds at every offset within the file, or a whole field stands there.
  pub looked : at < length file → ((n : ℕ) × Stopped kind file at n) ⊎ WholeField kind file at
  unfolding fits
  looked h = header (leb (at + 3) (length file)) refl
    where
      last : (length file ≡ at + 1) ⊎ (length file ≢ at + 1) → length file < at + 3 → HeaderCut file at
      last (inl e) k = inl e
      last (inr e) k = inr (omega arith)

      one : (b : Bool) → eqb (length file) (at + 1) ≡ b → (length file ≡ at + 1) ⊎ (length file ≢ at + 1)
      one true e = inl (eqb-true (length file) (at + 1) e)
      one false e = inr (eqb-false (length file) (at + 1) e)

      body : at + 3 ≤ length file → TagOf kind (tag_byte file at) → length_bytes file at ≡ body_length_of (tag_byte file at)
          → (b : Bool) → leb (at + 3 + length_bytes file at) (length file) ≡ b → ((n : ℕ) × Stopped kind file at n) ⊎ WholeField kind file at
      body k t l true e = inr (record { header = k; known = t; fitting = l; inside = leb-true (at + 3 + length_bytes file at) (length file) e })
      body k t l false e = inl (cut, body_cut (record { header = k; known = t; fitting = l; missing = leb-false (at + 3 + length_bytes file at) (length file) e }))

      size : at + 3 ≤ length file → TagOf kind (tag_byte file at)
          → (b : Bool) → eqb (length_bytes file at) (body_length_of (tag_byte file at)) ≡ b → ((n : ℕ) × Stopped kind file at n) ⊎ WholeField kind file at
      size k t true e = body k t (eqb-true (length_bytes file at) (body_length_of (tag_byte file at)) e) (leb (at + 3 + length_bytes file at) (length file)) refl
      size k t false e = inl (wrong_length, other_length (record { header = k; known = t; other = eqb-false (length_bytes file at) (body_length_of (tag_byte file at)) e }))

      tag : at + 3 ≤ length file → (b : Bool) → knows kind (tag_byte file at) ≡ b → ((n : ℕ) × Stopped kind file at n) ⊎ WholeField kind file at
      tag k true e = size k (tag_of kind (tag_byte file at) e) (eqb (length_bytes file at) (body_length_of (tag_byte file at))) refl
      tag k false e =
          inl (foreign_tag, foreign (record { header = k; foreign = λ t. false≢true (sym e ∙ tag_known kind (tag_byte file at) t) }))

      header : (b : Bool) → leb (at + 3) (length file) ≡ b → ((n : ℕ) × Stopped kind file at n) ⊎ WholeField kind file at
      header true e = tag (leb-true (at + 3) (length file) e) (knows kind (tag_byte file at)) refl
      header false e = inl (cut, header_cut (last (one (eqb (length file) (at + 1)) refl) (leb-false (at + 3) (length file) e)))
