-- A whole field behind the head: the words of 4 ("tag 1 stands later") and 5, and what `checked` says. Assumes nothing.
use Prim.Native.Nat.{ℕ, ◌+◌}
use mathlib.Core.Path.{◌≡◌, refl, ap, ◌∙◌}
use mathlib.Core.Logic.{◌⊎◌, ◌≢◌, inl, inr}
use mathlib.Core.Bool.{Bool, true, false, ◌&&◌, ◌||◌}
use mathlib.Core.List.{List}
use native.Mathlib.Omega.{arith}
use lib.Dec.{eqb, ltb}
use lib.ListN.{get_or, drop}
use lib.Seq.{get_or-take, get_or-drop}
use borrow.Author.Tests.{eqb-true, eqb-false, eq-eqb, ne_eqb, ltb-true, ltb-false, lt-ltb}
use Rattle.std.specs.Prelude.{if◌then◌else◌}
use Rattle.terms.specs.Refusals.{not_first, no_bit}
use Rattle.fields.specs.declared.Kind.{Kind}
use Rattle.fields.specs.Numbers.{number}
use Rattle.fields.specs.Tags.{body_length_of}
use Rattle.fields.specs.Field.{Tagged}
use Rattle.fields.specs.Walk.{Checked, no, checked}
use Rattle.refusal_rows.specs.Bytes.{tag_byte, length_bytes, field_at, WholeField, FlickerBody}
use Rattle.refusal_rows.specs.Reached.{Later}

flicker_length : (tag : ℕ) → (tag ≡ 4) ⊎ (tag ≡ 6) → body_length_of tag ≡ 1
unfolding body_length_of
flicker_length tag (inl e) = rw e
flicker_length tag (inr e) = rw e

module _ (kind : Kind) (file : List ℕ) (at : ℕ) (w : WholeField kind file at) where
  -- A flicker's body is the byte behind the header.
  pub flicker_byte : (tag_byte file at ≡ 4) ⊎ (tag_byte file at ≡ 6) → number 1 (field_at file at).body ≡ get_or file (at + 3) 0
  flicker_byte t =
      let one : length_bytes file at ≡ 1 = w.fitting ∙ flicker_length (tag_byte file at) t in
      let a = get_or-take (length_bytes file at) (drop (at + 3) file) 0 0 (omega arith) in
      let b = get_or-drop (at + 3) file 0 0 in
      let c : at + 3 + 0 ≡ at + 3 = omega arith in
      let d = ap (λ (i : ℕ). get_or file i 0) c in
      omega arith

  flicker : (a b : Bool) → eqb (tag_byte file at) 4 ≡ a → eqb (tag_byte file at) 6 ≡ b → (a || b) ≡ true → (tag_byte file at ≡ 4) ⊎ (tag_byte file at ≡ 6)
  flicker true b p q e = inl (eqb-true (tag_byte file at) 4 p)
  flicker false b p q e = inr (eqb-true (tag_byte file at) 6 (q ∙ e))

  flicker_test : (tag_byte file at ≡ 4) ⊎ (tag_byte file at ≡ 6) → (eqb (tag_byte file at) 4 || eqb (tag_byte file at) 6) ≡ true
  flicker_test (inl e) = rw e
  flicker_test (inr e) = rw e

  -- 4, 5, or neither.
  pub data Behind : Type 0 where
    is_one : tag_byte file at ≡ 1 → Behind
    no_bit_there : FlickerBody file at → Behind
    later : Later kind file at → Behind

  pub behind : Behind
  behind = first (eqb (tag_byte file at) 1) refl
    where
      never : tag_byte file at ≢ 1 → ¬ FlickerBody file at → Behind
      never a b = later (record { field = w; not_one = a; bit = b })

      byte : tag_byte file at ≢ 1 → (tag_byte file at ≡ 4) ⊎ (tag_byte file at ≡ 6) → (b : Bool) → ltb 1 (get_or file (at + 3) 0) ≡ b → Behind
      byte a t true e = no_bit_there (t, ltb-true 1 (get_or file (at + 3) 0) e)
      byte a t false e = never a (λ h. let k = h.1 in omega (arith, ltb-false 1 (get_or file (at + 3) 0) e))

      six : tag_byte file at ≢ 1 → tag_byte file at ≢ 4 → (b : Bool) → eqb (tag_byte file at) 6 ≡ b → Behind
      six a f true e = byte a (inr (eqb-true (tag_byte file at) 6 e)) (ltb 1 (get_or file (at + 3) 0)) refl
      six a f false e = never a (λ h. neither h.0)
        where
          neither : ¬ ((tag_byte file at ≡ 4) ⊎ (tag_byte file at ≡ 6))
          neither (inl k) = f k
          neither (inr k) = eqb-false (tag_byte file at) 6 e k

      four : tag_byte file at ≢ 1 → (b : Bool) → eqb (tag_byte file at) 4 ≡ b → Behind
      four a true e = byte a (inl (eqb-true (tag_byte file at) 4 e)) (ltb 1 (get_or file (at + 3) 0)) refl
      four a false e = six a (eqb-false (tag_byte file at) 4 e) (eqb (tag_byte file at) 6) refl

      first : (b : Bool) → eqb (tag_byte file at) 1 ≡ b → Behind
      first true e = is_one (eqb-true (tag_byte file at) 1 e)
      first false e = four (eqb-false (tag_byte file at) 1 e) (eqb (tag_byte file at) 4) refl

  -- What `checked` says in each case.
  module _ {S : Type 0} (own : S → Tagged → Checked S) (s : S) where
    pub checked_one : tag_byte file at ≡ 1 → checked own s (field_at file at) ≡ no not_first
    checked_one e = rw (eq-eqb (tag_byte file at) 1 e)

    not_one : (tag_byte file at ≡ 4) ⊎ (tag_byte file at ≡ 6) → tag_byte file at ≢ 1
    not_one (inl e) k = omega arith
    not_one (inr e) k = omega arith

    pub checked_bit : FlickerBody file at → checked own s (field_at file at) ≡ no no_bit
    checked_bit (t, h) =
        rw (ne_eqb (tag_byte file at) 1 (not_one t), flicker_test t, lt-ltb 1 (number 1 (field_at file at).body) (rw (flicker_byte t) h))

    pub checked_later : Later kind file at → checked own s (field_at file at) ≡ own s (field_at file at)
    checked_later l = rw (ne_eqb (tag_byte file at) 1 l.not_one) (on (eqb (tag_byte file at) 4 || eqb (tag_byte file at) 6) refl (ltb 1 (number 1 (field_at file at).body)) refl)
      where
        on : (a : Bool) → (eqb (tag_byte file at) 4 || eqb (tag_byte file at) 6) ≡ a → (b : Bool) → ltb 1 (number 1 (field_at file at).body) ≡ b
            → (if a && b then no no_bit else own s (field_at file at)) ≡ own s (field_at file at)
        on false p b q = refl
        on true p false q = refl
        on true p true q = let t = flicker (eqb (tag_byte file at) 4) (eqb (tag_byte file at) 6) refl refl p in
            absurd (l.bit (t, rw (← flicker_byte t) (ltb-true 1 (number 1 (field_at file at).body) q)))
