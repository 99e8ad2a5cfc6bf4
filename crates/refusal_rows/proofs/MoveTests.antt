-- The words of the rows 9 and 10 of a single move, and the tests that `answer_to` makes: one holds where the other does. Assumes nothing.
use Prim.Native.Nat.{ℕ, ◌-◌, ◌≤◌, ◌<◌}
use mathlib.Core.Path.{◌≡◌, refl}
use mathlib.Core.Logic.{◌⊎◌, inl, inr}
use mathlib.Core.Bool.{Bool, true, false, ◌&&◌, ◌||◌}
use mathlib.Core.List.{List, [], ◌∷◌, ◌++◌}
use native.Mathlib.Omega.{arith}
use lib.Dec.{eqb, leb}
use borrow.Author.Tests.{eqb-true, eq-eqb, leb-true, leb-false}
use Rattle.register.specs.declared.State.{State}
use Rattle.register.specs.declared.Move.{Move}
use Rattle.register.specs.declared.Move.TheVariants.{WriterStart, WriterStep, WriterFlicker, ReaderStep, ReaderFlicker}
use Rattle.register.specs.Steps.{opposite, c_at, tag_at}
use Rattle.register.specs.Move.{is_in_range, all_at_most, between, bits_of, numbers_of, bit_carried, is_a_clash, would_write_row}
use Rattle.terms.proofs.Tests.{both}
use Rattle.register.proofs.Range.{bounds}
use Rattle.refusal_rows.specs.MoveRows.{SomeAbove, move_bits, OutOfRange, q_below, q_above, r_below, r_above, state_bit, move_bit, tag, start_number_or_masq, Clash, at_20, at_23}

-- What a test that fails tells of its two parts.
either : (a b : Bool) → (a && b) ≡ false → (a ≡ false) ⊎ (b ≡ false)
either true b e = inr e
either false b e = inl refl

-- Some entry is above n where not all are at most n, and none where all are.
some_above : (n : ℕ) (xs : List ℕ) → all_at_most n xs ≡ false → SomeAbove n xs
some_above n [] e = let z : ◌≡◌ {A = ℕ} 0 1 = cc in absurd (omega arith)
some_above n (x ∷ xs) e = on (either (leb x n) (all_at_most n xs) e) (some_above n xs)
  where
    on : (leb x n ≡ false) ⊎ (all_at_most n xs ≡ false) → (all_at_most n xs ≡ false → SomeAbove n xs) → SomeAbove n (x ∷ xs)
    on (inl p) f = inl (leb-false x n p)
    on (inr q) f = inr (f q)

none_above : (n : ℕ) (xs : List ℕ) → all_at_most n xs ≡ true → ¬ SomeAbove n xs
none_above n [] e h = h
none_above n (x ∷ xs) e (inl h) = omega (arith, leb-true x n (both (leb x n) (all_at_most n xs) e).0)
none_above n (x ∷ xs) e (inr h) = none_above n xs (both (leb x n) (all_at_most n xs) e).1 h

above_split : (n : ℕ) (xs ys : List ℕ) → SomeAbove n (xs ++ ys) → SomeAbove n xs ⊎ SomeAbove n ys
above_split n [] ys h = inr h
above_split n (x ∷ xs) ys (inl h) = inl (inl h)
above_split n (x ∷ xs) ys (inr h) = on (above_split n xs ys h)
  where
    on : SomeAbove n xs ⊎ SomeAbove n ys → SomeAbove n (x ∷ xs) ⊎ SomeAbove n ys
    on (inl k) = inl (inr k)
    on (inr k) = inr k

above_left : (n : ℕ) (xs ys : List ℕ) → SomeAbove n xs → SomeAbove n (xs ++ ys)
above_left n [] ys h = absurd h
above_left n (x ∷ xs) ys (inl h) = inl h
above_left n (x ∷ xs) ys (inr h) = inr (above_left n xs ys h)

above_right : (n : ℕ) (xs ys : List ℕ) → SomeAbove n ys → SomeAbove n (xs ++ ys)
above_right n [] ys h = h
above_right n (x ∷ xs) ys h = inr (above_right n xs ys h)

-- The bit that a move carries, 0 where it carries none, is one of its bits where it is above 1.
bit_above : (m : Move) → 1 < bit_carried m → SomeAbove 1 (move_bits m)
bit_above (WriterStart v) h = omega arith
bit_above WriterStep h = omega arith
bit_above (WriterFlicker b) h = inl h
bit_above ReaderStep h = omega arith
bit_above (ReaderFlicker b) h = inl h

no_bit_above : (m : Move) → bit_carried m ≤ 1 → ¬ SomeAbove 1 (move_bits m)
no_bit_above (WriterStart v) h k = k
no_bit_above WriterStep h k = k
no_bit_above (WriterFlicker b) h (inl k) = omega arith
no_bit_above (WriterFlicker b) h (inr k) = k
no_bit_above ReaderStep h k = k
no_bit_above (ReaderFlicker b) h (inl k) = omega arith
no_bit_above (ReaderFlicker b) h (inr k) = k

-- 9.
module _ (s : State) (m : Move) where
  abbrev locations : Bool
  locations = between 20 27 s.q && between 40 44 s.r

  abbrev up_to_bits : Bool
  up_to_bits = locations && all_at_most 1 (bits_of s)

  tags : List ℕ
  tags = tag_at s 0 0 ∷ tag_at s 0 1 ∷ tag_at s 1 0 ∷ tag_at s 1 1 ∷ []

  others : List ℕ
  others = s.startw ∷ s.startr ∷ s.numberw ∷ s.numberr ∷ s.masq ∷ []

  q_out : between 20 27 s.q ≡ false → OutOfRange s m
  q_out e = on (either (leb 20 s.q) (leb s.q 27) e)
    where
      on : (leb 20 s.q ≡ false) ⊎ (leb s.q 27 ≡ false) → OutOfRange s m
      on (inl h) = q_below (leb-false 20 s.q h)
      on (inr h) = q_above (leb-false s.q 27 h)

  r_out : between 40 44 s.r ≡ false → OutOfRange s m
  r_out e = on (either (leb 40 s.r) (leb s.r 44) e)
    where
      on : (leb 40 s.r ≡ false) ⊎ (leb s.r 44 ≡ false) → OutOfRange s m
      on (inl h) = r_below (leb-false 40 s.r h)
      on (inr h) = r_above (leb-false s.r 44 h)

  locations_out : (between 20 27 s.q ≡ false) ⊎ (between 40 44 s.r ≡ false) → OutOfRange s m
  locations_out (inl h) = q_out h
  locations_out (inr h) = r_out h

  bits_out : (locations ≡ false) ⊎ (all_at_most 1 (bits_of s) ≡ false) → OutOfRange s m
  bits_out (inl h) = locations_out (either (between 20 27 s.q) (between 40 44 s.r) h)
  bits_out (inr h) = state_bit (some_above 1 (bits_of s) h)

  number_out : SomeAbove 65535 tags ⊎ SomeAbove 65535 others → OutOfRange s m
  unfolding tags others
  number_out (inl h) = tag h
  number_out (inr h) = start_number_or_masq h

  numbers_out : (up_to_bits ≡ false) ⊎ (all_at_most 65535 (numbers_of s) ≡ false) → OutOfRange s m
  unfolding tags others
  numbers_out (inl h) = bits_out (either locations (all_at_most 1 (bits_of s)) h)
  numbers_out (inr h) = number_out (above_split 65535 tags others (some_above 65535 (numbers_of s) h))

  state_out : (is_in_range s ≡ false) ⊎ (leb (bit_carried m) 1 ≡ false) → OutOfRange s m
  state_out (inl h) = numbers_out (either up_to_bits (all_at_most 65535 (numbers_of s)) h)
  state_out (inr h) = move_bit (bit_above m (leb-false (bit_carried m) 1 h))

  pub out_of_range_of : (is_in_range s && leb (bit_carried m) 1) ≡ false → OutOfRange s m
  out_of_range_of e = state_out (either (is_in_range s) (leb (bit_carried m) 1) e)

  bits_in : is_in_range s ≡ true → all_at_most 1 (bits_of s) ≡ true
  bits_in e = (both locations (all_at_most 1 (bits_of s)) (both up_to_bits (all_at_most 65535 (numbers_of s)) e).0).1

  numbers_in : is_in_range s ≡ true → all_at_most 65535 (numbers_of s) ≡ true
  numbers_in e = (both up_to_bits (all_at_most 65535 (numbers_of s)) e).1

  pub never_out : is_in_range s ≡ true → bit_carried m ≤ 1 → ¬ OutOfRange s m
  unfolding tags others
  never_out e b (q_below k) = omega (arith, (bounds s e).q_from)
  never_out e b (q_above k) = omega (arith, (bounds s e).q_to)
  never_out e b (r_below k) = omega (arith, (bounds s e).r_from)
  never_out e b (r_above k) = omega (arith, (bounds s e).r_to)
  never_out e b (state_bit k) = none_above 1 (bits_of s) (bits_in e) k
  never_out e b (move_bit k) = no_bit_above m b k
  never_out e b (tag k) = none_above 65535 (numbers_of s) (numbers_in e) (above_left 65535 tags others k)
  never_out e b (start_number_or_masq k) = none_above 65535 (numbers_of s) (numbers_in e) (above_right 65535 tags others k)

  pub in_range_else : (is_in_range s && leb (bit_carried m) 1) ≡ true → ¬ OutOfRange s m
  in_range_else e = let t = both (is_in_range s) (leb (bit_carried m) 1) e in never_out t.0 (leb-true (bit_carried m) 1 t.1)

-- 10.
or_true : (b : Bool) → (b || true) ≡ true
or_true true = refl
or_true false = refl

module _ (s : State) where
  would : (i : ℕ) → would_write_row s i ≡ true → (i ≡ s.br) × (1 - c_at s i ≡ s.cr)
  would i e = let t = both (eqb i s.br) (eqb (opposite (c_at s i)) s.cr) e in (eqb-true i s.br t.0, eqb-true (opposite (c_at s i)) s.cr t.1)

  pub clash_of : is_a_clash s ≡ true → Clash s
  clash_of e = let t = both (eqb s.r 43) at_work e in on (eqb-true s.r 43 t.0) (eqb s.q 20 && would_write_row s s.aw) refl t.1
    where
      at_work : Bool
      at_work = (eqb s.q 20 && would_write_row s s.aw) || (eqb s.q 23 && would_write_row s (opposite s.aw))

      on : s.r ≡ 43 → (b : Bool) → (eqb s.q 20 && would_write_row s s.aw) ≡ b → (b || (eqb s.q 23 && would_write_row s (opposite s.aw))) ≡ true → Clash s
      on r true p k =
          let t = both (eqb s.q 20) (would_write_row s s.aw) p in
          let u = would s.aw t.1 in
          at_20 r (eqb-true s.q 20 t.0) u.0 u.1
      on r false p k =
          let t = both (eqb s.q 23) (would_write_row s (opposite s.aw)) k in
          let u = would (opposite s.aw) t.1 in
          at_23 r (eqb-true s.q 23 t.0) u.0 u.1

  pub clash_test : Clash s → is_a_clash s ≡ true
  clash_test (at_20 r q a b) = rw (eq-eqb s.r 43 r, eq-eqb s.q 20 q, eq-eqb s.aw s.br a, eq-eqb (1 - c_at s s.aw) s.cr b)
  clash_test (at_23 r q a b) = rw (eq-eqb s.r 43 r, eq-eqb s.q 23 q, eq-eqb (1 - s.aw) s.br a, eq-eqb (1 - c_at s (1 - s.aw)) s.cr b) (or_true (eqb s.q 20 && would_write_row s s.aw))
