-- The law of flickers: in a state in range at 21, 24 or 26 (writer) or at 41 (reader), flickers of any bits, one after another and as many as
-- there may be, are all accepted; the last bit stands, and nothing else has changed. Assumes nothing.
use mathlib.Core.Path.{◌≡◌, refl, ap, subst, ◌∙◌}
use mathlib.Core.Bool.{Bool, true, false, ◌&&◌}
use mathlib.Core.List.{List, [], ◌∷◌, map}
use Prim.Native.Nat.{ℕ, ◌≤◌}
use lib.Dec.{eqb}
use lib.Seq.{set-set}
use borrow.Author.Tests.{le-leb}
use Rattle.register.specs.declared.State.{State}
use Rattle.register.specs.declared.Move.{Move}
use Rattle.register.specs.declared.Move.TheVariants.{WriterFlicker, ReaderFlicker}
use Rattle.register.specs.Set.{◌∣c≔◌}
use Rattle.register.specs.Steps.{opposite, flicker21, flicker24, flicker26, flicker41}
use Rattle.register.specs.Move.{Moved, good, answer_to, step_of, is_in_range, is_a_clash, bit_carried}
use Rattle.register.specs.Run.{made}
use Rattle.register.proofs.Stays.{stays}

-- each of a list is a bit
abbrev pub Bits : List ℕ → Type 0
Bits [] = Unit
Bits (b ∷ bs) = (b ≤ 1) × Bits bs

-- the state with the last of the bits set by f, and the state itself where there is none
abbrev pub last_stands : (ℕ → State → State) → List ℕ → State → State
last_stands f [] s = s
last_stands f (b ∷ []) s = f b s
last_stands f (b ∷ b' ∷ bs) s = last_stands f (b' ∷ bs) s

-- What makes f the flicker that a move of a bit makes at a location l, of the writer or of the reader.
record Flicker (location : State → ℕ) (l : ℕ) (move : ℕ → Move) (f : ℕ → State → State) : Type 0 where
  carries : (b : ℕ) → bit_carried (move b) ≡ b
  no_clash : (s : State) → location s ≡ l → is_a_clash s ≡ false
  steps : (s : State) (b : ℕ) → location s ≡ l → step_of (move b) s ≡ good (f b s)
  -- it moves nothing
  there : (s : State) (b : ℕ) → location (f b s) ≡ location s
  -- nothing is left of a flicker before it
  over : (s : State) (a b : ℕ) → f b (f a s) ≡ f b s

fits : (s : State) (m : Move) → is_in_range s ≡ true → bit_carried m ≤ 1 → is_a_clash s ≡ false → answer_to s m ≡ step_of m s
unfolding answer_to
fits s m h b k = rw (h, le-leb (bit_carried m) 1 b, k)

module _ {location : State → ℕ} {l : ℕ} {move : ℕ → Move} {f : ℕ → State → State} (law : Flicker location l move f) where
  is_good : (s : State) (b : ℕ) → is_in_range s ≡ true → location s ≡ l → b ≤ 1 → answer_to s (move b) ≡ good (f b s)
  is_good s b h e k = fits s (move b) h (rw (law.carries b) k) (law.no_clash s e) ∙ law.steps s b e

  in_range_again : (s : State) (b : ℕ) → is_in_range s ≡ true → location s ≡ l → b ≤ 1 → is_in_range (f b s) ≡ true
  in_range_again s b h e k = subst (λ (a : Moved). is_in_range a.state ≡ true) (is_good s b h e k) (stays s (move b) h)

  first_gone : (s : State) (a b : ℕ) (bs : List ℕ) → last_stands f (b ∷ bs) (f a s) ≡ last_stands f (b ∷ bs) s
  first_gone s a b [] = law.over s a b
  first_gone s a b (b' ∷ bs) = first_gone s a b' bs

  next : (s : State) (b : ℕ) (bs : List ℕ) → last_stands f bs (f b s) ≡ last_stands f (b ∷ bs) s
  next s b [] = refl
  next s b (b' ∷ bs) = first_gone s b b' bs

  flickers : (s : State) (bs : List ℕ) → is_in_range s ≡ true → location s ≡ l → Bits bs → made s (map move bs) ≡ good (last_stands f bs s)
  flickers s [] h e k = refl
  flickers s (b ∷ bs) h e k =
      rw (is_good s b h e k.0)
      (flickers (f b s) bs (in_range_again s b h e k.0) (law.there s b ∙ e) k.1 ∙ ap good (next s b bs))

-- No clash: the writer is neither at 20 nor at 23, or the reader is not at 43.
and_false : (b : Bool) → (b && false) ≡ false
and_false true = refl
and_false false = refl

no_clash_writer : (s : State) → eqb s.q 20 ≡ false → eqb s.q 23 ≡ false → is_a_clash s ≡ false
no_clash_writer s h k = rw (h, k) (and_false (eqb s.r 43))

no_clash_reader : (s : State) → eqb s.r 43 ≡ false → is_a_clash s ≡ false
no_clash_reader s h = rw h

-- whether a location that is known to be l is the location n
tested : {x l : ℕ} → x ≡ l → (n : ℕ) → eqb x n ≡ eqb l n
tested e n = ap (λ (y : ℕ). eqb y n) e

-- at 21, c[aw] is being assigned
pub flickers_21 : (s : State) (bs : List ℕ) → is_in_range s ≡ true → s.q ≡ 21 → Bits bs → made s (map WriterFlicker bs) ≡ good (last_stands flicker21 bs s)
flickers_21 = flickers (record {
  carries = λ b. refl;
  no_clash = λ s e. no_clash_writer s (tested e 20) (tested e 23);
  steps = λ s b e. rw (tested e 21);
  there = λ s b. refl;
  over = λ s a b. ap (λ (c : List ℕ). s ∣c≔ c) (set-set s.c s.aw a b);
})

-- at 24, c[not aw]
pub flickers_24 : (s : State) (bs : List ℕ) → is_in_range s ≡ true → s.q ≡ 24 → Bits bs → made s (map WriterFlicker bs) ≡ good (last_stands flicker24 bs s)
flickers_24 = flickers (record {
  carries = λ b. refl;
  no_clash = λ s e. no_clash_writer s (tested e 20) (tested e 23);
  steps = λ s b e. rw (tested e 21, tested e 24);
  there = λ s b. refl;
  over = λ s a b. ap (λ (c : List ℕ). s ∣c≔ c) (set-set s.c (opposite s.aw) a b);
})

-- at 26, ww
pub flickers_26 : (s : State) (bs : List ℕ) → is_in_range s ≡ true → s.q ≡ 26 → Bits bs → made s (map WriterFlicker bs) ≡ good (last_stands flicker26 bs s)
flickers_26 = flickers (record {
  carries = λ b. refl;
  no_clash = λ s e. no_clash_writer s (tested e 20) (tested e 23);
  steps = λ s b e. rw (tested e 21, tested e 24, tested e 26);
  there = λ s b. refl;
  over = λ s a b. refl;
})

-- at 41, rr
pub flickers_41 : (s : State) (bs : List ℕ) → is_in_range s ≡ true → s.r ≡ 41 → Bits bs → made s (map ReaderFlicker bs) ≡ good (last_stands flicker41 bs s)
flickers_41 = flickers (record {
  carries = λ b. refl;
  no_clash = λ s e. no_clash_reader s (tested e 43);
  steps = λ s b e. rw (tested e 41);
  there = λ s b. refl;
  over = λ s a b. refl;
})
