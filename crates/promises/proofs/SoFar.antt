-- What the machine's locations and numbers say of the events so far, and that each kind of event keeps it. The choice gives a read its number,
-- less 1. Document 01's events, over any type of values. Assumes nothing.
use Prim.Native.Nat.{ℕ, ◌+◌, ◌-◌, ◌≤◌, ◌<◌}
use mathlib.Core.Path.{◌≡◌, refl, ap, sym, ◌∙◌}
use mathlib.Core.List.{List, [], ◌∷◌, ◌++◌}
use mathlib.Core.Option.{some}
use mathlib.Core.Bool.{Bool, true, false, not}
use mathlib.Core.Logic.{◌⊎◌, inl, inr}
use native.Mathlib.Omega.{arith}
use native.Mathlib.Decide.{dec_lt}
use lib.ListN.{take, get_elem?, length, length-append}
use Rattle.history.specs.Events.{Event, write_began, write_ended, read_began, read_ended}
use Rattle.history.specs.Operations.{read, count, Nth, WellFormed, BeginsAt, Ended, begins_write, ends_write, begins_read, ends_read, write_open, read_open}
use Rattle.history.proofs.Counting.{nth_lt, count_all}
use Rattle.history.proofs.Appending.{at_append, at_bound, at_seam, nth_snoc, nth_bound, count_append, count_snoc}
use Rattle.history.proofs.EventKinds.{false_not_true}
use Rattle.history.proofs.Turns.{well_formed_nil, well_formed_snoc, counts, write_open_began, write_open_ended, read_open_began, read_open_ended, write_open_same, read_open_same}
use Rattle.history.proofs.Choice.{Holds, Choice}
use Rattle.history.proofs.Least.{put, put_below, put_at, least_nil, ended_cut, choice_other, open_read, choice_read}

-- The writes that stand before a read of the number n: number 1 is the initial value's.
abbrev pub writes_before : ℕ → ℕ
writes_before n = n - 1

module _ {Val : Type 0} (v₀ : Val) where
  -- After the events x, of which the reads had the numbers `numbers`: k chooses, a write is open or not, a read is open or not, and the machine's
  -- numberw, masq and startr are these.
  pub record SoFar (x : List (Event Val)) (numbers : List ℕ) (k : ℕ → ℕ) (writing reading : Bool) (numberw masq startr : ℕ) : Type 0 where
    pub well_formed : WellFormed x
    pub choice : Choice v₀ x k
    pub begun : count begins_write x + 1 ≡ numberw
    pub write_open_is : write_open x ≡ writing
    pub read_open_is : read_open x ≡ reading
    -- what ended, and what was seen, is not above masq;
    pub ended : count ends_write x + 1 ≤ masq
    pub seen : (i : ℕ) → Ended x (read i) → k i + 1 ≤ masq
    -- of the open read, which began at p: what had ended and what had been seen there is not above its start
    pub ended_before : (p : ℕ) → BeginsAt x (read (count ends_read x)) p → count ends_write (take p x) + 1 ≤ startr
    pub seen_before : (p i : ℕ) → BeginsAt x (read (count ends_read x)) p → Ended x (read i) → k i + 1 ≤ startr
    -- the choice is by the numbers
    pub all_numbers : length numbers ≡ count ends_read x
    pub by_number : (i n : ℕ) → get_elem? numbers i ≡ some n → k i + 1 ≡ n

  nothing_at : {A : Type 0} (i : ℕ) (a : A) → get_elem? [] i ≡ some a → ⊥
  nothing_at i a h = omega (arith, at_bound [] i a h)

  -- Before any event.
  pub so_far_nil : (numberw masq startr : ℕ) → 1 ≡ numberw → 1 ≤ masq → SoFar [] [] (λ i. 0) false false numberw masq startr
  so_far_nil n m st e h = record {
    well_formed = well_formed_nil;
    choice = (least_nil v₀).choice;
    begun = e;
    write_open_is = refl;
    read_open_is = refl;
    ended = h;
    seen = λ i r. h;
    ended_before = λ p b. absurd (nothing_at p b.event b.there);
    seen_before = λ p i b r. absurd (nothing_at p b.event b.there);
    all_numbers = refl;
    by_number = λ i a h. absurd (nothing_at i a h);
  }

  -- An event that is none of the reader's: an open read began where it did.
  module _ (x : List (Event Val)) (e : Event Val) (begins-none : begins_read e ≡ false) (ends-none : ends_read e ≡ false) where
    reads_same : count ends_read (x ++ (e ∷ [])) ≡ count ends_read x
    reads_same = rw (count_snoc, ends-none)

    began_cut : (p : ℕ) → BeginsAt (x ++ (e ∷ [])) (read (count ends_read (x ++ (e ∷ [])))) p → BeginsAt x (read (count ends_read x)) p
    began_cut p b = go (nth_snoc begins_read x e (count ends_read x) p (rw reads_same at b))
      where
        go : Nth begins_read x (count ends_read x) p ⊎ ((p ≡ length x) × (begins_read e ≡ true) × (count ends_read x ≡ count begins_read x)) → Nth begins_read x (count ends_read x) p
        go (inl n) = n
        go (inr (a, t, c)) = false_not_true (sym begins-none ∙ t)

    ended_there : (p : ℕ) → BeginsAt x (read (count ends_read x)) p → count ends_write (take p (x ++ (e ∷ []))) ≡ count ends_write (take p x)
    ended_there p b = count_append ends_write x (e ∷ []) p (omega (arith, nth_bound begins_read x [] (count ends_read x) p b))

  module _ (x : List (Event Val)) (numbers : List ℕ) (k : ℕ → ℕ) (numberw masq startr : ℕ) where
    -- WRITE BEGAN (step 20)
    pub write_begins : (v : Val) (reading : Bool) → SoFar x numbers k false reading numberw masq startr
        → SoFar (x ++ (write_began v ∷ [])) numbers k true reading (numberw + 1) masq startr
    write_begins v reading S = let e : Event Val = write_began v in let wf = well_formed_snoc x e S.well_formed (ap not S.write_open_is) in record {
      well_formed = wf;
      choice = choice_other v₀ x e wf refl k S.choice;
      begun = rw (count_snoc begins_write x e) (omega arith);
      write_open_is = write_open_began x S.well_formed v;
      read_open_is = read_open_same x e refl refl ∙ S.read_open_is;
      ended = rw (count_snoc ends_write x e) S.ended;
      seen = λ i r. S.seen i (r.0, ended_cut v₀ x e wf refl i r.0 r.1);
      ended_before = λ p b. let b' = began_cut x e refl refl p b in rw (ended_there x e refl refl p b') (S.ended_before p b');
      seen_before = λ p i b r. S.seen_before p i (began_cut x e refl refl p b) (r.0, ended_cut v₀ x e wf refl i r.0 r.1);
      all_numbers = S.all_numbers ∙ sym (reads_same x e refl refl);
      by_number = S.by_number;
    }

    -- WRITE ENDED (step 27)
    pub write_ends : (reading : Bool) (masq' : ℕ) → masq ≤ masq' → numberw ≤ masq' → SoFar x numbers k true reading numberw masq startr
        → SoFar (x ++ (write_ended ∷ [])) numbers k false reading numberw masq' startr
    write_ends reading masq' up reached S = let e : Event Val = write_ended in let wf = well_formed_snoc x e S.well_formed S.write_open_is in record {
      well_formed = wf;
      choice = choice_other v₀ x e wf refl k S.choice;
      begun = rw (count_snoc begins_write x e) S.begun;
      write_open_is = write_open_ended x S.well_formed;
      read_open_is = read_open_same x e refl refl ∙ S.read_open_is;
      ended = omega (arith, (counts (x ++ (e ∷ [])) wf).writes_begun, count_snoc begins_write x e);
      seen = λ i r. omega (arith, S.seen i (r.0, ended_cut v₀ x e wf refl i r.0 r.1));
      ended_before = λ p b. let b' = began_cut x e refl refl p b in rw (ended_there x e refl refl p b') (S.ended_before p b');
      seen_before = λ p i b r. S.seen_before p i (began_cut x e refl refl p b) (r.0, ended_cut v₀ x e wf refl i r.0 r.1);
      all_numbers = S.all_numbers ∙ sym (reads_same x e refl refl);
      by_number = S.by_number;
    }

    -- READ BEGAN (step 40)
    pub read_begins : (writing : Bool) → SoFar x numbers k writing false numberw masq startr
        → SoFar (x ++ (read_began ∷ [])) numbers k writing true numberw masq masq
    read_begins writing S = let e : Event Val = read_began in let wf = well_formed_snoc x e S.well_formed (ap not S.read_open_is) in record {
      well_formed = wf;
      choice = choice_other v₀ x e wf refl k S.choice;
      begun = rw (count_snoc begins_write x e) S.begun;
      write_open_is = write_open_same x e refl refl ∙ S.write_open_is;
      read_open_is = read_open_began x S.well_formed;
      ended = rw (count_snoc ends_write x e) S.ended;
      seen = λ i r. S.seen i (r.0, ended_cut v₀ x e wf refl i r.0 r.1);
      ended_before = λ p b. omega (arith, count_all ends_write (x ++ (e ∷ [])) p, count_snoc ends_write x e);
      seen_before = λ p i b r. S.seen i (r.0, ended_cut v₀ x e wf refl i r.0 r.1);
      all_numbers = S.all_numbers ∙ sym (rw count_snoc);
      by_number = S.by_number;
    }

    -- READ ENDED (step 44), with the value v and the number n: the choice is by the number.
    pub read_ends : (writing : Bool) (v : Val) (n masq' : ℕ) → startr ≤ n → n ≤ numberw → Holds v₀ x (writes_before n) v → masq ≤ masq' → n ≤ masq'
        → SoFar x numbers k writing true numberw masq startr
        → SoFar (x ++ (read_ended v ∷ [])) (numbers ++ (n ∷ [])) (put k (count ends_read x) (writes_before n)) writing false numberw masq' startr
    read_ends writing v n masq' from to holds up reached S =
        let e : Event Val = read_ended v in
        let wf = well_formed_snoc x e S.well_formed S.read_open_is in
        let (p, b) = open_read x v wf in
        record {
          well_formed = wf;
          choice = choice_read v₀ x v wf p b k (writes_before n) S.choice
              (record { low = omega (arith, S.ended_before p b); high = omega arith; value = holds })
              (λ i r. omega (arith, S.seen_before p i b r));
          begun = rw (count_snoc begins_write x e) S.begun;
          write_open_is = write_open_same x e refl refl ∙ S.write_open_is;
          read_open_is = read_open_ended x S.well_formed v;
          ended = rw (count_snoc ends_write x e) (omega arith);
          seen = λ i r. seen i (nth_snoc ends_read x e i r.0 r.1);
          ended_before = λ q a. absurd (nothing q a);
          seen_before = λ q i a r. absurd (nothing q a);
          all_numbers = simp length-append (omega (arith, S.all_numbers, count_snoc ends_read x e));
          by_number = λ i a h. by_number i a h (dec_lt i (length numbers));
        }
      where
        -- startr is at least 1, since masq was
        one : 1 ≤ n
        one = let (p, b) = open_read x v (well_formed_snoc x (read_ended v) S.well_formed S.read_open_is) in omega (arith, S.ended_before p b)

        seen : (i : ℕ) {q : ℕ} → Nth ends_read x i q ⊎ ((q ≡ length x) × (◌≡◌ {A = Bool} true true) × (i ≡ count ends_read x)) → put k (count ends_read x) (writes_before n) i + 1 ≤ masq'
        seen i {q} (inl a) = rw (put_below k (count ends_read x) (writes_before n) i (nth_lt ends_read x i q a)) (omega (arith, S.seen i (q, a)))
        seen i {q} (inr (a, t, j)) = rw (put_at k (count ends_read x) (writes_before n) i (omega arith)) (omega arith)

        nothing : (q : ℕ) → BeginsAt (x ++ (read_ended v ∷ [])) (read (count ends_read (x ++ (read_ended v ∷ [])))) q → ⊥
        nothing q a = omega (arith, nth_lt begins_read (x ++ (read_ended v ∷ [])) (count ends_read (x ++ (read_ended v ∷ []))) q a, count_snoc begins_read x (read_ended v), count_snoc ends_read x (read_ended v), counts x S.well_formed)

        by_number : (i a : ℕ) → get_elem? (numbers ++ (n ∷ [])) i ≡ some a → Dec (i < length numbers) → put k (count ends_read x) (writes_before n) i + 1 ≡ a
        by_number i a h (yes l) = rw (put_below k (count ends_read x) (writes_before n) i (omega (arith, S.all_numbers))) (S.by_number i a (rw at_append at h))
        by_number i a h (no l) =
            let q : i ≡ length numbers = omega (arith, at_bound (numbers ++ (n ∷ [])) i a h, length-append numbers (n ∷ [])) in
            let s : get_elem? (numbers ++ (n ∷ [])) (length numbers) ≡ some n = at_seam numbers n [] in
            let u : a ≡ n = cc in
            rw (put_at k (count ends_read x) (writes_before n) i (omega (arith, S.all_numbers))) (omega (arith, one))
