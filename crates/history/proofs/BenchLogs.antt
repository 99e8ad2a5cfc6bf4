-- The judge's bench lines of document 01 as logs, P1 and P6 to P10, and the log that refutes matching a read to the newest write of equal value.
-- The values are numbers, the initial value is 5. Assumes nothing.
use Prim.Native.Nat.{ℕ}
use mathlib.Core.Path.{◌≡◌, refl}
use mathlib.Core.List.{List, [], ◌∷◌}
use mathlib.Core.Bool.{true}
use lib.Dec.{eqb}
use borrow.Author.Tests.{eqb-true, eqb-false}
use Rattle.history.specs.Events.{Event, write_began, write_ended, read_began, read_ended}
use Rattle.history.specs.Verdict.{Answer, Judged}
use Rattle.history.proofs.Turns.{well_formed_nil, well_formed_all, all_in_turn}
use Rattle.history.proofs.Search.{Test}
use Rattle.history.proofs.JudgeRun.{judged_as, run_judged}

abbrev pub numbers : Test ℕ
numbers = record { same = eqb; is_same = eqb-true; is_other = eqb-false }

judged : (v₀ : ℕ) (es : List (Event ℕ)) → all_in_turn [] es ≡ true → Judged v₀ es (judged_as numbers v₀ es)
judged v₀ es h = run_judged numbers v₀ es (well_formed_all es [] well_formed_nil h)

abbrev pub answer : ℕ → ℕ → ℕ → ℕ → ℕ → Answer
answer atomic first writes reads overlapped = record { atomic = atomic; first = first; writes = writes; reads = reads; overlapped = overlapped }

-- P1 initial 5 only
pub p1 : Judged {Val = ℕ} 5 [] (answer 1 0 0 0 0)
p1 = judged 5 [] refl

-- P6 start 9, the write stays open; the read returns 9, and again 9: atomic 1
abbrev pub log6 : List (Event ℕ)
log6 = write_began 9 ∷ read_began ∷ read_ended 9 ∷ read_began ∷ read_ended 9 ∷ []

pub p6 : Judged 5 log6 (answer 1 0 0 2 0)
p6 = judged 5 log6 refl

-- P7 read began, write began 9, read ended 9, read began, read ended 5: atomic 0, first 2, writes 0, reads 2, overlapped 1
abbrev pub log7 : List (Event ℕ)
log7 = read_began ∷ write_began 9 ∷ read_ended 9 ∷ read_began ∷ read_ended 5 ∷ []

pub p7 : Judged 5 log7 (answer 0 2 0 2 1)
p7 = judged 5 log7 refl

-- P8 write 9 ended, write 5 begun, reads 9 then 5: atomic 1
abbrev pub log8 : List (Event ℕ)
log8 = write_began 9 ∷ write_ended ∷ write_began 5 ∷ read_began ∷ read_ended 9 ∷ read_began ∷ read_ended 5 ∷ []

pub p8 : Judged 5 log8 (answer 1 0 1 2 0)
p8 = judged 5 log8 refl

-- P9 write 9 ended, read 5: atomic 0, first 1
abbrev pub log9 : List (Event ℕ)
log9 = write_began 9 ∷ write_ended ∷ read_began ∷ read_ended 5 ∷ []

pub p9 : Judged 5 log9 (answer 0 1 1 1 0)
p9 = judged 5 log9 refl

-- P10 read 9 ended, then write 9 begun: atomic 0, first 1
abbrev pub log10 : List (Event ℕ)
log10 = read_began ∷ read_ended 9 ∷ write_began 9 ∷ []

pub p10 : Judged 5 log10 (answer 0 1 0 1 0)
p10 = judged 5 log10 refl

-- "Matching a read to the newest write of equal value. Later reads may need the older one." Here the first read returned the initial 5, though a
-- write of 5 had begun: atomic 1, writes 1, reads 2, overlapped 1.
abbrev pub log_newest : List (Event ℕ)
log_newest = read_began ∷ write_began 9 ∷ write_ended ∷ write_began 5 ∷ read_ended 5 ∷ read_began ∷ read_ended 9 ∷ []

pub not_the_newest : Judged 5 log_newest (answer 1 0 1 2 1)
not_the_newest = judged 5 log_newest refl
