-- The numbers of a run's writes: from the initial state on, one after another, from 2. Assumes nothing.
use mathlib.Core.Path.{◌≡◌, refl, ap, sym}
use mathlib.Core.List.{List, [], ◌∷◌, ◌++◌, append_assoc}
use mathlib.Core.Option.{some}
use Prim.Native.Nat.{ℕ, zero, suc, ◌+◌}
use native.Mathlib.Omega.{arith}
use lib.Dec.{eqb}
use lib.ListN.{length, get_elem?, length-append}
use Rattle.terms.specs.Value.{Value}
use Rattle.terms.proofs.Tests.{if_case}
use Rattle.history.specs.Numbered.{AtPort, without_numbers}
use Rattle.history.specs.Operations.{count, begins_write}
use Rattle.history.proofs.Appending.{at_bound}
use Rattle.history.proofs.Written.{written, written_length}
use Rattle.register.specs.declared.State.{State}
use Rattle.register.specs.declared.Move.{Move}
use Rattle.register.specs.declared.Move.TheVariants.{WriterStart, WriterStep, WriterFlicker, ReaderStep, ReaderFlicker}
use Rattle.register.specs.Initial.{initial}
use Rattle.register.specs.Move.{good, answer_to}
use Rattle.register.specs.Run.{made, Ran, given}
use Rattle.invariants.specs.Held.{Held}
use Rattle.invariants.proofs.Preserved.{Lawful, lawful_after, held_after}
use Rattle.invariants.proofs.Runs.{and_then_good, given_first}
use Rattle.invariants.proofs.Start.{initial_lawful, initial_held}
use Rattle.replay.specs.Run.{events_of}
use Rattle.replay.specs.Scheduled.{events_along}
use Rattle.promises.specs.SeenNumbers.{write_number, write_numbers}
use Rattle.promises.proofs.Along.{plain_append, written_append, written_given}

writes_append : (a b : List (AtPort Value)) → write_numbers (a ++ b) ≡ write_numbers a ++ write_numbers b
writes_append [] b = refl
writes_append (e ∷ a) b = rw (writes_append a b) (sym (append_assoc (write_number e.event) (write_numbers a) (write_numbers b)))

-- The numbers after n, one for each value.
abbrev numbers_of : ℕ → List Value → List ℕ
numbers_of n [] = []
numbers_of n (v ∷ vs) = (n + 1) ∷ numbers_of (n + 1) vs

numbers_two_parts : (n : ℕ) (a b : List Value) → numbers_of n (a ++ b) ≡ numbers_of n a ++ numbers_of (n + length a) b
numbers_two_parts n [] b = let e : n + 0 ≡ n = omega arith in rw e
numbers_two_parts n (v ∷ a) b =
    let e : n + 1 + length a ≡ n + suc (length a) = omega arith in
    rw (numbers_two_parts (n + 1) a b, e)

numbers_length : (n : ℕ) (vs : List Value) → length (numbers_of n vs) ≡ length vs
numbers_length n [] = refl
numbers_length n (v ∷ vs) = ap suc (numbers_length (n + 1) vs)

numbers_at : (n : ℕ) (vs : List Value) (j m : ℕ) → get_elem? (numbers_of n vs) j ≡ some m → m ≡ n + 1 + j
numbers_at n [] j m h = absurd (omega (arith, at_bound [] j m h))
numbers_at n (v ∷ vs) zero m h = let e : n + 1 ≡ m = cc in omega arith
numbers_at n (v ∷ vs) (suc j) m h = omega (arith, numbers_at (n + 1) vs j m h)

-- A move's write has the number after the writer's.
of_move : (s : State) (m : Move) → write_numbers (events_of s m) ≡ numbers_of s.numberw (given (m ∷ []))
unfolding events_of
of_move s (WriterStart v) = refl
of_move s WriterStep = if_case (λ (es : List (AtPort Value)). write_numbers es ≡ []) (eqb s.q 27) (λ e. refl) (λ e. refl)
of_move s (WriterFlicker b) = refl
of_move s ReaderStep =
    if_case (λ (es : List (AtPort Value)). write_numbers es ≡ []) (eqb s.r 40) (λ e. refl) (λ e.
    if_case (λ (es : List (AtPort Value)). write_numbers es ≡ []) (eqb s.r 44) (λ f. refl) (λ f. refl))
of_move s (ReaderFlicker b) = refl

-- All moves' writes have the numbers after the writer's: the state counts the values given.
of_moves : (ms : List Move) (s t : State) (vs : List Value) → Lawful s → Held s vs → made s ms ≡ good t
    → write_numbers (events_along s ms) ≡ numbers_of s.numberw (given ms)
of_moves [] s t vs h k e = refl
of_moves (m ∷ ms) s t vs h k e =
    let f = and_then_good (answer_to s m) (λ x. made x ms) t e in
    let held = held_after s m vs h.shaped h.invariants f.0 k in
    let next : (answer_to s m).state.numberw ≡ s.numberw + length (given (m ∷ [])) =
    omega (arith, k.count, held.count, length-append vs (given (m ∷ []))) in
    let rest = of_moves ms (answer_to s m).state t (vs ++ given (m ∷ [])) (lawful_after s m h.shaped h.invariants f.0) held f.1 in
    rw (
      writes_append (events_of s m) (events_along (answer_to s m).state ms),
      given_first m ms,
      numbers_two_parts s.numberw (given (m ∷ [])) (given ms),
      of_move s m,
      rest,
      next,
    )

-- The values that the events of moves write are those that the moves give.
written_along : (ms : List Move) (s : State) → written (without_numbers (events_along s ms)) ≡ given ms
written_along [] s = refl
written_along (m ∷ ms) s =
    let here = events_of s m in
    let rest = events_along (answer_to s m).state ms in
    rw (plain_append here rest, written_append (without_numbers here) (without_numbers rest), given_first m ms, written_given s m, written_along ms (answer_to s m).state)

-- OVER ALL RUNS.
module _ (v : Value) (ms : List Move) (s : State) (ran : Ran v ms s) where
  numbers : write_numbers (events_along (initial v) ms) ≡ numbers_of 1 (given ms)
  numbers = of_moves ms (initial v) s (v ∷ []) (initial_lawful v) (initial_held v) ran

  pub each_write : length (write_numbers (events_along (initial v) ms)) ≡ count begins_write (without_numbers (events_along (initial v) ms))
  each_write =
      rw (numbers, numbers_length, ← written_length (without_numbers (events_along (initial v) ms)), written_along ms (initial v))

  pub write_number_is : (j n : ℕ) → get_elem? (write_numbers (events_along (initial v) ms)) j ≡ some n → n ≡ j + 2
  write_number_is j n h = omega (arith, numbers_at 1 (given ms) j n (rw numbers at h))
