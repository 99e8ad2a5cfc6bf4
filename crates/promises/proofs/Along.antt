-- Along moves of which none is refused, one after another from any state that is tracked: the state reached is tracked, with the events of all
-- the moves. Assumes nothing.
use mathlib.Core.Path.{◌≡◌, refl, ap, sym}
use mathlib.Core.List.{List, [], ◌∷◌, ◌++◌, append-nil, append_assoc}
use Prim.Native.Nat.{ℕ}
use native.Mathlib.Omega.{arith}
use lib.Dec.{eqb}
use Rattle.terms.specs.Value.{Value}
use Rattle.terms.proofs.Tests.{if_case}
use Rattle.history.specs.Events as plain
use Rattle.history.specs.Numbered.{AtPort, without_number, without_numbers}
use Rattle.history.proofs.Written.{written, written_by}
use Rattle.register.specs.declared.State.{State}
use Rattle.register.specs.declared.Move.{Move}
use Rattle.register.specs.declared.Move.TheVariants.{WriterStart, WriterStep, WriterFlicker, ReaderStep, ReaderFlicker}
use Rattle.register.specs.Initial.{initial}
use Rattle.register.specs.Move.{Moved, good, answer_to}
use Rattle.register.specs.Run.{made, Ran, given}
use Rattle.register.proofs.Cases.{accepted}
use Rattle.invariants.specs.Held.{Held}
use Rattle.invariants.proofs.Preserved.{Lawful, lawful_after, held_after}
use Rattle.invariants.proofs.Runs.{and_then_good}
use Rattle.invariants.proofs.Start.{initial_lawful, initial_held}
use Rattle.replay.specs.Run.{events_of}
use Rattle.replay.specs.Scheduled.{events_along}
use Rattle.promises.specs.SeenNumbers.{read_number, read_numbers}
use Rattle.promises.proofs.SoFar.{so_far_nil}
use Rattle.promises.proofs.Follows.{Tracked, marks, Follows, step_follows}

-- Events in two parts: without their numbers, the numbers of their reads, the values that they write.
pub plain_append : (a b : List (AtPort Value)) → without_numbers (a ++ b) ≡ without_numbers a ++ without_numbers b
plain_append [] b = refl
plain_append (e ∷ a) b = rw (plain_append a b) (sym (append_assoc (without_number e.event) (without_numbers a) (without_numbers b)))

numbers_append : (a b : List (AtPort Value)) → read_numbers (a ++ b) ≡ read_numbers a ++ read_numbers b
numbers_append [] b = refl
numbers_append (e ∷ a) b = rw (numbers_append a b) (sym (append_assoc (read_number e.event) (read_numbers a) (read_numbers b)))

pub written_append : (x y : List (plain.Event Value)) → written (x ++ y) ≡ written x ++ written y
written_append [] y = refl
written_append (e ∷ x) y = rw (written_append x y) (sym (append_assoc (written_by e) (written x) (written y)))

-- The values that a move's events write are those that it gives.
pub written_given : (s : State) (m : Move) → written (without_numbers (events_of s m)) ≡ given (m ∷ [])
unfolding events_of
written_given s (WriterStart v) = refl
written_given s WriterStep = if_case (λ (es : List (AtPort Value)). written (without_numbers es) ≡ []) (eqb s.q 27) (λ e. refl) (λ e. refl)
written_given s (WriterFlicker b) = refl
written_given s ReaderStep =
    if_case (λ (es : List (AtPort Value)). written (without_numbers es) ≡ []) (eqb s.r 40) (λ e. refl) (λ e.
    if_case (λ (es : List (AtPort Value)). written (without_numbers es) ≡ []) (eqb s.r 44) (λ f. refl) (λ f. refl))
written_given s (ReaderFlicker b) = refl

module _ (v : Value) where
  -- One move that is not refused.
  move_follows : (s : State) (m : Move) (x : List (plain.Event Value)) (numbers : List ℕ) (h : Lawful s) (k : Held s (v ∷ written x))
      (T : Tracked v (marks s) x numbers) → (answer_to s m).number ≡ 0 → Follows v x numbers s h k T m (answer_to s m).state
  move_follows s m x numbers h k T f = let a = accepted s m f in rw a.is_step (step_follows v x numbers s h k T m (rw a.is_step at f))

  -- Several.
  pub along : (ms : List Move) (s t : State) (x : List (plain.Event Value)) (numbers : List ℕ) → Lawful s → Held s (v ∷ written x)
      → Tracked v (marks s) x numbers → made s ms ≡ good t
      → Tracked v (marks t) (x ++ without_numbers (events_along s ms)) (numbers ++ read_numbers (events_along s ms))
  along [] s t x numbers h k T e = rw (append-nil x, append-nil numbers, ← ap (λ (a : Moved). a.state) e) T
  along (m ∷ ms) s t x numbers h k T e =
      let f = and_then_good (answer_to s m) (λ y. made y ms) t e in
      let here = events_of s m in
      let rest = events_along (answer_to s m).state ms in
      let held : Held (answer_to s m).state (v ∷ written (x ++ without_numbers here)) =
      rw (written_append x (without_numbers here), written_given s m) (held_after s m (v ∷ written x) h.shaped h.invariants f.0 k) in
      rw (plain_append here rest, numbers_append here rest, ← append_assoc x (without_numbers here) (without_numbers rest), ← append_assoc numbers (read_numbers here) (read_numbers rest))
      (along ms (answer_to s m).state t (x ++ without_numbers here) (numbers ++ read_numbers here) (lawful_after s m h.shaped h.invariants f.0) held
      (move_follows s m x numbers h k T f.0).tracked f.1)

  -- From the initial state: every run is tracked.
  pub ran_tracked : (ms : List Move) (s : State) → Ran v ms s
      → Tracked v (marks s) (without_numbers (events_along (initial v) ms)) (read_numbers (events_along (initial v) ms))
  ran_tracked ms s ran = along ms (initial v) s [] [] (initial_lawful v) (initial_held v) (record { k = λ i. 0; so_far = so_far_nil v 1 1 0 refl (omega arith) }) ran
