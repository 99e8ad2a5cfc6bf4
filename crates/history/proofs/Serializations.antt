-- What is proved of legal serializations: there is one exactly if there is a choice; where any total order is legal, one by ranks is; a prefix of
-- a legal log is legal; the least choice gives each read the smallest count that it has in any of them, and one of them has all of these. Assumes nothing.
use Prim.Native.Nat.{ℕ, ◌≤◌, ◌<◌}
use mathlib.Core.List.{List, ◌++◌}
use mathlib.Core.Bool.{Bool}
use mathlib.Core.Logic.{◌↔◌}
use native.Mathlib.Omega.{arith}
use lib.ListN.{take, drop, take-append-drop}
use Rattle.history.specs.Events.{Event}
use Rattle.history.specs.Operations.{Op, read, Ended, WellFormed}
use Rattle.history.specs.Serialization.{Taken, Legal, Serialization}
use Rattle.history.proofs.Turns.{well_formed_prefix}
use Rattle.history.proofs.Choice.{Choice, SeenIn}
use Rattle.history.proofs.OrderToChoice.{choose, choose_choice, choice_after}
use Rattle.history.proofs.ChoiceToOrder.{order_of_choice, order_seen}
use Rattle.history.proofs.Prefixes.{choice_prefix}
use Rattle.history.proofs.Least.{Least}

module _ {Val : Type 0} (v₀ : Val) (es : List (Event Val)) (wf : WellFormed es) where
  -- ANY ORDER: any total order of the taken operations that keeps precedence and explains the reads gives one by ranks.
  pub any_order : (with_open : Bool) (◌≺◌ : Op → Op → Type 0) → Legal v₀ es (Taken es with_open) ◌≺◌ → Serialization v₀ es
  any_order with_open ◌≺◌ L = order_of_choice v₀ es wf (choose v₀ es wf with_open ◌≺◌ L) (choose_choice v₀ es wf with_open ◌≺◌ L)

  -- ORDER AND CHOICE: a legal serialization exists exactly if there is a choice.
  abbrev pub choice_of : Serialization v₀ es → (k : ℕ → ℕ) × Choice v₀ es k
  choice_of s = (choose v₀ es wf s.with_open (λ a b. s.rank a < s.rank b) s.legal, choose_choice v₀ es wf s.with_open (λ a b. s.rank a < s.rank b) s.legal)

  pub order_iff_choice : Serialization v₀ es ↔ ((k : ℕ → ℕ) × Choice v₀ es k)
  order_iff_choice = (choice_of, λ c. order_of_choice v₀ es wf c.0 c.1)

  -- THE LEAST CHOICE gives each read the smallest write count that it has in any legal serialization,
  pub least_in_all : (k : ℕ → ℕ) (m : ℕ) → Least v₀ es k m → (s : Serialization v₀ es) (i c : ℕ) → Ended es (read i) → SeenIn v₀ es s i c → k i ≤ c
  least_in_all k m L s i c r a = let (d, D) = choice_of s in
      omega (arith, L.least d D i r, choice_after v₀ es wf s.with_open (λ a b. s.rank a < s.rank b) s.legal i c r a)

  -- and there is one that has them all.
  pub least_in_one : (k : ℕ → ℕ) (m : ℕ) → Least v₀ es k m → (s : Serialization v₀ es) × ((i : ℕ) → Ended es (read i) → SeenIn v₀ es s i (k i))
  least_in_one k m L = (order_of_choice v₀ es wf k L.choice, order_seen v₀ es wf k L.choice)

-- A PREFIX of a legal log is legal.
module _ {Val : Type 0} (v₀ : Val) where
  pub prefix_legal : (x y : List (Event Val)) → WellFormed (x ++ y) → Serialization v₀ (x ++ y) → Serialization v₀ x
  prefix_legal x y wf s = let (k, C) = choice_of v₀ (x ++ y) wf s in
      order_of_choice v₀ x (well_formed_prefix x y wf) k (choice_prefix x y v₀ k C)

  pub take_legal : (n : ℕ) (es : List (Event Val)) → WellFormed es → Serialization v₀ es → Serialization v₀ (take n es)
  take_legal n es wf s = prefix_legal (take n es) (drop n es) (rw take-append-drop wf) (rw take-append-drop s)
