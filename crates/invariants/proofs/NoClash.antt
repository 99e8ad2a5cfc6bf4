-- Where Iq0 and Iq1 hold, the state is no clash. Assumes nothing.
use mathlib.Core.Path.{◌≡◌, refl, ap}
use mathlib.Core.Bool.{Bool, true, false, ◌||◌, ◌&&◌}
use Prim.Native.Nat.{ℕ}
use native.Mathlib.Omega.{arith}
use lib.Dec.{eqb}
use borrow.Author.Tests.{eqb-true, ne_eqb}
use Rattle.register.specs.declared.State.{State}
use Rattle.register.specs.Steps.{opposite, c_at}
use Rattle.register.specs.Move.{is_a_clash, would_write_row}
use Rattle.invariants.specs.Invariants.{Invariants, ◌⇒◌, q_is, r_is}
use Rattle.invariants.proofs.Inv.{under}

-- at work on the row i, the writer writes the entry that is not c[i]
free : (s : State) (i : ℕ) → (eqb i s.br ⇒ s.cr ≡ c_at s s.br) → would_write_row s i ≡ false
free s i h = on (eqb i s.br) refl h
  where
    on : (b : Bool) → eqb i s.br ≡ b → (b ⇒ s.cr ≡ c_at s s.br) → (b && eqb (opposite (c_at s i)) s.cr) ≡ false
    on true e h = let same = ap (c_at s) (eqb-true i s.br e) in ne_eqb (opposite (c_at s i)) s.cr (λ k. omega arith)
    on false e h = refl

under_first : (a b c : Bool) {A B : Type 0} → (A → B) → ((a || b || c) ⇒ A) → a ⇒ B
under_first true b c f h = f h
under_first false b c f h = tt

neither : (r43 q20 q23 x y : Bool) → (q20 ⇒ r43 ⇒ x ≡ false) → (q23 ⇒ r43 ⇒ y ≡ false) → (r43 && ((q20 && x) || (q23 && y))) ≡ false
neither false q20 q23 x y h k = refl
neither true true true x y h k = rw (h, k)
neither true true false x y h k = rw h
neither true false true x y h k = k
neither true false false x y h k = refl

pub no_clash : (s : State) → Invariants s → is_a_clash s ≡ false
no_clash s i =
    neither (r_is s 43) (q_is s 20) (q_is s 23) (would_write_row s s.aw) (would_write_row s (opposite s.aw))
    (under_first (q_is s 20) (q_is s 26) (q_is s 27) (under (r_is s 43) (free s s.aw)) i.iq0)
    (under (q_is s 23) (under (r_is s 43) (free s (opposite s.aw))) i.iq1)
