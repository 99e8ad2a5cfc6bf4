-- The converse: a well-formed legal history can be played. So document 000's legal executions are those that can be played. Assumes nothing.
use Prim.Native.Nat.{ℕ, zero, suc}
use mathlib.Core.Path.{◌≡◌, refl, sym, subst}
use mathlib.Core.List.{List, [], ◌∷◌}
use mathlib.Core.Option.{some}
use mathlib.Core.Logic.{ite, ◌≢◌, ◌↔◌}
use native.Mathlib.Omega.{arith}
use lib.ListN.{get_elem?}
use Rattle.history.specs.Document000.{invocation, response, Execution, Item, communication, operation, History, local, LocallyWellFormed, operation_history, LegalOperations, Fits, LegalExecution}
use Rattle.history.proofs.Plays.{Status, resting, no_none, after, Suits, Cycle, set, Makes, value_after, Plays, play_execution}

module _ {Val Inv Res : Type 0} where
  abbrev Before : Status Inv Res → List (Item Val Inv Res) → ℕ → Item Val Inv Res → Type 0
  Before s l zero z = Suits z s
  Before s l (suc j) z = (x : Item Val Inv Res) × (get_elem? l j ≡ some x) × Suits z (after x)

  abbrev From : Status Inv Res → List (Item Val Inv Res) → Type 0
  From s l = (i : ℕ) (z : Item Val Inv Res) → get_elem? l i ≡ some z → Before s l i z

  cycle_from : (s : Status Inv Res) (l : List (Item Val Inv Res)) → From s l → Cycle s l
  cycle_from s [] h = tt
  cycle_from s (x ∷ l) h = (h zero x refl, cycle_from (after x) l (λ i z e. go i z e (h (suc i) z e)))
    where
      go : (i : ℕ) (z : Item Val Inv Res) → get_elem? l i ≡ some z → Before s (x ∷ l) (suc i) z → Before (after x) l i z
      go zero z e (y, k, u) = let q : x ≡ y = cc in rw q u
      go (suc i) z e (y, k, u) = (y, k, u)

  from_well_formed : (l : List (Item Val Inv Res)) → LocallyWellFormed l → From resting l
  from_well_formed l w zero (communication (invocation u)) e = refl
  from_well_formed l w zero (communication (response r)) e = absurd (w.responses zero r e).2
  from_well_formed l w zero (operation o) e = absurd (w.operations zero o e)
  from_well_formed [] w (suc j) (communication (invocation u)) e = no_none e
  from_well_formed (communication (invocation u₀) ∷ l) w (suc j) (communication (invocation u)) e = let (r, k) = w.invocations zero (suc j) u₀ u (omega arith) refl e in (communication (response r), k, refl)
  from_well_formed (communication (response r) ∷ l) w (suc j) (communication (invocation u)) e = absurd (w.responses zero r refl).2
  from_well_formed (operation o ∷ l) w (suc j) (communication (invocation u)) e = absurd (w.operations zero o refl)
  from_well_formed l w (suc j) (communication (response r)) e = let (u, v, k) = w.responses (suc j) r e in (operation (record { u = u; w = v; r = r }), k, refl)
  from_well_formed l w (suc j) (operation o) e = (communication (invocation o.u), w.operations (suc j) o e, refl)

  module _ {Port : Type 0} (same : Discrete Port) (f : Val → Inv → Val × Res) where
    replay : (st : Port → Status Inv Res) (v : Val) (h : History Port Val Inv Res) → ((q : Port) → Cycle (st q) (local same q h)) → LegalOperations f v (operation_history h) → Plays same f st v h
    unfolding Plays local LegalOperations operation_history
    replay st v [] c l = tt
    replay st v ((p, z) ∷ h) c l = (own.0, makes z l, replay (set same st p (after z)) (value_after v z) h (λ q. next q (same p q)) (rest z l))
      where
        own : Suits z (st p) × Cycle (after z) (local same p h)
        own = go (same p p) (c p)
          where
            go : (d : Dec (p ≡ p)) → Cycle (st p) (ite d (z ∷ local same p h) (local same p h)) → Suits z (st p) × Cycle (after z) (local same p h)
            go (yes e) k = k
            go (no e) k = absurd (e refl)

        makes : (z : Item Val Inv Res) → LegalOperations f v (operation_history ((p, z) ∷ h)) → Makes f v z
        makes (communication x) l = tt
        makes (operation o) l = l.0

        rest : (z : Item Val Inv Res) → LegalOperations f v (operation_history ((p, z) ∷ h)) → LegalOperations f (value_after v z) (operation_history h)
        rest (communication x) l = l
        rest (operation o) l = l.1

        other : (q : Port) → q ≢ p → Cycle (st q) (local same q h)
        other q ne = go (same q p) (c q)
          where
            go : (d : Dec (q ≡ p)) → Cycle (st q) (ite d (z ∷ local same q h) (local same q h)) → Cycle (st q) (local same q h)
            go (yes e) k = absurd (ne e)
            go (no e) k = k

        next : (q : Port) (d : Dec (p ≡ q)) → Cycle (ite d (after z) (st q)) (local same q h)
        next q (yes e) = subst (λ (y : Port). Cycle (after z) (local same y h)) e own.1
        next q (no e) = other q (λ k. e (sym k))

    pub record Playable (v₀ : Val) (e : Execution Port Inv Res) : Type 0 where
      pub history : History Port Val Inv Res
      pub plays : Plays same f (λ p. resting) v₀ history
      pub fits : Fits history e

    -- DOCUMENT 000'S LEGAL EXECUTIONS are those that can be played.
    pub legal_iff_playable : (v₀ : Val) (e : Execution Port Inv Res) → LegalExecution same f v₀ e ↔ Playable v₀ e
    legal_iff_playable v₀ e = (
      λ L. record {
        history = L.history;
        plays = replay (λ p. resting) v₀ L.history (λ q. cycle_from resting (local same q L.history) (from_well_formed (local same q L.history) (L.well_formed q))) L.legal;
        fits = L.fits;
      },
      λ P. subst (LegalExecution same f v₀) P.fits (play_execution same f v₀ P.history P.plays),
    )
