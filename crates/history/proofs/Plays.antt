-- Document 000's histories as plays: each port goes through invocation, operation, response, and the object holds one value. A device: it goes
-- forward through a history, where the definition looks at local histories. Here: what can be played is a legal execution. Assumes nothing.
use Prim.Native.Nat.{ℕ, zero, suc, ◌<◌}
use mathlib.Core.Path.{◌≡◌, refl, ap, sym, subst}
use mathlib.Core.List.{List, [], ◌∷◌}
use mathlib.Core.Option.{none, some}
use mathlib.Core.Logic.{ite, ◌≢◌, if_pos, if_neg}
use native.Mathlib.Omega.{arith}
use lib.ListN.{get_elem?}
use Rattle.history.specs.Document000.{invocation, response, Item, communication, operation, Operation, History, local, Preceded, LocallyWellFormed, communications, operation_history, LegalOperations, LegalExecution}

pub data Status (Inv Res : Type 0) : Type 0 where
  resting : Status Inv Res
  invoked : Inv → Status Inv Res
  done : Res → Status Inv Res

pub no_none : {A B : Type 0} {a : A} → none ≡ some a → B
no_none e = let z : ◌≡◌ {A = ℕ} 0 1 = cc in absurd (omega arith)

clash₁ : {A Inv Res : Type 0} {r : Res} → ◌≡◌ {A = Status Inv Res} resting (done r) → A
clash₁ e = let z : ◌≡◌ {A = ℕ} 0 1 = cc in absurd (omega arith)

clash₂ : {A Inv Res : Type 0} {u : Inv} → ◌≡◌ {A = Status Inv Res} resting (invoked u) → A
clash₂ e = let z : ◌≡◌ {A = ℕ} 0 1 = cc in absurd (omega arith)

-- The value at p changed.
abbrev pub set : {Port A : Type 0} → Discrete Port → (Port → A) → Port → A → Port → A
set same f p a q = ite (same p q) a (f q)

module _ {Port A : Type 0} (same : Discrete Port) (f : Port → A) (p : Port) (a : A) where
  pub set_same : set same f p a p ≡ a
  set_same = if_pos (same p p) refl a (f p)

  pub set_other : (q : Port) → q ≢ p → set same f p a q ≡ f q
  set_other q ne = if_neg (same p q) (λ e. ne (sym e)) a (f q)

module _ {Val Inv Res : Type 0} where
  abbrev pub after : Item Val Inv Res → Status Inv Res
  after (communication (invocation u)) = invoked u
  after (communication (response r)) = resting
  after (operation o) = done o.r

  abbrev pub Suits : Item Val Inv Res → Status Inv Res → Type 0
  Suits (communication (invocation u)) s = s ≡ resting
  Suits (communication (response r)) s = s ≡ done r
  Suits (operation o) s = s ≡ invoked o.u

  -- one port's part
  abbrev pub Cycle : Status Inv Res → List (Item Val Inv Res) → Type 0
  Cycle s [] = Unit {0}
  Cycle s (z ∷ l) = Suits z s × Cycle (after z) l

  -- what stands before the index i of l, where the port's status was s before l
  abbrev Prior : Status Inv Res → List (Item Val Inv Res) → ℕ → (Status Inv Res → Type 0) → (Item Val Inv Res → Type 0) → Type 0
  Prior s l zero P Q = P s
  Prior s l (suc j) P Q = (z : Item Val Inv Res) × (get_elem? l j ≡ some z) × Q z

  -- if the status after an item is right then the item is
  prior : (P : Status Inv Res → Type 0) (Q : Item Val Inv Res → Type 0) → ((z : Item Val Inv Res) → P (after z) → Q z) →
      (s : Status Inv Res) (l : List (Item Val Inv Res)) → Cycle s l → (i : ℕ) (z : Item Val Inv Res) → get_elem? l i ≡ some z → ((t : Status Inv Res) → Suits z t → P t) → Prior s l i P Q
  prior P Q f s [] c i z h k = no_none h
  prior P Q f s (x ∷ l) c zero z h k = let e : x ≡ z = cc in k s (rw e at c.0)
  prior P Q f s (x ∷ l) c (suc zero) z h k = (x, refl, f x (prior P Q f (after x) l c.1 zero z h k))
  prior P Q f s (x ∷ l) c (suc (suc j)) z h k = prior P Q f (after x) l c.1 (suc j) z h k

  IsDone : Res → Item Val Inv Res → Type 0
  IsDone r z = (u : Inv) × (w : Val) × (z ≡ operation (record { u = u; w = w; r = r }))

  done_of : (r : Res) (z : Item Val Inv Res) → after z ≡ done r → IsDone r z
  unfolding IsDone
  done_of r (communication (invocation u)) e = let z : ◌≡◌ {A = ℕ} 0 1 = cc in absurd (omega arith)
  done_of r (communication (response q)) e = let z : ◌≡◌ {A = ℕ} 0 1 = cc in absurd (omega arith)
  done_of r (operation o) e = let q : o.r ≡ r = cc in (o.u, o.w, ap (λ (x : Res). operation (record { u = o.u; w = o.w; r = x })) q)

  invoked_of : (u : Inv) (z : Item Val Inv Res) → after z ≡ invoked u → z ≡ communication (invocation u)
  invoked_of u (communication (invocation x)) e = let q : x ≡ u = cc in rw q
  invoked_of u (communication (response q)) e = let z : ◌≡◌ {A = ℕ} 0 1 = cc in absurd (omega arith)
  invoked_of u (operation o) e = let z : ◌≡◌ {A = ℕ} 0 1 = cc in absurd (omega arith)

  resting_of : (z : Item Val Inv Res) → after z ≡ resting → (r : Res) × (z ≡ communication (response r))
  resting_of (communication (invocation x)) e = let z : ◌≡◌ {A = ℕ} 0 1 = cc in absurd (omega arith)
  resting_of (communication (response q)) e = (q, refl)
  resting_of (operation o) e = let z : ◌≡◌ {A = ℕ} 0 1 = cc in absurd (omega arith)

  pub cycle_well_formed : (l : List (Item Val Inv Res)) → Cycle resting l → LocallyWellFormed l
  unfolding IsDone
  cycle_well_formed l c = record {
    responses = λ i r h. resp i r (prior (λ s. s ≡ done r) (IsDone r) (done_of r) resting l c i (communication (response r)) h (λ t e. e));
    operations = λ i o h. oper i o (prior (λ s. s ≡ invoked o.u) (λ z. z ≡ communication (invocation o.u)) (invoked_of o.u) resting l c i (operation o) h (λ t e. e));
    invocations = λ first i u₀ u h a b. invo first i h (prior (λ s. s ≡ resting) (λ z. (r : Res) × (z ≡ communication (response r))) resting_of resting l c i (communication (invocation u)) b (λ t e. e));
  }
    where
      resp : (i : ℕ) (r : Res) → Prior resting l i (λ s. s ≡ done r) (IsDone r) → (u : Inv) × (w : Val) × Preceded l i (operation (record { u = u; w = w; r = r }))
      resp zero r p = clash₁ p
      resp (suc j) r (z, e, (u, w, q)) = (u, w, rw q at e)

      oper : (i : ℕ) (o : Operation Val Inv Res) → Prior resting l i (λ s. s ≡ invoked o.u) (λ z. z ≡ communication (invocation o.u)) → Preceded l i (communication (invocation o.u))
      oper zero o p = clash₂ p
      oper (suc j) o (z, e, q) = rw q at e

      invo : (first i : ℕ) → first < i → Prior resting l i (λ s. s ≡ resting) (λ z. (r : Res) × (z ≡ communication (response r))) → (r : Res) × Preceded l i (communication (response r))
      invo first zero h p = absurd (omega arith)
      invo first (suc j) h (z, e, (r, q)) = (r, rw q at e)

  -- An operation does to the value what f says.
  abbrev pub Makes : (Val → Inv → Val × Res) → Val → Item Val Inv Res → Type 0
  Makes f v (communication c) = Unit {0}
  Makes f v (operation o) = f v o.u ≡ (o.w, o.r)

  abbrev pub value_after : Val → Item Val Inv Res → Val
  value_after v (communication c) = v
  value_after v (operation o) = o.w

  -- A history that can be played from these statuses and this value.
  module _ {Port : Type 0} (same : Discrete Port) (f : Val → Inv → Val × Res) where
    unfoldable pub Plays : (Port → Status Inv Res) → Val → History Port Val Inv Res → Type 0
    Plays st v [] = Unit {0}
    Plays st v ((p, z) ∷ h) = Suits z (st p) × Makes f v z × Plays (set same st p (after z)) (value_after v z) h

    plays_legal : (st : Port → Status Inv Res) (v : Val) (h : History Port Val Inv Res) → Plays st v h → LegalOperations f v (operation_history h)
    unfolding Plays LegalOperations operation_history
    plays_legal st v [] a = tt
    plays_legal st v ((p, communication c) ∷ h) a = plays_legal (set same st p (after (communication c))) v h a.2
    plays_legal st v ((p, operation o) ∷ h) a = (a.1, plays_legal (set same st p (after (operation o))) o.w h a.2)

    plays_cycle : (st : Port → Status Inv Res) (v : Val) (h : History Port Val Inv Res) (q : Port) → Plays st v h → Cycle (st q) (local same q h)
    unfolding Plays local
    plays_cycle st v [] q a = tt
    plays_cycle st v ((p, z) ∷ h) q a = go (same q p) (plays_cycle (set same st p (after z)) (value_after v z) h q a.2)
      where
        go : (d : Dec (q ≡ p)) → Cycle (set same st p (after z) q) (local same q h) → Cycle (st q) (ite d (z ∷ local same q h) (local same q h))
        go (yes e) c = (rw e a.0, subst (λ (s : Status Inv Res). Cycle s (local same q h)) (rw e (set_same same st p (after z))) c)
        go (no e) c = subst (λ (s : Status Inv Res). Cycle s (local same q h)) (set_other same st p (after z) q e) c

    pub play_execution : (v₀ : Val) (h : History Port Val Inv Res) → Plays (λ p. resting) v₀ h → LegalExecution same f v₀ (communications h)
    play_execution v₀ h a = record {
      history = h;
      well_formed = λ q. cycle_well_formed (local same q h) (plays_cycle (λ p. resting) v₀ h q a);
      legal = plays_legal (λ p. resting) v₀ h a;
      fits = refl;
    }
