-- To be believed: source document 000 (Hesselink 2002), section 2.1, its definitions up to legality, for any set of ports with decidable equality.
-- "A variable type T is a tuple T = ⟨V, Inv, Res, v₀, f⟩ where V, Inv and Res are sets, v₀ is an element of V, and f is a function
-- f : V × Inv → V × Res": Val, Inv, Res, v₀ and f below. Finite sequences only, where the document has "finite or infinite": a log is finite.
use Rattle.std.specs.Prelude.{ℕ, zero, suc, ◌<◌, ◌≡◌, List, [], ◌∷◌, Bool, true, false}
use Rattle.std.proofs.Math.Option.{some}
use Rattle.std.proofs.Math.Logic.{ite}
use Rattle.std.proofs.Math.ListN.{get_elem?}

-- "Let us define communication to mean invocation or response."
pub data Communication (Inv Res : Type 0) : Type 0 where
  invocation : Inv → Communication Inv Res
  response : Res → Communication Inv Res

-- "An execution of the object is a finite or infinite sequence e of pairs (q, u) with ports q and communications u."
abbrev pub Execution : Type 0 → Type 0 → Type 0 → Type 0
Execution Port Inv Res = List (Port × Communication Inv Res)

-- "An operation is a triple ⟨u, w, r⟩ where u is an invocation, w is a value, and r is a response."
pub record Operation (Val Inv Res : Type 0) : Type 0 where
  pub u : Inv
  pub w : Val
  pub r : Res

-- "each z is a communication or an operation"
pub data Item (Val Inv Res : Type 0) : Type 0 where
  communication : Communication Inv Res → Item Val Inv Res
  operation : Operation Val Inv Res → Item Val Inv Res

-- "A history is a sequence of pairs (q, z) where each q is a port and each z is a communication or an operation."
abbrev pub History : Type 0 → Type 0 → Type 0 → Type 0 → Type 0
History Port Val Inv Res = List (Port × Item Val Inv Res)

-- "the subsequence of h of the pairs with first component p, from which the (now redundant) first components p have been removed"
module _ {Port : Type 0} (same : Discrete Port) {Z : Type 0} where
  unfoldable pub local : Port → List (Port × Z) → List Z
  local p [] = []
  local p ((q, z) ∷ h) = ite (same p q) (z ∷ local p h) (local p h)

-- "alternates between invocation and response and starts with an invocation. The last invocation of q need not (yet) have a corresponding
-- response." The test says whether a response is next.
module _ {Inv Res : Type 0} where
  abbrev pub Alternates : Bool → List (Communication Inv Res) → Type 0
  Alternates response-next [] = Unit {0}
  Alternates false (invocation u ∷ l) = Alternates true l
  Alternates false (response r ∷ l) = ⊥
  Alternates true (invocation u ∷ l) = ⊥
  Alternates true (response r ∷ l) = Alternates false l

  -- "An execution e is well-formed iff, for every port q, the subsequence of e of the pairs with first component q alternates .."
  abbrev pub WellFormedExecution : {Port : Type 0} → Discrete Port → Execution Port Inv Res → Type 0
  WellFormedExecution {Port} same e = (q : Port) → Alternates false (local same q e)

-- z immediately precedes the index i of l.
abbrev pub Preceded : {Z : Type 0} → List Z → ℕ → Z → Type 0
Preceded l zero z = ⊥
Preceded l (suc i) z = get_elem? l i ≡ some z

module _ {Val Inv Res : Type 0} where
  -- "A local history h_p is well-formed iff every response r in it is immediately preceded by some operation ⟨u, w, r⟩ and every operation
  -- ⟨u, w, r⟩ in it is immediately preceded by the invocation u and every invocation (except for the very first invocation) is immediately
  -- preceded by some response."
  pub record LocallyWellFormed (l : List (Item Val Inv Res)) : Type 0 where
    pub responses : (i : ℕ) (r : Res) → get_elem? l i ≡ some (communication (response r))
        → (u : Inv) × (w : Val) × Preceded l i (operation (record { u = u; w = w; r = r }))
    pub operations : (i : ℕ) (o : Operation Val Inv Res) → get_elem? l i ≡ some (operation o) → Preceded l i (communication (invocation o.u))
    pub invocations : (first i : ℕ) (u₀ u : Inv) → first < i → get_elem? l first ≡ some (communication (invocation u₀))
        → get_elem? l i ≡ some (communication (invocation u)) → (r : Res) × Preceded l i (communication (response r))

  module _ {Port : Type 0} where
    -- "A history h is well-formed iff its local histories h_q, for all ports q, are well-formed."
    abbrev pub WellFormedHistory : Discrete Port → History Port Val Inv Res → Type 0
    WellFormedHistory same h = (q : Port) → LocallyWellFormed (local same q h)

    -- "removing all pairs (q, z) where z is an operation"
    unfoldable pub communications : History Port Val Inv Res → Execution Port Inv Res
    communications [] = []
    communications ((q, communication u) ∷ h) = (q, u) ∷ communications h
    communications ((q, operation o) ∷ h) = communications h

    -- "A history h fits an execution e iff e is obtained from h by removing all pairs (q, z) where z is an operation."
    abbrev pub Fits : History Port Val Inv Res → Execution Port Inv Res → Type 0
    Fits h e = communications h ≡ e

    -- "the operation history h' of h .. is obtained by first removing from h all pairs (q, u) with communications u, and then removing the
    -- port components"
    unfoldable pub operation_history : History Port Val Inv Res → List (Operation Val Inv Res)
    operation_history [] = []
    operation_history ((q, communication u) ∷ h) = operation_history h
    operation_history ((q, operation o) ∷ h) = o ∷ operation_history h

  -- "legal iff f(w_{i−1}, u_i) = (w_i, r_i) for all i, where w_{−1} = v₀ by convention": v is the value before the first of the list.
  unfoldable pub LegalOperations : (Val → Inv → Val × Res) → Val → List (Operation Val Inv Res) → Type 0
  LegalOperations f v [] = Unit {0}
  LegalOperations f v (o ∷ os) = (f v o.u ≡ (o.w, o.r)) × LegalOperations f o.w os

  module _ {Port : Type 0} (same : Discrete Port) (f : Val → Inv → Val × Res) (v₀ : Val) where
    -- "A history h is defined to be legal iff its operation history h' is legal. An execution e is defined to be legal iff there exists a
    -- well-formed legal history h that fits it."
    pub record LegalExecution (e : Execution Port Inv Res) : Type 0 where
      pub history : History Port Val Inv Res
      pub well_formed : WellFormedHistory same history
      pub legal : LegalOperations f v₀ (operation_history history)
      pub fits : Fits history e

    -- "A concurrent data object is defined to be atomic iff it is guaranteed that every occurring execution of it is legal."
    abbrev pub AtomicObject : (Execution Port Inv Res → Type 0) → Type 0
    AtomicObject occurs = (e : Execution Port Inv Res) → occurs e → LegalExecution e
