-- To be believed: the 29 invariants of the register (001, sections 3 and 4), of the contract's own state, in the order of the paper's text,
-- each under the paper's formula. The paper's sqnw and sqnr are numberw and numberr, its ¬b is `opposite b`. Assumes nothing.
use Rattle.std.specs.Prelude.{◌≡◌, Bool, true, false, not, ◌||◌, ℕ, ◌+◌, ◌≤◌, ◌<◌, eqb}
use Rattle.register.specs.declared.State.{State}
use Rattle.register.specs.Steps.{opposite, tag_at, c_at}

-- `g ⇒ A` says A where the test g passes, and nothing elsewhere.
infixr 2 ◌⇒◌
abbrev pub ◌⇒◌ : Bool → Type 0 → Type 0
true ⇒ A = A
false ⇒ A = Unit {0}

-- q = n, r = n
abbrev pub q_is : State → ℕ → Bool
q_is s n = eqb s.q n

abbrev pub r_is : State → ℕ → Bool
r_is s n = eqb s.r n

-- r ∈ {40, 44}: the reader is not at 41 to 43
abbrev pub at40or44 : State → Bool
at40or44 s = r_is s 40 || r_is s 44

-- aw = br
abbrev pub same_row : State → Bool
same_row s = eqb s.aw s.br

-- THE FOUR PROOF OBLIGATIONS (section 3; Iq0 as section 4 generalizes it).
-- (Iq0) q ∈ {20, 26, 27} ∧ r = 43 ∧ aw = br ⇒ cr = c[br]
abbrev pub Iq0 : State → Type 0
Iq0 s = (q_is s 20 || q_is s 26 || q_is s 27) ⇒ r_is s 43 ⇒ same_row s ⇒ s.cr ≡ c_at s s.br

-- (Iq1) q = 23 ∧ r = 43 ∧ ¬aw = br ⇒ cr = c[br]
abbrev pub Iq1 : State → Type 0
Iq1 s = q_is s 23 ⇒ r_is s 43 ⇒ eqb (opposite s.aw) s.br ⇒ s.cr ≡ c_at s s.br

-- (Jq0) startw < sqnw
abbrev pub Jq0 : State → Type 0
Jq0 s = s.startw < s.numberw

-- (Jq1) r = 44 ⇒ startr ≤ sqnr
abbrev pub Jq1 : State → Type 0
Jq1 s = r_is s 44 ⇒ s.startr ≤ s.numberr

-- THE 25 AUXILIARY ONES (section 4).
-- (Kq0) r = 41 ∨ rr = br
abbrev pub Kq0 : State → Type 0
Kq0 s = not (r_is s 41) ⇒ s.rr ≡ s.br

-- (Kq1) q = 26 ∨ ww = aw
abbrev pub Kq1 : State → Type 0
Kq1 s = not (q_is s 26) ⇒ s.ww ≡ s.aw

-- (Kq2) masq ≤ sqnw
abbrev pub Kq2 : State → Type 0
Kq2 s = s.masq ≤ s.numberw

-- (Kq3) sqnr ≤ sqnw
abbrev pub Kq3 : State → Type 0
Kq3 s = s.numberr ≤ s.numberw

-- (Kq4) tag[i, j] ≤ sqnw; i and j range over Bit
abbrev pub Kq4 : State → Type 0
Kq4 s = (i j : ℕ) → i ≤ 1 → j ≤ 1 → tag_at s i j ≤ s.numberw

-- (Lq0) startr ≤ masq
abbrev pub Lq0 : State → Type 0
Lq0 s = s.startr ≤ s.masq

-- (Lq1) q ≠ 21 ⇒ tag[aw, c[aw]] = sqnw
abbrev pub Lq1 : State → Type 0
Lq1 s = not (q_is s 21) ⇒ tag_at s s.aw (c_at s s.aw) ≡ s.numberw

-- (Lq2) q = 21 ⇒ tag[aw, cw] = sqnw
abbrev pub Lq2 : State → Type 0
Lq2 s = q_is s 21 ⇒ tag_at s s.aw s.cw ≡ s.numberw

-- (Lq3) q = 21 ⇒ tag[aw, ¬cw] + 1 = sqnw
abbrev pub Lq3 : State → Type 0
Lq3 s = q_is s 21 ⇒ tag_at s s.aw (opposite s.cw) + 1 ≡ s.numberw

-- (Lq4) q ∈ {25, 26} ⇒ tag[¬aw, c[¬aw]] = sqnw
abbrev pub Lq4 : State → Type 0
Lq4 s = (q_is s 25 || q_is s 26) ⇒ tag_at s (opposite s.aw) (c_at s (opposite s.aw)) ≡ s.numberw

-- (Lq5) q = 24 ⇒ tag[¬aw, cw] = sqnw
abbrev pub Lq5 : State → Type 0
Lq5 s = q_is s 24 ⇒ tag_at s (opposite s.aw) s.cw ≡ s.numberw

-- (Sq0) r = 43 ⇒ startr ≤ tag[br, cr]
abbrev pub Sq0 : State → Type 0
Sq0 s = r_is s 43 ⇒ s.startr ≤ tag_at s s.br s.cr

-- (Sq1) r ∈ {41, 42} ⇒ startr ≤ tag[br, c[br]]
abbrev pub Sq1 : State → Type 0
Sq1 s = (r_is s 41 || r_is s 42) ⇒ s.startr ≤ tag_at s s.br (c_at s s.br)

-- (Sq2) q = 24 ∧ aw ≠ br ⇒ startr ≤ tag[br, ¬cw]
abbrev pub Sq2 : State → Type 0
Sq2 s = q_is s 24 ⇒ not (same_row s) ⇒ s.startr ≤ tag_at s s.br (opposite s.cw)

-- (Sq3) q = 23 ∧ aw ≠ br ⇒ startr ≤ tag[br, c[br]]
abbrev pub Sq3 : State → Type 0
Sq3 s = q_is s 23 ⇒ not (same_row s) ⇒ s.startr ≤ tag_at s s.br (c_at s s.br)

-- (Tq0) q = 21 ∧ r ∉ {40, 44} ⇒ masq < sqnw
abbrev pub Tq0 : State → Type 0
Tq0 s = q_is s 21 ⇒ not (at40or44 s) ⇒ s.masq < s.numberw

-- (Tq1) q = 21 ∧ aw ≠ br ⇒ masq < sqnw
abbrev pub Tq1 : State → Type 0
Tq1 s = q_is s 21 ⇒ not (same_row s) ⇒ s.masq < s.numberw

-- (Tq2) q = 21 ∧ aw ≠ br ⇒ sqnr < sqnw
abbrev pub Tq2 : State → Type 0
Tq2 s = q_is s 21 ⇒ not (same_row s) ⇒ s.numberr < s.numberw

-- (Tq3) q = 21 ⇒ tag[¬aw, j] < sqnw; j ranges over Bit
abbrev pub Tq3 : State → Type 0
Tq3 s = q_is s 21 ⇒ ((j : ℕ) → j ≤ 1 → tag_at s (opposite s.aw) j < s.numberw)

-- (Uq0) r ∈ {40, 44} ∧ q = 26 ⇒ masq ≤ sqnr
abbrev pub Uq0 : State → Type 0
Uq0 s = at40or44 s ⇒ q_is s 26 ⇒ s.masq ≤ s.numberr

-- (Uq1) r ∈ {40, 44} ∧ aw = br ⇒ masq ≤ sqnr
abbrev pub Uq1 : State → Type 0
Uq1 s = at40or44 s ⇒ same_row s ⇒ s.masq ≤ s.numberr

-- (Uq2) r ∈ {40, 44} ∧ aw = br ∧ q ∈ {26, 27} ⇒ sqnw = sqnr
abbrev pub Uq2 : State → Type 0
Uq2 s = at40or44 s ⇒ same_row s ⇒ (q_is s 26 || q_is s 27) ⇒ s.numberw ≡ s.numberr

-- (Uq3) r = 43 ∧ q = 26 ⇒ masq ≤ tag[br, cr]
abbrev pub Uq3 : State → Type 0
Uq3 s = r_is s 43 ⇒ q_is s 26 ⇒ s.masq ≤ tag_at s s.br s.cr

-- (Uq4) r = 43 ∧ aw = br ⇒ masq ≤ tag[br, cr]
abbrev pub Uq4 : State → Type 0
Uq4 s = r_is s 43 ⇒ same_row s ⇒ s.masq ≤ tag_at s s.br s.cr

-- (Uq5) r = 43 ∧ aw = br ∧ q ∈ {26, 27} ⇒ sqnw = tag[br, cr]
abbrev pub Uq5 : State → Type 0
Uq5 s = r_is s 43 ⇒ same_row s ⇒ (q_is s 26 || q_is s 27) ⇒ s.numberw ≡ tag_at s s.br s.cr

-- All 29 together.
pub record Invariants (s : State) : Type 0 where
  pub iq0 : Iq0 s
  pub iq1 : Iq1 s
  pub jq0 : Jq0 s
  pub jq1 : Jq1 s
  pub kq0 : Kq0 s
  pub kq1 : Kq1 s
  pub kq2 : Kq2 s
  pub kq3 : Kq3 s
  pub kq4 : Kq4 s
  pub lq0 : Lq0 s
  pub lq1 : Lq1 s
  pub lq2 : Lq2 s
  pub lq3 : Lq3 s
  pub lq4 : Lq4 s
  pub lq5 : Lq5 s
  pub sq0 : Sq0 s
  pub sq1 : Sq1 s
  pub sq2 : Sq2 s
  pub sq3 : Sq3 s
  pub tq0 : Tq0 s
  pub tq1 : Tq1 s
  pub tq2 : Tq2 s
  pub tq3 : Tq3 s
  pub uq0 : Uq0 s
  pub uq1 : Uq1 s
  pub uq2 : Uq2 s
  pub uq3 : Uq3 s
  pub uq4 : Uq4 s
  pub uq5 : Uq5 s
