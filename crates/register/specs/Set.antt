-- Mechanical: a state with one of its fields given anew; `s ∣q≔ 22` is s with q at 22.
use Rattle.std.specs.Prelude.{ℕ, List}
use Rattle.terms.specs.Value.{Value}
use Rattle.register.specs.declared.State.{State}

infixl 15 ◌∣bufs≔◌
infixl 15 ◌∣tags≔◌
infixl 15 ◌∣ww≔◌
infixl 15 ◌∣rr≔◌
infixl 15 ◌∣c≔◌
infixl 15 ◌∣q≔◌
infixl 15 ◌∣aw≔◌
infixl 15 ◌∣cw≔◌
infixl 15 ◌∣startw≔◌
infixl 15 ◌∣numberw≔◌
infixl 15 ◌∣kept≔◌
infixl 15 ◌∣r≔◌
infixl 15 ◌∣br≔◌
infixl 15 ◌∣cr≔◌
infixl 15 ◌∣value≔◌
infixl 15 ◌∣startr≔◌
infixl 15 ◌∣numberr≔◌
infixl 15 ◌∣masq≔◌
abbrev pub ◌∣bufs≔◌ : State → List Value → State
s ∣bufs≔ x =
    record { bufs = x; tags = s.tags; ww = s.ww; rr = s.rr; c = s.c; q = s.q; aw = s.aw; cw = s.cw; startw = s.startw; numberw = s.numberw; kept = s.kept; r = s.r; br = s.br; cr = s.cr; value = s.value; startr = s.startr; numberr = s.numberr; masq = s.masq }

abbrev pub ◌∣tags≔◌ : State → List ℕ → State
s ∣tags≔ x =
    record { bufs = s.bufs; tags = x; ww = s.ww; rr = s.rr; c = s.c; q = s.q; aw = s.aw; cw = s.cw; startw = s.startw; numberw = s.numberw; kept = s.kept; r = s.r; br = s.br; cr = s.cr; value = s.value; startr = s.startr; numberr = s.numberr; masq = s.masq }

abbrev pub ◌∣ww≔◌ : State → ℕ → State
s ∣ww≔ x =
    record { bufs = s.bufs; tags = s.tags; ww = x; rr = s.rr; c = s.c; q = s.q; aw = s.aw; cw = s.cw; startw = s.startw; numberw = s.numberw; kept = s.kept; r = s.r; br = s.br; cr = s.cr; value = s.value; startr = s.startr; numberr = s.numberr; masq = s.masq }

abbrev pub ◌∣rr≔◌ : State → ℕ → State
s ∣rr≔ x =
    record { bufs = s.bufs; tags = s.tags; ww = s.ww; rr = x; c = s.c; q = s.q; aw = s.aw; cw = s.cw; startw = s.startw; numberw = s.numberw; kept = s.kept; r = s.r; br = s.br; cr = s.cr; value = s.value; startr = s.startr; numberr = s.numberr; masq = s.masq }

abbrev pub ◌∣c≔◌ : State → List ℕ → State
s ∣c≔ x =
    record { bufs = s.bufs; tags = s.tags; ww = s.ww; rr = s.rr; c = x; q = s.q; aw = s.aw; cw = s.cw; startw = s.startw; numberw = s.numberw; kept = s.kept; r = s.r; br = s.br; cr = s.cr; value = s.value; startr = s.startr; numberr = s.numberr; masq = s.masq }

abbrev pub ◌∣q≔◌ : State → ℕ → State
s ∣q≔ x =
    record { bufs = s.bufs; tags = s.tags; ww = s.ww; rr = s.rr; c = s.c; q = x; aw = s.aw; cw = s.cw; startw = s.startw; numberw = s.numberw; kept = s.kept; r = s.r; br = s.br; cr = s.cr; value = s.value; startr = s.startr; numberr = s.numberr; masq = s.masq }

abbrev pub ◌∣aw≔◌ : State → ℕ → State
s ∣aw≔ x =
    record { bufs = s.bufs; tags = s.tags; ww = s.ww; rr = s.rr; c = s.c; q = s.q; aw = x; cw = s.cw; startw = s.startw; numberw = s.numberw; kept = s.kept; r = s.r; br = s.br; cr = s.cr; value = s.value; startr = s.startr; numberr = s.numberr; masq = s.masq }

abbrev pub ◌∣cw≔◌ : State → ℕ → State
s ∣cw≔ x =
    record { bufs = s.bufs; tags = s.tags; ww = s.ww; rr = s.rr; c = s.c; q = s.q; aw = s.aw; cw = x; startw = s.startw; numberw = s.numberw; kept = s.kept; r = s.r; br = s.br; cr = s.cr; value = s.value; startr = s.startr; numberr = s.numberr; masq = s.masq }

abbrev pub ◌∣startw≔◌ : State → ℕ → State
s ∣startw≔ x =
    record { bufs = s.bufs; tags = s.tags; ww = s.ww; rr = s.rr; c = s.c; q = s.q; aw = s.aw; cw = s.cw; startw = x; numberw = s.numberw; kept = s.kept; r = s.r; br = s.br; cr = s.cr; value = s.value; startr = s.startr; numberr = s.numberr; masq = s.masq }

abbrev pub ◌∣numberw≔◌ : State → ℕ → State
s ∣numberw≔ x =
    record { bufs = s.bufs; tags = s.tags; ww = s.ww; rr = s.rr; c = s.c; q = s.q; aw = s.aw; cw = s.cw; startw = s.startw; numberw = x; kept = s.kept; r = s.r; br = s.br; cr = s.cr; value = s.value; startr = s.startr; numberr = s.numberr; masq = s.masq }

abbrev pub ◌∣kept≔◌ : State → Value → State
s ∣kept≔ x =
    record { bufs = s.bufs; tags = s.tags; ww = s.ww; rr = s.rr; c = s.c; q = s.q; aw = s.aw; cw = s.cw; startw = s.startw; numberw = s.numberw; kept = x; r = s.r; br = s.br; cr = s.cr; value = s.value; startr = s.startr; numberr = s.numberr; masq = s.masq }

abbrev pub ◌∣r≔◌ : State → ℕ → State
s ∣r≔ x =
    record { bufs = s.bufs; tags = s.tags; ww = s.ww; rr = s.rr; c = s.c; q = s.q; aw = s.aw; cw = s.cw; startw = s.startw; numberw = s.numberw; kept = s.kept; r = x; br = s.br; cr = s.cr; value = s.value; startr = s.startr; numberr = s.numberr; masq = s.masq }

abbrev pub ◌∣br≔◌ : State → ℕ → State
s ∣br≔ x =
    record { bufs = s.bufs; tags = s.tags; ww = s.ww; rr = s.rr; c = s.c; q = s.q; aw = s.aw; cw = s.cw; startw = s.startw; numberw = s.numberw; kept = s.kept; r = s.r; br = x; cr = s.cr; value = s.value; startr = s.startr; numberr = s.numberr; masq = s.masq }

abbrev pub ◌∣cr≔◌ : State → ℕ → State
s ∣cr≔ x =
    record { bufs = s.bufs; tags = s.tags; ww = s.ww; rr = s.rr; c = s.c; q = s.q; aw = s.aw; cw = s.cw; startw = s.startw; numberw = s.numberw; kept = s.kept; r = s.r; br = s.br; cr = x; value = s.value; startr = s.startr; numberr = s.numberr; masq = s.masq }

abbrev pub ◌∣value≔◌ : State → Value → State
s ∣value≔ x =
    record { bufs = s.bufs; tags = s.tags; ww = s.ww; rr = s.rr; c = s.c; q = s.q; aw = s.aw; cw = s.cw; startw = s.startw; numberw = s.numberw; kept = s.kept; r = s.r; br = s.br; cr = s.cr; value = x; startr = s.startr; numberr = s.numberr; masq = s.masq }

abbrev pub ◌∣startr≔◌ : State → ℕ → State
s ∣startr≔ x =
    record { bufs = s.bufs; tags = s.tags; ww = s.ww; rr = s.rr; c = s.c; q = s.q; aw = s.aw; cw = s.cw; startw = s.startw; numberw = s.numberw; kept = s.kept; r = s.r; br = s.br; cr = s.cr; value = s.value; startr = x; numberr = s.numberr; masq = s.masq }

abbrev pub ◌∣numberr≔◌ : State → ℕ → State
s ∣numberr≔ x =
    record { bufs = s.bufs; tags = s.tags; ww = s.ww; rr = s.rr; c = s.c; q = s.q; aw = s.aw; cw = s.cw; startw = s.startw; numberw = s.numberw; kept = s.kept; r = s.r; br = s.br; cr = s.cr; value = s.value; startr = s.startr; numberr = x; masq = s.masq }

abbrev pub ◌∣masq≔◌ : State → ℕ → State
s ∣masq≔ x =
    record { bufs = s.bufs; tags = s.tags; ww = s.ww; rr = s.rr; c = s.c; q = s.q; aw = s.aw; cw = s.cw; startw = s.startw; numberw = s.numberw; kept = s.kept; r = s.r; br = s.br; cr = s.cr; value = s.value; startr = s.startr; numberr = s.numberr; masq = x }
