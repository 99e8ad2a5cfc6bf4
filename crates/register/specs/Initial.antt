-- To be believed: the initial state (document 01, "Initial: .." and "This paper adds: ..").
use Rattle.std.specs.Prelude.{◌≡◌, [], ◌∷◌}
use Rattle.terms.specs.Value.{Value}
use Rattle.register.specs.declared.State.{State}

-- buf[0,0] = v0 and the other buffers hold v0; ww = 0, rr = 1, c[0] = c[1] = 0; aw = 0, br = 1; all tags 1; masq = 1; writer's number 1,
-- writer's start 0, reader's number 0; q = 20, r = 40; cw = cr = 0, the writer's kept value and the reader's value are v0, reader's start 0.
abbrev pub initial : Value → State
initial v0 = record {
  bufs = v0 ∷ v0 ∷ v0 ∷ v0 ∷ [];
  tags = 1 ∷ 1 ∷ 1 ∷ 1 ∷ [];
  ww = 0;
  rr = 1;
  c = 0 ∷ 0 ∷ [];
  q = 20;
  aw = 0;
  cw = 0;
  startw = 0;
  numberw = 1;
  kept = v0;
  r = 40;
  br = 1;
  cr = 0;
  value = v0;
  startr = 0;
  numberr = 0;
  masq = 1;
}

-- What `State::initial` promises.
abbrev pub IsInitial : Value → State → Type 0
IsInitial v0 s = s ≡ initial v0
