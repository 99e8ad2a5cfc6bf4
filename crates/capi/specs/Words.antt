-- To be believed: a state as 25 numbers, in the header's order: buf[0,0] buf[0,1] buf[1,0] buf[1,1], their tags in the same order, ww rr c[0]
-- c[1], q aw cw, writer's start, number, kept value, r br cr, reader's value, start, number, masq.
use Rattle.std.specs.Prelude.{ℕ, ◌≡◌, Bool, true, ◌&&◌, List, [], ◌∷◌, leb, get_or}
use Rattle.register.specs.declared.State.{State}
use Rattle.register.specs.Steps.{buf_at, tag_at, c_at}

-- the word at i
abbrev pub word : List ℕ → ℕ → ℕ
word w i = get_or w i 0

abbrev pub state_of_words : List ℕ → State
state_of_words w = record {
  bufs = word w 0 ∷ word w 1 ∷ word w 2 ∷ word w 3 ∷ [];
  tags = word w 4 ∷ word w 5 ∷ word w 6 ∷ word w 7 ∷ [];
  ww = word w 8;
  rr = word w 9;
  c = word w 10 ∷ word w 11 ∷ [];
  q = word w 12;
  aw = word w 13;
  cw = word w 14;
  startw = word w 15;
  numberw = word w 16;
  kept = word w 17;
  r = word w 18;
  br = word w 19;
  cr = word w 20;
  value = word w 21;
  startr = word w 22;
  numberr = word w 23;
  masq = word w 24;
}

abbrev pub words_of_state : State → List ℕ
words_of_state s =
    buf_at s 0 0 ∷ buf_at s 0 1 ∷ buf_at s 1 0 ∷ buf_at s 1 1
    ∷ tag_at s 0 0 ∷ tag_at s 0 1 ∷ tag_at s 1 0 ∷ tag_at s 1 1
    ∷ s.ww ∷ s.rr ∷ c_at s 0 ∷ c_at s 1
    ∷ s.q ∷ s.aw ∷ s.cw ∷ s.startw ∷ s.numberw ∷ s.kept
    ∷ s.r ∷ s.br ∷ s.cr ∷ s.value ∷ s.startr ∷ s.numberr ∷ s.masq ∷ []

-- Each number of a location or a bit fits the byte that the state has for it.
abbrev pub fitting : List ℕ → Bool
fitting w =
    leb (word w 8) 255 && leb (word w 9) 255 && leb (word w 10) 255 && leb (word w 11) 255 && leb (word w 12) 255
    && leb (word w 13) 255 && leb (word w 14) 255 && leb (word w 18) 255 && leb (word w 19) 255 && leb (word w 20) 255

abbrev pub Fitting : List ℕ → Type 0
Fitting w = fitting w ≡ true
