-- To be believed: the numbered steps (document 01, "The numbered steps"; 001, section 3) and the flickers (001, formula 2), each in the order
-- of its text. `s ∣q≔ 22` is the state s with q at 22 (Set.antt). The struct has arrays of 4, 4 and 2.
use Rattle.std.specs.Prelude.{ℕ, ◌+◌, ◌-◌, ◌*◌, max, eqb, set, get_or, if◌then◌else◌}
use Rattle.terms.specs.Value.{Value, no_value}
use Rattle.register.specs.declared.State.{State}
use Rattle.register.specs.Set.{◌∣bufs≔◌, ◌∣tags≔◌, ◌∣ww≔◌, ◌∣rr≔◌, ◌∣c≔◌, ◌∣q≔◌, ◌∣aw≔◌, ◌∣cw≔◌, ◌∣startw≔◌, ◌∣numberw≔◌, ◌∣kept≔◌, ◌∣r≔◌, ◌∣br≔◌, ◌∣cr≔◌, ◌∣value≔◌, ◌∣startr≔◌, ◌∣numberr≔◌, ◌∣masq≔◌}

-- "Not" of a bit b is 1 − b.
abbrev pub opposite : ℕ → ℕ
opposite b = 1 - b

-- "The four buffers and their four tags, indexed by two bits": buf[i,j] and its tag stand at 2i + j.
abbrev pub slot : ℕ → ℕ → ℕ
slot i j = 2 * i + j

-- buf[i,j]
abbrev pub buf_at : State → ℕ → ℕ → Value
buf_at s i j = get_or s.bufs (slot i j) no_value

-- its tag
abbrev pub tag_at : State → ℕ → ℕ → ℕ
tag_at s i j = get_or s.tags (slot i j) 0

-- c[i]
abbrev pub c_at : State → ℕ → ℕ
c_at s i = get_or s.c i 0

-- c[i] becomes b
abbrev pub with_c : ℕ → ℕ → State → State
with_c i b s = s ∣c≔ set s.c i b

-- cw becomes not c[i]; buf[i,cw] takes the value, its tag the number (steps 20 and 23)
abbrev pub stored : ℕ → Value → State → State
stored i v s =
    let j = opposite (c_at s i) in
    s ∣cw≔ j ∣bufs≔ set s.bufs (slot i j) v ∣tags≔ set s.tags (slot i j) s.numberw

-- 20: writer's start becomes masq; its number grows by 1; cw becomes not c[aw]; buf[aw,cw] takes the value, its tag the number. To 21.
-- ("The value is the one given at 20; the state keeps it.")
abbrev pub step20 : Value → State → State
step20 v s = stored s.aw v (s ∣startw≔ s.masq ∣numberw≔ s.numberw + 1 ∣kept≔ v) ∣q≔ 21

-- 21: c[aw] becomes cw. To 22.
abbrev pub step21 : State → State
step21 s = with_c s.aw s.cw s ∣q≔ 22

-- 22: to 23 if aw = rr, else to 27.
abbrev pub step22 : State → State
step22 s = if eqb s.aw s.rr then s ∣q≔ 23 else s ∣q≔ 27

-- 23: cw becomes not c[not aw]; buf[not aw,cw] takes the same value, its tag the number. To 24.
abbrev pub step23 : State → State
step23 s = stored (opposite s.aw) s.kept s ∣q≔ 24

-- 24: c[not aw] becomes cw. To 25.
abbrev pub step24 : State → State
step24 s = with_c (opposite s.aw) s.cw s ∣q≔ 25

-- 25: if aw = rr, aw is inverted and the next is 26, else 27.
abbrev pub step25 : State → State
step25 s = if eqb s.aw s.rr then s ∣aw≔ opposite s.aw ∣q≔ 26 else s ∣q≔ 27

-- 26: ww becomes aw. To 27.
abbrev pub step26 : State → State
step26 s = s ∣ww≔ s.aw ∣q≔ 27

-- 27: masq becomes the greater of itself and the number. To 20.
abbrev pub step27 : State → State
step27 s = s ∣masq≔ max s.masq s.numberw ∣q≔ 20

-- 40: reader's start becomes masq. If br ≠ ww, br is inverted and the next is 41; else 44.
abbrev pub step40 : State → State
step40 s = if eqb s.br s.ww then s ∣startr≔ s.masq ∣r≔ 44 else s ∣startr≔ s.masq ∣br≔ opposite s.br ∣r≔ 41

-- 41: rr becomes br. To 42.
abbrev pub step41 : State → State
step41 s = s ∣rr≔ s.br ∣r≔ 42

-- 42: cr becomes c[br]. To 43.
abbrev pub step42 : State → State
step42 s = s ∣cr≔ c_at s s.br ∣r≔ 43

-- 43: reader's value and number become buf[br,cr] and its tag. To 44.
abbrev pub step43 : State → State
step43 s = s ∣value≔ buf_at s s.br s.cr ∣numberr≔ tag_at s s.br s.cr ∣r≔ 44

-- 44: masq becomes the greater of itself and the reader's number. To 40.
abbrev pub step44 : State → State
step44 s = s ∣masq≔ max s.masq s.numberr ∣r≔ 40

-- A flicker "sets the bit being assigned there to the given bit and moves nothing else": at 21 c[aw], at 24 c[not aw], at 26 ww, at 41 rr.
abbrev pub flicker21 : ℕ → State → State
flicker21 b s = with_c s.aw b s

abbrev pub flicker24 : ℕ → State → State
flicker24 b s = with_c (opposite s.aw) b s

abbrev pub flicker26 : ℕ → State → State
flicker26 b s = s ∣ww≔ b

abbrev pub flicker41 : ℕ → State → State
flicker41 b s = s ∣rr≔ b
