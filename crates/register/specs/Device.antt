-- A device, not to be believed: what the private functions of a step rest on, which `State::sound` shows from its test of the ranges, and
-- what they promise.
use Rattle.std.specs.Prelude.{ℕ, ◌≤◌, ◌≡◌, Result, Ok, Err}
use Rattle.terms.specs.declared.Refusal.{Refusal}
use Rattle.terms.specs.Refusals.{refusal_number}
use Rattle.register.specs.declared.State.{State}
use Rattle.register.specs.declared.Move.{Move}
use Rattle.register.specs.Steps.{opposite, c_at}
use Rattle.register.specs.Move.{Moved, good, refused, step_of}

-- a row of the buffers, with its c[i] a bit
pub record RowInBounds (s : State) (i : ℕ) : Type 0 where
  pub row : i ≤ 1
  pub bit : c_at s i ≤ 1

pub record InBounds (s : State) : Type 0 where
  pub q_from : 20 ≤ s.q
  pub q_to : s.q ≤ 27
  pub r_from : 40 ≤ s.r
  pub r_to : s.r ≤ 44
  pub aw : s.aw ≤ 1
  pub br : s.br ≤ 1
  pub cr : s.cr ≤ 1
  pub c_aw : c_at s s.aw ≤ 1
  pub c_other : c_at s (opposite s.aw) ≤ 1
  pub numberw : s.numberw ≤ 65535

-- what a step's result answers: the next state, or a refusal and the state that was given
abbrev pub answer_in : State → Result State Refusal → Moved
answer_in s (Ok t) = good t
answer_in s (Err e) = refused (refusal_number e) s

-- what the private functions of a step promise
abbrev pub MakesStep : Move → State → Result State Refusal → Type 0
MakesStep m s r = answer_in s r ≡ step_of m s
