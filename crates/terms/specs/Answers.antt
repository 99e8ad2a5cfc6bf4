-- To be believed: the two numbers of an answer (document 01, "Every answer has a number (0 is good) and a place").
use Rattle.std.specs.Prelude.{ℕ, ◌≡◌, Result, Ok, Err}
use Rattle.terms.specs.declared.Refusal.{Refusal}
use Rattle.terms.specs.declared.Refused.{Refused}
use Rattle.terms.specs.Refusals.{good_number, refusal_number}

-- "Every answer has a number (0 is good)"
abbrev pub number_in : {A : Type 0} → Result A Refused → ℕ
number_in (Ok a) = good_number
number_in (Err e) = refusal_number e.refusal

-- "and a place: .. 0 for good answers"
abbrev pub place_in : {A : Type 0} → Result A Refused → ℕ
place_in (Ok a) = 0
place_in (Err e) = e.place

-- A refusal with its place.
abbrev pub refused_at : Refusal → ℕ → Refused
refused_at refusal place = record { refusal = refusal; place = place }

-- What the functions of `terms` promise.
abbrev pub NumbersRefusal : Refusal → ℕ → Type 0
NumbersRefusal refusal r = r ≡ refusal_number refusal

abbrev pub IsAt : Refusal → ℕ → Refused → Type 0
IsAt refusal place r = r ≡ refused_at refusal place

abbrev pub HasNumber : {A : Type 0} → Result A Refused → ℕ → Type 0
HasNumber answer r = r ≡ number_in answer

abbrev pub HasPlace : {A : Type 0} → Result A Refused → ℕ → Type 0
HasPlace answer r = r ≡ place_in answer
