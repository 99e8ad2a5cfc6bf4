-- What `fill` answers of a reader whose bytes are known, and does not fail: one answer alone is allowed.
use Rattle.std.proofs.Common.{◌≡◌, ℕ, ◌+◌, ◌<◌, min, List, Some, None, Ok, Option, sym, ap, ◌∙◌, arith, length, length-append, take, drop, length-take-le, drop_at}
use Rattle.std.proofs.lemmas.List.{take_at}
use Rattle.input.specs.Filled.{Fills}

-- As many bytes as both have, the reader's next ones, and it has the rest left.
pub fills_known : (E : Type 0) (xs : List ℕ) (new : Option (List ℕ)) (n : ℕ) (buffer : List ℕ) → Fills {E = E} (Some xs) new (Ok n) buffer
    → (n ≡ min (length xs) (length buffer)) × (take n buffer ≡ take n xs) × (new ≡ Some (drop n xs))
fills_known E xs None n buffer p = absurd p.0.1
fills_known E xs (Some ys) n buffer ((within, front), end) =
    let long : length (take n buffer) ≡ n = length-take-le n buffer within in
    let count : n + length ys ≡ length xs = sym (ap length front ∙ length-append (take n buffer) ys ∙ ap (λ m. m + length ys) long) in
    let stops : n < length buffer → length ys ≡ 0 = λ p. ap length (end p) in
    (grind arith, sym (ap (take n) front ∙ take_at (take n buffer) ys n long), ap Some (sym (ap (drop n) front ∙ drop_at (take n buffer) ys n long)))
