-- What a turn of `fill` reads stands behind what the turns before it read.
use Rattle.std.proofs.Common.{◌≡◌, ℕ, ◌+◌, ◌≤◌, List, ◌++◌, rules, length, take, sym, ap, ◌∙◌, subst, length-take-le}
use Rattle.std.proofs.Math.Seq.{take-append-add}
use Rattle.std.proofs.lemmas.List.{take-append-le}
use Rattle.std.specs.Io.KnownBytes.{Consumes}
use Rattle.std.proofs.KnownBytes.{Consumes-trans}
use borrow.Rule.Slice.PartMut.{put_mid}
use Rattle.input.proofs.fill.Goals as goal

-- xs with ys written from a on: the first a + n
front_grows : (a k n : ℕ) (xs ys : List ℕ) → a ≤ length xs → n ≤ length ys → take (a + n) (put_mid a k xs ys) ≡ take a xs ++ take n ys
front_grows a k n xs ys within fits =
    ap (λ m. take (m + n) (put_mid a k xs ys)) (sym (length-take-le a xs within)) ∙ take-append-add (take a xs) _ n ∙ ap (λ l. take a xs ++ l) (take-append-le n ys _ fits)

pub loop-filled-preserved : goal.loop-filled-preserved
loop-filled-preserved g c =
    let more = front_grows c.loop-filled.filled _ _ c.loop-filled.buffer c.read.new.buf c.loop-filled.invariant.1 c.in_ok-more.ensures.bound.0 in
    (search rules, search rules, subst (Consumes _ _) (sym more) (Consumes-trans _ _ _ _ _ c.loop-filled.invariant.2 c.in_ok-more.ensures.bytes.0))
