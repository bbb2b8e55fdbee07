-- Both returns are the branches of `well_formed` with that test of the sixth byte, by the contracts of `u16_at`, `payload` and `well_kept`.
use borrow.Author.Tests.{le-leb, lt-leb}
use mathlib.Core.Path.{◌≡◌, ◌∙◌, ap, ap₂}
use native.Mathlib.Omega.{arith}
use lib.ListN.{length, take, drop, get_or, length-drop}
use Rattle.wing_node.specs.Field.{big, field_at}
use Rattle.wing_node.proofs.Numerals.Placed.{field-whole}
use Rattle.wing_mirror.specs.Record.{well_kept, well_formed}
use Rattle.wing_mirror.proofs.record.well_formed.Goals as goal

pub well_kept-requires : goal.well_kept-requires
well_kept-requires c =
    let r = c.args.rec.now in
    omega (arith, ap length c.payload.ensures, length-drop 8 r)

pub returns-then-origin-le1 : goal.returns-then-origin-le1
unfolding well_formed
returns-then-origin-le1 c =
    let r = c.args.rec.now in
    let n : field_at 2 r 6 ≡ big (take 2 (drop 6 r)) = field-whole 2 r 6 (omega arith) in
    simp (le-leb _ _ c.if-origin-le1.true) (c.well_kept.ensures ∙ ap₂ (well_kept (get_or r 4 0)) (c.number_at.ensures ∙ n) c.payload.ensures)

pub returns-else-origin-le1 : goal.returns-else-origin-le1
unfolding well_formed
returns-else-origin-le1 c = simp (lt-leb _ _ c.if-origin-le1.false)
