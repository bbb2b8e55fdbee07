-- Both returns are the branches of `other_of` with that test of the channel, by the contracts of `end_escape` and `escape_of`.
use mathlib.Core.Path.{◌≡◌}
use mir.Val.{to_z, of_z}
use mir.Syntax.{w8}
use borrow.Author.Rules.{rules}
use Rattle.wing_wire.specs.Escape.{other_of}
use Rattle.wing_wire.proofs.escape.other.Goals as goal

pub returns-then-e-lt0 : goal.returns-then-e-lt0
unfolding other_of
returns-then-e-lt0 c =
    let x = c.args.e.channel in
    let k : to_z w8 (of_z w8 x) ≡ x = search rules in
    let t = rw k at c.if-e-lt0.true in
    simp (t, c.end_escape-after.ensures)

pub returns : goal.returns
unfolding other_of
returns c =
    let x = c.args.e.channel in
    let k : to_z w8 (of_z w8 x) ≡ x = search rules in
    let t = rw k at c.if-e-lt0.false in
    rw (c.escape_of-after.ensures, k) (simp t)
