-- The fields are those of the definition, with the numbers of its type and unit; signed numbers come back from their bits as they went in.
use mir.Syntax.{w32}
use mir.Val.{to_z, of_z}
use mathlib.Core.Path.{◌≡◌}
use borrow.Author.Rules.{rules}
use Rattle.wing_node.proofs.anew.fields_with.Goals as goal

pub returns : goal.returns
returns c =
    let args = c.args in
    let parent : to_z w32 (of_z w32 args.d.parent_id) ≡ args.d.parent_id = search rules in
    let own : to_z w32 (of_z w32 args.d.id) ≡ args.d.id = search rules in
    let min : to_z w32 (of_z w32 args.min_int) ≡ args.min_int = search rules in
    let max : to_z w32 (of_z w32 args.max_int) ≡ args.max_int = search rules in
    let steps : to_z w32 (of_z w32 args.steps) ≡ args.steps = search rules in
    rw (parent, own, min, max, steps) (simp (c.from.ensures, c.from-2.ensures))
