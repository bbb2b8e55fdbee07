-- The fields are those that were given, with the two forms of a limit by `cast_signed`; signed numbers come back from their bits as they went in.
use mir.Syntax.{w32}
use mir.Val.{to_z, of_z}
use mathlib.Core.Path.{◌≡◌, refl, ◌∙◌}
use borrow.Author.Rules.{rules}
use Rattle.wing_node.proofs.Numerals.Signs.{reads}
use Rattle.wing_c.proofs.writer.fields_given.Goals as goal

pub returns : goal.returns
returns c =
    let f = c.args.f in
    let parent : to_z w32 (of_z w32 f.parent_id) ≡ f.parent_id = search rules in
    let own : to_z w32 (of_z w32 f.id) ≡ f.id = search rules in
    let steps : to_z w32 (of_z w32 f.steps) ≡ f.steps = search rules in
    let low : to_z w32 (of_z w32 c.cast_signed.result) ≡ c.cast_signed.result = search rules in
    let high : to_z w32 (of_z w32 c.cast_signed-2.result) ≡ c.cast_signed-2.result = search rules in
    rw (parent, own, steps, low, high) (simp (c.cast_signed.ensures ∙ reads w32 refl f.min, c.cast_signed-2.ensures ∙ reads w32 refl f.max))
