-- The fields are those of the definition, and the contracts of `type_number`, `unit_number` and `numbers_of` give the others.
use mir.Syntax.{w32}
use mir.Val.{to_z, of_z}
use mathlib.Core.Path.{◌≡◌}
use borrow.Author.Rules.{rules}
use Rattle.wing_c.proofs.definitions.taken.Goals as goal

pub returns : goal.returns
returns c =
    let back : to_z w32 (of_z w32 c.args.d.parent_id) ≡ c.args.d.parent_id = search rules in
    let back2 : to_z w32 (of_z w32 c.args.d.id) ≡ c.args.d.id = search rules in
    let back3 : to_z w32 (of_z w32 c.numbers_of-n.result.steps) ≡ c.numbers_of-n.result.steps = search rules in
    rw (back, back2, back3) (simp (c.numbers_of-n.ensures, c.from.ensures, c.from-2.ensures))
