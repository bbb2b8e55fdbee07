-- The contract of the mirror's `same`, by its number.
use Rattle.wing_c.specs.Numbers.{same_number}
use mir.Syntax.{w32}
use mir.Val.{to_z, of_z}
use mathlib.Core.Path.{◌≡◌, ◌∙◌, ap}
use borrow.Author.Rules.{rules}
use Rattle.wing_c.proofs.mirror.wing_same.Goals as goal

pub returns : goal.returns
returns c =
    let back : to_z w32 (of_z w32 c.same-2.result) ≡ c.same-2.result = search rules in
    rw back (c.same-2.ensures ∙ ap same_number c.same.ensures)
