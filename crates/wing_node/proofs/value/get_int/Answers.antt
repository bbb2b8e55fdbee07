-- Each arm is the line of `int_in` with that variant.
use mathlib.Core.Path.{◌≡◌}
use borrow.Author.Rules.{rules}
use mir.Syntax.{w32}
use mir.Val.{to_z, of_z}
use Rattle.wing_node.specs.Value.{int_in}
use Rattle.wing_node.proofs.value.get_int.Goals as goal

pub returns-in-Integer : goal.returns-in-Integer
unfolding int_in
returns-in-Integer c =
    let x = c.in-Integer.x in
    let back : to_z w32 (of_z w32 x) ≡ x = search rules in
    rw back (simp c.in-Integer.is)

pub returns-in-Float : goal.returns-in-Float
unfolding int_in
returns-in-Float c = simp c.in-Float.is

pub returns-in-String : goal.returns-in-String
unfolding int_in
returns-in-String c = simp c.in-String.is
