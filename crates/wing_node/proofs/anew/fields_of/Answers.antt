-- Each arm is the line of `fields_by` with these details; signed numbers come back from their bits as they went in.
use mir.Syntax.{w32}
use mir.Val.{to_z, of_z}
use mathlib.Core.Path.{◌≡◌, ◌∙◌}
use borrow.Author.Rules.{rules}
use Rattle.wing_node.proofs.anew.fields_of.Goals as goal

pub returns-in-None : goal.returns-in-None
returns-in-None c = simp (c.in-None.is, c.fields_with.ensures)

pub returns-in-Floats : goal.returns-in-Floats
returns-in-Floats c =
    let x = c.in-Floats.steps in
    let back : to_z w32 (of_z w32 x) ≡ x = search rules in
    (rw back at c.fields_with-in-Floats.ensures) ∙ simp c.in-Floats.is

pub returns-in-Integers : goal.returns-in-Integers
returns-in-Integers c =
    let x = c.in-Integers.min in
    let y = c.in-Integers.max in
    let back : to_z w32 (of_z w32 x) ≡ x = search rules in
    let back2 : to_z w32 (of_z w32 y) ≡ y = search rules in
    (rw (back, back2) at c.fields_with-in-Integers.ensures) ∙ simp c.in-Integers.is

pub returns-in-Items : goal.returns-in-Items
returns-in-Items c = simp (c.in-Items.is, c.fields_with-in-Items.ensures)

pub returns-in-String : goal.returns-in-String
returns-in-String c = simp (c.in-String.is, c.fields_with-in-String.ensures)
