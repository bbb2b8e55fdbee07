-- Each arm is the line of `detail_numbers` with these details; signed numbers come back from their bits as they went in.
use mir.Syntax.{w32}
use mir.Val.{to_z, of_z}
use mathlib.Core.Path.{◌≡◌, ◌∙◌, refl}
use borrow.Author.Rules.{rules}
use Rattle.wing_node.proofs.Numerals.Signs.{writes}
use Rattle.wing_c.proofs.definitions.numbers_of.Goals as goal

pub returns-in-None : goal.returns-in-None
returns-in-None c = simp (c.in-None.is, c.limits.ensures)

pub returns-in-Floats : goal.returns-in-Floats
returns-in-Floats c =
    let back : to_z w32 (of_z w32 c.in-Floats.steps) ≡ c.in-Floats.steps = search rules in
    (rw back at c.limits-in-Floats.ensures) ∙ simp c.in-Floats.is

pub returns-in-Integers : goal.returns-in-Integers
returns-in-Integers c =
    let back : to_z w32 (of_z w32 c.in-Integers.min) ≡ c.in-Integers.min = search rules in
    let back2 : to_z w32 (of_z w32 c.in-Integers.max) ≡ c.in-Integers.max = search rules in
    c.limits-in-Integers.ensures ∙ simp (rw (back, writes w32 refl c.in-Integers.min) at c.cast_unsigned.ensures, rw (back2, writes w32 refl c.in-Integers.max) at c.cast_unsigned-in-Integers.ensures, c.in-Integers.is)

pub returns-in-Items : goal.returns-in-Items
returns-in-Items c = simp (c.in-Items.is, c.listed.ensures)

pub returns-in-String : goal.returns-in-String
returns-in-String c = simp (c.in-String.is, c.listed-in-String.ensures)
