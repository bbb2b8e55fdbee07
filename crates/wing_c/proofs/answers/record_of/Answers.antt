-- Each arm is the line of `held_numbers` with that value; the id and an integer come back from their bits as they went in.
use mir.Syntax.{w32}
use mir.Val.{to_z, of_z}
use mathlib.Core.Path.{◌≡◌, refl}
use borrow.Author.Rules.{rules}
use Rattle.wing_node.proofs.Numerals.Signs.{writes}
use Rattle.wing_c.proofs.answers.record_of.Goals as goal

pub returns-in-Integer : goal.returns-in-Integer
returns-in-Integer c =
    let back : to_z w32 (of_z w32 c.args.id) ≡ c.args.id = search rules in
    let value : to_z w32 (of_z w32 c.in-Integer.x) ≡ c.in-Integer.x = search rules in
    rw back (simp (rw (value, writes w32 refl c.in-Integer.x) at c.cast_unsigned.ensures, c.in-Integer.is))

pub returns-in-Float : goal.returns-in-Float
returns-in-Float c =
    let back : to_z w32 (of_z w32 c.args.id) ≡ c.args.id = search rules in
    rw (back) (simp c.in-Float.is)

pub returns-in-String : goal.returns-in-String
returns-in-String c =
    let back : to_z w32 (of_z w32 c.args.id) ≡ c.args.id = search rules in
    rw (back) (simp c.in-String.is)
