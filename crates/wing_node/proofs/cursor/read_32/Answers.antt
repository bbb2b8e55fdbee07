-- Each return is a case of `read_at` (`read_short`, `read-there`), and the number is what `number_at` says of a whole field.
use mathlib.Core.Path.{sym, refl, ap}
use Prim.Native.Nat.{◌-◌, ◌≤◌}
use native.Mathlib.Omega.{arith}
use lib.ListN.{length}
use Rattle.wing_node.specs.Refusal.{no_fault}
use Rattle.wing_node.specs.Cursor.{number, cursor, size, right, value_of, content_at, field_of}
use Rattle.wing_node.proofs.Numerals.Placed.{field-whole}
use Rattle.wing_node.proofs.Bodies.Cases.{read_short, read-there}
use Rattle.wing_node.proofs.cursor.read_32.Goals as goal

pub returns-then-left-lt4 : goal.returns-then-left-lt4
unfolding size
returns-then-left-lt4 c = sym (ap field_of (read_short (number 4) c.args.body.now (cursor c.args.at no_fault) refl (omega arith)))

pub returns : goal.returns
unfolding size right value_of content_at
returns c =
    let at = c.args.at in
    let body = c.args.body.now in
    let here : 4 ≤ length body - at = omega arith in
    simp (read-there (number 4) body (cursor at no_fault) refl here refl, c.number_at.ensures, field-whole 4 body at here)
