-- A string past the end (`string-none`), or one whose length byte is there (`string-there`).
use mathlib.Core.Path.{◌≡◌, ◌∙◌}
use Prim.Native.Nat.{◌+◌, ◌-◌}
use native.Mathlib.Omega.{arith}
use lib.ListN.{drop, length-take}
use Rattle.wing_node.proofs.Bodies.Checks.{string-none, string-there}
use Rattle.wing_node.proofs.writer.check_string.Goals as goal

pub returns-then-there-lt1 : goal.returns-then-there-lt1
returns-then-there-lt1 c =
    let args = c.args in
    string-none args.items.now args.at (omega arith)

pub overflow_add-result-2 : goal.overflow_add-result-2
overflow_add-result-2 c = omega (arith, c.type_inv.items c.args.at)

pub text_fault-requires : goal.text_fault-requires
text_fault-requires c =
    let args = c.args in
    let rest = drop (args.at + 1) args.items.now in
    omega (arith, length-take (args.at + 1 + c.min.result - (args.at + 1)) rest, c.min.ensures, c.type_inv.items args.at)

pub returns : goal.returns
returns c =
    let args = c.args in
    let e = c.min.result in
    let k : args.at + 1 + e - (args.at + 1) ≡ e = omega arith in
    let there = c.left-there.ensures in
    let both = string-there args.items.now args.at e (rw there at c.min.ensures) in
    (both.0, rw k at c.text_fault.ensures ∙ both.1)
