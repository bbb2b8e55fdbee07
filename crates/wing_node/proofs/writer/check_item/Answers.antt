-- Each arm is the fields of an item of its types: the second string stands where the first ends, the float bits take four bytes.
use borrow.Enum.Refused.{opened}
use mathlib.Core.Path.{◌≡◌, refl, ◌∙◌}
use mathlib.Core.List.{[], ◌∷◌}
use Prim.Native.Nat.{◌+◌, ◌<◌}
use native.Mathlib.Omega.{arith}
use lib.ListN.{drop, get_or}
use Rattle.wing_node.specs.Refusal.{no_fault}
use Rattle.wing_node.specs.Standing.{extent}
use Rattle.wing_node.specs.Definition.{item_of}
use Rattle.wing_node.specs.Writer.{texts_fault}
use Rattle.wing_node.proofs.Arms.{by_arm}
use Rattle.wing_node.proofs.Bodies.Checks.{string-within, two-strings, float-string}
use Rattle.wing_node.proofs.writer.check_item.Goals as goal

pub check_string-long_item-requires : goal.check_string-long_item-requires
check_string-long_item-requires c =
    let args = c.args in
    let byte : get_or args.items.now args.at 0 < 256 = omega (arith, c.type_inv.items args.at) in
    omega (arith, c.check_string-item.ensures.0, string-within args.items.now args.at byte)

pub returns-in-StringEnum : goal.returns-in-StringEnum
returns-in-StringEnum c =
    let args = c.args in
    let joined = two-strings args.items.now args.at _ _ _ _ c.check_string-item.ensures c.check_string-long_item.ensures in
    rw c.in-StringEnum.is (joined.0, c.and.ensures ∙ joined.1)

pub returns-in-FloatEnum : goal.returns-in-FloatEnum
returns-in-FloatEnum c =
    let args = c.args in
    rw c.in-FloatEnum.is (float-string args.items.now args.at _ _ c.check_string.ensures)

pub returns-in_default : goal.returns-in_default
unfolding extent texts_fault
returns-in_default c =
    let args = c.args in
    let s = drop args.at args.items.now in
    let z : args.at ≡ args.at + 0 = omega arith in
    by_arm (λ t. (args.at ≡ args.at + extent (item_of t) s) × (no_fault ≡ texts_fault (item_of t) s)) (0 ∷ 1 ∷ 2 ∷ 3 ∷ 4 ∷ 7 ∷ []) args.kind (opened c.in_default.in_default-own.keys3)
    ((z, refl), ((z, refl), ((z, refl), ((z, refl), ((z, refl), ((z, refl), tt))))))
