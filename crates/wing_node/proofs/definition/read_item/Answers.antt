-- Each arm is `item_at` at the types that it takes, by the contract of the function that it calls.
use borrow.Enum.Refused.{opened}
use mathlib.Core.Path.{◌≡◌, refl}
use mathlib.Core.List.{[], ◌∷◌}
use Rattle.std.specs.Prelude.{None, Ok}
use Rattle.wing_node.specs.Refusal.{no_fault}
use Rattle.wing_node.specs.Result.{Result}
use Rattle.wing_node.specs.Cursor.{cursor, reads, after}
use Rattle.wing_node.specs.Definition.{item_at, item_of_read}
use Rattle.wing_node.specs.declared.definition.ItemRead.{ItemRead}
use Rattle.wing_node.proofs.Arms.{by_arm}
use Rattle.wing_node.proofs.definition.read_item.Goals as goal

pub returns-in-StringEnum : goal.returns-in-StringEnum
returns-in-StringEnum c = simp (c.in-StringEnum.is, c.string_item.ensures)

pub returns-in-FloatEnum : goal.returns-in-FloatEnum
returns-in-FloatEnum c = simp (c.in-FloatEnum.is, c.float_item.ensures)

pub returns-in_default : goal.returns-in_default
unfolding item_at reads after
returns-in_default c =
    let start = c.args in
    by_arm (λ t. ◌≡◌ {A = Result ItemRead} (Ok (record { item = None; next = start.at })) (item_of_read (item_at t start.body.now (cursor start.at no_fault)))) (0 ∷ 1 ∷ 2 ∷ 3 ∷ 4 ∷ 7 ∷ []) start.kind
    (opened c.in_default.in_default-own.keys3) (refl, (refl, (refl, (refl, (refl, (refl, tt))))))
