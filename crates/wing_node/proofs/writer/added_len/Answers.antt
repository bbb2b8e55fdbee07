-- Each arm is the sum of the widths of the fields that its types add.
use mathlib.Core.Path.{◌≡◌, refl}
use mathlib.Core.List.{[], ◌∷◌, map}
use Rattle.wing_node.specs.Cursor.{size}
use Rattle.wing_node.specs.Standing.{extent}
use Rattle.wing_node.specs.Definition.{form, added}
use Rattle.wing_node.proofs.Arms.{by_arm}
use Rattle.wing_node.proofs.writer.added_len.Goals as goal

pub returns-in-LinearFloat : goal.returns-in-LinearFloat
unfolding extent size
returns-in-LinearFloat c = by_arm (λ t. 12 ≡ extent (map form (added t)) []) (1 ∷ 2 ∷ []) c.args.kind c.in-LinearFloat.in-LinearFloat-own.keys1 (refl, (refl, tt))

pub returns-in-Integer : goal.returns-in-Integer
unfolding extent size
returns-in-Integer c = by_arm (λ t. 8 ≡ extent (map form (added t)) []) (4 ∷ []) c.args.kind c.in-Integer.in-Integer-own.keys2 (refl, tt)

pub returns-in-StringEnum : goal.returns-in-StringEnum
unfolding extent size
returns-in-StringEnum c = by_arm (λ t. 2 ≡ extent (map form (added t)) []) (5 ∷ 6 ∷ 7 ∷ []) c.args.kind c.in-StringEnum.in-StringEnum-own.keys3 (refl, (refl, (refl, tt)))

pub returns-in-Node : goal.returns-in-Node
unfolding extent size
returns-in-Node c = by_arm (λ t. 0 ≡ extent (map form (added t)) []) (0 ∷ 3 ∷ []) c.args.kind c.in-Node.in-Node-own.keys4 (refl, (refl, tt))
