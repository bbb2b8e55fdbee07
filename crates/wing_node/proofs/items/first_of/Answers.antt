-- Each arm is the line of `walk_from` with the variants that it takes.
use borrow.Enum.Refused.{opened}
use mathlib.Core.Path.{◌≡◌, refl}
use mathlib.Core.List.{[], ◌∷◌}
use types.Run.{OneOf, miss}
use denote.Enum.Declared.{tag_of}
use Rattle.wing_node.specs.Items.{walk, walk_from}
use Rattle.wing_node.specs.declared.node_type.NodeType.{NodeType}
use Rattle.wing_node.specs.declared.definition.Details.{Details}
use Rattle.wing_node.specs.declared.definition.Details.TheVariants.{None, Floats, Integers, Items, String as max_len}
use Rattle.wing_node.specs.contracts.definition.Details as D
use Rattle.wing_node.proofs.items.first_of.Goals as goal

without-items : (d : Details) → OneOf (0 ∷ 1 ∷ 2 ∷ 4 ∷ []) (tag_of D.the_type d) → (t : NodeType) → walk 0 0 t ≡ walk_from t d
without-items None h t = refl
without-items (Floats min max steps) h t = refl
without-items (Integers min max) h t = refl
without-items (max_len n) h t = refl
without-items (Items count first) h t = absurd (miss (0 ∷ 1 ∷ 2 ∷ 4 ∷ []) 3 tt h)

pub returns-in-Items : goal.returns-in-Items
returns-in-Items c = simp c.in-Items.is

pub returns-in_default : goal.returns-in_default
returns-in_default c = without-items c.args.details (opened c.in_default.in_default-own.keys2) c.args.kind
