-- The bytes from the first item to the place that `past_items` comes to; the other details have none.
use borrow.Enum.Refused.{opened}
use mathlib.Core.Path.{◌≡◌, refl, ◌∙◌, subst}
use mathlib.Core.List.{List, [], ◌∷◌}
use Prim.Native.Nat.{ℕ}
use types.Run.{OneOf, miss}
use denote.Enum.Declared.{tag_of}
use Rattle.wing_node.specs.Anew.{items_read, item_bytes}
use Rattle.wing_node.specs.declared.node_type.NodeType.{NodeType}
use Rattle.wing_node.specs.declared.definition.Details.{Details}
use Rattle.wing_node.specs.declared.definition.Details.TheVariants.{None, Floats, Integers, Items, String as max_len}
use Rattle.wing_node.specs.contracts.definition.Details as D
use Rattle.wing_node.proofs.Bodies.Fails.{place-or}
use Rattle.wing_node.proofs.anew.items_part.Goals as goal

no_bytes : (body : List ℕ) (t : NodeType) (d : Details) → OneOf (0 ∷ 1 ∷ 2 ∷ 4 ∷ []) (tag_of D.the_type d) → [] ≡ item_bytes body t d
no_bytes body t None h = refl
no_bytes body t (Floats min max steps) h = refl
no_bytes body t (Integers min max) h = refl
no_bytes body t (max_len n) h = refl
no_bytes body t (Items count first) h = absurd (miss (0 ∷ 1 ∷ 2 ∷ 4 ∷ []) 3 tt h)

pub returns-in-Items : goal.returns-in-Items
returns-in-Items c =
    let args = c.args in
    let e = c.part_of.ensures in
    let end = c.unwrap_or-end.ensures ∙ place-or _ _ _ (subst (items_read args.body.now args.kind) c.in-Items.is c.requires) c.past_items.ensures in
    (e.0, e.1, e.2 ∙ simp (c.in-Items.is, c.distance.ensures, end))

pub returns-in_default : goal.returns-in_default
returns-in_default c =
    let args = c.args in
    (c.part_of-in_default.ensures.0, c.part_of-in_default.ensures.1, c.part_of-in_default.ensures.2 ∙ no_bytes args.body.now args.kind args.details (opened c.in_default.in_default-own.keys2))
