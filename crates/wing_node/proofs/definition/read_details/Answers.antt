-- Each arm is `details_at` at the types that it takes, by the contract of the function that it calls.
use mathlib.Core.Path.{◌≡◌, ◌∙◌, refl}
use mathlib.Core.List.{[], ◌∷◌}
use Rattle.std.specs.Prelude.{Ok}
use Rattle.wing_node.specs.Refusal.{no_fault}
use Rattle.wing_node.specs.Result.{Result}
use Rattle.wing_node.specs.Cursor.{cursor, reads, after}
use Rattle.wing_node.specs.Definition.{details_at, details_of_read, listed_at, times}
use Rattle.wing_node.specs.declared.definition.DetailsRead.{DetailsRead}
use Rattle.wing_node.specs.declared.node_type.NodeType.TheVariants.{LinearFloat}
use Rattle.wing_node.specs.declared.definition.Details.TheVariants.{None}
use Rattle.wing_node.proofs.Arms.{by_arm}
use Rattle.wing_node.proofs.definition.read_details.Goals as goal

pub returns-in-LinearFloat : goal.returns-in-LinearFloat
unfolding details_at times
returns-in-LinearFloat c =
    let body = c.args.body.now in
    let start = cursor c.args.at no_fault in
    c.floats.ensures ∙ by_arm (λ t. details_of_read (details_at LinearFloat body start) ≡ details_of_read (details_at t body start)) (1 ∷ 2 ∷ []) c.args.kind c.in-LinearFloat.in-LinearFloat-own.keys1 (refl, (refl, tt))

pub returns-in-Integer : goal.returns-in-Integer
returns-in-Integer c = simp (c.in-Integer.is, c.integers.ensures)

pub returns-in-StringEnum : goal.returns-in-StringEnum
unfolding details_at listed_at reads after
returns-in-StringEnum c = simp (c.in-StringEnum.is, c.listed.ensures)

pub returns-in-FloatEnum : goal.returns-in-FloatEnum
unfolding details_at listed_at reads after
returns-in-FloatEnum c = simp (c.in-FloatEnum.is, c.listed-in-FloatEnum.ensures)

pub returns-in-String : goal.returns-in-String
returns-in-String c = simp (c.in-String.is, c.longest.ensures)

pub returns-in-Node : goal.returns-in-Node
unfolding details_at reads after times
returns-in-Node c =
    let body = c.args.body.now in
    let at = c.args.at in
    by_arm (λ t. ◌≡◌ {A = Result DetailsRead} (Ok (record { details = None; next = at })) (details_of_read (details_at t body (cursor at no_fault)))) (0 ∷ 3 ∷ []) c.args.kind c.in-Node.in-Node-own.keys6
    (refl, (refl, tt))
