-- The items of a definition, one after the other and by number.
use Rattle.std.specs.Prelude.{ℕ, ◌-◌, List, eqb, leb, Ok, Err, Option, None}
use Rattle.wing_node.specs.Bool.{if}
use Rattle.wing_node.specs.Cursor.{cursor, after}
use Rattle.wing_node.specs.Types.{has_items}
use Rattle.wing_node.specs.Definition.{ItemReading, item_at, items_of, definition_of}
use Rattle.wing_node.specs.declared.node_type.NodeType.{NodeType}
use Rattle.wing_node.specs.declared.definition.Item.{Item}
use Rattle.wing_node.specs.declared.definition.Details.{Details}
use Rattle.wing_node.specs.declared.definition.Details.TheVariants.{None as no_details, Floats, Integers, Items, String as max_len}
use Rattle.wing_node.specs.declared.items.Walk.{Walk}
use Rattle.wing_node.specs.declared.items.Step.{Step}
use Rattle.wing_node.specs.declared.refusal.Refusal.TheVariants.{NumberOver}
use Rattle.wing_node.specs.Refusal.{Fault, no_fault}
use Rattle.wing_node.specs.Result.{Result}
use Rattle.wing_node.specs.declared.definition.Definition.{Definition}

-- a walk by its place, the items left and the type
abbrev pub walk : ℕ → ℕ → NodeType → Walk
walk at left kind = record { at = at; left = left; kind = kind }

-- an answer with the walk as it was
abbrev pub stayed : Result (Option Item) → ℕ → ℕ → NodeType → Step
stayed item at left kind = record { item = item; next = walk at left kind }

-- where the items of a definition begin, and how many there are. 01: types without items have count 0
abbrev pub walk_from : NodeType → Details → Walk
walk_from t (Items count first) = walk first count t
walk_from t no_details = walk 0 0 t
walk_from t (Floats min max steps) = walk 0 0 t
walk_from t (Integers min max) = walk 0 0 t
walk_from t (max_len n) = walk 0 0 t

-- 01: a body that is refused is refused here for the same reason
abbrev pub begin_from : Result Definition → Result Walk
begin_from (Ok d) = Ok (walk_from d.node_type d.details)
begin_from (Err why) = Err why

-- 01: beginning on a body that the parser refuses gives its 4 or 5
unfoldable pub begin_of : List ℕ → Result Walk
begin_of body = begin_from (definition_of body)

-- by the fault that was met: an item that was read moves the walk; a refused one does not
abbrev pub step_by : Fault → ItemReading → ℕ → ℕ → NodeType → Step
step_by (Ok u) r at left kind = stayed (Ok r.item) r.next.at (left - 1) kind
step_by (Err why) r at left kind = stayed (Err why) at left kind

-- the walk after what was read there
abbrev pub step_from : ItemReading → ℕ → ℕ → NodeType → Step
step_from r at left kind = step_by r.next.fault r at left kind

-- 01: a step gives none when no items are left or the type has none, else the item there, or 4 or 5
unfoldable pub step_at : List ℕ → ℕ → ℕ → NodeType → Step
step_at body at left kind =
    if (eqb left 0) (stayed (Ok None) at left kind)
    (if (has_items kind) (step_from (item_at kind body (cursor at no_fault)) at left kind) (stayed (Ok None) at left kind))

-- the item after as many as its number says; 14 where the number is not below the count
unfoldable pub numbered_from : List ℕ → ℕ → Walk → Result (Option Item)
numbered_from body n w =
    if (leb w.left n) (Err NumberOver) (step_at body (after (items_of w.kind n) body (cursor w.at no_fault)).at (w.left - n) w.kind).item

-- 01: the body's 4 or 5 comes before 14
abbrev pub numbered_in : List ℕ → ℕ → Result Walk → Result (Option Item)
numbered_in body n (Ok w) = numbered_from body n w
numbered_in body n (Err why) = Err why

-- 01: a body that the parser refuses gives its 4 or 5 before 14
unfoldable pub item_numbered : List ℕ → ℕ → Result (Option Item)
item_numbered body n = numbered_in body n (begin_of body)
