-- Definitions and items by numbers. A string is told by its place in the body.
use Rattle.std.specs.Prelude.{ℕ, false, ℤ, pos, Ok, Err, Option, Some, None as NoItem}
use Rattle.wing_node.specs.Signed.{signed, unsigned}
use Rattle.wing_node.specs.Types.{type_number, unit_number}
use Rattle.wing_node.specs.declared.refusal.Refusal.{Refusal}
use Rattle.wing_node.specs.declared.definition.Details.{Details}
use Rattle.wing_node.specs.declared.definition.Details.TheVariants.{None, Floats, Integers, Items, String as MaxLen}
use Rattle.wing_node.specs.declared.definition.Item.{Item}
use Rattle.wing_node.specs.declared.definition.Item.TheVariants.{Strings, Float}
use Rattle.wing_node.specs.declared.definition.Definition.{Definition}
use Rattle.wing_node.specs.declared.items.Walk.{Walk}
use Rattle.wing_node.specs.declared.items.Step.{Step}
use Rattle.wing_node.specs.declared.writer.Fields.{Fields}
use Rattle.wing_c.specs.Numbers.{sent_back, no_refusal}
use Rattle.wing_c.specs.declared.answers.Outcome.{Outcome}
use Rattle.wing_c.specs.declared.definitions.WingDefinition.{WingDefinition}
use Rattle.wing_c.specs.declared.definitions.WingWalk.{WingWalk}
use Rattle.wing_c.specs.declared.definitions.WingItem.{WingItem}
use Rattle.wing_c.specs.declared.definitions.WingStep.{WingStep}
use Rattle.wing_c.specs.declared.definitions.DetailFields.{DetailFields}
use Rattle.wing_c.specs.declared.writer.WingFields.{WingFields}
use Rattle.wing_node.specs.Result.{Result}

-- what types 1, 2 and 4 add
abbrev pub limits_as : ℕ → ℕ → ℤ → DetailFields
limits_as min max steps = record { min = min; max = max; steps = steps; count = 0; first = 0; max_len = 0 }

-- what types 5, 6 and 7 add
abbrev pub listed_as : ℕ → ℕ → ℕ → DetailFields
listed_as count first max_len = record { min = 0; max = 0; steps = pos 0; count = count; first = first; max_len = max_len }

-- 01: types 1, 2: min, max, steps; 4: min, max; 5, 6: item count, and the place of the first; 7: length. What a type has not is 0; integers are 32 bits
abbrev pub detail_numbers : Details → DetailFields
detail_numbers None = limits_as 0 0 (pos 0)
detail_numbers (Floats min max steps) = limits_as min max steps
detail_numbers (Integers min max) = limits_as (unsigned 31 min) (unsigned 31 max) (pos 0)
detail_numbers (Items count first) = listed_as count first 0
detail_numbers (MaxLen n) = listed_as 0 0 n

-- a definition that was read
abbrev pub taken_numbers : Definition → WingDefinition
taken_numbers d =
    let n = detail_numbers d.details in
    record {
      status = pos 0;
      good = 0;
      parent_id = d.parent_id;
      id = d.id;
      index = d.index;
      node_type = type_number d.node_type;
      unit = unit_number d.unit;
      read_only = d.read_only;
      count = n.count;
      max_len = n.max_len;
      min = n.min;
      max = n.max;
      steps = n.steps;
      name_len = d.name.len;
      long_name_len = d.long_name.len;
      name_start = d.name.start;
      long_name_start = d.long_name.start;
      first_item = n.first;
    }

-- a body that is refused: 4 or 5
abbrev pub refused_numbers : Refusal → WingDefinition
refused_numbers why =
    record {
      status = (sent_back why).status;
      good = (sent_back why).good;
      parent_id = pos 0;
      id = pos 0;
      index = 0;
      node_type = 0;
      unit = 0;
      read_only = false;
      count = 0;
      max_len = 0;
      min = 0;
      max = 0;
      steps = pos 0;
      name_len = 0;
      long_name_len = 0;
      name_start = 0;
      long_name_start = 0;
      first_item = 0;
    }

-- the definition in a body
abbrev pub definition_numbers : Result Definition → WingDefinition
definition_numbers (Ok d) = taken_numbers d
definition_numbers (Err why) = refused_numbers why

-- a walk: the place reached, the items left, the type
abbrev pub walk_as : Outcome → ℕ → ℕ → ℕ → WingWalk
walk_as o at left type = record { status = o.status; good = o.good; left = left; node_type = type; at = at }

-- a walk that is under way
abbrev pub walk_numbers : Walk → WingWalk
walk_numbers w = walk_as no_refusal w.at w.left (type_number w.kind)

-- a walk at the first item, or the parser's 4 or 5
abbrev pub begun_numbers : Result Walk → WingWalk
begun_numbers (Ok w) = walk_numbers w
begun_numbers (Err why) = walk_as (sent_back why) 0 0 0

-- no item: 0 for none, or a refusal
abbrev pub no_item : Outcome → WingItem
no_item o = record { status = o.status; good = o.good; kind = 0; bits = 0; len = 0; long_len = 0; start = 0; long_start = 0 }

-- an item: 1 and its kind (0 two strings, 1 float bits and a string)
abbrev pub item_numbers : Result (Option Item) → WingItem
item_numbers (Ok NoItem) = no_item no_refusal
item_numbers (Ok (Some (Strings a b))) = record { status = pos 1; good = 0; kind = 0; bits = 0; len = a.len; long_len = b.len; start = a.start; long_start = b.start }
item_numbers (Ok (Some (Float bits b))) = record { status = pos 1; good = 0; kind = 1; bits = bits; len = 0; long_len = b.len; start = 0; long_start = b.start }
item_numbers (Err why) = no_item (sent_back why)

-- a step: the item, and the walk after it
abbrev pub step_numbers : Step → WingStep
step_numbers s = record { item = item_numbers s.item; walk = walk_numbers s.next }

-- the writer's fields: a limit is 32 bits, of a float and of an integer alike, of which the writer takes its type's
abbrev pub fields_given : WingFields → Fields
fields_given f =
    record {
      parent_id = f.parent_id;
      id = f.id;
      index = f.index;
      node_type = f.node_type;
      unit = f.unit;
      read_only = f.read_only;
      min_float = f.min;
      max_float = f.max;
      min_int = signed 31 f.min;
      max_int = signed 31 f.max;
      steps = f.steps;
      count = f.count;
      max_len = f.max_len;
    }
