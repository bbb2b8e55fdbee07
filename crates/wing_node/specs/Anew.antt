-- A body that was read and is written anew (02): the parser's answer as the writer's fields, and what the body lends.
use Rattle.std.specs.Prelude.{ℕ, ◌≡◌, ◌-◌, ℤ, pos, List, [], take, drop, Ok, Err}
use Rattle.wing_node.specs.Refusal.{no_fault}
use Rattle.wing_node.specs.Cursor.{cursor, after}
use Rattle.wing_node.specs.Types.{type_number, unit_number}
use Rattle.wing_node.specs.Definition.{items_of, definition_of}
use Rattle.wing_node.specs.Answers.{bytes_at}
use Rattle.wing_node.specs.Writer.{Lent, BodyEffect, body_effect, body_of_fields}
use Rattle.wing_node.specs.declared.node_type.NodeType.{NodeType}
use Rattle.wing_node.specs.declared.definition.Details.{Details}
use Rattle.wing_node.specs.declared.definition.Details.TheVariants.{None, Floats, Integers, Items, String as max_len}
use Rattle.wing_node.specs.declared.definition.Definition.{Definition}
use Rattle.wing_node.specs.declared.writer.Fields.{Fields}
use Rattle.wing_node.specs.Result.{Result}

-- the fields of a definition that was read, with limits, steps, count and length
abbrev pub fields_with : Definition → ℕ → ℕ → ℤ → ℤ → ℤ → ℕ → ℕ → Fields
fields_with d min_float max_float min_int max_int steps count length =
    record {
      parent_id = d.parent_id;
      id = d.id;
      index = d.index;
      node_type = type_number d.node_type;
      unit = unit_number d.unit;
      read_only = d.read_only;
      min_float = min_float;
      max_float = max_float;
      min_int = min_int;
      max_int = max_int;
      steps = steps;
      count = count;
      max_len = length;
    }

-- those of its details; what the type lacks is 0
abbrev pub fields_by : Definition → Details → Fields
fields_by d None = fields_with d 0 0 (pos 0) (pos 0) (pos 0) 0 0
fields_by d (Floats min max steps) = fields_with d min max (pos 0) (pos 0) steps 0 0
fields_by d (Integers min max) = fields_with d 0 0 min max (pos 0) 0 0
fields_by d (Items count first) = fields_with d 0 0 (pos 0) (pos 0) (pos 0) count 0
fields_by d (max_len n) = fields_with d 0 0 (pos 0) (pos 0) (pos 0) 0 n

-- the fields of a definition that was read
abbrev pub fields_of : Definition → Fields
fields_of d = fields_by d d.details

-- 02, ruled: a body's item bytes run from the first item to the end of the last, where the parser's cursor comes to; types without items have none
abbrev pub item_bytes : List ℕ → NodeType → Details → List ℕ
item_bytes body t None = []
item_bytes body t (Floats min max steps) = []
item_bytes body t (Integers min max) = []
item_bytes body t (Items count first) = take ((after (items_of t count) body (cursor first no_fault)).at - first) (drop first body)
item_bytes body t (max_len n) = []

-- the items of a definition that was read are not refused
abbrev pub items_read : List ℕ → NodeType → Details → Type 0
items_read body t None = Unit
items_read body t (Floats min max steps) = Unit
items_read body t (Integers min max) = Unit
items_read body t (Items count first) = (after (items_of t count) body (cursor first no_fault)).fault ≡ no_fault
items_read body t (max_len n) = Unit

-- what a body that was read lends to the writer
abbrev pub lent_from : List ℕ → Definition → Lent
lent_from body d =
    record {
      name = bytes_at body d.name;
      long_name = bytes_at body d.long_name;
      items = item_bytes body d.node_type d.details;
    }

-- written anew, or refused as the parser does
abbrev pub anew_from : List ℕ → Result Definition → List ℕ → BodyEffect
anew_from body (Ok d) out = body_of_fields (fields_of d) (lent_from body d) out
anew_from body (Err why) out = body_effect (Err why) out

-- a body read and written anew
unfoldable pub anew_of : List ℕ → List ℕ → BodyEffect
anew_of body out = anew_from body (definition_of body) out
