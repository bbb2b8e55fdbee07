-- For each answer enum, 01's number and values. A string is its bytes in the body, not its place.
use Rattle.std.specs.Prelude.{ℕ, ◌/◌, ◌%◌, Bool, ◌≡◌, List, eqb, ℤ, take, drop, Option, Some, None, Ok, Err}
use Rattle.std.specs.Borrow.{Bor}
use Rattle.wing_node.specs.Result.{Result}
use Rattle.wing_node.specs.declared.walker.Walker.{Walker}
use Rattle.wing_node.specs.declared.value.StringRead.{StringRead}
use Rattle.wing_node.specs.Signed.{signed}
use Rattle.wing_node.specs.Types.{type_of, unit_of}
use Rattle.wing_node.specs.Value.{NodeValue, MaybeString, no_string, some, string_in, answer_of}
use Rattle.wing_node.specs.Definition.{FieldName, ParentId, Id, Index, Name, LongName, Flags, Min, Max, Steps, Count, MaxLen}
use Rattle.wing_node.specs.Items.{begin_of}
use Rattle.wing_node.specs.Walker.{opened_of}
use Rattle.wing_node.specs.declared.node_type.NodeType.{NodeType}
use Rattle.wing_node.specs.declared.node_type.NodeType.TheVariants.{Node, LinearFloat, LogarithmicFloat, FaderLevel, Integer, StringEnum, FloatEnum, String}
use Rattle.wing_node.specs.declared.node_type.NodeUnit.{NodeUnit}
use Rattle.wing_node.specs.declared.definition.Span.{Span}
use Rattle.wing_node.specs.declared.definition.Item.{Item}
use Rattle.wing_node.specs.declared.definition.Item.TheVariants.{Strings, Float}
use Rattle.wing_node.specs.declared.definition.Details.{Details}
use Rattle.wing_node.specs.declared.definition.Details.TheVariants.{None as no_details, Floats, Integers, Items, String as max_len}
use Rattle.wing_node.specs.declared.definition.Definition.{Definition}
use Rattle.wing_node.specs.declared.items.Walk.{Walk}

-- the bytes of a span
abbrev pub bytes_at : List ℕ → Span → List ℕ
bytes_at body p = take p.len (drop p.start body)

-- a definition's values. 01: type, unit and read-only are told by the flags
pub record DefinitionValues : Type 0 where
  pub parent_id : ℤ
  pub id : ℤ
  pub index : ℕ
  pub name : List ℕ
  pub long_name : List ℕ
  pub type : NodeType
  pub unit : NodeUnit
  pub read_only : Bool
  pub details : Details

-- those of the code's definition of a body
abbrev pub values_of : List ℕ → Definition → DefinitionValues
values_of body d =
    record {
      parent_id = d.parent_id;
      id = d.id;
      index = d.index;
      name = bytes_at body d.name;
      long_name = bytes_at body d.long_name;
      type = d.node_type;
      unit = d.unit;
      read_only = d.read_only;
      details = d.details;
    }

-- 01: the definition, or its 4 or 5
abbrev pub parsed_result : List ℕ → Result Definition → Result DefinitionValues
parsed_result body (Ok d) = Ok (values_of body d)
parsed_result body (Err why) = Err why

-- 01: types 1, 2: min, max, steps; 4: min, max; 5, 6: item count, then items, from a place on; 7: length. By the number of each field
abbrev pub details_by : NodeType → (FieldName → ℕ) → ℕ → Details
details_by Node v first = no_details
details_by LinearFloat v first = Floats (v Min) (v Max) (signed 31 (v Steps))
details_by LogarithmicFloat v first = Floats (v Min) (v Max) (signed 31 (v Steps))
details_by FaderLevel v first = no_details
details_by Integer v first = Integers (signed 31 (v Min)) (signed 31 (v Max))
details_by StringEnum v first = Items (v Count) first
details_by FloatEnum v first = Items (v Count) first
details_by String v first = max_len (v MaxLen)

-- a definition's values by the number and the bytes of each field, and the place of the first item.
-- 01: type = flags div 16 mod 16, unit = flags mod 16; read-only is bit 9
abbrev pub values_by : (FieldName → ℕ) → (FieldName → List ℕ) → ℕ → DefinitionValues
values_by v bytes first =
    record {
      parent_id = signed 31 (v ParentId);
      id = signed 31 (v Id);
      index = v Index;
      name = bytes Name;
      long_name = bytes LongName;
      type = type_of (v Flags / 16 % 16);
      unit = unit_of (v Flags % 16);
      read_only = eqb (v Flags / 512 % 2) 1;
      details = details_by (type_of (v Flags / 16 % 16)) v first;
    }

-- an item's values: short and long string, or float bits and a string; none is an answer too
pub data ItemValues : Type 0 where
  none : ItemValues
  strings : List ℕ → List ℕ → ItemValues
  float : ℕ → List ℕ → ItemValues

-- 01: the item, none, or 4, 5 or 14
abbrev pub item_result : List ℕ → Result (Option Item) → Result ItemValues
item_result body (Ok None) = Ok none
item_result body (Ok (Some (Strings a b))) = Ok (strings (bytes_at body a) (bytes_at body b))
item_result body (Ok (Some (Float bits b))) = Ok (float bits (bytes_at body b))
item_result body (Err why) = Err why

-- the walk of a walker that was begun, or 4 or 5
abbrev pub opened_result : Result Walker → Result Walk
opened_result (Ok w) = Ok w.walk
opened_result (Err why) = Err why

-- 01: the string, or none; its bytes are at the front of the array beside its length
abbrev pub string_result : Option StringRead → MaybeString
string_result None = no_string
string_result (Some r) = some (take r.len r.bytes)

-- the walker begins with the walk of the plain call, and the string getter gives 01's string
pub record AnswersAgree : Type 0 where
  -- 01: beginning gives a walk at the first item, or 4 or 5
  pub opened : (body : Bor (List ℕ)) → opened_result (opened_of body) ≡ begin_of body.now
  -- 01: the string getter gives the string, an integer's decimal, and none for a float
  pub string : (v : NodeValue) → string_result (answer_of (string_in v)) ≡ string_in v
