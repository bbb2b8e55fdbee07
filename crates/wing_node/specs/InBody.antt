-- What a body says, told from its bytes alone: the fields that it has, and what each holds where those before it end.
use Rattle.std.specs.Prelude.{ℕ, ◌/◌, ◌%◌, List, [], ◌∷◌, ◌++◌, map, eqb, drop}
use Rattle.wing_node.specs.Bool.{if}
use Rattle.wing_node.specs.Cursor.{Field, number, string, size, content, value_of}
use Rattle.wing_node.specs.Types.{type_of, has_items}
use Rattle.wing_node.specs.Definition.{FieldName, Flags, Count, name_number, form, header, added, items_of}
use Rattle.wing_node.specs.Standing.{extent, beyond}
use Rattle.wing_node.specs.Items.{walk}
use Rattle.wing_node.specs.Answers.{ItemValues, none, strings, float, DefinitionValues, values_by}
use Rattle.wing_node.specs.declared.node_type.NodeType.{NodeType}
use Rattle.wing_node.specs.declared.node_type.NodeType.TheVariants.{Node, LinearFloat, LogarithmicFloat, FaderLevel, Integer, StringEnum, FloatEnum, String}
use Rattle.wing_node.specs.declared.items.Walk.{Walk}

-- the number that the field of a name holds, of fields of these names in a row; 0 where it is not among them
unfoldable pub number_named : List FieldName → FieldName → List ℕ → ℕ
number_named [] k s = 0
number_named (j ∷ js) k s = if (eqb (name_number j) (name_number k)) (value_of (form j) s) (number_named js k (drop (size (form j) s) s))

-- the bytes that it holds
unfoldable pub bytes_named : List FieldName → FieldName → List ℕ → List ℕ
bytes_named [] k s = []
bytes_named (j ∷ js) k s = if (eqb (name_number j) (name_number k)) (content (form j) s) (bytes_named js k (drop (size (form j) s) s))

-- 01: type = flags div 16 mod 16
abbrev pub type_in : List ℕ → NodeType
type_in body = type_of (number_named header Flags body / 16 % 16)

-- the fields before the items: those of every definition, and what the type adds
abbrev pub names_in : List ℕ → List FieldName
names_in body = header ++ added (type_in body)

-- 01: the item count; types without items have count 0
abbrev pub count_in : List ℕ → ℕ
count_in body = number_named (names_in body) Count body

-- all fields of a body
abbrev pub all_fields : List ℕ → List Field
all_fields body = map form (names_in body) ++ items_of (type_in body) (count_in body)

-- where the items begin
abbrev pub first_in : List ℕ → ℕ
first_in body = extent (map form (names_in body)) body

-- the definition that the fields say
abbrev pub definition_in : List ℕ → DefinitionValues
definition_in body = values_by (λ k. number_named (names_in body) k body) (λ k. bytes_named (names_in body) k body) (first_in body)

-- 01: the walk begins at the first item; types without items have none, and place 0
abbrev pub walk_in : List ℕ → Walk
walk_in body = if (has_items (type_in body)) (walk (first_in body) (count_in body) (type_in body)) (walk 0 0 (type_in body))

-- 01: an item is short and long string, or 4 bytes of float bits and a string. The one at the front of s
abbrev pub item_in : NodeType → List ℕ → ItemValues
item_in Node s = none
item_in LinearFloat s = none
item_in LogarithmicFloat s = none
item_in FaderLevel s = none
item_in Integer s = none
item_in StringEnum s = strings (content string s) (content string (beyond (string ∷ []) s))
item_in FloatEnum s = float (value_of (number 4) s) (content string (beyond (number 4 ∷ []) s))
item_in String s = none

-- the item of a number: it stands after as many as its number says
abbrev pub item_in_body : List ℕ → ℕ → ItemValues
item_in_body body n = item_in (type_in body) (beyond (items_of (type_in body) n) (drop (first_in body) body))
