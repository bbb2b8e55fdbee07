-- A definition written field by field, and that it is read back with its items: for all eight types at once.
use Rattle.std.specs.Prelude.{ℕ, ◌/◌, ◌%◌, ◌<◌, ◌≡◌, List, [], ◌∷◌, ◌++◌, map, length, get_or}
use Rattle.wing_node.specs.Bool.{if}
use Rattle.wing_node.specs.Result.{ok}
use Rattle.wing_node.specs.Field.{big}
use Rattle.wing_node.specs.Types.{type_of, has_items}
use Rattle.wing_node.specs.Definition.{FieldName, Flags, Count, form, header, added, items_of}
use Rattle.wing_node.specs.Laid.{laid_all, FitsAll, number_of}
use Rattle.wing_node.specs.Answers.{ItemValues, none, strings, float, values_by}
use Rattle.wing_node.specs.Parsing.{parser_says, number_says}
use Rattle.wing_node.specs.declared.node_type.NodeType.{NodeType}
use Rattle.wing_node.specs.declared.node_type.NodeType.TheVariants.{Node, LinearFloat, LogarithmicFloat, FaderLevel, Integer, StringEnum, FloatEnum, String}

-- what an item holds: the bytes of its first field and those of its second
abbrev pub Pair : Type 0
Pair = List ℕ × List ℕ

-- items one after the other, as what their fields hold
abbrev pub in_row : List Pair → List (List ℕ)
in_row [] = []
in_row (p ∷ ps) = p.0 ∷ p.1 ∷ in_row ps

-- 01: short and long string, or 4 bytes of float bits and a string
abbrev pub pair_values : NodeType → Pair → ItemValues
pair_values Node p = none
pair_values LinearFloat p = none
pair_values LogarithmicFloat p = none
pair_values FaderLevel p = none
pair_values Integer p = none
pair_values StringEnum p = strings p.0 p.1
pair_values FloatEnum p = float (big p.0) p.1
pair_values String p = none

-- `bytes` gives the bytes that the field of each name holds: the number that they make
abbrev pub numbers_of : (FieldName → List ℕ) → FieldName → ℕ
numbers_of bytes k = number_of (form k) (bytes k)

-- 01: type = flags div 16 mod 16
abbrev pub kind_of : (FieldName → List ℕ) → NodeType
kind_of bytes = type_of (numbers_of bytes Flags / 16 % 16)

-- the fields before the items
abbrev pub names_of : (FieldName → List ℕ) → List FieldName
names_of bytes = header ++ added (kind_of bytes)

-- the fields of these names, one after the other, each with the bytes that it holds
abbrev pub laid_by : (FieldName → List ℕ) → List FieldName → List ℕ
laid_by bytes ks = laid_all (map form ks) (map bytes ks)

-- the fields before the items, laid
abbrev pub front_of : (FieldName → List ℕ) → List ℕ
front_of bytes = laid_by bytes (names_of bytes)

-- 01: types without items have count 0
abbrev pub count_of : (FieldName → List ℕ) → ℕ
count_of bytes = if (has_items (kind_of bytes)) (numbers_of bytes Count) 0

-- the items, as many as the count says
abbrev pub list_of : (FieldName → List ℕ) → List Pair → List ℕ
list_of bytes pairs = laid_all (items_of (kind_of bytes) (count_of bytes)) (in_row pairs)

-- the whole; bytes may follow
abbrev pub body_of : (FieldName → List ℕ) → List Pair → List ℕ → List ℕ
body_of bytes pairs rest = front_of bytes ++ (list_of bytes pairs ++ rest)

-- each field fits its form
pub record Fit (bytes : FieldName → List ℕ) (pairs : List Pair) : Type 0 where
  pub fields : FitsAll (map form (names_of bytes)) (map bytes (names_of bytes))
  pub items : FitsAll (items_of (kind_of bytes) (count_of bytes)) (in_row pairs)

-- what is written reads back as the same fields, those that the type lacks left out
pub record ReadsBack : Type 0 where
  -- the parser takes it and says what each field holds
  pub definition : (bytes : FieldName → List ℕ) (pairs : List Pair) (rest : List ℕ) → Fit bytes pairs →
      parser_says (body_of bytes pairs rest) ≡ ok (values_by (numbers_of bytes) bytes (length (front_of bytes)))
  -- and the item of each number says what the pair of that number holds
  pub items : (bytes : FieldName → List ℕ) (pairs : List Pair) (rest : List ℕ) → Fit bytes pairs → (n : ℕ) → n < count_of bytes →
      number_says (body_of bytes pairs rest) n ≡ ok (pair_values (kind_of bytes) (get_or pairs n ([], [])))
