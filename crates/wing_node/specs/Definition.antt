-- A definition: which fields stand in a body in which order, and what they say.
use Rattle.std.specs.Prelude.{ℕ, zero, suc, ◌/◌, ◌%◌, List, [], ◌∷◌, ◌++◌, map, eqb, get_or, Option, Some, None, Ok, Err}
use Rattle.wing_node.specs.Bool.{if}
use Rattle.wing_node.specs.Signed.{signed}
use Rattle.wing_node.specs.Cursor.{Field, number, string, Cursor, Reading, start, nothing, read_at, reads, after, unless}
use Rattle.wing_node.specs.Types.{type_of, unit_of}
use Rattle.wing_node.specs.declared.node_type.NodeType.{NodeType}
use Rattle.wing_node.specs.declared.node_type.NodeType.TheVariants.{Node, LinearFloat, LogarithmicFloat, FaderLevel, Integer, StringEnum, FloatEnum, String}
use Rattle.wing_node.specs.declared.definition.Span.{Span}
use Rattle.wing_node.specs.declared.definition.Item.{Item}
use Rattle.wing_node.specs.declared.definition.Item.TheVariants.{Strings, Float}
use Rattle.wing_node.specs.declared.definition.ItemRead.{ItemRead}
use Rattle.wing_node.specs.declared.definition.Details.{Details}
use Rattle.wing_node.specs.declared.definition.Details.TheVariants.{None as no_details, Floats, Integers, Items, String as max_len}
use Rattle.wing_node.specs.declared.definition.DetailsRead.{DetailsRead}
use Rattle.wing_node.specs.declared.definition.Definition.{Definition}
use Rattle.wing_node.specs.Refusal.{Fault}
use Rattle.wing_node.specs.Result.{Result}

-- the fields of a definition by name
pub data FieldName : Type 0 where
  ParentId : FieldName
  Id : FieldName
  Index : FieldName
  Name : FieldName
  LongName : FieldName
  Flags : FieldName
  Min : FieldName
  Max : FieldName
  Steps : FieldName
  Count : FieldName
  MaxLen : FieldName

-- 01: parent id 4, id 4, index 2, name (length byte, bytes), long name (same), flags 2; min, max, steps 4 each; counts and lengths 16-bit
abbrev pub form : FieldName → Field
form ParentId = number 4
form Id = number 4
form Index = number 2
form Name = string
form LongName = string
form Flags = number 2
form Min = number 4
form Max = number 4
form Steps = number 4
form Count = number 2
form MaxLen = number 2

-- every definition begins with these
abbrev pub header : List FieldName
header = ParentId ∷ Id ∷ Index ∷ Name ∷ LongName ∷ Flags ∷ []

-- what each type adds
abbrev pub added : NodeType → List FieldName
added Node = []
added LinearFloat = Min ∷ Max ∷ Steps ∷ []
added LogarithmicFloat = Min ∷ Max ∷ Steps ∷ []
added FaderLevel = []
added Integer = Min ∷ Max ∷ []
added StringEnum = Count ∷ []
added FloatEnum = Count ∷ []
added String = MaxLen ∷ []

-- an item of each type: short and long string, or 4 bytes of float bits and a string
abbrev pub item_of : NodeType → List Field
item_of Node = []
item_of LinearFloat = []
item_of LogarithmicFloat = []
item_of FaderLevel = []
item_of Integer = []
item_of StringEnum = string ∷ string ∷ []
item_of FloatEnum = number 4 ∷ string ∷ []
item_of String = []

-- 01: count times
unfoldable pub times : ℕ → List Field → List Field
times zero fs = []
times (suc n) fs = fs ++ times n fs

-- items one after the other
abbrev pub items_of : NodeType → ℕ → List Field
items_of t count = times count (item_of t)

-- where a string lies: start and length in the body
abbrev pub span_at : ℕ → ℕ → Span
span_at start len = record { start = start; len = len }

-- where the string of a field lies
abbrev pub span_of : Reading → Span
span_of r = span_at r.start r.value

-- the number of a field among the names
abbrev pub name_number : FieldName → ℕ
name_number ParentId = 0
name_number Id = 1
name_number Index = 2
name_number Name = 3
name_number LongName = 4
name_number Flags = 5
name_number Min = 6
name_number Max = 7
name_number Steps = 8
name_number Count = 9
name_number MaxLen = 10

-- the field of a name among those that were read: nothing if it is not among them
abbrev pub look : List FieldName → List Reading → FieldName → Reading
look [] rs k = nothing start
look (j ∷ js) [] k = nothing start
look (j ∷ js) (r ∷ rs) k = if (eqb (name_number j) (name_number k)) r (look js rs k)

-- the fields of these names, read one after the other from a cursor on
abbrev pub named : List FieldName → List ℕ → Cursor → FieldName → Reading
named ks body c = look ks (reads (map form ks) body c)

-- the cursor after named fields
abbrev pub past : List FieldName → List ℕ → Cursor → Cursor
past ks body c = after (map form ks) body c

-- the k-th field that was read
abbrev pub nth : List Reading → ℕ → Reading
nth rs k = get_or rs k (nothing start)

-- what an item's fields say
abbrev pub item_from : NodeType → List Reading → Option Item
item_from Node rs = None
item_from LinearFloat rs = None
item_from LogarithmicFloat rs = None
item_from FaderLevel rs = None
item_from Integer rs = None
item_from StringEnum rs = Some (Strings (span_of (nth rs 0)) (span_of (nth rs 1)))
item_from FloatEnum rs = Some (Float (nth rs 0).value (span_of (nth rs 1)))
item_from String rs = None

-- an item, and the cursor after it
pub record ItemReading : Type 0 where
  pub item : Option Item
  pub next : Cursor

-- the item, or why it is refused
abbrev pub item_of_read : ItemReading → Result ItemRead
item_of_read r = unless r.next.fault (record { item = r.item; next = r.next.at })

-- the item at a cursor, and the cursor after it
unfoldable pub item_at : NodeType → List ℕ → Cursor → ItemReading
item_at t body c = record { item = item_from t (reads (item_of t) body c); next = after (item_of t) body c }

-- what the fields that a type adds say; `first` is the place after them, where the items begin.
-- Steps and integer limits are signed, float limits are their bits
abbrev pub details_from : NodeType → (FieldName → Reading) → ℕ → Details
details_from Node f first = no_details
details_from LinearFloat f first = Floats (f Min).value (f Max).value (signed 31 (f Steps).value)
details_from LogarithmicFloat f first = Floats (f Min).value (f Max).value (signed 31 (f Steps).value)
details_from FaderLevel f first = no_details
details_from Integer f first = Integers (signed 31 (f Min).value) (signed 31 (f Max).value)
details_from StringEnum f first = Items (f Count).value first
details_from FloatEnum f first = Items (f Count).value first
details_from String f first = max_len (f MaxLen).value

-- what a type adds, and the cursor after it
pub record DetailsReading : Type 0 where
  pub details : Details
  pub next : Cursor

-- what it adds, or why that is refused
abbrev pub details_of_read : DetailsReading → Result DetailsRead
details_of_read r = unless r.next.fault (record { details = r.details; next = r.next.at })

-- what stands after the flags, with the items passed: none without a count
unfoldable pub details_at : NodeType → List ℕ → Cursor → DetailsReading
details_at t body c =
    let f = named (added t) body c in
    let first = past (added t) body c in
    record { details = details_from t f first.at; next = after (items_of t (f Count).value) body first }

-- the same for a type with a count
unfoldable pub listed_at : NodeType → List ℕ → Cursor → DetailsReading
listed_at t body c =
    let count = read_at (number 2) body c in
    record { details = Items count.value count.next.at; next = after (items_of t count.value) body count.next }

-- 01: type = flags div 16 mod 16
abbrev pub kind_from : (FieldName → Reading) → NodeType
kind_from f = type_of ((f Flags).value / 16 % 16)

-- what the fields of the header say, with the details that follow them. 01: unit = flags mod 16, read-only is bit 9
abbrev pub definition_from : (FieldName → Reading) → Details → Definition
definition_from f details =
    record {
      parent_id = signed 31 (f ParentId).value;
      id = signed 31 (f Id).value;
      index = (f Index).value;
      name = span_of (f Name);
      long_name = span_of (f LongName);
      node_type = kind_from f;
      unit = unit_of ((f Flags).value % 16);
      read_only = eqb ((f Flags).value / 512 % 2) 1;
      details = details;
    }

-- 01: 4 or 5 by the first field that fails, else the definition
abbrev pub parsed_from : Fault → Definition → Result Definition
parsed_from (Ok u) d = Ok d
parsed_from (Err why) d = Err why

-- the definition, or the refusal of the first failing field. 01: later bytes are ignored
unfoldable pub definition_of : List ℕ → Result Definition
definition_of body =
    let f = named header body start in
    let found = details_at (kind_from f) body (past header body start) in
    parsed_from found.next.fault (definition_from f found.details)

-- all fields of a body: its type and its count say which they are
unfoldable pub fields_in : List ℕ → List Field
fields_in body =
    let c = past header body start in
    let t = kind_from (named header body start) in
    map form header ++ (map form (added t) ++ items_of t (named (added t) body c Count).value)
