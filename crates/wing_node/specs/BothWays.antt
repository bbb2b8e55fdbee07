-- The writer and the parser (02): what is written reads back as the fields that were given, and a body that was read and is written anew has the
-- same bytes exactly when its flags are canonical and nothing follows its last field.
use Rattle.std.specs.Prelude.{ℕ, ◌+◌, ◌-◌, ◌/◌, ◌%◌, ◌^◌, ◌≤◌, ◌<◌, ◌≡◌, ◌↔◌, List, [], ◌∷◌, map, eqb, length, take, drop, get_or, Ok}
use Rattle.wing_node.specs.Result.{Result, ok, refused}
use Rattle.wing_node.specs.Signed.{InBits}
use Rattle.wing_node.specs.Field.{bytes_of}
use Rattle.wing_node.specs.Types.{type_of, unit_of, type_number, unit_number}
use Rattle.wing_node.specs.Standing.{extent, beyond}
use Rattle.wing_node.specs.Definition.{ParentId, Id, Index, Name, LongName, Flags, form, header, items_of, definition_of}
use Rattle.wing_node.specs.Answers.{ItemValues, none, DefinitionValues}
use Rattle.wing_node.specs.InBody.{number_named, all_fields, walk_in, item_in}
use Rattle.wing_node.specs.Parsing.{parser_says, number_says, step_says, walked}
use Rattle.wing_node.specs.Writer.{Lent, type_given, flags_of, BodyEffect, body_of_fields, body_result}
use Rattle.wing_node.specs.Anew.{fields_of, lent_from}
use Rattle.wing_node.specs.declared.node_type.NodeType.{NodeType}
use Rattle.wing_node.specs.declared.node_type.NodeType.TheVariants.{Node, LinearFloat, LogarithmicFloat, FaderLevel, Integer, StringEnum, FloatEnum, String}
use Rattle.wing_node.specs.declared.definition.Details.{Details}
use Rattle.wing_node.specs.declared.definition.Details.TheVariants.{None, Floats, Integers, Items, String as max_len}
use Rattle.wing_node.specs.declared.definition.Definition.{Definition}
use Rattle.wing_node.specs.declared.writer.Fields.{Fields}
use Rattle.wing_node.specs.declared.refusal.Refusal.TheVariants.{BodyLong, OutputShort}

-- 02: those its type lacks left out. What each type has of the given fields; items begin at `first`
abbrev pub details_given : NodeType → Fields → ℕ → Details
details_given Node d first = None
details_given LinearFloat d first = Floats d.min_float d.max_float d.steps
details_given LogarithmicFloat d first = Floats d.min_float d.max_float d.steps
details_given FaderLevel d first = None
details_given Integer d first = Integers d.min_int d.max_int
details_given StringEnum d first = Items d.count first
details_given FloatEnum d first = Items d.count first
details_given String d first = max_len d.max_len

-- 02: the same fields
abbrev pub values_given : Fields → Lent → ℕ → DefinitionValues
values_given d l first =
    record {
      parent_id = d.parent_id;
      id = d.id;
      index = d.index;
      name = l.name;
      long_name = l.long_name;
      type = type_of d.node_type;
      unit = unit_of d.unit;
      read_only = d.read_only;
      details = details_given (type_of d.node_type) d first;
    }

-- each number that is laid as it is given is within its width, as the code's types have it; type and unit are held to 7 by 16
pub record InWidth (d : Fields) : Type 0 where
  pub parent : InBits 31 d.parent_id
  pub id : InBits 31 d.id
  pub index : d.index < 2 ^ 16
  pub min_float : d.min_float < 2 ^ 32
  pub max_float : d.max_float < 2 ^ 32
  pub min_int : InBits 31 d.min_int
  pub max_int : InBits 31 d.max_int
  pub steps : InBits 31 d.steps
  pub count : d.count < 2 ^ 16
  pub max_len : d.max_len < 2 ^ 16

-- the item of a number among the bytes that were lent
abbrev pub item_given : NodeType → List ℕ → ℕ → ItemValues
item_given t items n = item_in t (beyond (items_of t n) items)

-- 02: the type and unit bits of its flags are below 8 each, its unused flag bits are 0: bit 8 and those from 10 on
pub record Canonical (flags : ℕ) : Type 0 where
  pub type : flags / 16 % 16 < 8
  pub unit : flags % 16 < 8
  pub unused : (flags / 256 % 2 ≡ 0) × (flags / 1024 ≡ 0)

-- the flags of a body
abbrev pub flags_in : List ℕ → ℕ
flags_in body = number_named header Flags body

-- 02: no bytes follow its last field
abbrev pub Ends : List ℕ → Type 0
Ends body = extent (all_fields body) body ≡ length body

-- 02: what it writes reads back as the same fields
pub record ReadsAsGiven (d : Fields) (l : Lent) (body : List ℕ) : Type 0 where
  -- the parser says them, with the names' bytes; the items end the body
  pub definition : parser_says body ≡ ok (values_given d l (length body - length l.items))
  -- the item of each number is the one that was lent
  pub items : (n : ℕ) → n < d.count → number_says body n ≡ ok (item_given (type_given d) l.items n)
  -- and so is each that a walk gives, and then there is none
  pub steps : (n : ℕ) → n < d.count → step_says body (walked n body (walk_in body)) ≡ ok (item_given (type_given d) l.items n)
  pub last : step_says body (walked d.count body (walk_in body)) ≡ ok none
  -- 02: unused flag bits are written 0; and nothing is written after the last field
  pub flags : Canonical (flags_in body)
  pub ends : Ends body

-- where the flags stand: after parent id, id, index and the two names
abbrev pub flags_at : List ℕ → ℕ
flags_at body = extent (map form (ParentId ∷ Id ∷ Index ∷ Name ∷ LongName ∷ [])) body

-- what is written for flags that were read: their type, unit and read-only. 01: type and unit over 7 are 0
abbrev pub flags_anew : ℕ → ℕ
flags_anew f = flags_of (type_number (type_of (f / 16 % 16))) (unit_number (unit_of (f % 16))) (eqb (f / 512 % 2) 1)

-- a body written anew, by what came of it
pub record WrittenAnew (body : List ℕ) (came : Result (List ℕ)) : Type 0 where
  pub bytes : List ℕ
  pub written : came ≡ ok bytes
  -- 02: the same bytes exactly when
  pub same : (bytes ≡ body) ↔ (Canonical (flags_in body) × Ends body)
  -- the same or not, they are the body's up to its flags and after them to its last field
  pub front : take (flags_at body) bytes ≡ take (flags_at body) body
  pub flags : take 2 (drop (flags_at body) bytes) ≡ bytes_of 2 (flags_anew (flags_in body))
  pub rest : drop (flags_at body + 2) bytes ≡ drop (flags_at body + 2) (take (extent (all_fields body) body) body)

-- what a call gives, by what it leaves
abbrev pub gives : BodyEffect → Result (List ℕ)
gives e = body_result e.answer e.out

-- a body of bytes, and what the parser answers to it
pub record Reading (body : List ℕ) (d : Definition) : Type 0 where
  pub bytes : (i : ℕ) → get_or body i 0 < 256
  pub answer : definition_of body ≡ Ok d

-- both directions, for all eight types
pub record BothWays : Type 0 where
  -- whatever was given, what is written reads back
  pub back : (d : Fields) (l : Lent) (out : List ℕ) → InWidth d → (body : List ℕ) → gives (body_of_fields d l out) ≡ ok body → ReadsAsGiven d l body
  -- a body that the parser takes, written anew from the parser's answer, where its fields take at most 4,096 bytes and there is room. (02 says it of a
  -- body of at most 4,096 bytes: its fields take no more.)
  pub anew : (body out : List ℕ) (d : Definition) → Reading body d → extent (all_fields body) body ≤ 4096 → extent (all_fields body) body ≤ length out →
      WrittenAnew body (gives (body_of_fields (fields_of d) (lent_from body d) out))
  -- else it is 2 or 9
  pub long : (body out : List ℕ) (d : Definition) → Reading body d → 4096 < extent (all_fields body) body → gives (body_of_fields (fields_of d) (lent_from body d) out) ≡ refused BodyLong
  pub short : (body out : List ℕ) (d : Definition) → Reading body d → extent (all_fields body) body ≤ 4096 → length out < extent (all_fields body) body →
      gives (body_of_fields (fields_of d) (lent_from body d) out) ≡ refused OutputShort
