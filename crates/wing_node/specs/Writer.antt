-- A definition written (02): what each field of the body holds, when the fields are sent back, and what the call leaves.
use Rattle.std.specs.Prelude.{ℕ, ◌+◌, ◌*◌, Bool, true, not, ◌≡◌, ◌⊎◌, List, [], ◌∷◌, ◌++◌, ltb, eqb, ℤ, length, take, drop, Ok, Err}
use Rattle.wing_node.specs.Bool.{if, and, or}
use Rattle.wing_node.specs.Result.{Result, ok, refused}
use Rattle.wing_node.specs.Signed.{unsigned}
use Rattle.wing_node.specs.Bytes.{placed}
use Rattle.wing_node.specs.Field.{bytes_of}
use Rattle.wing_node.specs.Refusal.{no_fault, is_refused, first_fault, text_fault, because, Fault}
use Rattle.wing_node.specs.Types.{type_of, has_items}
use Rattle.wing_node.specs.Cursor.{Field, size, held_fault}
use Rattle.wing_node.specs.Standing.{Whole, extent}
use Rattle.wing_node.specs.Written.{laid_by}
use Rattle.wing_node.specs.Definition.{FieldName, ParentId, Id, Index, Name, LongName, Flags, Min, Max, Steps, Count, MaxLen, header, added, items_of}
use Rattle.wing_node.specs.declared.node_type.NodeType.{NodeType}
use Rattle.wing_node.specs.declared.node_type.NodeType.TheVariants.{Node, LinearFloat, LogarithmicFloat, FaderLevel, Integer, StringEnum, FloatEnum, String}
use Rattle.wing_node.specs.declared.writer.Fields.{Fields}
use Rattle.wing_node.specs.declared.refusal.Refusal.TheVariants.{BodyLong, FieldsUnfit, NameLong, OutputShort}

-- what is lent beside the fields: two names, and the items in their byte form
pub record Lent : Type 0 where
  pub name : List ℕ
  pub long_name : List ℕ
  pub items : List ℕ

-- these names and items
abbrev pub lent : List ℕ → List ℕ → List ℕ → Lent
lent name long_name items = record { name = name; long_name = long_name; items = items }

-- the type that the fields give
abbrev pub type_given : Fields → NodeType
type_given d = type_of d.node_type

-- 01: type = flags div 16 mod 16, unit = flags mod 16, read-only is bit 9. 02: unused flag bits are written 0
abbrev pub flags_of : ℕ → ℕ → Bool → ℕ
flags_of type unit read_only = type * 16 + unit + if read_only 512 0

-- a limit of a type: of integers the 32 bits of the integer, else float bits
abbrev pub limit : NodeType → ℕ → ℤ → ℕ
limit Node float integer = float
limit LinearFloat float integer = float
limit LogarithmicFloat float integer = float
limit FaderLevel float integer = float
limit Integer float integer = unsigned 31 integer
limit StringEnum float integer = float
limit FloatEnum float integer = float
limit String float integer = float

-- the bytes that the field of each name holds
abbrev pub holds : Fields → Lent → FieldName → List ℕ
holds d l ParentId = bytes_of 4 (unsigned 31 d.parent_id)
holds d l Id = bytes_of 4 (unsigned 31 d.id)
holds d l Index = bytes_of 2 d.index
holds d l Name = l.name
holds d l LongName = l.long_name
holds d l Flags = bytes_of 2 (flags_of d.node_type d.unit d.read_only)
holds d l Min = bytes_of 4 (limit (type_given d) d.min_float d.min_int)
holds d l Max = bytes_of 4 (limit (type_given d) d.max_float d.max_int)
holds d l Steps = bytes_of 4 (unsigned 31 d.steps)
holds d l Count = bytes_of 2 d.count
holds d l MaxLen = bytes_of 2 d.max_len

-- 02: the body: the fields of every definition, those that the type adds, and the items as they were lent
unfoldable pub body_given : Fields → Lent → List ℕ
body_given d l = laid_by (holds d l) (header ++ added (type_given d)) ++ l.items

-- 02: a name over 255 bytes
abbrev pub too_long : Lent → Bool
too_long l = or (ltb 255 (length l.name)) (ltb 255 (length l.long_name))

-- 02: item bytes are exactly the given count of the type's items, by their lengths; a type that has no items has count 0
unfoldable pub exact_items : NodeType → ℕ → List ℕ → Bool
exact_items t count items = and (eqb (extent (items_of t count) items) (length items)) (or (has_items t) (eqb count 0))

-- the same in words: each field is whole where the one before it ends, and nothing is left after the last
pub data Exactly : List Field → List ℕ → Type 0 where
  end : Exactly [] []
  field : {f : Field} {fs : List Field} {s : List ℕ} → Whole f s → Exactly fs (drop (size f s) s) → Exactly (f ∷ fs) s

-- what the test decides
abbrev pub ExactItems : NodeType → ℕ → List ℕ → Type 0
ExactItems t count items = Exactly (items_of t count) items × ((has_items t ≡ true) ⊎ (count ≡ 0))

-- 02: a type or unit over 7, or item bytes that aren't exactly the items
abbrev pub unfit : ℕ → ℕ → ℕ → List ℕ → Bool
unfit type unit count items = or (ltb 7 type) (or (ltb 7 unit) (not (exact_items (type_of type) count items)))

-- the first string among fields in a row that is not UTF-8
unfoldable pub texts_fault : List Field → List ℕ → Fault
texts_fault [] s = no_fault
texts_fault (f ∷ fs) s = first_fault (held_fault f s) (texts_fault fs (drop (size f s) s))

-- they all are
abbrev pub texts : List Field → List ℕ → Bool
texts fs s = not (is_refused (texts_fault fs s))

-- 02: names and item strings are UTF-8; the first that fails counts: name, long name, items in order
abbrev pub all_texts_fault : Fields → Lent → Fault
all_texts_fault d l = first_fault (text_fault l.name) (first_fault (text_fault l.long_name) (texts_fault (items_of (type_given d) d.count) l.items))

-- 02: the writer's order is 15, 16, 5, 2, 9; the first three of them
unfoldable pub lent_fault : Fields → Lent → Fault
lent_fault d l = if (too_long l) (because NameLong) (if (unfit d.node_type d.unit d.count l.items) (because FieldsUnfit) (all_texts_fault d l))

-- why a body of these bytes is not written into this output: over 4,096 bytes, an output too short
unfoldable pub room_fault : List ℕ → List ℕ → Fault
room_fault body out = if (ltb 4096 (length body)) (because BodyLong) (if (ltb (length out) (length body)) (because OutputShort) no_fault)

-- what the call leaves: its answer, and the output
pub record BodyEffect : Type 0 where
  pub answer : Result ℕ
  pub out : List ℕ

-- an answer and the output
abbrev pub body_effect : Result ℕ → List ℕ → BodyEffect
body_effect answer out = record { answer = answer; out = out }

-- refused, and the output as it was; or the bytes at its front, with those past them as they were
abbrev pub body_put : Fault → List ℕ → List ℕ → BodyEffect
body_put (Ok u) body out = body_effect (Ok (length body)) (placed out 0 body)
body_put (Err why) body out = body_effect (Err why) out

-- why the call is refused, in that order
abbrev pub fault_of : Fields → Lent → List ℕ → Fault
fault_of d l out = first_fault (lent_fault d l) (room_fault (body_given d l) out)

-- 02: the writer
unfoldable pub body_of_fields : Fields → Lent → List ℕ → BodyEffect
body_of_fields d l out = body_put (fault_of d l out) (body_given d l) out

-- 02, what the call gives: the bytes written, the first n of the output after it, or the refusal
abbrev pub body_result : Result ℕ → List ℕ → Result (List ℕ)
body_result (Ok n) out = ok (take n out)
body_result (Err why) out = refused why
