-- Reading field by field: a field is a number of so many bytes, or a string, a length byte and then so many bytes of UTF-8.
-- In the first part `s` is a list of bytes that begins with the field.
use Rattle.std.specs.Prelude.{ℕ, ◌+◌, Bool, true, Ok, Err, List, [], ◌∷◌, ltb, length, take, drop, get_or}
use Rattle.wing_node.specs.Bool.{if}
use Rattle.wing_node.specs.Utf8.{utf8}
use Rattle.wing_node.specs.Refusal.{Fault, definition_not_utf8, no_fault, because, is_refused}
use Rattle.wing_node.specs.Field.{big}
use Rattle.wing_node.specs.Result.{Result}
use Rattle.wing_node.specs.declared.cursor.FieldRead.{FieldRead}
use Rattle.wing_node.specs.declared.cursor.ShortRead.{ShortRead}
use Rattle.wing_node.specs.declared.refusal.Refusal.TheVariants.{DefinitionShort}

-- 01: a field is a number of so many bytes, or a string: its length in one byte, then its bytes
pub data Field : Type 0 where
  number : ℕ → Field
  string : Field

-- how many bytes the field takes
unfoldable pub size : Field → List ℕ → ℕ
size (number w) s = w
size string s = 1 + get_or s 0 0

-- the bytes that it holds
unfoldable pub content : Field → List ℕ → List ℕ
content (number w) s = take w s
content string s = take (get_or s 0 0) (drop 1 s)

-- 01: strings are UTF-8
unfoldable pub right : Field → List ℕ → Bool
right (number w) s = true
right string s = utf8 (content string s)

-- why the bytes that it holds are refused: 5
unfoldable pub held_fault : Field → List ℕ → Fault
held_fault f s = if (right f s) no_fault (because (definition_not_utf8 (content f s)))

-- why the field is refused: 4 past the end, 5 not UTF-8; the length comes before UTF-8
unfoldable pub fault : Field → List ℕ → Fault
fault f s = if (ltb (length s) (size f s)) (because DefinitionShort) (held_fault f s)

-- its number: a string's is its length
unfoldable pub value_of : Field → List ℕ → ℕ
value_of (number w) s = big (take w s)
value_of string s = get_or s 0 0

-- where its bytes begin, of a field that stands at a place
unfoldable pub content_at : Field → ℕ → ℕ
content_at (number w) at = at
content_at string at = at + 1

-- a cursor: the place reached, and the refusal met, if any
pub record Cursor : Type 0 where
  pub at : ℕ
  pub fault : Fault

abbrev pub cursor : ℕ → Fault → Cursor
cursor at why = record { at = at; fault = why }

-- at the front, with nothing refused
abbrev pub start : Cursor
start = cursor 0 no_fault

-- the place stays, with the refusal
abbrev pub stopped : Cursor → Fault → Cursor
stopped c why = cursor c.at why

-- the bytes from a cursor on
abbrev pub from : List ℕ → Cursor → List ℕ
from body c = drop c.at body

-- what a field says: its number or length, where its bytes start, and the cursor after it
pub record Reading : Type 0 where
  pub value : ℕ
  pub start : ℕ
  pub next : Cursor

abbrev pub field_read : ℕ → ℕ → Cursor → Reading
field_read value start next = record { value = value; start = start; next = next }

-- what a field says after a refusal
abbrev pub nothing : Cursor → Reading
nothing c = field_read 0 0 c

-- the field at a cursor. 01: the first failing field counts, so after a refusal nothing is read
unfoldable pub read_at : Field → List ℕ → Cursor → Reading
read_at f body c =
    if (is_refused c.fault) (nothing c)
    (if (is_refused (fault f (from body c))) (nothing (stopped c (fault f (from body c))))
    (field_read (value_of f (from body c)) (content_at f c.at) (cursor (c.at + size f (from body c)) no_fault)))

-- fields one after the other
unfoldable pub reads : List Field → List ℕ → Cursor → List Reading
reads [] body c = []
reads (f ∷ fs) body c = read_at f body c ∷ reads fs body (read_at f body c).next

-- the cursor after fields in a row
unfoldable pub after : List Field → List ℕ → Cursor → Cursor
after [] body c = c
after (f ∷ fs) body c = after fs body (read_at f body c).next

-- what is answered at a cursor: the refusal that it met, if any
abbrev pub unless : {A : Type 0} → Fault → A → Result A
unless (Ok u) a = Ok a
unless (Err why) a = Err why

-- the place of a cursor, or its refusal
abbrev pub place_of : Cursor → Result ℕ
place_of c = unless c.fault c.at

-- what a field says, or why it is refused
abbrev pub field_of : Reading → Result FieldRead
field_of r = unless r.next.fault (record { value = r.value; start = r.start; next = r.next.at })

-- the same without the start
abbrev pub short_of : Reading → Result ShortRead
short_of r = unless r.next.fault (record { value = r.value; next = r.next.at })
