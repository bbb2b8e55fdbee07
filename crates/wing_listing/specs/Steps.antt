-- What the steps of the code answer, by the definitions of a text.
use Rattle.std.specs.Prelude.{ℕ, ◌+◌, min, Bool, true, not, ◌≡◌, List, map, ltb, leb, eqb, ℤ, pos, neg_ℤ, length, Ok, Err, Option, Some, None}
use Rattle.wing_node.specs.declared.refusal.Refusal.{Refusal}
use Rattle.wing_node.specs.Refusal.{Fault}
use Rattle.wing_node.specs.Bool.{if, and}
use Rattle.wing_node.specs.Bytes.{joined}
use Rattle.wing_node.specs.Decimal.{number_spelled, integer_of}
use Rattle.wing_mirror.specs.Rows.{Found, found, nothing}
use Rattle.wing_mirror.specs.Entry.{Entry}
use Rattle.wing_mirror.specs.Record.{entry_in}
use Rattle.wing_mirror.specs.Table.{every, places_allowed}
use Rattle.wing_listing.specs.Parts.{comma, part, ended}
use Rattle.wing_listing.specs.Integers.{is_digit, first, is_natural, is_integer}
use Rattle.wing_listing.specs.Listing.{letter_i, letter_f, letter_s, line_of}
use Rattle.wing_listing.specs.Reading.{is_line, id_said, line_fault, Reading, good, bad, reading_of}
use Rattle.wing_listing.specs.declared.line.Line.{Line}
use Rattle.wing_node.specs.Result.{Result}
use Rattle.wing_node.specs.declared.refusal.Refusal.TheVariants.{NoPlace, NumberOver, TableUnsound}
use Rattle.wing_listing.specs.Answers.{Loaded}

-- ---- integers

-- the number that digits spell, 2^32 for one that is no less and for a text that is not of digits alone
unfoldable pub number_up_to : List ℕ → ℕ
number_up_to s = if (every is_digit s) (min (number_spelled s) 0x100000000) 0x100000000

-- an integer if it is in form
abbrev pub read_as : Bool → ℤ → Option ℤ
read_as formed x = if formed (Some x) None

-- digits without a sign
unfoldable pub natural_read : List ℕ → Option ℤ
natural_read s = read_as (and (is_natural s) (ltb (number_spelled s) 0x80000000)) (pos (number_spelled s))

-- digits after a minus sign
unfoldable pub negative_read : List ℕ → Option ℤ
negative_read s = read_as (and (and (not (eqb (first s) 0x30)) (is_natural s)) (leb (number_spelled s) 0x80000000)) (neg_ℤ (pos (number_spelled s)))

-- any text
unfoldable pub integer_read : List ℕ → Option ℤ
integer_read s = read_as (is_integer s) (integer_of s)

-- ---- a line

-- where a line's value begins: after its first field, a comma, the kind letter and a comma
abbrev pub value_at : List ℕ → ℕ
value_at line = length (part comma 0 line) + 3

-- a line in form: its id, kind letter and the place of its value
pub record LineSays (r : Line) (line : List ℕ) : Type 0 where
  pub formed : is_line line ≡ true
  pub id : r.id ≡ id_said line
  pub kind : r.kind ≡ first (part comma 1 line)
  pub from : r.from ≡ value_at line

-- the id of the line before, if there is one
unfoldable pub id_before : Option ℤ → Found ℤ
id_before (Some id) = found id
id_before None = nothing

-- an id, unless something is wrong
abbrev pub unless_fault : Fault → ℤ → Result ℤ
unless_fault (Ok u) id = Ok id
unless_fault (Err why) id = Err why

-- a line's id, or what is wrong with the line
unfoldable pub judged_as : Found ℤ → List ℕ → Result ℤ
judged_as before line = unless_fault (line_fault before line) (id_said line)

-- ---- a text

-- a text that is sent back
abbrev pub scanned_bad : Refusal → ℕ → Loaded
scanned_bad why line = Err (record { why = why; line = line })

-- what is wrong with it, or how many entries it has
unfoldable pub scanned_as : Reading → Loaded
scanned_as (good es) = Ok (length es)
scanned_as (bad why line) = scanned_bad why line

-- 6 where the records outnumber the places; a text that is sent back stays what it is
unfoldable pub fitting : Loaded → ℕ → Loaded
fitting (Ok n) places = if (leb n places) (Ok n) (scanned_bad NoPlace 0)
fitting (Err b) places = Err b

-- all that a load is refused for, as `load_of` has it
unfoldable pub checked_as : List ℕ → ℕ → Loaded
checked_as text places = if (places_allowed places) (if (leb (length text) 65536) (fitting (scanned_as (reading_of text)) places) (scanned_bad NumberOver 0)) (scanned_bad TableUnsound 0)

-- ---- records

-- the letter of a record's kind
unfoldable pub letter_in : ℕ → ℕ
letter_in kind = if (eqb kind 0) letter_i (if (eqb kind 1) letter_f letter_s)

-- the kind of a letter that is not i
unfoldable pub kind_of_letter : ℕ → ℕ
kind_of_letter letter = if (eqb letter letter_f) 1 2

-- the lines of records, one after the other
abbrev pub lines_of : List (List ℕ) → List ℕ
lines_of rs = joined (map (λ (e : Entry). ended (line_of e)) (map entry_in rs))
