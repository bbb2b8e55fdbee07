-- 02: the texts that are taken, line by line, and the first bad line of the others.
use Rattle.std.specs.Prelude.{ℕ, suc, Bool, true, false, List, [], ◌∷◌, eqb, ℤ, length, Ok, Err}
use Rattle.std.specs.Int.Signed.{lt_z}
use Rattle.wing_node.specs.declared.refusal.Refusal.{Refusal}
use Rattle.wing_node.specs.Refusal.{string_not_utf8, no_fault, because, Fault}
use Rattle.wing_node.specs.Bool.{if, and}
use Rattle.wing_node.specs.Decimal.{integer_of}
use Rattle.wing_node.specs.Field.{big}
use Rattle.wing_node.specs.Value.{NodeValue, integer, float, string}
use Rattle.wing_mirror.specs.Rows.{Found, found, nothing}
use Rattle.wing_mirror.specs.Entry.{Entry, entry}
use Rattle.wing_mirror.specs.Call.{text_in, too_long, not_text}
use Rattle.wing_mirror.specs.Query.{same_bytes}
use Rattle.wing_mirror.specs.declared.origin.Origin.TheVariants.{Console}
use Rattle.wing_listing.specs.Parts.{newline, comma, parted, part}
use Rattle.wing_listing.specs.Integers.{is_integer, first}
use Rattle.wing_listing.specs.Hex.{are_pairs, from_pairs}
use Rattle.wing_listing.specs.Listing.{header, letter_i, letter_f, letter_s}
use Rattle.wing_node.specs.declared.refusal.Refusal.TheVariants.{IdNotAbove, LineWrong, StringLong}

-- ---- a line

-- 01, 02: the value of a kind letter: an integer; eight hex digits; hex pairs; there is no other kind
unfoldable pub is_value : ℕ → List ℕ → Bool
is_value k s =
    if (eqb k letter_i) (is_integer s) (if (eqb k letter_f) (and (eqb (length s) 8) (are_pairs s)) (if (eqb k letter_s) (are_pairs s) false))

-- the value that it says; nothing is asked of one out of form
unfoldable pub value_said : ℕ → List ℕ → NodeValue
value_said k s = if (eqb k letter_i) (integer (integer_of s)) (if (eqb k letter_f) (float (big (from_pairs s))) (string (from_pairs s)))

-- 02: three fields parted by commas: an integer, a kind letter and its value
unfoldable pub is_line : List ℕ → Bool
is_line line =
    and (eqb (length (parted comma line)) 3) (and (is_integer (part comma 0 line))
    (and (eqb (length (part comma 1 line)) 1) (is_value (first (part comma 1 line)) (part comma 2 line))))

-- the id that it says
abbrev pub id_said : List ℕ → ℤ
id_said line = integer_of (part comma 0 line)

-- the entry that it says; 02: a loaded listing's origins are 0
unfoldable pub entry_said : List ℕ → Entry
entry_said line = entry (id_said line) (value_said (first (part comma 1 line)) (part comma 2 line)) Console

-- 02: above the id before, if there is one
unfoldable pub above : Found ℤ → ℤ → Bool
above nothing id = true
above (found before) id = lt_z before id

-- 02: what is wrong with a value: 10 if it is a string over 256 bytes, 1 with its good if it is not UTF-8
unfoldable pub value_fault : NodeValue → Fault
value_fault v = if (too_long v) (because StringLong) (if (not_text v) (because (string_not_utf8 (text_in v))) no_fault)

-- 02: within a line 17, 18, 10, 1
unfoldable pub line_fault : Found ℤ → List ℕ → Fault
line_fault before line = if (is_line line) (if (above before (id_said line)) (value_fault (entry_said line).value) (because IdNotAbove)) (because LineWrong)

-- ---- a text

-- the entries of a text; or what is wrong with its first bad line, and that line's number
pub data Reading : Type 0 where
  good : List Entry → Reading
  bad : Refusal → ℕ → Reading

-- the reading after an entry: that entry comes first
unfoldable pub after : Entry → Reading → Reading
after e (good es) = good (e ∷ es)
after e (bad why line) = bad why line

-- the reading from a line of a number on: what is wrong with it, else the rest
abbrev pub unless_bad : Fault → ℕ → Reading → Reading
unless_bad (Ok u) n rest = rest
unless_bad (Err why) n rest = bad why n

-- 02: the first bad line decides. The lines from that of number n on, after an id if there is one; what stands after the last newline is a line out of form
unfoldable pub lines_from : ℕ → Found ℤ → List (List ℕ) → Reading
lines_from n before [] = good []
lines_from n before (rest ∷ []) = if (eqb (length rest) 0) (good []) (bad LineWrong n)
lines_from n before (line ∷ next ∷ lines) =
    unless_bad (line_fault before line) n (after (entry_said line) (lines_from (suc n) (found (id_said line)) (next ∷ lines)))

-- 02: the header is the first line
unfoldable pub after_header : List (List ℕ) → Reading
after_header [] = bad LineWrong 1
after_header (rest ∷ []) = bad LineWrong 1
after_header (line ∷ next ∷ lines) = if (same_bytes line header) (lines_from 2 nothing (next ∷ lines)) (bad LineWrong 1)

-- 02: each line ends with a newline byte
unfoldable pub reading_of : List ℕ → Reading
reading_of text = after_header (parted newline text)

-- the entries of a text that is taken
unfoldable pub entries_in : Reading → List Entry
entries_in (good es) = es
entries_in (bad why line) = []
