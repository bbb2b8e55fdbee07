-- Feeds and sets of a mirror, its records, which tables are taken, and its recall, written out: a table with one joint proof. What the calls leave is what the definitions give here, by the
-- contracts of the calls, and for `counts` and `come_out`, which run the plain machine, by the theorem on histories.
use Rattle.std.specs.Prelude.{ℕ, ◌-◌, Bool, true, false, List, [], ◌∷◌, ◌++◌, map, pos, negsuc, length, replicate}
use Rattle.wing_node.specs.Bytes.{joined}
use Rattle.wing_node.specs.Value.{integer, float, string}
use Rattle.wing_node.specs.declared.refusal.Refusal.TheVariants.{StringNotUtf8, NoPlace}
use Rattle.wing_mirror.specs.Entry.{Entry, entry}
use Rattle.wing_mirror.specs.Layout.{kept}
use Rattle.wing_mirror.specs.Record.{record_of, entry_in, full}
use Rattle.wing_mirror.specs.Table.{table, places_allowed, usable, put}
use Rattle.wing_mirror.specs.Counts.{six, mark_number, refusal_mark}
use Rattle.wing_mirror.specs.Call.{Call, feed, set, Outcome, fed, sent, refused, run_all}
use Rattle.wing_mirror.specs.Machine.{new_machine, machine_step}
use Rattle.wing_mirror.specs.Recall.{recall_bytes}
use Rattle.wing_mirror.specs.History.{mirror_run}
use Rattle.wing_mirror.specs.declared.answer.Counts.{Counts}
use Rattle.wing_mirror.specs.declared.origin.Origin.TheVariants.{Console, SetOrder}

-- what a case gives: how calls came out, bytes or numbers, or answers to a test
pub data Shown : Type 0 where
  outcomes : List Outcome → Shown
  bytes : List ℕ → Shown
  answers : List Bool → Shown
  says : Entry → Shown

-- what the definitions give, and what is wanted
pub record Case : Type 0 where
  pub got : Shown
  pub wanted : Shown

-- a case by both of its sides
abbrev pub case : Shown → Shown → Case
case got wanted = record { got = got; wanted = wanted }

-- the counts of a feed to a new machine with one place
unfoldable pub counts : List ℕ → Counts → Case
counts given c = case (outcomes ((machine_step (λ v. kept) 1 new_machine (feed given)).outcome ∷ [])) (outcomes (fed c ∷ []))

-- how calls come out, one after the other, of a new machine with one place
unfoldable pub come_out : List Call → List Outcome → Case
come_out calls os = case (outcomes (run_all (machine_step (λ v. kept) 1) new_machine calls).outcomes) (outcomes os)

-- the table buffer of a new mirror after a call: it held so many bytes a5
unfoldable pub leaves : ℕ → Call → List ℕ → Case
leaves size call buffer = case (bytes (mirror_run full (replicate size 0xa5) (call ∷ [])).state.table.buffer) (bytes buffer)

-- the record of an entry
unfoldable pub lays : Entry → List ℕ → Case
lays e r = case (bytes (record_of e)) (bytes r)

-- the recall of a table of these records
unfoldable pub recalls : List Entry → ℕ → List ℕ → Case
recalls es n out = case (bytes (recall_bytes full (table (joined (map record_of es)) n))) (bytes out)

-- bytes at the front of a place, and zeros after them
abbrev pub place : List ℕ → List ℕ
place front = front ++ replicate (264 - length front) 0x00

-- whether the calls take a table of these bytes with so many records
unfoldable pub takes : List ℕ → ℕ → Bool → Case
takes buffer count answer = case (answers (usable full (table buffer count) ∷ [])) (answers (answer ∷ []))

-- a definition of 15 bytes with a name of one byte: the parser takes it with 41, and answers 5 with 80
abbrev pub definition : ℕ → List ℕ
definition letter = 0xdf ∷ 0xde ∷ 0x00 ∷ 0x0f ∷ (replicate 10 0x00 ++ (0x01 ∷ letter ∷ 0x00 ∷ 0x00 ∷ 0x00 ∷ []))

-- −2 is the float 3f800000, from the console
abbrev pub minus_two : Entry
minus_two = entry (negsuc 1) (float 0x3f800000) Console

-- 1 is 5, by a set order
abbrev pub one : Entry
one = entry (pos 1) (integer (pos 5)) SetOrder

-- 2 is "AB", from the console
abbrev pub two : Entry
two = entry (pos 2) (string (0x41 ∷ 0x42 ∷ [])) Console

-- each case with what it shows
unfoldable pub cases : List Case
cases =
    -- the six counts apart: 1 value stored, 2 of another node with no place, 3 strings refused, 4 definitions read, 5 refused (3, 4, 4, 5, 5), 6 ends
    counts
    ((0x05 ∷ 0xd7 ∷ 0x00 ∷ 0x00 ∷ 0x00 ∷ 0x01 ∷ 0x05 ∷ 0x05 ∷ []) ++ ((0x80 ∷ 0x80 ∷ 0x80 ∷ 0x80 ∷ 0x80 ∷ 0x80 ∷ []) ++
    (joined (replicate 4 (definition 0x41)) ++ ((0xdf ∷ 0xde ∷ 0x00 ∷ 0x00 ∷ 0x00 ∷ 0x00 ∷ 0x00 ∷ 0x00 ∷ []) ++
    ((0xdf ∷ 0xde ∷ 0x00 ∷ 0x01 ∷ 0x41 ∷ 0xdf ∷ 0xde ∷ 0x00 ∷ 0x01 ∷ 0x42 ∷ []) ++
    (joined (replicate 2 (definition 0x80)) ++ (0xde ∷ 0xde ∷ 0xde ∷ 0xde ∷ 0xde ∷ 0xde ∷ [])))))))
    (six 1 2 3 4 5 6) ∷
    -- 01: the newer replaces the older, and is stored too
    counts (0x05 ∷ 0x06 ∷ 0x07 ∷ []) (six 3 0 0 0 0 0) ∷
    -- refusals 1 to 6: the strings', the definitions' four, and one that is not counted
    case (bytes (map (λ (n : ℕ). mark_number (refusal_mark n)) (1 ∷ 2 ∷ 3 ∷ 4 ∷ 5 ∷ 6 ∷ []))) (bytes (2 ∷ 4 ∷ 4 ∷ 4 ∷ 4 ∷ 6 ∷ [])) ∷
    -- one place: a set takes it, and again; another node's gets 6, and its fed value has no place; a string that is not UTF-8 is 1
    come_out
    (set (pos 7) (integer (pos 63)) (replicate 6 0) ∷ set (pos 7) (integer (pos 5)) (replicate 9 0) ∷ set (pos 8) (integer (pos 5)) (replicate 9 0) ∷
    feed (0xd7 ∷ 0x00 ∷ 0x00 ∷ 0x00 ∷ 0x08 ∷ 0x05 ∷ []) ∷ set (pos 7) (string (0x41 ∷ 0xc3 ∷ [])) [] ∷ [])
    (sent (0xd7 ∷ 0x00 ∷ 0x00 ∷ 0x00 ∷ 0x07 ∷ 0x3f ∷ []) ∷ sent (0xd7 ∷ 0x00 ∷ 0x00 ∷ 0x00 ∷ 0x07 ∷ 0x05 ∷ []) ∷ refused NoPlace ∷
    fed (six 0 1 0 0 0 0) ∷ refused (StringNotUtf8 1) ∷ []) ∷
    -- records: ff ff ff fe, float, console, 4, 3f 80 00 00
    lays minus_two ((0xff ∷ 0xff ∷ 0xff ∷ 0xfe ∷ 0x01 ∷ 0x00 ∷ 0x00 ∷ 0x04 ∷ 0x3f ∷ 0x80 ∷ 0x00 ∷ 0x00 ∷ []) ++ replicate 252 0x00) ∷
    -- 00 00 00 01, integer, set order, 4, 00 00 00 05
    lays one ((0x00 ∷ 0x00 ∷ 0x00 ∷ 0x01 ∷ 0x00 ∷ 0x01 ∷ 0x00 ∷ 0x04 ∷ 0x00 ∷ 0x00 ∷ 0x00 ∷ 0x05 ∷ []) ++ replicate 252 0x00) ∷
    -- 00 00 00 02, string, console, 2, 41 42
    lays two ((0x00 ∷ 0x00 ∷ 0x00 ∷ 0x02 ∷ 0x02 ∷ 0x00 ∷ 0x00 ∷ 0x02 ∷ 0x41 ∷ 0x42 ∷ []) ++ replicate 254 0x00) ∷
    -- what a feed and a set leave in one place and five bytes more: the record, and the five bytes as they were
    leaves 269 (feed (0xd7 ∷ 0x00 ∷ 0x00 ∷ 0x00 ∷ 0x02 ∷ 0x81 ∷ 0x41 ∷ 0x42 ∷ [])) (record_of two ++ replicate 5 0xa5) ∷
    leaves 269 (set (pos 1) (integer (pos 5)) (replicate 9 0x00)) (record_of one ++ replicate 5 0xa5) ∷
    -- a lower id put after a higher one stands before it
    case (bytes (put full minus_two (put full one (table (replicate 533 0xa5) 0))).buffer) (bytes (record_of minus_two ++ (record_of one ++ replicate 5 0xa5))) ∷
    -- a record as an older table has it: 00 00 00 07, integer, 00, 4, 00 00 00 05: 7 is 5, from the console
    case (says (entry_in (place (0x00 ∷ 0x00 ∷ 0x00 ∷ 0x07 ∷ 0x00 ∷ 0x00 ∷ 0x00 ∷ 0x04 ∷ 0x00 ∷ 0x00 ∷ 0x00 ∷ 0x05 ∷ [])))) (says (entry (pos 7) (integer (pos 5)) Console)) ∷
    -- its table is taken, and with origin 1; not with origin 2, with kind 3, with length 3, with a byte after the number, with two records in one place, nor without a place
    takes (place (0x00 ∷ 0x00 ∷ 0x00 ∷ 0x07 ∷ 0x00 ∷ 0x00 ∷ 0x00 ∷ 0x04 ∷ 0x00 ∷ 0x00 ∷ 0x00 ∷ 0x05 ∷ [])) 1 true ∷
    takes (place (0x00 ∷ 0x00 ∷ 0x00 ∷ 0x07 ∷ 0x00 ∷ 0x01 ∷ 0x00 ∷ 0x04 ∷ 0x00 ∷ 0x00 ∷ 0x00 ∷ 0x05 ∷ [])) 1 true ∷
    takes (place (0x00 ∷ 0x00 ∷ 0x00 ∷ 0x07 ∷ 0x00 ∷ 0x02 ∷ 0x00 ∷ 0x04 ∷ 0x00 ∷ 0x00 ∷ 0x00 ∷ 0x05 ∷ [])) 1 false ∷
    takes (place (0x00 ∷ 0x00 ∷ 0x00 ∷ 0x07 ∷ 0x03 ∷ 0x00 ∷ 0x00 ∷ 0x04 ∷ 0x00 ∷ 0x00 ∷ 0x00 ∷ 0x05 ∷ [])) 1 false ∷
    takes (place (0x00 ∷ 0x00 ∷ 0x00 ∷ 0x07 ∷ 0x00 ∷ 0x00 ∷ 0x00 ∷ 0x03 ∷ 0x00 ∷ 0x00 ∷ 0x00 ∷ 0x05 ∷ [])) 1 false ∷
    takes (place (0x00 ∷ 0x00 ∷ 0x00 ∷ 0x07 ∷ 0x00 ∷ 0x00 ∷ 0x00 ∷ 0x04 ∷ 0x00 ∷ 0x00 ∷ 0x00 ∷ 0x05 ∷ 0x01 ∷ [])) 1 false ∷
    takes (place (0x00 ∷ 0x00 ∷ 0x00 ∷ 0x07 ∷ 0x00 ∷ 0x00 ∷ 0x00 ∷ 0x04 ∷ 0x00 ∷ 0x00 ∷ 0x00 ∷ 0x05 ∷ [])) 2 false ∷
    takes (replicate 263 0x00) 0 false ∷
    -- a string of 2 bytes; not one whose bytes are not UTF-8
    takes (place (0x00 ∷ 0x00 ∷ 0x00 ∷ 0x07 ∷ 0x02 ∷ 0x00 ∷ 0x00 ∷ 0x02 ∷ 0xc3 ∷ 0xa9 ∷ [])) 1 true ∷
    takes (place (0x00 ∷ 0x00 ∷ 0x00 ∷ 0x07 ∷ 0x02 ∷ 0x00 ∷ 0x00 ∷ 0x01 ∷ 0xc3 ∷ [])) 1 false ∷
    -- signed ids rise: −2, 1; not 1, −2, nor 1, 1
    takes (record_of minus_two ++ record_of one) 2 true ∷
    takes (record_of one ++ record_of minus_two) 2 false ∷
    takes (record_of one ++ record_of one) 2 false ∷
    -- recall: df d1, then the set orders in the order of the records, whoever gave the values
    recalls (minus_two ∷ one ∷ two ∷ []) 3
    (0xdf ∷ 0xd1 ∷ 0xd7 ∷ 0xff ∷ 0xff ∷ 0xff ∷ 0xfe ∷ 0xd5 ∷ 0x3f ∷ 0x80 ∷ 0x00 ∷ 0x00 ∷ 0xd7 ∷ 0x00 ∷ 0x00 ∷ 0x00 ∷ 0x01 ∷ 0x05 ∷
    0xd7 ∷ 0x00 ∷ 0x00 ∷ 0x00 ∷ 0x02 ∷ 0x81 ∷ 0x41 ∷ 0x42 ∷ []) ∷
    -- of no records: df d1
    recalls [] 0 (0xdf ∷ 0xd1 ∷ []) ∷
    -- 01: places 1 to 1,024: 0, 1, 1,024, 1,025
    case (answers (map places_allowed (0 ∷ 1 ∷ 1024 ∷ 1025 ∷ []))) (answers (false ∷ true ∷ true ∷ false ∷ [])) ∷ []
