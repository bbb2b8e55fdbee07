-- 02: printing a table, and loading a text into one.
use Rattle.std.specs.Prelude.{ℕ, ◌/◌, List, map, leb, length, Err, Ok}
use Rattle.wing_node.specs.declared.refusal.Refusal.{Refusal}
use Rattle.wing_node.specs.Bool.{if}
use Rattle.wing_wire.specs.State.{fresh_state}
use Rattle.wing_wire.specs.Write.{WriteEffect, write_effect, write_of}
use Rattle.wing_mirror.specs.Rows.{Table, laid}
use Rattle.wing_mirror.specs.Entry.{Entry}
use Rattle.wing_mirror.specs.Record.{width, record_of, full}
use Rattle.wing_mirror.specs.Table.{places_allowed, usable}
use Rattle.wing_listing.specs.Listing.{printed}
use Rattle.wing_listing.specs.Reading.{Reading, good, bad, reading_of}
use Rattle.wing_listing.specs.declared.answer.LoadReply.{LoadReply}
use Rattle.wing_node.specs.declared.refusal.Refusal.TheVariants.{NoPlace, NumberOver, TableUnsound}
use Rattle.wing_listing.specs.Answers.{Loaded}

-- 01, 02: 7 for a table that is not usable; else its listing, or 9 with the output as it was
unfoldable pub print_of : Table → List ℕ → WriteEffect
print_of t out = if (usable full t) (write_of (printed t) out) (write_effect (Err TableUnsound) out)

-- what a load leaves: its reply and the table memory
pub record LoadEffect : Type 0 where
  pub reply : LoadReply
  pub memory : List ℕ

-- a reply and the table memory
abbrev pub load_effect : LoadReply → List ℕ → LoadEffect
load_effect reply memory = record { reply = reply; memory = memory }

-- an answer, with a fresh decoder state
abbrev pub reply_of : Loaded → LoadReply
reply_of answer = record { answer = answer; state = fresh_state }

-- 02: a text that is sent back leaves the table memory untouched
abbrev pub sent_back : Refusal → ℕ → List ℕ → LoadEffect
sent_back why line memory = load_effect (reply_of (Err (record { why = why; line = line }))) memory

-- 02: old records are replaced; the bytes past the last record are as they were. 6 only when no line is bad
unfoldable pub load_entries : List Entry → List ℕ → LoadEffect
load_entries es memory =
    if (leb (length es) (length memory / width)) (load_effect (reply_of (Ok (length es))) (laid width (map record_of es) memory)) (sent_back NoPlace 0 memory)

-- the entries of a text that is read to its end; else what is wrong with the first bad line, and its number
unfoldable pub load_read : Reading → List ℕ → LoadEffect
load_read (good es) memory = load_entries es memory
load_read (bad why line) memory = sent_back why line memory

-- 02: 7 by the places alone, then 14, then the lines, then 6
unfoldable pub load_of : List ℕ → List ℕ → LoadEffect
load_of text memory =
    if (places_allowed (length memory / width)) (if (leb (length text) 65536) (load_read (reading_of text) memory) (sent_back NumberOver 0 memory)) (sent_back TableUnsound 0 memory)
