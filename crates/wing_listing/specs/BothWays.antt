-- 02: loading what was printed, and printing what was loaded.
use Rattle.std.specs.Prelude.{ℕ, ◌*◌, ◌/◌, ◌≤◌, true, ◌≡◌, ◌↔◌, List, map, length, drop, Ok}
use Rattle.wing_node.specs.declared.refusal.Refusal.{Refusal}
use Rattle.wing_node.specs.Utf8.{Decides}
use Rattle.wing_wire.specs.State.{fresh_state}
use Rattle.wing_wire.specs.Range.{AreBytes}
use Rattle.wing_mirror.specs.Rows.{Table, All}
use Rattle.wing_mirror.specs.Entry.{Entry}
use Rattle.wing_mirror.specs.Record.{width, entry_in, full}
use Rattle.wing_mirror.specs.Table.{table, rows, places_allowed, usable}
use Rattle.wing_mirror.specs.History.{EqualButOrigins}
use Rattle.wing_mirror.specs.Origins.{SameButOrigins, Taken}
use Rattle.wing_mirror.specs.declared.origin.Origin.TheVariants.{Console}
use Rattle.wing_listing.specs.Listing.{listing_of, printed}
use Rattle.wing_listing.specs.Reading.{is_line, good, bad, reading_of}
use Rattle.wing_listing.specs.FirstBad.{PrintedLine, TakenEntries, FirstBad}
use Rattle.wing_listing.specs.Calls.{LoadEffect, load_of}

-- the table that a load of n records leaves
abbrev pub loaded_table : LoadEffect → ℕ → Table
loaded_table l n = table l.memory n

-- 02: an equal mirror, its origins 0 whatever the others were, with a fresh decoder; the bytes past its last record are as they were
pub record EqualMirror (t : Table) (memory : List ℕ) (l : LoadEffect) : Type 0 where
  pub counted : l.reply.answer ≡ Ok t.count
  pub fresh : l.reply.state ≡ fresh_state
  pub sound : usable full (loaded_table l t.count) ≡ true
  pub equal : EqualButOrigins full (loaded_table l t.count) t
  pub rest : drop (width * t.count) l.memory ≡ drop (width * t.count) memory

-- 02: the table that was loaded is sound, its listing is the text, and its origins are 0
pub record PrintsAgain (text : List ℕ) (l : LoadEffect) (n : ℕ) : Type 0 where
  pub sound : usable full (loaded_table l n) ≡ true
  pub prints : printed (loaded_table l n) ≡ text
  pub origins : All (λ (e : Entry). e.origin ≡ Console) (map entry_in (rows full (loaded_table l n)))

-- what the two calls owe each other, and which texts are taken and sent back
pub record BothWays : Type 0 where
  -- a line is in form exactly if it is the line of an entry; whether its string is too long or no UTF-8 is not asked
  pub form : (line : List ℕ) → Decides (is_line line) (PrintedLine line)
  -- a text is read as entries exactly if it is their listing and a table takes them
  pub taken : (text : List ℕ) (es : List Entry) → (reading_of text ≡ good es ↔ ((listing_of es ≡ text) × TakenEntries es))
  -- and sent back for a line exactly if that is its first bad line, with that line's number
  pub wrong : (text : List ℕ) (why : Refusal) (line : ℕ) → (reading_of text ≡ bad why line ↔ FirstBad text why line)
  -- 02: loading a table printed in at most 65,536 bytes, into 1 to 1,024 places and at least as many as it has records, whatever their memory holds
  pub back : (t : Table) (memory : List ℕ) → AreBytes t.buffer → usable full t ≡ true → length (printed t) ≤ 65536 →
      places_allowed (length memory / width) ≡ true → t.count ≤ length memory / width → EqualMirror t memory (load_of (printed t) memory)
  -- 02: a listing carries no origin
  pub origins : (t u : Table) → Taken full t → Taken full u → SameButOrigins full t u → printed t ≡ printed u
  -- 02: printing a loaded text gives its bytes again
  pub again : (text memory : List ℕ) (n : ℕ) → (load_of text memory).reply.answer ≡ Ok n → PrintsAgain text (load_of text memory) n
