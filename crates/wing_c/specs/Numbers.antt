-- The numbers that stand for each answer of the libraries: an enum cannot cross the border to C. A refusal is its number with a minus sign; where it can
-- be 1 or 5, the good stands beside it.
use Rattle.std.specs.Prelude.{ℕ, ◌-◌, List, eqb, ℤ, pos, negsuc, Ok, Err, Some, Option, None, Bool, replicate, true, false}
use Rattle.wing_node.specs.Bool.{if}
use Rattle.wing_node.specs.Refusal.{refusal_number, good_beside}
use Rattle.wing_node.specs.Signed.{unsigned}
use Rattle.wing_node.specs.declared.refusal.Refusal.{Refusal}
use Rattle.wing_node.specs.declared.value.Value.{Value}
use Rattle.wing_node.specs.declared.value.Value.TheVariants.{Integer, Float, String}
use Rattle.wing_wire.specs.declared.meter.Requested.{Requested}
use Rattle.wing_wire.specs.declared.meter.MetersRead.{MetersRead}
use Rattle.wing_wire.specs.declared.unit.Answer.{Answer}
use Rattle.wing_wire.specs.declared.unit.Answer.TheVariants.{More, Integer as IntegerAt, Float as FloatAt, String as StringAt, Body, End, Refused as NextRefused}
use Rattle.wing_mirror.specs.declared.answer.Counts.{Counts}
use Rattle.wing_mirror.specs.Origin.{origin_number}
use Rattle.wing_c.specs.declared.answers.Outcome.{Outcome}
use Rattle.wing_c.specs.declared.answers.WingWritten.{WingWritten}
use Rattle.wing_c.specs.declared.answers.WingSet.{WingSet}
use Rattle.wing_c.specs.declared.answers.WingFed.{WingFed}
use Rattle.wing_c.specs.declared.answers.WingLookup.{WingLookup}
use Rattle.wing_c.specs.declared.answers.WingRecord.{WingRecord}
use Rattle.wing_c.specs.declared.answers.WingEvent.{WingEvent}
use Rattle.wing_c.specs.declared.answers.WingRequested.{WingRequested}
use Rattle.wing_c.specs.declared.answers.WingMeters.{WingMeters}
use Rattle.wing_c.specs.declared.answers.WingLoaded.{WingLoaded}
use Rattle.wing_node.specs.Result.{Result}
use Rattle.wing_listing.specs.Answers.{Loaded}
use Rattle.wing_mirror.specs.declared.answer.RecordRead.{RecordRead}
use Rattle.wing_mirror.specs.Counts.{zero_counts}

-- a refusal's number with a minus sign
abbrev pub minus : ℕ → ℤ
minus n = if (eqb n 0) (pos 0) (negsuc (n - 1))

-- 02: a call that is sent back: its number with the sign, and beside 1 and 5 the good, else 0
abbrev pub sent_back : Refusal → Outcome
sent_back why = record { status = minus (refusal_number why); good = good_beside why }

-- one that is not, with nothing to tell
abbrev pub no_refusal : Outcome
no_refusal = record { status = pos 0; good = 0 }

-- how many bytes were written
abbrev pub written_as : Outcome → ℕ → WingWritten
written_as o len = record { status = o.status; good = o.good; len = len }

-- a command, a definition or a listing: 0 and the bytes written
abbrev pub written_numbers : Result ℕ → WingWritten
written_numbers (Ok n) = written_as no_refusal n
written_numbers (Err why) = written_as (sent_back why) 0

-- how many bytes a set wrote, and the records there are
abbrev pub set_as : Outcome → ℕ → ℕ → WingSet
set_as o len count = record { status = o.status; good = o.good; len = len; count = count }

-- a set through the mirror: 0 and the bytes written; the records there are, as many as before a refused set
abbrev pub set_numbers : Result ℕ → ℕ → WingSet
set_numbers (Ok n) count = set_as no_refusal n count
set_numbers (Err why) count = set_as (sent_back why) 0 count

-- a status, the six counts, the records there are
abbrev pub fed_as : ℤ → Counts → ℕ → WingFed
fed_as status c count =
    record {
      status = status;
      stored = c.stored;
      unplaced = c.unplaced;
      strings_refused = c.strings_refused;
      definitions_read = c.definitions_read;
      definitions_refused = c.definitions_refused;
      ends = c.ends;
      count = count;
    }

-- a feed: 0, the six counts, the records there are; a refused feed counts nothing
abbrev pub fed_numbers : Result Counts → ℕ → WingFed
fed_numbers (Ok c) count = fed_as (pos 0) c count
fed_numbers (Err why) count = fed_as (minus (refusal_number why)) zero_counts count

-- a lookup: 1 and the record's number; 0 for none
abbrev pub lookup_numbers : Result (Option ℕ) → WingLookup
lookup_numbers (Ok (Some n)) = record { status = pos 1; number = n }
lookup_numbers (Ok None) = record { status = pos 0; number = 0 }
lookup_numbers (Err why) = record { status = minus (refusal_number why); number = 0 }

-- two tables: 1 if they are the same, else 0
abbrev pub same_number : Result Bool → ℤ
same_number (Ok true) = pos 1
same_number (Ok false) = pos 0
same_number (Err why) = minus (refusal_number why)

-- a record that holds an integer, float bits or a string, and its origin by number. 01's kinds: 0 integer, 1 float, 2 string
abbrev pub held_numbers : ℤ → Value → ℕ → List ℕ → WingRecord
held_numbers id (Integer x) o s = record { status = pos 0; id = id; value = unsigned 31 x; len = 0; kind = 0; origin = o; string = s }
held_numbers id (Float bits) o s = record { status = pos 0; id = id; value = bits; len = 0; kind = 1; origin = o; string = s }
held_numbers id (String n) o s = record { status = pos 0; id = id; value = 0; len = n; kind = 2; origin = o; string = s }

-- a record read: 0, its id, its value, its origin and the bytes of a string, zero-filled. 02's origins: 0 console, 1 set order
abbrev pub record_numbers : Result RecordRead → WingRecord
record_numbers (Ok r) = held_numbers r.id r.value (origin_number r.origin) r.string
record_numbers (Err why) =
    record { status = minus (refusal_number why); id = pos 0; value = 0; len = 0; kind = 0; origin = 0; string = replicate 256 0 }

-- an event that was read, at the current node: 1, its kind, the 32 bits of a number or how many bytes a string or a body has
abbrev pub event_as : ℕ → ℕ → ℕ → ℤ → ℕ → WingEvent
event_as kind value len node taken = record { status = pos 1; good = 0; node = node; value = value; len = len; kind = kind; taken = taken }

-- no event: 0 for more, or a refusal
abbrev pub no_event : Outcome → ℤ → ℕ → WingEvent
no_event o node taken = record { status = o.status; good = o.good; node = node; value = 0; len = 0; kind = 0; taken = taken }

-- a next call. Kinds: 0 integer, 1 float, 2 string, 3 body, 4 end
abbrev pub event_numbers : Answer → ℤ → ℕ → WingEvent
event_numbers More node taken = no_event no_refusal node taken
event_numbers (IntegerAt x) node taken = event_as 0 (unsigned 31 x) 0 node taken
event_numbers (FloatAt bits) node taken = event_as 1 bits 0 node taken
event_numbers (StringAt n) node taken = event_as 2 0 n node taken
event_numbers (Body n) node taken = event_as 3 0 n node taken
event_numbers End node taken = event_as 4 0 0 node taken
event_numbers (NextRefused why) node taken = no_event (sent_back why) node taken

-- a meter request: 0, the new meter id and the bytes written
abbrev pub requested_numbers : Result Requested → WingRequested
requested_numbers (Ok r) = record { status = pos 0; id = r.id; len = r.len }
requested_numbers (Err why) = record { status = minus (refusal_number why); id = 0; len = 0 }

-- a meter packet: 0, its meter id and how many readings it holds
abbrev pub meters_numbers : Result MetersRead → WingMeters
meters_numbers (Ok r) = record { status = pos 0; id = r.id; count = r.count }
meters_numbers (Err why) = record { status = minus (refusal_number why); id = 0; count = 0 }

-- how many records a load left, and the line that it is about
abbrev pub loaded_as : Outcome → ℕ → ℕ → WingLoaded
loaded_as o count line = record { status = o.status; good = o.good; count = count; line = line }

-- a load: 0 and the records there are; or a refusal and the line that it is about
abbrev pub loaded_numbers : Loaded → WingLoaded
loaded_numbers (Ok n) = loaded_as no_refusal n 0
loaded_numbers (Err b) = loaded_as (sent_back b.why) 0 b.line
