-- What is promised of each call of the mirror, by its arguments, its answer and the lent buffers after it.
use Rattle.std.specs.Prelude.{ℕ, ◌+◌, ◌≤◌, ◌-◌, ◌<◌, not, true, false, ◌≡◌, ◌↔◌, List, [], ◌∷◌, ◌++◌, map, ltb, leb, eqb, ℤ, length, get_or, replicate, Ok, Err, Option, Bool, is_ok}
use Rattle.std.specs.Int.Signed.{lt_z}
use Rattle.wing_node.specs.Bool.{if}
use Rattle.wing_node.specs.Signed.{InBits}
use Rattle.wing_node.specs.Utf8.{good, utf8}
use Rattle.wing_node.specs.Bytes.{joined}
use Rattle.wing_node.specs.declared.refusal.Refusal.{Refusal}
use Rattle.wing_node.specs.Definition.{definition_of}
use Rattle.wing_node.specs.Answers.{DefinitionValues, parsed_result}
use Rattle.wing_node.specs.Result.{ok, refused, Result}
use Rattle.wing_node.specs.Value.{NodeValue, integer, float, string}
use Rattle.wing_node.specs.declared.value.Value.{Value}
use Rattle.wing_node.specs.declared.value.Value.TheVariants.{Integer, Float, String}
use Rattle.wing_wire.specs.State.{body_limit, sound_state}
use Rattle.wing_wire.specs.Range.{AreBytes, PendingByte, InRange}
use Rattle.wing_wire.specs.Command.{set_bytes}
use Rattle.wing_wire.specs.Reader.{value, body, end, refused as refusal}
use Rattle.wing_wire.specs.Repeated.{Accepted, fed_state, NextCalls}
use Rattle.wing_wire.specs.SetOrders.{ReadsAsSet}
use Rattle.wing_wire.specs.Answers.{written_result}
use Rattle.wing_wire.specs.declared.state.State.{State}
use Rattle.wing_mirror.specs.Rows.{Table, places, found, nothing, All}
use Rattle.wing_mirror.specs.Entry.{entry, rank_of, ids, Entry}
use Rattle.wing_mirror.specs.Record.{width, entry_in, full}
use Rattle.wing_mirror.specs.Table.{rows, usable, put, fits, lookup_of}
use Rattle.wing_mirror.specs.Query.{same_tables}
use Rattle.wing_mirror.specs.Answers.{lookup_result, record_result}
use Rattle.wing_mirror.specs.Lookups.{RecordOf}
use Rattle.wing_mirror.specs.HighEnd.{counted_of, SearchReads}
use Rattle.wing_mirror.specs.Counts.{six, zero_counts, total}
use Rattle.wing_mirror.specs.Call.{Call, feed, set, text_in, too_long, not_text, run_all, TypedCall}
use Rattle.wing_mirror.specs.Mirror.{TableTally, table_tally, keep_event, fed_all}
use Rattle.wing_mirror.specs.Machine.{Machine, decode_all, events, machine_step}
use Rattle.wing_mirror.specs.Recall.{recall_bytes}
use Rattle.wing_mirror.specs.History.{Mirror, Agree, Equal, feed_outcome, set_outcome, mirror_step, Rebuilt}
use Rattle.wing_mirror.specs.Origins.{entries_of, GivenBySet, GivenByFeed, Taken}
use Rattle.wing_mirror.specs.declared.answer.Counts.{Counts}
use Rattle.wing_mirror.specs.declared.answer.RecordRead.{RecordRead}
use Rattle.wing_mirror.specs.declared.origin.Origin.TheVariants.{Console, SetOrder}
use Rattle.promises.specs.Refusals.{string_wrong, body_long, body_empty, no_place, table_unsound, state_unsound, string_long, number_over}
use Rattle.promises.specs.Lines.{Line, ◌gives◌, by, Answers, sends}
use Rattle.promises.specs.Wire.{Writes, command_lines, with_event}
use Rattle.promises.specs.TableBytes.{place_at, id_at, NoPlaceLeft}

-- 01: a mirror is a decoder state, a table buffer and its count
abbrev pub mirror : State → Table → Mirror
mirror s t = record { decoder = s; table = t }

-- ---- 01's lines, call by call, in the order in which they apply

-- a feed: the state, the table, too many bytes
abbrev pub feed_lines : Mirror → List ℕ → List Line
feed_lines m bytes =
    (not (sound_state m.decoder) gives state_unsound) ∷ (not (usable full m.table) gives table_unsound) ∷ (not (leb (length bytes) 65536) gives number_over) ∷ []

-- a set through the mirror: the table, the string's length, its UTF-8 (02: with its good), no place, too short an output
abbrev pub set_lines : ℤ → NodeValue → Table → List ℕ → List Line
set_lines id v t out =
    (not (usable full t) gives table_unsound) ∷ (too_long v gives string_long) ∷ (not_text v gives string_wrong (good (text_in v))) ∷ (not (fits full (entry id v SetOrder) t) gives no_place) ∷ command_lines (set_bytes id v) out

-- a value to be set: a string over 256 bytes, one that is not UTF-8 (02: with its good); a number is sent back by no line
abbrev pub value_lines : NodeValue → List Line
value_lines (integer x) = []
value_lines (float bits) = []
value_lines (string s) = (not (leb (length s) 256) gives string_long) ∷ (not (utf8 s) gives string_wrong (good s)) ∷ []

-- a set through the mirror, by the value's own lines: the table, the value, no place, too short an output
abbrev pub set_value_lines : ℤ → NodeValue → Table → List ℕ → List Line
set_value_lines id v t out =
    (not (usable full t) gives table_unsound) ∷ (value_lines v ++ ((not (fits full (entry id v SetOrder) t) gives no_place) ∷ command_lines (set_bytes id v) out))

-- recall: the table, too short an output
abbrev pub recall_lines : Table → List ℕ → List Line
recall_lines t out = (not (usable full t) gives table_unsound) ∷ command_lines (recall_bytes full t) out

-- a table that is asked: not usable
abbrev pub table_lines : Table → List Line
table_lines t = (not (usable full t) gives table_unsound) ∷ []

-- a record by number: a number that is not below the count as well
abbrev pub record_lines : Table → ℕ → List Line
record_lines t number = (not (usable full t) gives table_unsound) ∷ (not (ltb number t.count) gives number_over) ∷ []

-- two tables
abbrev pub same_lines : Table → Table → List Line
same_lines t u = (not (usable full t) gives table_unsound) ∷ (not (usable full u) gives table_unsound) ∷ []

-- ---- what is promised

-- a feed
pub record FeedCall (m : Mirror) (bytes : List ℕ) (answer : Result Counts) (after : Mirror) : Type 0 where
  -- demand 1: 8, 7, 14, and then the mirror is as it was and nothing is counted: there are no counts; else the counts of what the bytes held
  pub answered : Answers (feed_lines m bytes) (fed_all full m.decoder m.table bytes).memo.counts answer (after ≡ m)
  -- demand 3: one step of the mirror's history is this call
  pub step : mirror_step full m (feed bytes) ≡ record { state = after; outcome = feed_outcome answer }
  -- 02: who gave what the records say after it; bytes and the state's numbers are in the range of their types
  pub origins : AreBytes m.table.buffer → InRange m.decoder.control m.decoder.store → AreBytes bytes → is_ok answer ≡ true →
      GivenByFeed full (places width m.table) (events m.decoder bytes) (entries_of full m.table) (entries_of full after.table)
  -- 01: the sum of the counts is at most the bytes plus 1
  pub bounded : (counts : Counts) → answer ≡ ok counts → total counts ≤ length bytes + 1
  -- 01: it runs next until 'more': next calls one after the other, from this state, a byte pending too, with each answer kept, leave this state, table and counts
  pub runs : InRange m.decoder.control m.decoder.store → AreBytes bytes → (counts : Counts) → answer ≡ ok counts →
      NextCalls (keep_event full) m.decoder bytes (table_tally m.table zero_counts) (fed_state (keep_event full) after.decoder (table_tally after.table counts))

-- a feed whose state's store is lent: that of the state; a store of another size than a state's is 8, and all is as it was
pub record LentFeedCall (m : Mirror) (bytes : List ℕ) (answer : Result Counts) (after : Mirror) : Type 0 where
  pub whole : length m.decoder.store ≡ body_limit → FeedCall m bytes answer after
  pub other : (length m.decoder.store ≡ body_limit → ⊥) → (answer ≡ refused state_unsound) × (after ≡ m)

-- a set through the mirror
pub record SetCall (id : ℤ) (v : NodeValue) (t : Table) (out : List ℕ) (answer : Result ℕ) (after : Table) (written : List ℕ) : Type 0 where
  -- demand 1: 7, 10, 1, 6, 9, and then table and output are as they were; else the set order's bytes are written, and the rest of the output stays
  pub writes : Writes (set_lines id v t out) (set_bytes id v) out answer written (after ≡ t)
  -- demand 2: what was written is read as that value at that node
  pub reads : ReadsAsSet id v answer written
  -- demand 3: one step of the mirror's history is this call, whatever the decoder, which it neither reads nor alters
  pub step : (s : State) → mirror_step full (mirror s t) (set id v out) ≡ record { state = mirror s after; outcome = set_outcome answer written }
  -- 02: who gave what the records say after it; the table's bytes are below 256, as their type says
  pub origins : AreBytes t.buffer → (n : ℕ) → answer ≡ Ok n → GivenBySet full (entries_of full t) (entries_of full after) id v
  -- demand 1 by the value's own lines: 7; 10 and 1 for a string alone; 6, 9
  pub by_value : Answers (set_value_lines id v t out) (set_bytes id v) (written_result answer written) ((written ≡ out) × (after ≡ t))
  -- 01: 6, where neither 7 nor 10 nor 1 applies, exactly if no record has the node's id and no place is left
  pub unplaced : AreBytes t.buffer → usable full t ≡ true → sends (value_lines v) ≡ ok tt → (answer ≡ Err no_place ↔ NoPlaceLeft id t)

-- recall
pub record RecallCall (t : Table) (out : List ℕ) (answer : Result ℕ) (written : List ℕ) : Type 0 where
  -- demand 1: 7, 9; else df d1 and the set bytes of each record
  pub writes : Writes (recall_lines t out) (recall_bytes full t) out answer written (Unit {0})
  -- demand 3: what was written, in any split, rebuilds an equal mirror; 02: the origin set aside
  pub rebuilds : Rebuilt full answer written t
  -- 01: df d1, then the set bytes of each record in order
  pub order : recall_bytes full t ≡ 0xdf ∷ 0xd1 ∷ joined (map (λ (e : Entry). set_bytes e.id e.value) (entries_of full t))

-- lookup
pub record LookupCall (t : Table) (id : ℤ) (answer : Result (Option ℕ)) : Type 0 where
  -- demand 1: 7
  pub result : lookup_result answer ≡ by (table_lines t) (lookup_of full id t)
  -- 01: an id's record number, exactly if that record is there and has that id
  pub at : (number : ℕ) → (lookup_result answer ≡ ok (found number) ↔ RecordOf full t number id)
  -- 01: or none, exactly if no record has it
  pub nowhere : usable full t ≡ true → (lookup_result answer ≡ ok nothing ↔ ((number : ℕ) → RecordOf full t number id → ⊥))
  -- the same by the table's bytes: the number of the record whose first four bytes are that id
  pub there : usable full t ≡ true → (number : ℕ) → (lookup_result answer ≡ ok (found number) ↔ ((number < t.count) × (id_at (place_at number t.buffer) ≡ id)))

-- 01: a value as an answer says it: a string by its length
abbrev pub said : NodeValue → Value
said (integer x) = Integer x
said (float bits) = Float bits
said (string s) = String (length s)

-- the 256 bytes beside it: those of a string and then zeros; zeros beside a number
abbrev pub beside : NodeValue → List ℕ
beside (integer x) = replicate 256 0
beside (float bits) = replicate 256 0
beside (string s) = s ++ replicate (256 - length s) 0

-- a record by number
pub record RecordCall (t : Table) (number : ℕ) (reply : Result RecordRead) : Type 0 where
  -- demand 1: 7, 14; else the node and value of that record; 02: and its origin
  pub result : record_result reply ≡ by (record_lines t number) (entry_in (get_or (rows full t) number []))
  -- taken, the whole reply is that record's
  pub whole : (e : Entry) → record_result reply ≡ ok e → reply ≡ ok (record { id = e.id; value = said e.value; origin = e.origin; string = beside e.value })

-- two tables: 7; else whether count and records are equal; 02: origins included
pub record SameCall (t u : Table) (answer : Result Bool) : Type 0 where
  pub result : answer ≡ by (same_lines t u) (same_tables full t u)
  pub equal : usable full t ≡ true → usable full u ≡ true → (answer ≡ ok true ↔ Equal full t u)
  -- what they say is: nodes, values and origins
  pub entries : Taken full t → Taken full u → (answer ≡ ok true ↔ entries_of full t ≡ entries_of full u)

-- within a feed: a value for which there is no place leaves the table as it was
abbrev pub UnplacedStays : Type 0
UnplacedStays = (node : ℤ) (v : NodeValue) (k : TableTally) → fits full (entry node v Console) k.table ≡ false → (keep_event full node (value v) k).table ≡ k.table

-- ---- demand 3 from any mirror

-- the plain machine that stands where a mirror does: its decoder, and what its records say
abbrev pub machine_at : Mirror → Machine
machine_at m = record { decoder = m.decoder; map = entries_of full m.table }

-- more than 01 asks: a history from any mirror that the calls take, with a byte pending too: the plain machine from there agrees with it. Bytes and the state's numbers are in the range of their types
abbrev pub AgreementFrom : Type 0
AgreementFrom = (m : Mirror) (calls : List Call) → InRange m.decoder.control m.decoder.store → sound_state m.decoder ≡ true →
    AreBytes m.table.buffer → usable full m.table ≡ true → All TypedCall calls →
    Agree full m.table.buffer (run_all (mirror_step full) m calls) (run_all (machine_step full.keeping (places width m.table)) (machine_at m) calls)

-- 01: next until 'more': what the plain machine's decoder reads, and what it leaves, is what next calls give, one after the other until 'more', each on what the one before left
abbrev pub MachineReads : Type 0
MachineReads = (s : State) (bytes : List ℕ) → Accepted s bytes → PendingByte s.control.escape.pending → AreBytes bytes → NextCalls with_event s bytes [] (decode_all s bytes)

-- ---- what a feed counts

-- within a feed, with a table and counts so far: what each event leaves of both
pub record EachCounted (node : ℤ) (t : Table) (a b c d e f : ℕ) : Type 0 where
  -- 02: a string refused still isn't stored, whatever its good: the table is as it was, and one string more is refused
  pub string : (good : ℕ) → keep_event full node (refusal (string_wrong good)) (table_tally t (six a b c d e f)) ≡ table_tally t (six a b (c + 1) d e f)
  -- 01: a definition refused is one with 2 to 5: 2 and 3 of the decoder, 4 and 5 of the parser
  pub long : keep_event full node (refusal body_long) (table_tally t (six a b c d e f)) ≡ table_tally t (six a b c d (e + 1) f)
  pub empty : keep_event full node (refusal body_empty) (table_tally t (six a b c d e f)) ≡ table_tally t (six a b c d (e + 1) f)
  pub unreadable : (bytes : List ℕ) (why : Refusal) → parsed_result bytes (definition_of bytes) ≡ refused why → keep_event full node (body bytes) (table_tally t (six a b c d e f)) ≡ table_tally t (six a b c d (e + 1) f)
  -- a body that the parser takes is a definition read; an end is one; neither touches the table
  pub readable : (bytes : List ℕ) (x : DefinitionValues) → parsed_result bytes (definition_of bytes) ≡ ok x → keep_event full node (body bytes) (table_tally t (six a b c d e f)) ≡ table_tally t (six a b c (d + 1) e f)
  pub ended : keep_event full node end (table_tally t (six a b c d e f)) ≡ table_tally t (six a b c d e (f + 1))
  -- a value is stored or has no place
  pub stored : (v : NodeValue) → fits full (entry node v Console) t ≡ true → keep_event full node (value v) (table_tally t (six a b c d e f)) ≡ table_tally (put full (entry node v Console) t) (six (a + 1) b c d e f)
  pub unplaced : (v : NodeValue) → fits full (entry node v Console) t ≡ false → keep_event full node (value v) (table_tally t (six a b c d e f)) ≡ table_tally t (six a (b + 1) c d e f)

-- of every event and all counts before it
abbrev pub EventsCounted : Type 0
EventsCounted = (node : ℤ) (t : Table) (a b c d e f : ℕ) → EachCounted node t a b c d e f

-- ---- the search for a node's record

-- how many ids it reads: the contract of the mirror's private order::search_down equates the code's count with it
abbrev pub ids_read : ℤ → Table → ℕ
ids_read id t = (counted_of full.key_of (rank_of id) (rows full t)).reads

pub record SearchCounts : Type 0 where
  -- 02: the ids above the one asked, and one more if any is not above it
  pub counted : SearchReads full
  -- the same by where the ids part, those not above the one asked and then those above it: for an id above all others one is read, and none in an empty table
  pub parted : (t : Table) (id : ℤ) (xs ys : List ℤ) → AreBytes t.buffer → InBits 31 id → usable full t ≡ true → ids (entries_of full t) ≡ xs ++ ys →
      All (λ (i : ℤ). lt_z id i ≡ false) xs → All (λ (i : ℤ). lt_z id i ≡ true) ys → ids_read id t ≡ length ys + if (eqb (length xs) 0) 0 1
  -- and by the number that lookup tells: as many ids as from the last record down to that one
  pub at : (t : Table) (id : ℤ) (number : ℕ) → AreBytes t.buffer → InBits 31 id → usable full t ≡ true → lookup_of full id t ≡ found number → ids_read id t + number ≡ t.count
