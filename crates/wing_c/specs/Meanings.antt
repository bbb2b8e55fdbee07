-- What the numbers mean, by the header's words, and that every answer is the meaning of its numbers: none is dropped and no two are alike.
use Rattle.std.specs.Prelude.{ℕ, suc, ◌≡◌, List, eqb, ℤ, pos, negsuc, Ok, Err, Some, Option, None, Bool, replicate, get_or, [], ◌∷◌, ◌-◌}
use Rattle.wing_node.specs.Bool.{if}
use Rattle.wing_node.specs.Refusal.{good_beside}
use Rattle.wing_node.specs.Signed.{signed, InBits}
use Rattle.wing_node.specs.Value.{NodeValue}
use Rattle.wing_wire.specs.State.{fresh_state}
use Rattle.wing_wire.specs.Range.{AreBytes, InRange}
use Rattle.wing_wire.specs.Reader.{next_of}
use Rattle.wing_wire.specs.declared.state.State.{State}
use Rattle.wing_wire.specs.Command.{set_string}
use Rattle.wing_mirror.specs.Rows.{Table}
use Rattle.wing_mirror.specs.Record.{full}
use Rattle.wing_mirror.specs.Mirror.{mirror_set}
use Rattle.wing_node.specs.declared.refusal.Refusal.{Refusal}
use Rattle.wing_node.specs.declared.refusal.Refusal.TheVariants.{StringNotUtf8, DefinitionNotUtf8, BodyLong, BodyEmpty, DefinitionShort, NoPlace, TableUnsound, StateUnsound, OutputShort, StringLong, MetersOver, MeterIdLast, PacketSize, NumberOver, NameLong, FieldsUnfit, LineWrong, IdNotAbove, WidthWrong}
use Rattle.wing_node.specs.declared.value.Value.{Value}
use Rattle.wing_node.specs.declared.value.Value.TheVariants.{Integer, Float, String}
use Rattle.wing_wire.specs.declared.meter.Requested.{Requested}
use Rattle.wing_wire.specs.declared.meter.MetersRead.{MetersRead}
use Rattle.wing_wire.specs.declared.unit.Answer.{Answer}
use Rattle.wing_wire.specs.declared.unit.Answer.TheVariants.{More, Integer as IntegerAt, Float as FloatAt, String as StringAt, Body, End, Refused as NextRefused}
use Rattle.wing_mirror.specs.declared.answer.Counts.{Counts}
use Rattle.wing_mirror.specs.declared.origin.Origin.{Origin}
use Rattle.wing_mirror.specs.declared.origin.Origin.TheVariants.{Console, SetOrder}
use Rattle.wing_listing.specs.Calls.{load_of}
use Rattle.wing_c.specs.Numbers.{written_numbers, set_numbers, fed_numbers, lookup_numbers, same_number, record_numbers, event_numbers, requested_numbers, meters_numbers, loaded_numbers}
use Rattle.wing_c.specs.declared.answers.WingWritten.{WingWritten}
use Rattle.wing_c.specs.declared.answers.WingSet.{WingSet}
use Rattle.wing_c.specs.declared.answers.WingFed.{WingFed}
use Rattle.wing_c.specs.declared.answers.WingLookup.{WingLookup}
use Rattle.wing_c.specs.declared.answers.WingRecord.{WingRecord}
use Rattle.wing_c.specs.declared.answers.WingEvent.{WingEvent}
use Rattle.wing_c.specs.declared.answers.WingRequested.{WingRequested}
use Rattle.wing_c.specs.declared.answers.WingMeters.{WingMeters}
use Rattle.wing_c.specs.declared.answers.WingLoaded.{WingLoaded}
use Rattle.wing_node.specs.Result.{Result}
use Rattle.wing_listing.specs.Answers.{Loaded}
use Rattle.wing_mirror.specs.declared.answer.RecordRead.{RecordRead}
use Rattle.wing_mirror.specs.Counts.{counts_in as counts_of}

-- ---- what the numbers mean

-- a status below 0 is a refusal, of the number without the sign: −9 is refusal 9. Any other tells what was taken
abbrev pub by_status : {A : Type 0} → ℤ → (ℕ → A) → (ℕ → A) → A
by_status (negsuc n) refused taken = refused (suc n)
by_status (pos n) refused taken = taken n

-- the refusals in the order of their numbers, from 1. 02: beside 1 and 5 stands this good
abbrev pub refusals : ℕ → List Refusal
refusals good =
    StringNotUtf8 good ∷ BodyLong ∷ BodyEmpty ∷ DefinitionShort ∷ DefinitionNotUtf8 good ∷ NoPlace ∷ TableUnsound ∷ StateUnsound ∷ OutputShort ∷ StringLong ∷
    MetersOver ∷ MeterIdLast ∷ PacketSize ∷ NumberOver ∷ NameLong ∷ FieldsUnfit ∷ LineWrong ∷ IdNotAbove ∷ WidthWrong ∷ []

-- the refusal of a number; no call answers one over 19
abbrev pub refusal_in : ℕ → ℕ → Refusal
refusal_in good n = get_or (refusals good) (n - 1) WidthWrong

-- the same of a call that can answer 1 or 5: its refusal is of that number, with this good
abbrev pub by_status_and_good : {A : Type 0} → ℤ → ℕ → (Refusal → A) → (ℕ → A) → A
by_status_and_good status good refused taken = by_status status (λ n. refused (refusal_in good n)) taken

-- a command, a definition or a listing: how many bytes stand at the front of the output
unfoldable pub written_in : WingWritten → Result ℕ
written_in r = by_status_and_good r.status r.good Err (λ _. Ok r.len)

-- a set: how many bytes of the output to send
unfoldable pub set_in : WingSet → Result ℕ
set_in r = by_status_and_good r.status r.good Err (λ _. Ok r.len)

-- the six counts of a feed, each by its name
unfoldable pub counts_in : WingFed → Counts
counts_in r =
    record {
      stored = r.stored;
      unplaced = r.unplaced;
      strings_refused = r.strings_refused;
      definitions_read = r.definitions_read;
      definitions_refused = r.definitions_refused;
      ends = r.ends;
    }

-- a feed: its six counts, or a refusal
unfoldable pub feed_answer_in : WingFed → Result Counts
feed_answer_in r = by_status_and_good r.status 0 Err (λ _. Ok (counts_in r))

-- a lookup: 1 found, 0 none
unfoldable pub lookup_in : WingLookup → Result (Option ℕ)
lookup_in r = by_status_and_good r.status 0 Err (λ s. if (eqb s 1) (Ok (Some r.number)) (Ok None))

-- two tables: 1 the same, 0 not
unfoldable pub same_in : ℤ → Result Bool
same_in z = by_status_and_good z 0 Err (λ s. Ok (eqb s 1))

-- a record's value by its kind: 0 an integer, of these 32 bits; 1 a float, of these; 2 a string, of so many bytes
unfoldable pub value_in : WingRecord → Value
value_in r = if (eqb r.kind 0) (Integer (signed 31 r.value)) (if (eqb r.kind 1) (Float r.value) (String r.len))

-- who gave it its value: 0 the console, 1 a set order; no other number comes (`read_origin`)
unfoldable pub origin_in : WingRecord → Origin
origin_in r = if (eqb r.origin 0) Console SetOrder

-- a record: its node, its value and its origin, with the bytes of a string
unfoldable pub record_in : WingRecord → Result RecordRead
record_in r = by_status_and_good r.status 0 Err (λ _. Ok (record { id = r.id; value = value_in r; origin = origin_in r; string = r.string }))

-- an event by its kind: 0 an integer, 1 a float, 2 a string, 3 a body, 4 the end of an answer
unfoldable pub kind_in : WingEvent → Answer
kind_in r =
    if (eqb r.kind 0) (IntegerAt (signed 31 r.value))
    (if (eqb r.kind 1) (FloatAt r.value)
    (if (eqb r.kind 2) (StringAt r.len) (if (eqb r.kind 3) (Body r.len) End)))

-- a next call: 1 an event, 0 more bytes are wanted
unfoldable pub answer_in : WingEvent → Answer
answer_in r = by_status_and_good r.status r.good NextRefused (λ s. if (eqb s 1) (kind_in r) More)

-- a meter request: how many bytes of the output to send, and the new meter id
unfoldable pub requested_in : WingRequested → Result Requested
requested_in r = by_status_and_good r.status 0 Err (λ _. Ok (record { len = r.len; id = r.id }))

-- a meter packet: its meter id, and how many readings stand at the front of the output
unfoldable pub meters_in : WingMeters → Result MetersRead
meters_in r = by_status_and_good r.status 0 Err (λ _. Ok (record { id = r.id; count = r.count }))

-- a load: how many records the table has now; or a refusal, and the number of the line that it is about
unfoldable pub loaded_in : WingLoaded → Loaded
loaded_in r = by_status_and_good r.status r.good (λ why. Err (record { why = why; line = r.line })) (λ _. Ok r.count)

-- ---- which answers there are: where no good stands beside the status, a refusal has none, and an integer has 32 bits

-- of an answer with no good beside its status
abbrev pub NoGood : {A : Type 0} → Result A → Type 0
NoGood (Ok a) = Unit {0}
NoGood (Err why) = good_beside why ≡ 0

-- of a value
abbrev pub OfValue : Value → Type 0
OfValue (Integer x) = InBits 31 x
OfValue (Float bits) = Unit {0}
OfValue (String n) = Unit {0}

-- of a record
abbrev pub OfRecord : Result RecordRead → Type 0
OfRecord (Ok r) = OfValue r.value
OfRecord (Err why) = good_beside why ≡ 0

-- of a next call
abbrev pub OfNext : Answer → Type 0
OfNext More = Unit {0}
OfNext (IntegerAt x) = InBits 31 x
OfNext (FloatAt bits) = Unit {0}
OfNext (StringAt n) = Unit {0}
OfNext (Body n) = Unit {0}
OfNext End = Unit {0}
OfNext (NextRefused why) = Unit {0}

-- ---- what holds of them

-- a load that is sent back
abbrev pub bad_line : Refusal → ℕ → Loaded
bad_line why line = Err (record { why = why; line = line })

-- a record that was read
abbrev pub record_read : ℤ → Value → Origin → List ℕ → Result RecordRead
record_read id v origin s = Ok (record { id = id; value = v; origin = origin; string = s })

-- what stands beside the status of a feed: the six counts, all 0 where it is refused, and the records there are
pub record FeedBeside (a : Result Counts) (count : ℕ) : Type 0 where
  pub counts : counts_in (fed_numbers a count) ≡ counts_of a
  pub records : (fed_numbers a count).count ≡ count

-- what stands beside the answer of a next call: the current node and the bytes taken
pub record NextBeside (a : Answer) (current : ℤ) (used : ℕ) : Type 0 where
  pub node : (event_numbers a current used).node ≡ current
  pub taken : (event_numbers a current used).taken ≡ used

-- 02: beside a refusal stands its good: of 1 and 5 that of the string, 0 of every other
pub record GoodBeside (why : Refusal) : Type 0 where
  pub written : (written_numbers (Err why)).good ≡ good_beside why
  pub set : (count : ℕ) → (set_numbers (Err why) count).good ≡ good_beside why
  pub next : (node : ℤ) (taken : ℕ) → (event_numbers (NextRefused why) node taken).good ≡ good_beside why
  pub load : (line : ℕ) → (loaded_numbers (bad_line why line)).good ≡ good_beside why

-- where the status is a refusal, all other fields are 0, but for the good of 1 and 5, the count of a set or a feed, a record's bytes, an event's node and
-- taken, a load's line
pub record RefusedZero (why : Refusal) : Type 0 where
  pub written : (written_numbers (Err why)).len ≡ 0
  pub set : (count : ℕ) → (set_numbers (Err why) count).len ≡ 0
  pub lookup : (lookup_numbers (Err why)).number ≡ 0
  pub read : let r = record_numbers (Err why) in (r.id ≡ pos 0) × (r.value ≡ 0) × (r.len ≡ 0) × (r.kind ≡ 0) × (r.origin ≡ 0) × (r.string ≡ replicate 256 0)
  pub next : (node : ℤ) (taken : ℕ) → let r = event_numbers (NextRefused why) node taken in (r.value ≡ 0) × (r.len ≡ 0) × (r.kind ≡ 0)
  pub requested : ((requested_numbers (Err why)).id ≡ 0) × ((requested_numbers (Err why)).len ≡ 0)
  pub meters : ((meters_numbers (Err why)).id ≡ 0) × ((meters_numbers (Err why)).count ≡ 0)
  pub load : (line : ℕ) → (loaded_numbers (bad_line why line)).count ≡ 0

-- what a case has not is 0: a call that is taken its good, a lookup of none its number, a number its length, a string or a body its value, an end both, a
-- load that is taken its line
pub record OtherZero : Type 0 where
  pub written : (n : ℕ) → (written_numbers (Ok n)).good ≡ 0
  pub set : (n count : ℕ) → (set_numbers (Ok n) count).good ≡ 0
  pub none : (lookup_numbers (Ok None)).number ≡ 0
  pub integer : (id x : ℤ) (origin : Origin) (s : List ℕ) → (record_numbers (record_read id (Integer x) origin s)).len ≡ 0
  pub float : (id : ℤ) (bits : ℕ) (origin : Origin) (s : List ℕ) → (record_numbers (record_read id (Float bits) origin s)).len ≡ 0
  pub string : (id : ℤ) (n : ℕ) (origin : Origin) (s : List ℕ) → (record_numbers (record_read id (String n) origin s)).value ≡ 0
  pub next_more : (node : ℤ) (taken : ℕ) → let r = event_numbers More node taken in (r.good ≡ 0) × (r.value ≡ 0) × (r.len ≡ 0) × (r.kind ≡ 0)
  pub next_integer : (x node : ℤ) (taken : ℕ) → let r = event_numbers (IntegerAt x) node taken in (r.good ≡ 0) × (r.len ≡ 0)
  pub next_float : (bits : ℕ) (node : ℤ) (taken : ℕ) → let r = event_numbers (FloatAt bits) node taken in (r.good ≡ 0) × (r.len ≡ 0)
  pub next_string : (n : ℕ) (node : ℤ) (taken : ℕ) → let r = event_numbers (StringAt n) node taken in (r.good ≡ 0) × (r.value ≡ 0)
  pub next_body : (n : ℕ) (node : ℤ) (taken : ℕ) → let r = event_numbers (Body n) node taken in (r.good ≡ 0) × (r.value ≡ 0)
  pub next_end : (node : ℤ) (taken : ℕ) → let r = event_numbers End node taken in (r.good ≡ 0) × (r.value ≡ 0) × (r.len ≡ 0)
  pub loaded : (n : ℕ) → ((loaded_numbers (Ok n)).good ≡ 0) × ((loaded_numbers (Ok n)).line ≡ 0)

-- every answer is what its numbers mean
pub record NumbersSay : Type 0 where
  pub written : (w : Result ℕ) → written_in (written_numbers w) ≡ w
  pub set : (w : Result ℕ) (count : ℕ) → set_in (set_numbers w count) ≡ w
  -- whatever a set answers, the records there are stand beside it
  pub set_beside : (w : Result ℕ) (count : ℕ) → (set_numbers w count).count ≡ count
  pub feed : (a : Result Counts) (count : ℕ) → NoGood a → feed_answer_in (fed_numbers a count) ≡ a
  pub feed_beside : (a : Result Counts) (count : ℕ) → FeedBeside a count
  pub lookup : (l : Result (Option ℕ)) → NoGood l → lookup_in (lookup_numbers l) ≡ l
  pub same : (s : Result Bool) → NoGood s → same_in (same_number s) ≡ s
  pub read : (a : Result RecordRead) → OfRecord a → record_in (record_numbers a) ≡ a
  -- 02: an origin is 0 for the console and 1 for a set order, and no other number
  pub read_origin : (id : ℤ) (v : Value) (s : List ℕ) → ((record_numbers (record_read id v Console s)).origin ≡ 0) × ((record_numbers (record_read id v SetOrder s)).origin ≡ 1)
  -- whatever is read, the bytes of a string stand beside it
  pub read_beside : (r : RecordRead) → (record_numbers (Ok r)).string ≡ r.string
  pub next : (a : Answer) (node : ℤ) (taken : ℕ) → OfNext a → answer_in (event_numbers a node taken) ≡ a
  pub next_beside : (a : Answer) (node : ℤ) (taken : ℕ) → NextBeside a node taken
  pub requested : (r : Result Requested) → NoGood r → requested_in (requested_numbers r) ≡ r
  pub meters : (m : Result MetersRead) → NoGood m → meters_in (meters_numbers m) ≡ m
  pub load : (a : Loaded) → loaded_in (loaded_numbers a) ≡ a
  -- what a next call answers is read back from its numbers, from any state in the range of its types and whatever the bytes: 1 with its good too
  pub next_call : (s : State) (bytes : List ℕ) (node : ℤ) (taken : ℕ) → AreBytes bytes → InRange s.control s.store → let a = (next_of s bytes).answer in answer_in (event_numbers a node taken) ≡ a
  -- what a set order of a string answers is read back from its numbers, 10, 1 with its good, 9, whatever it is given; and so is what a set through the mirror does
  pub order_call : (id : ℤ) (s out : List ℕ) → let w = (set_string id s out).answer in written_in (written_numbers w) ≡ w
  pub set_call : (id : ℤ) (v : NodeValue) (t : Table) (out : List ℕ) (count : ℕ) → let w = (mirror_set full id v t out).answer in set_in (set_numbers w count) ≡ w
  -- what a load answers is read back from its numbers, whatever the text and the table memory are; the state beside it, which is not among
  -- them, is always a fresh one
  pub load_call : (text memory : List ℕ) → let a = (load_of text memory).reply.answer in loaded_in (loaded_numbers a) ≡ a
  pub load_fresh : (text memory : List ℕ) → (load_of text memory).reply.state ≡ fresh_state
  pub good_beside : (why : Refusal) → GoodBeside why
  pub refused_zero : (why : Refusal) → RefusedZero why
  pub other_zero : OtherZero
