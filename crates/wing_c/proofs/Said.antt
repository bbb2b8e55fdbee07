-- Every answer is what its numbers mean: each case is computed, and an integer's 32 bits read as the integer.
use Prim.Native.Nat.{ℕ}
use mathlib.Core.Path.{◌≡◌, refl, ap, subst}
use mathlib.Core.List.{List}
use lib.Dec.{eqb}
use lib.IntN.{ℤ}
use Rattle.wing_node.specs.Bool.{if}
use Rattle.wing_node.specs.declared.refusal.Refusal.{Refusal}
use Rattle.wing_node.specs.declared.refusal.Refusal.TheVariants.{StringNotUtf8, DefinitionNotUtf8, BodyLong, BodyEmpty, DefinitionShort, NoPlace, TableUnsound, StateUnsound, OutputShort, StringLong, MetersOver, MeterIdLast, PacketSize, NumberOver, NameLong, FieldsUnfit, LineWrong, IdNotAbove, WidthWrong}
use Rattle.wing_node.proofs.Numerals.Signs.{signed-unsigned}
use Rattle.wing_node.specs.declared.value.Value.{Value}
use Rattle.wing_node.specs.declared.value.Value.TheVariants.{Integer, Float, String}
use Rattle.wing_wire.specs.declared.meter.Requested.{Requested}
use Rattle.wing_wire.specs.declared.meter.MetersRead.{MetersRead}
use Rattle.wing_wire.specs.declared.unit.Answer.{Answer}
use Rattle.wing_wire.specs.declared.unit.Answer.TheVariants.{More, Integer as IntegerAt, Float as FloatAt, String as StringAt, Body, End, Refused as NextRefused}
use Rattle.wing_mirror.specs.declared.answer.Counts.{Counts}
use Rattle.wing_mirror.specs.declared.origin.Origin.{Origin}
use Rattle.wing_mirror.specs.declared.origin.Origin.TheVariants.{Console, SetOrder}
use Rattle.wing_wire.specs.Command.{set_string}
use Rattle.wing_wire.specs.Reader.{next_of}
use Rattle.wing_mirror.specs.Origin.{origin_number}
use Rattle.wing_mirror.specs.Record.{full}
use Rattle.wing_mirror.specs.Mirror.{mirror_set}
use Rattle.wing_listing.specs.Calls.{load_of}
use Rattle.wing_c.specs.Numbers.{minus, sent_back, held_numbers, written_numbers, set_numbers, fed_numbers, lookup_numbers, same_number, record_numbers, event_numbers, requested_numbers, meters_numbers, loaded_numbers}
use Rattle.wing_c.specs.Meanings.{by_status_and_good, written_in, set_in, feed_answer_in, counts_in, lookup_in, same_in, value_in, origin_in, record_in, kind_in, answer_in, requested_in, meters_in, loaded_in}
use Rattle.wing_c.specs.Meanings.{NoGood, OfValue, OfRecord, OfNext, FeedBeside, NextBeside, NumbersSay}
use Rattle.wing_c.proofs.Listed.{load-fresh}
use Rattle.wing_c.proofs.Read.{next-told}
use Rattle.wing_node.specs.Result.{Result}
use Rattle.std.specs.Prelude.{ℕ, Ok, Err, Some, Option, None, Bool, true, false}
use Rattle.wing_listing.specs.Answers.{Loaded}
use Rattle.wing_node.specs.Refusal.{good_beside, refusal_number}
use Rattle.wing_mirror.specs.declared.answer.RecordRead.{RecordRead}

-- a refusal with its good is told by both
pub both : {A : Type 0} (refused : Refusal → A) (taken : ℕ → A) (why : Refusal) →
    by_status_and_good (sent_back why).status (sent_back why).good refused taken ≡ refused why
both refused taken (StringNotUtf8 g) = refl
both refused taken BodyLong = refl
both refused taken BodyEmpty = refl
both refused taken DefinitionShort = refl
both refused taken (DefinitionNotUtf8 g) = refl
both refused taken NoPlace = refl
both refused taken TableUnsound = refl
both refused taken StateUnsound = refl
both refused taken OutputShort = refl
both refused taken StringLong = refl
both refused taken MetersOver = refl
both refused taken MeterIdLast = refl
both refused taken PacketSize = refl
both refused taken NumberOver = refl
both refused taken NameLong = refl
both refused taken FieldsUnfit = refl
both refused taken LineWrong = refl
both refused taken IdNotAbove = refl
both refused taken WidthWrong = refl

-- and one without a good by its number alone
pub by_number : {A : Type 0} (refused : Refusal → A) (taken : ℕ → A) (why : Refusal) → good_beside why ≡ 0 →
    by_status_and_good (minus (refusal_number why)) 0 refused taken ≡ refused why
by_number refused taken why h = subst (λ (g : ℕ). by_status_and_good (minus (refusal_number why)) g refused taken ≡ refused why) h (both refused taken why)

pub written : (w : Result ℕ) → written_in (written_numbers w) ≡ w
unfolding written_in
written (Ok n) = refl
written (Err why) = both Err _ why

set : (w : Result ℕ) (count : ℕ) → set_in (set_numbers w count) ≡ w
unfolding set_in
set (Ok n) count = refl
set (Err why) count = both Err _ why

set_beside : (w : Result ℕ) (count : ℕ) → (set_numbers w count).count ≡ count
set_beside (Ok n) count = refl
set_beside (Err why) count = refl

feed : (a : Result Counts) (count : ℕ) → NoGood a → feed_answer_in (fed_numbers a count) ≡ a
unfolding feed_answer_in counts_in
feed (Ok c) count h = refl
feed (Err why) count h = by_number Err _ why h

feed_beside : (a : Result Counts) (count : ℕ) → FeedBeside a count
unfolding counts_in
feed_beside (Ok c) count = record { counts = refl; records = refl }
feed_beside (Err why) count = record { counts = refl; records = refl }

lookup : (l : Result (Option ℕ)) → NoGood l → lookup_in (lookup_numbers l) ≡ l
unfolding lookup_in
lookup (Ok (Some n)) h = refl
lookup (Ok None) h = refl
lookup (Err why) h = by_number Err _ why h

same : (s : Result Bool) → NoGood s → same_in (same_number s) ≡ s
unfolding same_in
same (Ok true) h = refl
same (Ok false) h = refl
same (Err why) h = by_number Err _ why h

-- an origin's number says it
origin : (o : Origin) → if (eqb (origin_number o) 0) Console SetOrder ≡ o
unfolding origin_number
origin Console = refl
origin SetOrder = refl

-- a record that was read, by its parts
abbrev record_of : ℤ → Value → List ℕ → Origin → Result RecordRead
record_of id v string o = Ok (record { id = id; value = v; origin = o; string = string })

read-value : (id : ℤ) (v : Value) (o : Origin) (string : List ℕ) → OfValue v → record_in (record_numbers (record_of id v string o)) ≡ record_of id v string o
unfolding record_in value_in origin_in
read-value id (Integer x) o s h = rw (origin o) (ap (λ (y : ℤ). record_of id (Integer y) s o) (signed-unsigned 31 x h))
read-value id (Float bits) o s h = ap (record_of id (Float bits) s) (origin o)
read-value id (String n) o s h = ap (record_of id (String n) s) (origin o)

read : (a : Result RecordRead) → OfRecord a → record_in (record_numbers a) ≡ a
read (Ok r) h = read-value r.id r.value r.origin r.string h
read (Err why) h = unfold record_in in by_number Err _ why h

string-beside : (id : ℤ) (v : Value) (o : ℕ) (string : List ℕ) → (held_numbers id v o string).string ≡ string
string-beside id (Integer x) o s = refl
string-beside id (Float bits) o s = refl
string-beside id (String n) o s = refl

read_beside : (r : RecordRead) → (record_numbers (Ok r)).string ≡ r.string
read_beside r = string-beside r.id r.value _ r.string

read_origin : (id : ℤ) (v : Value) (s : List ℕ) → ((record_numbers (record_of id v s Console)).origin ≡ 0) × ((record_numbers (record_of id v s SetOrder)).origin ≡ 1)
unfolding origin_number
read_origin id (Integer x) s = (refl, refl)
read_origin id (Float bits) s = (refl, refl)
read_origin id (String n) s = (refl, refl)

next : (a : Answer) (node : ℤ) (taken : ℕ) → OfNext a → answer_in (event_numbers a node taken) ≡ a
unfolding answer_in kind_in
next More node taken h = refl
next (IntegerAt x) node taken h = ap IntegerAt (signed-unsigned 31 x h)
next (FloatAt bits) node taken h = refl
next (StringAt n) node taken h = refl
next (Body n) node taken h = refl
next End node taken h = refl
next (NextRefused why) node taken h = both NextRefused _ why

next_beside : (a : Answer) (node : ℤ) (taken : ℕ) → NextBeside a node taken
next_beside More node taken = record { node = refl; taken = refl }
next_beside (IntegerAt x) node taken = record { node = refl; taken = refl }
next_beside (FloatAt bits) node taken = record { node = refl; taken = refl }
next_beside (StringAt n) node taken = record { node = refl; taken = refl }
next_beside (Body n) node taken = record { node = refl; taken = refl }
next_beside End node taken = record { node = refl; taken = refl }
next_beside (NextRefused why) node taken = record { node = refl; taken = refl }

requested : (r : Result Requested) → NoGood r → requested_in (requested_numbers r) ≡ r
unfolding requested_in
requested (Ok r) h = refl
requested (Err why) h = by_number Err _ why h

meters : (m : Result MetersRead) → NoGood m → meters_in (meters_numbers m) ≡ m
unfolding meters_in
meters (Ok r) h = refl
meters (Err why) h = by_number Err _ why h

load : (a : Loaded) → loaded_in (loaded_numbers a) ≡ a
unfolding loaded_in
load (Ok n) = refl
load (Err b) = both (λ x. Err (record { why = x; line = b.line })) _ b.why

-- every answer is what its numbers mean
pub numbers-say : NumbersSay
numbers-say =
    record {
      written = written;
      set = set;
      set_beside = set_beside;
      feed = feed;
      feed_beside = feed_beside;
      lookup = lookup;
      same = same;
      read = read;
      read_origin = read_origin;
      read_beside = read_beside;
      next = next;
      next_beside = next_beside;
      requested = requested;
      meters = meters;
      load = load;
      next_call = λ s bytes node taken b r. next (next_of s bytes).answer node taken (next-told s bytes b r);
      order_call = λ id s out. written (set_string id s out).answer;
      set_call = λ id v t out count. set (mirror_set full id v t out).answer count;
      load_call = λ text memory. load (load_of text memory).reply.answer;
      load_fresh = load-fresh;
      good_beside = λ why. record { written = refl; set = λ count. refl; next = λ node taken. refl; load = λ line. refl };
      refused_zero = λ why. record {
        written = refl;
        set = λ count. refl;
        lookup = refl;
        read = (refl, refl, refl, refl, refl, refl);
        next = λ node taken. (refl, refl, refl);
        requested = (refl, refl);
        meters = (refl, refl);
        load = λ line. refl;
      };
      other_zero = record {
        written = λ n. refl;
        set = λ n count. refl;
        none = refl;
        integer = λ id x o s. refl;
        float = λ id bits o s. refl;
        string = λ id n o s. refl;
        next_more = λ node taken. (refl, refl, refl, refl);
        next_integer = λ x node taken. (refl, refl);
        next_float = λ bits node taken. (refl, refl);
        next_string = λ n node taken. (refl, refl);
        next_body = λ n node taken. (refl, refl);
        next_end = λ node taken. (refl, refl, refl);
        loaded = λ n. (refl, refl);
      };
    }
