-- Fields read one after the other, each answering itself or its refusal: the first refusal is that of the row, and what was read is what
-- the cursor reads.
use mathlib.Core.Path.{◌≡◌, refl, ◌∙◌, ap, sym}
use mathlib.Core.Bool.{true≢false}
use mathlib.Core.List.{List, ◌∷◌}
use Prim.Native.Nat.{ℕ, ◌<◌}
use Rattle.std.specs.Prelude.{Ok, Err, is_err}
use Rattle.std.specs.Result.{result_unwrap_or}
use Rattle.wing_node.specs.Refusal.{Fault, no_fault, is_refused}
use Rattle.wing_node.specs.Result.{Result}
use Rattle.wing_node.specs.Cursor.{Field, Cursor, Reading, cursor, start, field_read, read_at, after, unless, place_of, field_of, short_of}
use Rattle.wing_node.specs.Definition.{header, past, items_of, ItemReading, item_at, item_of_read, DetailsReading, details_at, details_of_read, parsed_from, definition_of}
use Rattle.wing_node.specs.declared.cursor.FieldRead.{FieldRead}
use Rattle.wing_node.specs.declared.cursor.ShortRead.{ShortRead}
use Rattle.wing_node.specs.declared.definition.ItemRead.{ItemRead}
use Rattle.wing_node.specs.declared.definition.Definition.{Definition}
use Rattle.wing_node.specs.declared.definition.DetailsRead.{DetailsRead}
use Rattle.wing_node.specs.declared.node_type.NodeType.{NodeType}
use Rattle.wing_node.specs.declared.refusal.Refusal.{Refusal}
use Rattle.wing_node.proofs.Refusals.{reason}
use Rattle.wing_node.proofs.Bodies.Fields.{after-refused, items-turn}

-- what was answered, or another
abbrev pub value : {A : Type 0} → A → Result A → A
value other (Ok a) = a
value other (Err why) = other

pub refused-by : {A : Type 0} (x : Fault) (a : A) (why : Refusal) → x ≡ Err why → Err why ≡ unless x a
refused-by x a why e = ap (λ y. unless y a) (sym e)

fault-of : {A : Type 0} (x : Fault) (a : A) (why : Refusal) → Err why ≡ unless x a → x ≡ Err why
fault-of (Ok u) a why e = absurd (true≢false (ap is_err e))
fault-of (Err other) a why e = ap Err (sym (ap (reason why) e))

passed : {A : Type 0} (x : Fault) (a b : A) → Ok b ≡ unless x a → (x ≡ no_fault) × (a ≡ b)
passed (Ok u) a b e = (refl, sym (ap (value b) e))
passed (Err why) a b e = absurd (true≢false (sym (ap is_err e)))

-- what was read
pub field-read : (x : Reading) (r : FieldRead) → Ok r ≡ field_of x → x ≡ field_read r.value r.start (cursor r.next no_fault)
field-read x r e =
    let p = passed x.next.fault (record { value = x.value; start = x.start; next = x.next.at }) r e in
    λ j. field_read (p.1 j).value (p.1 j).start (cursor (p.1 j).next (p.0 j))

pub short-value : (f : Field) (body : List ℕ) (c : Cursor) (r : ShortRead) → Ok r ≡ short_of (read_at f body c) → (read_at f body c).value ≡ r.value
short-value f body c r e =
    let x = read_at f body c in
    ap (λ (s : ShortRead). s.value) (passed x.next.fault (record { value = x.value; next = x.next.at }) r e).1

pub short-next : (f : Field) (body : List ℕ) (c : Cursor) (r : ShortRead) → Ok r ≡ short_of (read_at f body c) → (read_at f body c).next ≡ cursor r.next no_fault
short-next f body c r e =
    let x = read_at f body c in
    let p = passed x.next.fault (record { value = x.value; next = x.next.at }) r e in
    λ j. cursor (p.1 j).next (p.0 j)

pub item-read : (x : ItemReading) (r : ItemRead) → Ok r ≡ item_of_read x → x ≡ record { item = r.item; next = cursor r.next no_fault }
item-read x r e =
    let p = passed x.next.fault (record { item = x.item; next = x.next.at }) r e in
    λ j. record { item = (p.1 j).item; next = cursor (p.1 j).next (p.0 j) }

pub details-read : (x : DetailsReading) (r : DetailsRead) → Ok r ≡ details_of_read x → x ≡ record { details = r.details; next = cursor r.next no_fault }
details-read x r e =
    let p = passed x.next.fault (record { details = x.details; next = x.next.at }) r e in
    λ j. record { details = (p.1 j).details; next = cursor (p.1 j).next (p.0 j) }

pub place-read : (x : Cursor) (at : ℕ) → Ok at ≡ place_of x → x ≡ cursor at no_fault
place-read x at e =
    let p = passed x.fault x.at at e in
    λ j. cursor (p.1 j) (p.0 j)

-- where nothing is refused, the place is that of the cursor
pub place-or : (k : Cursor) (r : Result ℕ) (other : ℕ) → k.fault ≡ no_fault → r ≡ place_of k → result_unwrap_or r other ≡ k.at
place-or k r other h e = ap (λ x. result_unwrap_or x other) (e ∙ ap (λ x. unless x k.at) h)

-- the refusal of what was not
pub field-fault : (x : Reading) (why : Refusal) → Err why ≡ field_of x → x.next.fault ≡ Err why
field-fault x why e = fault-of x.next.fault (record { value = x.value; start = x.start; next = x.next.at }) why e

pub short-fault : (f : Field) (body : List ℕ) (c : Cursor) (why : Refusal) → Err why ≡ short_of (read_at f body c) → (read_at f body c).next.fault ≡ Err why
short-fault f body c why e =
    let x = read_at f body c in
    fault-of x.next.fault (record { value = x.value; next = x.next.at }) why e

pub item-fault : (x : ItemReading) (why : Refusal) → Err why ≡ item_of_read x → x.next.fault ≡ Err why
item-fault x why e = fault-of x.next.fault (record { item = x.item; next = x.next.at }) why e

pub details-fault : (x : DetailsReading) (why : Refusal) → Err why ≡ details_of_read x → x.next.fault ≡ Err why
details-fault x why e = fault-of x.next.fault (record { details = x.details; next = x.next.at }) why e

pub place-fault : (x : Cursor) (why : Refusal) → Err why ≡ place_of x → x.fault ≡ Err why
place-fault x why e = fault-of x.fault x.at why e

-- a refused cursor stays refused
pub stays-refused : (fs : List Field) (body : List ℕ) (c : Cursor) (why : Refusal) → c.fault ≡ Err why → (after fs body c).fault ≡ Err why
stays-refused fs body c why e = ap (λ (k : Cursor). k.fault) (after-refused fs body c (ap is_refused e)) ∙ e

-- the first field of a row is refused
pub stop : (f : Field) (fs : List Field) (body : List ℕ) (c : Cursor) (why : Refusal) → (read_at f body c).next.fault ≡ Err why →
    (after (f ∷ fs) body c).fault ≡ Err why
unfolding after
stop f fs body c why e = stays-refused fs body (read_at f body c).next why e

-- it is read, and one after it is refused
pub on : (f : Field) (fs : List Field) (body : List ℕ) (c k : Cursor) (x : Fault) → (read_at f body c).next ≡ k → (after fs body k).fault ≡ x →
    (after (f ∷ fs) body c).fault ≡ x
unfolding after
on f fs body c k x e h = ap (λ d. (after fs body d).fault) e ∙ h

pub field-next : (x : Reading) (r : FieldRead) → Ok r ≡ field_of x → x.next ≡ cursor r.next no_fault
field-next x r e = ap (λ (y : Reading). y.next) (field-read x r e)

-- the first of some items is refused
pub items-stop : (t : NodeType) (n : ℕ) (body : List ℕ) (c : Cursor) (why : Refusal) → 0 < n → (item_at t body c).next.fault ≡ Err why →
    (after (items_of t n) body c).fault ≡ Err why
items-stop t n body c why l e = ap (λ (k : Cursor). k.fault) (items-turn t n body c l) ∙ stays-refused _ body (item_at t body c).next why e

pub parsed-refused : (x : Fault) (d : Definition) (why : Refusal) → x ≡ Err why → Err why ≡ parsed_from x d
parsed-refused x d why e = ap (λ y. parsed_from y d) (sym e)

-- a definition whose header is refused
pub header-stops : (body : List ℕ) (why : Refusal) → (past header body start).fault ≡ Err why → Err why ≡ definition_of body
unfolding definition_of details_at
header-stops body why e = parsed-refused _ _ why (stays-refused _ body _ why (stays-refused _ body (past header body start) why e))
