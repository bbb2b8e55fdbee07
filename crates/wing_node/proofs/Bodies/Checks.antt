-- The check of items in one pass: their lengths, and the first of their strings that is not UTF-8.
use mathlib.Core.Path.{◌≡◌, refl, ◌∙◌, ap, sym}
use mathlib.Core.Bool.{Bool, true, false, not}
use mathlib.Core.Logic.{◌⊎◌, inl, inr}
use mathlib.Core.List.{List, [], ◌∷◌}
use Prim.Native.Nat.{ℕ, zero, suc, min, ◌+◌, ◌-◌, ◌≤◌, ◌<◌}
use native.Mathlib.Omega.{arith}
use native.Mathlib.Nat.{zero-min, min-zero, suc-min-suc}
use lib.Dec.{eqb}
use lib.ListN.{length, take, drop, get_or, length-drop, drop_of_length-le}
use lib.Seq.{drop-drop}
use borrow.Author.Tests.{eq-eqb, eqb-true, ne_eqb, le-ltb}
use Rattle.wing_node.specs.Bool.{if, and, or}
use Rattle.wing_node.specs.Utf8.{utf8, good_from, good, Decides}
use Rattle.wing_node.specs.Refusal.{definition_not_utf8, no_fault, because, first_fault, text_fault, Fault}
use Rattle.wing_node.specs.Types.{type_of, has_items}
use Rattle.wing_node.specs.Cursor.{Field, number, string, size, content, right, held_fault}
use Rattle.wing_node.specs.Standing.{extent}
use Rattle.wing_node.specs.Definition.{times, item_of, items_of}
use Rattle.wing_node.specs.Writer.{Lent, type_given, exact_items, Exactly, end, field, ExactItems, unfit, texts_fault, lent_fault}
use Rattle.wing_node.specs.declared.node_type.NodeType.{NodeType}
use Rattle.wing_node.specs.declared.writer.Fields.{Fields}
use Rattle.wing_node.proofs.Branches.{and_left, and_right}
use Rattle.wing_node.proofs.Bodies.Cases.{first_byte}
use Rattle.wing_node.proofs.Bodies.Standing.{extent-parts}
use Rattle.wing_node.proofs.Bodies.Faults.{first-assoc, first-none, texts-parts}
use Rattle.wing_node.specs.declared.refusal.Refusal.TheVariants.{FieldsUnfit}

pub and-true : (b : Bool) → b ≡ and b true
and-true true = refl
and-true false = refl

-- a string past the end: its length byte reads as 0
pub string-none : (s : List ℕ) (at : ℕ) → length s ≤ at → (at + 1 ≡ at + size string (drop at s)) × (no_fault ≡ held_fault string (drop at s))
unfolding size held_fault right content utf8 good_from good
string-none s at h = rw (drop_of_length-le s {i = at} h) (refl, refl)

-- as many as there are
pub take-there : (n : ℕ) (s : List ℕ) → take (min n (length s)) s ≡ take n s
take-there zero s = rw zero-min
take-there (suc n) [] = rw min-zero
take-there (suc n) (a ∷ s) = rw suc-min-suc (ap (λ l. a ∷ l) (take-there n s))

-- a string whose length byte is there
pub string-there : (s : List ℕ) (at e : ℕ) → e ≡ min (get_or s at 0) (length s - at - 1) →
    (at + 1 + get_or s at 0 ≡ at + size string (drop at s)) × (text_fault (take e (drop (at + 1) s)) ≡ held_fault string (drop at s))
unfolding size held_fault right content text_fault
string-there s at e h =
    let k : length (drop (at + 1) s) ≡ length s - at - 1 = length-drop (at + 1) s ∙ omega arith in
    rw (first_byte, drop-drop, h, ← k) (omega arith, ap (λ (t : List ℕ). if (utf8 t) no_fault (because (definition_not_utf8 t))) (take-there (get_or s at 0) (drop (at + 1) s)))

-- a string is at most 256 bytes
pub string-within : (s : List ℕ) (at : ℕ) → get_or s at 0 < 256 → size string (drop at s) ≤ 256
unfolding size
string-within s at h = rw first_byte (omega arith)

-- an item of two strings, the second where the first ends
pub two-strings : (s : List ℕ) (at n m : ℕ) (p q : Fault) → (n ≡ at + size string (drop at s)) × (p ≡ held_fault string (drop at s)) →
    (m ≡ n + size string (drop n s)) × (q ≡ held_fault string (drop n s)) →
    (m ≡ at + extent (string ∷ string ∷ []) (drop at s)) × (first_fault p q ≡ texts_fault (string ∷ string ∷ []) (drop at s))
unfolding extent texts_fault
two-strings s at n m p q a b =
    let z : size string (drop n s) + 0 ≡ size string (drop n s) = omega arith in
    rw (drop-drop, ← a.0) (b.0 ∙ omega (arith, a.0), rw (a.1, b.1, first-none (held_fault string (drop n s))))

number_size : (w : ℕ) (s : List ℕ) → size (number w) s ≡ w
unfolding size
number_size w s = refl

number-held : (w : ℕ) (s : List ℕ) → held_fault (number w) s ≡ no_fault
unfolding held_fault right
number-held w s = refl

-- an item of float bits and a string after them
pub float-string : (s : List ℕ) (at m : ℕ) (q : Fault) → (m ≡ at + 4 + size string (drop (at + 4) s)) × (q ≡ held_fault string (drop (at + 4) s)) →
    (m ≡ at + extent (number 4 ∷ string ∷ []) (drop at s)) × (q ≡ texts_fault (number 4 ∷ string ∷ []) (drop at s))
unfolding extent texts_fault
float-string s at m q b =
    let four = number_size 4 (drop at s) in
    let t = number-held 4 (drop at s) in
    rw (four, t, drop-drop, first-none (held_fault string (drop (at + 4) s))) (b.0 ∙ omega arith, b.1)

-- one item of those that are left
pub items-extent : (t : NodeType) (n at : ℕ) (s : List ℕ) → 0 < n →
    at + extent (items_of t n) (drop at s) ≡ at + extent (item_of t) (drop at s) + extent (items_of t (n - 1)) (drop (at + extent (item_of t) (drop at s)) s)
unfolding times
items-extent t zero at s h = absurd (omega arith)
items-extent t (suc n) at s h =
    let e : suc n - 1 ≡ n = omega arith in
    rw (e, ← drop-drop, extent-parts (item_of t) (times n (item_of t)) (drop at s)) (omega arith)

pub items-texts : (t : NodeType) (n at : ℕ) (s : List ℕ) → 0 < n →
    texts_fault (items_of t n) (drop at s) ≡ first_fault (texts_fault (item_of t) (drop at s)) (texts_fault (items_of t (n - 1)) (drop (at + extent (item_of t) (drop at s)) s))
unfolding times
items-texts t zero at s h = absurd (omega arith)
items-texts t (suc n) at s h =
    let e : suc n - 1 ≡ n = omega arith in
    rw (e, ← drop-drop) (texts-parts (item_of t) (times n (item_of t)) (drop at s))

pub no-extent : (t : NodeType) (n : ℕ) (s : List ℕ) → n ≤ 0 → extent (items_of t n) s ≡ 0
unfolding times extent
no-extent t zero s h = refl
no-extent t (suc n) s h = absurd (omega arith)

pub no-texts : (t : NodeType) (n : ℕ) (s : List ℕ) → n ≤ 0 → texts_fault (items_of t n) s ≡ no_fault
unfolding times texts_fault
no-texts t zero s h = refl
no-texts t (suc n) s h = absurd (omega arith)

and-false : (a : Bool) → and a false ≡ false
and-false true = refl
and-false false = refl

if-not : (b : Bool) (m n : Fault) → if b m n ≡ if (not b) n m
if-not true m n = refl
if-not false m n = refl

-- the fault of fields whose type and unit are at most 7, after that of the names, by whether the type has items
module _ (type unit count : ℕ) (items : List ℕ) (names : Fault) (fits : type ≤ 7) (suits : unit ≤ 7) where
  abbrev t : NodeType
  t = type_of type

  abbrev strings : Fault
  strings = first_fault names (texts_fault (items_of t count) items)

  abbrev fault : Fault
  fault = if (unfit type unit count items) (because FieldsUnfit) strings

  abbrev bytes : Bool
  bytes = eqb (extent (items_of t count) items) (length items)

  by-exact : (b : Bool) → exact_items t count items ≡ b → if b strings (because FieldsUnfit) ≡ fault
  by-exact b e = sym (rw (le-ltb 7 type fits, le-ltb 7 unit suits, e) (sym (if-not b _ (because FieldsUnfit))))

  pub with_items : has_items t ≡ true → if bytes strings (because FieldsUnfit) ≡ fault
  unfolding exact_items
  with_items h = by-exact bytes (rw h (sym (and-true bytes)))

  pub with-count : has_items t ≡ false → 0 < count → because FieldsUnfit ≡ fault
  unfolding exact_items
  with-count h p = by-exact false (rw (h, ne_eqb count 0 (λ z. omega arith)) (and-false bytes))

  pub with-bytes : count ≤ 0 → 0 < length items → because FieldsUnfit ≡ fault
  unfolding exact_items
  with-bytes z p = by-exact false (rw (ne_eqb (extent (items_of t count) items) (length items) (λ e. omega (arith, no-extent t count items z))))

  pub without-items : has_items t ≡ false → count ≤ 0 → length items ≤ 0 → names ≡ fault
  unfolding exact_items
  without-items h z p =
      let e : extent (items_of t count) items ≡ length items = omega (arith, no-extent t count items z) in
      let exact : exact_items t count items ≡ true = rw (h, eq-eqb count 0 (omega arith), eq-eqb (extent (items_of t count) items) (length items) e) in
      sym (first-none names) ∙ ap (first_fault names) (sym (no-texts t count items z)) ∙ by-exact true exact

-- what is lent, with names of at most 255 bytes, by the fault of the fields after that of the names
pub lent-names : (d : Fields) (l : Lent) → length l.name ≤ 255 → length l.long_name ≤ 255 →
    if (unfit d.node_type d.unit d.count l.items) (because FieldsUnfit)
    (first_fault (first_fault (text_fault l.name) (text_fault l.long_name)) (texts_fault (items_of (type_given d) d.count) l.items)) ≡ lent_fault d l
unfolding lent_fault
lent-names d l fits suits =
    rw (le-ltb 255 (length l.name) fits, le-ltb 255 (length l.long_name) suits, first-assoc (text_fault l.name) (text_fault l.long_name))

either_way : (b : Bool) → or b true ≡ true
either_way true = refl
either_way false = refl

-- the test decides what it says: fields take the bytes exactly
no_bytes : (s : List ℕ) → 0 ≡ length s → Exactly [] s
no_bytes [] e = end
no_bytes (b ∷ s) e = absurd (omega arith)

takes-exactly : (fs : List Field) (s : List ℕ) → extent fs s ≡ length s → Exactly fs s
unfolding extent
takes-exactly [] s e = no_bytes s e
takes-exactly (f ∷ fs) s e = field {f = f} {s = s} (omega arith) (takes-exactly fs (drop (size f s) s) (omega (arith, length-drop (size f s) s)))

pub exactly-takes : (fs : List Field) (s : List ℕ) → Exactly fs s → extent fs s ≡ length s
unfolding extent
exactly-takes [] s end = refl
exactly-takes (f ∷ fs) s (field w h) = omega (arith, exactly-takes fs (drop (size f s) s) h, length-drop (size f s) s)

pub exact-decides : (t : NodeType) (count : ℕ) (items : List ℕ) → Decides (exact_items t count items) (ExactItems t count items)
unfolding exact_items
exact-decides t count items =
    let fs = items_of t count in
    let takes = eqb (extent fs items) (length items) in
    record {
      right = λ e. (takes-exactly fs items (eqb-true _ _ (and_left takes (or (has_items t) (eqb count 0)) e)), either (has_items t) refl (and_right takes (or (has_items t) (eqb count 0)) e));
      whole = λ h. rw (eq-eqb (extent fs items) (length items) (exactly-takes fs items h.0)) (passes h.1);
    }
  where
    either : (q : Bool) → has_items t ≡ q → or q (eqb count 0) ≡ true → (has_items t ≡ true) ⊎ (count ≡ 0)
    either true e h = inl e
    either false e h = inr (eqb-true count 0 h)

    passes : (has_items t ≡ true) ⊎ (count ≡ 0) → or (has_items t) (eqb count 0) ≡ true
    passes (inl e) = rw e
    passes (inr e) = rw (eq-eqb count 0 e) (either_way (has_items t))
