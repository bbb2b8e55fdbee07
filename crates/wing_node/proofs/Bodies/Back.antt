-- What is written reads back as the fields that were given: the laws of Laid, at the bytes that the writer lays.
use mathlib.Core.Path.{◌≡◌, refl, ◌∙◌, ap, sym, subst}
use mathlib.Core.Bool.{Bool, true, false, not, true≢false}
use mathlib.Core.Logic.{◌↔◌, inl, inr}
use mathlib.Core.List.{List, [], ◌∷◌, ◌++◌, map}
use Prim.Native.Nat.{ℕ, ◌+◌, ◌-◌, ◌/◌, ◌%◌, ◌^◌, ◌≤◌, ◌<◌}
use native.Mathlib.Omega.{arith}
use lib.Dec.{ltb, eqb}
use lib.IntN.{ℤ, pos, negsuc}
use lib.ListN.{length, take, drop, length-append, length-drop}
use lib.Seq.{drop-drop, take-append_seam}
use borrow.Author.Tests.{eqb-true, le-ltb, ltb-false}
use Rattle.wing_node.specs.Bool.{if, or}
use Rattle.wing_node.specs.Refusal.{no_fault, because, is_refused, first_fault, text_fault, Fault}
use Rattle.wing_node.specs.Result.{Result, ok, refused}
use Rattle.wing_node.specs.Signed.{signed, unsigned, InBits}
use Rattle.wing_node.specs.Bytes.{placed}
use Rattle.wing_node.specs.Field.{big, bytes_of}
use Rattle.wing_node.specs.Utf8.{utf8, Decides}
use Rattle.wing_node.specs.Types.{type_of, unit_of, has_items}
use Rattle.wing_node.specs.Cursor.{Field, size, right, held_fault}
use Rattle.wing_node.specs.Standing.{Whole, NotUtf8, extent, beyond, Stand, empty, more, StopsAt}
use Rattle.wing_node.specs.Definition.{FieldName, Flags, Min, Max, form, header, added, items_of}
use Rattle.wing_node.specs.Laid.{FitsAll, number_of}
use Rattle.wing_node.specs.Answers.{none, values_by, details_by}
use Rattle.wing_node.specs.InBody.{count_in, walk_in}
use Rattle.wing_node.specs.Parsing.{number_says, step_says, walked, Walking}
use Rattle.wing_node.specs.Written.{laid_by, numbers_of, kind_of, names_of, front_of, count_of}
use Rattle.wing_node.specs.Writer.{Lent, type_given, flags_of, limit, holds, body_given, too_long, exact_items, Exactly, field, texts, texts_fault, all_texts_fault, lent_fault, room_fault, fault_of, body_put, body_of_fields}
use Rattle.wing_node.specs.BothWays.{details_given, values_given, InWidth, item_given, Canonical, flags_in, Ends, ReadsAsGiven, gives}
use Rattle.wing_node.specs.declared.refusal.Refusal.TheVariants.{DefinitionNotUtf8, FieldsUnfit, NameLong}
use Rattle.wing_node.specs.declared.node_type.NodeType.{NodeType}
use Rattle.wing_node.specs.declared.node_type.NodeType.TheVariants.{Node, LinearFloat, LogarithmicFloat, FaderLevel, Integer, StringEnum, FloatEnum, String}
use Rattle.wing_node.specs.declared.writer.Fields.{Fields}
use Rattle.wing_node.proofs.Branches.{and_left, and_right}
use Rattle.wing_node.proofs.Numerals.Numbers.{number_digits}
use Rattle.wing_node.proofs.Numerals.Signs.{signed-unsigned}
use Rattle.wing_node.proofs.Bodies.Laid.{same_flags, same_count, same-extent, body-taken, fields_back, item_back}
use Rattle.wing_node.proofs.Bodies.Walks.{definitions}
use Rattle.wing_node.proofs.Bodies.Given.{holds_fits, all_fit}
use Rattle.wing_node.proofs.Bodies.Checks.{exactly-takes}
use Rattle.wing_node.proofs.Bodies.Faults.{text-passes, texts-cons, texts-parts, texts-none, all_pass}
use Rattle.wing_node.proofs.Bodies.Standing.{fault_good, Found, find}
use Rattle.wing_node.proofs.Bodies.Held.{stand-texts}
use Rattle.std.specs.Prelude.{Ok, Err}

-- fields that take exactly the bytes, and whose strings are UTF-8, stand
pub exact-stand : (fs : List Field) (s : List ℕ) → extent fs s ≡ length s → texts fs s ≡ true → Stand fs s
unfolding extent
exact-stand [] s e t = empty
exact-stand (f ∷ fs) s e p =
    let t = sym (texts-cons f fs s) ∙ p in
    let whole : size f s ≤ length s = omega arith in
    let rest : extent fs (drop (size f s) s) ≡ length (drop (size f s) s) = omega (arith, length-drop (size f s) s) in
    more whole (and_left (right f s) (texts fs (drop (size f s) s)) t) (exact-stand fs (drop (size f s) s) rest (and_right (right f s) (texts fs (drop (size f s) s)) t))

-- and of fields that take exactly the bytes the test of their strings decides it
pub texts-decide : (fs : List Field) (s : List ℕ) → Exactly fs s → Decides (texts fs s) (Stand fs s)
texts-decide fs s h = record { right = λ t. exact-stand fs s (exactly-takes fs s h) t; whole = stand-texts fs s }

held-wrong : (g : ℕ) (f : Field) (s : List ℕ) → NotUtf8 g f s → held_fault f s ≡ because (DefinitionNotUtf8 g)
unfolding held_fault
held-wrong g f s (w, r, e) = rw (r, e)

-- the first string that fails is the row's fault
first-fails : (fs : List Field) (s : List ℕ) (g : ℕ) → StopsAt (NotUtf8 g) fs s → texts_fault fs s ≡ because (DefinitionNotUtf8 g)
unfolding texts_fault
first-fails fs s g h =
    let there = beyond h.stood s in
    let before : texts_fault h.stood s ≡ no_fault = texts-none h.stood s (stand-texts h.stood s h.stand) in
    let rest = texts_fault h.others (drop (size h.next there) there) in
    rw (h.row, texts-parts h.stood (h.next ∷ h.others) s, before) (ap (λ x. first_fault x rest) (held-wrong g h.next there h.fails))

-- of fields that take exactly the bytes each is whole
exactly-whole : (fs : List Field) (f : Field) (gs : List Field) (s : List ℕ) → Exactly (fs ++ (f ∷ gs)) s → Whole f (beyond fs s)
unfolding extent
exactly-whole [] f gs s (field w h) = w
exactly-whole (e ∷ fs) f gs s (field w h) = rw drop-drop at (exactly-whole fs f gs (drop (size e s) s) h)

-- and of such fields the fault is that of the first string that fails, exactly
pub texts-first : (fs : List Field) (s : List ℕ) → Exactly fs s → (g : ℕ) → (texts_fault fs s ≡ because (DefinitionNotUtf8 g)) ↔ StopsAt (NotUtf8 g) fs s
texts-first fs s x g = (λ e. go e (find fs s), first-fails fs s g)
  where
    go : texts_fault fs s ≡ because (DefinitionNotUtf8 g) → Found fs s → StopsAt (NotUtf8 g) fs s
    go e (inl h) = absurd (true≢false (ap is_refused (sym e ∙ texts-none fs s (stand-texts fs s h))))
    go e (inr (inl h)) = absurd (h.fails (exactly-whole h.stood h.next h.others s (subst (λ l. Exactly l s) h.row x)))
    go e (inr (inr (k, h))) = subst (λ n. StopsAt (NotUtf8 n) fs s) (ap fault_good (sym (first-fails fs s k h) ∙ e)) h

unsigned-below : (x : ℤ) → InBits 31 x → unsigned 31 x < 256 ^ 4
unsigned-below (pos n) h = omega arith
unsigned-below (negsuc n) h = omega arith

limit-below : (t : NodeType) (f : ℕ) (x : ℤ) → f < 2 ^ 32 → InBits 31 x → limit t f x < 256 ^ 4
limit-below Node f x h k = h
limit-below LinearFloat f x h k = h
limit-below LogarithmicFloat f x h k = h
limit-below FaderLevel f x h k = h
limit-below Integer f x h k = unsigned-below x k
limit-below StringEnum f x h k = h
limit-below FloatEnum f x h k = h
limit-below String f x h k = h

-- the flags that are written say type, unit and read-only
module _ (type unit : ℕ) (fits : type ≤ 7) (suits : unit ≤ 7) where
  flags-type : (ro : Bool) → flags_of type unit ro / 16 % 16 ≡ type
  flags-type true = omega arith
  flags-type false = omega arith

  flags-unit : (ro : Bool) → flags_of type unit ro % 16 ≡ unit
  flags-unit true = omega arith
  flags-unit false = omega arith

  flags-bit : (ro : Bool) → eqb (flags_of type unit ro / 512 % 2) 1 ≡ ro
  flags-bit true = let e : flags_of type unit true / 512 % 2 ≡ 1 = omega arith in rw e
  flags-bit false = let e : flags_of type unit false / 512 % 2 ≡ 0 = omega arith in rw e

  flags-good : (ro : Bool) → Canonical (flags_of type unit ro)
  flags-good true = record { type = omega arith; unit = omega arith; unused = (omega arith, omega arith) }
  flags-good false = record { type = omega arith; unit = omega arith; unused = (omega arith, omega arith) }

  flags-below : (ro : Bool) → flags_of type unit ro < 256 ^ 2
  flags-below true = omega arith
  flags-below false = omega arith

module _ (d : Fields) (l : Lent) (w : InWidth d) (fits : d.node_type ≤ 7) (suits : d.unit ≤ 7) (n : utf8 l.name ≡ true) (m : utf8 l.long_name ≡ true)
    (exact : exact_items (type_given d) d.count l.items ≡ true) (text : texts (items_of (type_given d) d.count) l.items ≡ true) where
  abbrev bytes : FieldName → List ℕ
  bytes = holds d l

  abbrev f : ℕ
  f = flags_of d.node_type d.unit d.read_only

  -- the number of each field is the one that was given
  read-32 : (x : ℕ) → x < 256 ^ 4 → big (bytes_of 4 x) ≡ x
  read-32 x h = number_digits 256 4 x (omega arith) h

  read-16 : (x : ℕ) → x < 256 ^ 2 → big (bytes_of 2 x) ≡ x
  read-16 x h = number_digits 256 2 x (omega arith) h

  signed_back : (x : ℤ) → InBits 31 x → signed 31 (big (bytes_of 4 (unsigned 31 x))) ≡ x
  signed_back x h = ap (signed 31) (read-32 (unsigned 31 x) (unsigned-below x h)) ∙ signed-unsigned 31 x h

  flags-number : numbers_of bytes Flags ≡ f
  unfolding number_of
  flags-number = read-16 f (flags-below d.node_type d.unit fits suits d.read_only)

  same-type : kind_of bytes ≡ type_given d
  same-type = ap (λ x. type_of (x / 16 % 16)) flags-number ∙ ap type_of (flags-type d.node_type d.unit fits suits d.read_only)

  front-is : body_given d l ≡ front_of bytes ++ l.items
  unfolding body_given
  front-is = ap (λ t. laid_by (holds d l) (header ++ added t) ++ l.items) (sym same-type)

  given-count : count_of bytes ≡ d.count
  unfolding number_of exact_items
  given-count = go (has_items (type_given d)) refl (and_right (eqb (extent (items_of (type_given d) d.count) l.items) (length l.items)) (or (has_items (type_given d)) (eqb d.count 0)) exact)
    where
      go : (b : Bool) → has_items (type_given d) ≡ b → or (has_items (type_given d)) (eqb d.count 0) ≡ true → count_of bytes ≡ d.count
      go true e h = rw (same-type, e) (read-16 d.count w.count)
      go false e h = rw (same-type, e) (sym (eqb-true d.count 0 (rw e at h)))

  fields_fit : FitsAll (map form (names_of bytes)) (map bytes (names_of bytes))
  fields_fit = all_fit bytes (holds_fits d l n m) (names_of bytes)

  items-take : extent (items_of (type_given d) d.count) l.items ≡ length l.items
  unfolding exact_items
  items-take = eqb-true _ _ (and_left (eqb (extent (items_of (type_given d) d.count) l.items) (length l.items)) (or (has_items (type_given d)) (eqb d.count 0)) exact)

  items-stand : Stand (items_of (kind_of bytes) (count_of bytes)) l.items
  items-stand =
      subst (λ t. Stand (items_of t (count_of bytes)) l.items) (sym same-type)
      (subst (λ c. Stand (items_of (type_given d) c) l.items) (sym given-count) (exact-stand (items_of (type_given d) d.count) l.items items-take text))

  details-same : (t : NodeType) (first : ℕ) → type_given d ≡ t → details_by t (numbers_of bytes) first ≡ details_given t d first
  unfolding number_of
  details-same t first e = go t e (read-32 _ (limit-below (type_given d) _ _ w.min_float w.min_int)) (read-32 _ (limit-below (type_given d) _ _ w.max_float w.max_int))
    where
      go : (t : NodeType) → type_given d ≡ t → numbers_of bytes Min ≡ limit (type_given d) d.min_float d.min_int → numbers_of bytes Max ≡ limit (type_given d) d.max_float d.max_int →
          details_by t (numbers_of bytes) first ≡ details_given t d first
      go Node e p q = refl
      go LinearFloat e p q = rw (p, q, signed_back d.steps w.steps, e)
      go LogarithmicFloat e p q = rw (p, q, signed_back d.steps w.steps, e)
      go FaderLevel e p q = refl
      go Integer e p q = rw (p, q, e, signed-unsigned 31 d.min_int w.min_int, signed-unsigned 31 d.max_int w.max_int)
      go StringEnum e p q = rw (read-16 d.count w.count)
      go FloatEnum e p q = rw (read-16 d.count w.count)
      go String e p q = rw (read-16 d.max_len w.max_len)

  values_same : (first : ℕ) → values_by (numbers_of bytes) bytes first ≡ values_given d l first
  unfolding number_of
  values_same first =
      let p = signed_back d.parent_id w.parent in
      let i = signed_back d.id w.id in
      let x = read-16 d.index w.index in
      let u = ap (λ x. unit_of (x % 16)) flags-number ∙ ap unit_of (flags-unit d.node_type d.unit fits suits d.read_only) in
      let r = ap (λ x. eqb (x / 512 % 2) 1) flags-number ∙ flags-bit d.node_type d.unit fits suits d.read_only in
      let c = ap (λ t. details_by t (numbers_of bytes) first) same-type ∙ details-same (type_given d) first refl in
      λ j. record {
        parent_id = p j;
        id = i j;
        index = x j;
        name = l.name;
        long_name = l.long_name;
        type = same-type j;
        unit = u j;
        read_only = r j;
        details = c j;
      }

  abbrev written : List ℕ
  written = front_of bytes ++ l.items

  all-count : count_in written ≡ d.count
  all-count = same_count bytes l.items fields_fit items-stand ∙ given-count

  walking : Walking written
  walking = definitions.walking written (body-taken bytes l.items fields_fit items-stand)

  one-item : (i : ℕ) → i < d.count → number_says written i ≡ ok (item_given (type_given d) l.items i)
  one-item i h = item_back bytes l.items fields_fit items-stand i (rw given-count h) ∙ ap (λ t. ok (item_given t l.items i)) same-type

  flags-canonical : Canonical (flags_in written)
  flags-canonical =
      subst Canonical (sym (same_flags bytes l.items fields_fit items-stand ∙ flags-number)) (flags-good d.node_type d.unit fits suits d.read_only)

  whole-extent : Ends written
  whole-extent =
      same-extent bytes l.items fields_fit items-stand ∙
      (λ j. length (front_of bytes) + extent (items_of (same-type j) (given-count j)) l.items) ∙ ap (λ n. length (front_of bytes) + n) items-take ∙ sym (length-append (front_of bytes) l.items)

  pub reads-as-given : ReadsAsGiven d l (body_given d l)
  reads-as-given =
      let long : length (front_of bytes) ≡ length written - length l.items = omega (arith, length-append (front_of bytes) l.items) in
      subst (ReadsAsGiven d l) (sym front-is) (record {
        definition = fields_back bytes l.items fields_fit items-stand ∙ ap ok (values_same (length (front_of bytes)) ∙ ap (values_given d l) long);
        items = one-item;
        steps = λ i h. walking.in_order i (rw all-count h) ∙ one-item i h;
        last = subst (λ c. step_says written (walked c written (walk_in written)) ≡ ok none) all-count walking.ends;
        flags = flags-canonical;
        ends = whole-extent;
      })

-- what the call gives: the body, or the fault
front_read : (b out : List ℕ) → take (length b) (placed out 0 b) ≡ b
unfolding placed
front_read b out = take-append_seam b (drop (0 + length b) out)

abbrev pub given_by : Fault → List ℕ → Result (List ℕ)
given_by (Ok u) b = ok b
given_by (Err why) b = refused why

pub put-gives : (fault : Fault) (b out : List ℕ) → gives (body_put fault b out) ≡ given_by fault b
put-gives (Ok u) b out = ap ok (front_read b out)
put-gives (Err why) b out = refl

pub writer-gives : (d : Fields) (l : Lent) (out : List ℕ) → gives (body_of_fields d l out) ≡ given_by (fault_of d l out) (body_given d l)
unfolding body_of_fields
writer-gives d l out = put-gives (fault_of d l out) (body_given d l) out

abbrev bytes_in : Result (List ℕ) → List ℕ
bytes_in (ok b) = b
bytes_in (refused why) = []

-- bytes that are given are the body, and nothing was at fault
given : (fault : Fault) (b body : List ℕ) → given_by fault b ≡ ok body → (fault ≡ no_fault) × (b ≡ body)
given (Ok u) b body e = (refl, ap (λ (r : Result (List ℕ)). bytes_in r) e)
given (Err why) b body e = absurd (let z : ◌≡◌ {A = ℕ} 0 1 = cc in omega arith)

-- what follows from no fault
pub record Passed (d : Fields) (l : Lent) : Type 0 where
  pub short : too_long l ≡ false
  pub type : d.node_type ≤ 7
  pub unit : d.unit ≤ 7
  pub exact : exact_items (type_given d) d.count l.items ≡ true
  pub name : utf8 l.name ≡ true
  pub long_name : utf8 l.long_name ≡ true
  pub items : texts (items_of (type_given d) d.count) l.items ≡ true

pub lent-passed : (d : Fields) (l : Lent) → lent_fault d l ≡ no_fault → Passed d l
unfolding lent_fault
lent-passed d l e =
    let exact = exact_items (type_given d) d.count l.items in
    go (too_long l) (ltb 7 d.node_type) (ltb 7 d.unit) exact refl refl refl refl e
  where
    go : (a b c x : Bool) → too_long l ≡ a → ltb 7 d.node_type ≡ b → ltb 7 d.unit ≡ c → exact_items (type_given d) d.count l.items ≡ x →
        if a (because NameLong) (if (or b (or c (not x))) (because FieldsUnfit) (all_texts_fault d l)) ≡ no_fault → Passed d l
    go true b c x p q r s e = absurd (true≢false (ap is_refused e))
    go false true c x p q r s e = absurd (true≢false (ap is_refused e))
    go false false true x p q r s e = absurd (true≢false (ap is_refused e))
    go false false false false p q r s e = absurd (true≢false (ap is_refused e))
    go false false false true p q r s e =
        let all = all_pass (text_fault l.name) (text_fault l.long_name) (texts_fault (items_of (type_given d) d.count) l.items) e in
        let passes : Fault → Bool = λ x. not (is_refused x) in
        record {
          short = p;
          type = ltb-false _ _ q;
          unit = ltb-false _ _ r;
          exact = s;
          name = sym (text-passes l.name) ∙ ap passes all.0;
          long_name = sym (text-passes l.long_name) ∙ ap passes all.1;
          items = ap passes all.2;
        }

pub passed-lent : (d : Fields) (l : Lent) → Passed d l → lent_fault d l ≡ no_fault
unfolding lent_fault text_fault
passed-lent d l p =
    rw (p.short, le-ltb 7 d.node_type p.type, le-ltb 7 d.unit p.unit, p.exact, p.name, p.long_name) (texts-none (items_of (type_given d) d.count) l.items p.items)

pub lent_none : (d : Fields) (l : Lent) (out : List ℕ) → fault_of d l out ≡ no_fault → lent_fault d l ≡ no_fault
lent_none d l out e = go (lent_fault d l) e
  where
    go : (x : Fault) → first_fault x (room_fault (body_given d l) out) ≡ no_fault → x ≡ no_fault
    go (Ok u) h = refl
    go (Err why) h = absurd (true≢false (ap is_refused h))

pub written_back : (d : Fields) (l : Lent) (out : List ℕ) → InWidth d → (body : List ℕ) → gives (body_of_fields d l out) ≡ ok body → ReadsAsGiven d l body
written_back d l out w body e =
    let both = given (fault_of d l out) (body_given d l) body (sym (writer-gives d l out) ∙ e) in
    let p = lent-passed d l (lent_none d l out both.0) in
    subst (ReadsAsGiven d l) both.1 (reads-as-given d l w p.type p.unit p.name p.long_name p.exact p.items)
