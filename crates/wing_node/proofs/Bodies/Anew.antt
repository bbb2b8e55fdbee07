-- A body that was read and is written anew has the same bytes exactly when its flags are canonical and nothing follows its last field: for every type.
use mathlib.Core.Path.{◌≡◌, refl, ◌∙◌, ap, sym, subst}
use mathlib.Core.Bool.{Bool, true, false}
use mathlib.Core.Logic.{◌↔◌}
use mathlib.Core.List.{List, [], ◌∷◌, ◌++◌, map, append_assoc, append-nil}
use Prim.Native.Nat.{ℕ, zero, suc, ◌+◌, ◌-◌, ◌/◌, ◌%◌, ◌^◌, ◌≤◌, ◌<◌}
use native.Mathlib.Omega.{arith}
use lib.Dec.{eqb}
use lib.ListN.{length, take, drop, length-append, length-drop, drop_of_length-le}
use lib.Seq.{take-append_seam, drop-append_seam, drop-append-add, take_at, drop_at}
use borrow.Author.Tests.{eq-eqb, lt-ltb, le-ltb}
use Rattle.wing_node.specs.Refusal.{no_fault, because, Fault}
use Rattle.wing_node.specs.Bool.{if, or}
use Rattle.wing_node.specs.Result.{Result, ok, refused}
use Rattle.wing_node.specs.Field.{big, bytes_of}
use Rattle.wing_node.specs.Types.{type_of, type_number, unit_number, has_items}
use Rattle.wing_node.specs.Cursor.{Field, number, string, cursor, after}
use Rattle.wing_node.specs.Standing.{extent, beyond, Stand}
use Rattle.wing_node.specs.Definition.{FieldName, ParentId, Id, Index, Name, LongName, Flags, Min, Max, Steps, Count, MaxLen, form, header, added, times, items_of}
use Rattle.wing_node.specs.Laid.{laid, laid_all, FitsAll}
use Rattle.wing_node.specs.Answers.{DefinitionValues, values_of, details_by, parsed_result}
use Rattle.wing_node.specs.InBody.{number_named, bytes_named, type_in, names_in, count_in, all_fields, first_in, definition_in}
use Rattle.wing_node.specs.Written.{laid_by}
use Rattle.wing_node.specs.Writer.{Lent, lent, type_given, holds, body_given, exact_items, texts, room_fault, fault_of, body_of_fields}
use Rattle.wing_node.specs.Anew.{fields_by, fields_of, item_bytes, lent_from}
use Rattle.wing_node.specs.BothWays.{BothWays, Canonical, flags_in, Ends, flags_at, flags_anew, WrittenAnew, gives, Reading}
use Rattle.wing_node.specs.declared.refusal.Refusal.TheVariants.{BodyLong, OutputShort}
use Rattle.wing_node.specs.declared.node_type.NodeType.{NodeType}
use Rattle.wing_node.specs.declared.node_type.NodeType.TheVariants.{Node, LinearFloat, LogarithmicFloat, FaderLevel, Integer, StringEnum, FloatEnum, String}
use Rattle.wing_node.specs.declared.definition.Span.{Span}
use Rattle.wing_node.specs.declared.definition.Details.{Details}
use Rattle.wing_node.specs.declared.definition.Details.TheVariants.{None, Floats, Integers, Items, String as max_len}
use Rattle.wing_node.specs.declared.definition.Definition.{Definition}
use Rattle.wing_node.specs.declared.writer.Fields.{Fields}
use Rattle.wing_node.proofs.Numerals.Numbers.{Digits, length-digits_in, number_digits}
use Rattle.wing_node.proofs.Numerals.Signs.{unsigned_signed}
use Rattle.wing_node.proofs.Bodies.Flags.{rewritten, flags-anew, type-below, unit-below, kept, only, small, small-below, apart}
use Rattle.wing_node.proofs.Bodies.Standing.{passes, stand-parts, beyond-parts}
use Rattle.wing_node.proofs.Bodies.InBody.{has, number-later}
use Rattle.wing_node.proofs.Bodies.Parsing.{taken, said}
use Rattle.wing_node.proofs.Bodies.Laid.{laid-stand, laid-extent}
use Rattle.wing_node.proofs.Bodies.Walks.{no-count}
use Rattle.wing_node.proofs.Bodies.Back.{given_by, Passed, passed-lent, writer-gives, written_back}
use Rattle.wing_node.proofs.Bodies.Held.{contents_in, stand-laid, stand-fits, stand-texts, stand-within, named-contents, number-back, string-back, extent-laid, front-laid}

-- the fields of a definition by what the parser said of it
abbrev nowhere : Span
nowhere = record { start = 0; len = 0 }

abbrev as_read : DefinitionValues → Definition
as_read v =
    record {
      parent_id = v.parent_id;
      id = v.id;
      index = v.index;
      name = nowhere;
      long_name = nowhere;
      node_type = v.type;
      unit = v.unit;
      read_only = v.read_only;
      details = v.details;
    }

same-fields : (body : List ℕ) (d : Definition) (e : Details) → fields_by d e ≡ fields_by (as_read (values_of body d)) e
same-fields body d None = refl
same-fields body d (Floats min max steps) = refl
same-fields body d (Integers min max) = refl
same-fields body d (Items count first) = refl
same-fields body d (max_len n) = refl

abbrev fields_said : DefinitionValues → Fields
fields_said v = fields_by (as_read v) v.details

abbrev lent_said : List ℕ → DefinitionValues → Lent
lent_said body v = lent v.name v.long_name (item_bytes body v.type v.details)

-- what the header holds does not go by the details
header-held : (d : Definition) (e : Details) (l : Lent) → map (holds (fields_by d e) l) header ≡ map (holds (fields_by d None) l) header
header-held d None l = refl
header-held d (Floats min max steps) l = refl
header-held d (Integers min max) l = refl
header-held d (Items count first) l = refl
header-held d (max_len n) l = refl

type-held : (d : Definition) (e : Details) → (fields_by d e).node_type ≡ type_number d.node_type
type-held d None = refl
type-held d (Floats min max steps) = refl
type-held d (Integers min max) = refl
type-held d (Items count first) = refl
type-held d (max_len n) = refl

unit-held : (d : Definition) (e : Details) → (fields_by d e).unit ≡ unit_number d.unit
unit-held d None = refl
unit-held d (Floats min max steps) = refl
unit-held d (Integers min max) = refl
unit-held d (Items count first) = refl
unit-held d (max_len n) = refl

type-back : (t : NodeType) → type_of (type_number t) ≡ t
unfolding type_of
type-back Node = refl
type-back LinearFloat = refl
type-back LogarithmicFloat = refl
type-back FaderLevel = refl
type-back Integer = refl
type-back StringEnum = refl
type-back FloatEnum = refl
type-back String = refl

-- what each type adds is held as it was read
module _ (d : Definition) (l : Lent) (v : FieldName → ℕ) (c : FieldName → List ℕ) (first : ℕ) where
  added-held : (t : NodeType) → d.node_type ≡ t →
      ((k : FieldName) (w : ℕ) → form k ≡ number w → has (header ++ added t) k ≡ true → (bytes_of w (v k) ≡ c k) × (v k < 256 ^ w)) →
      map (holds (fields_by d (details_by t v first)) l) (added t) ≡ map c (added t)
  unfolding type_of
  added-held Node e h = refl
  added-held LinearFloat e h = rw (e, unsigned_signed 31 (v Steps) (h Steps 4 refl refl).1, (h Min 4 refl refl).0, (h Max 4 refl refl).0, (h Steps 4 refl refl).0)
  added-held LogarithmicFloat e h = rw (e, unsigned_signed 31 (v Steps) (h Steps 4 refl refl).1, (h Min 4 refl refl).0, (h Max 4 refl refl).0, (h Steps 4 refl refl).0)
  added-held FaderLevel e h = refl
  added-held Integer e h =
      rw (e, unsigned_signed 31 (v Min) (h Min 4 refl refl).1, unsigned_signed 31 (v Max) (h Max 4 refl refl).1, (h Min 4 refl refl).0, (h Max 4 refl refl).0)
  added-held StringEnum e h = rw (h Count 2 refl refl).0
  added-held FloatEnum e h = rw (h Count 2 refl refl).0
  added-held String e h = rw (h MaxLen 2 refl refl).0

  count_held : (t : NodeType) → (fields_by d (details_by t v first)).count ≡ if (has_items t) (v Count) 0
  count_held Node = refl
  count_held LinearFloat = refl
  count_held LogarithmicFloat = refl
  count_held FaderLevel = refl
  count_held Integer = refl
  count_held StringEnum = refl
  count_held FloatEnum = refl
  count_held String = refl

-- the bytes of the items, from the first to the end of the last
no-extent : (n : ℕ) (s : List ℕ) → extent (times n []) s ≡ 0
unfolding times extent
no-extent zero s = refl
no-extent (suc n) s = no-extent n s

none_lent : (n : ℕ) (s : List ℕ) → [] ≡ take (extent (times n []) s) s
none_lent n s = rw (no-extent n s)

some-lent : (t : NodeType) (n first : ℕ) (body : List ℕ) → Stand (items_of t n) (drop first body) →
    take ((after (items_of t n) body (cursor first no_fault)).at - first) (drop first body) ≡ take (extent (items_of t n) (drop first body)) (drop first body)
some-lent t n first body h =
    let e : first + extent (items_of t n) (drop first body) - first ≡ extent (items_of t n) (drop first body) = omega arith in
    rw (passes (items_of t n) body first h, e)

items-lent : (t : NodeType) (v : FieldName → ℕ) (first : ℕ) (body : List ℕ) → Stand (items_of t (v Count)) (drop first body) →
    item_bytes body t (details_by t v first) ≡ take (extent (items_of t (v Count)) (drop first body)) (drop first body)
items-lent Node v first body h = none_lent (v Count) (drop first body)
items-lent LinearFloat v first body h = none_lent (v Count) (drop first body)
items-lent LogarithmicFloat v first body h = none_lent (v Count) (drop first body)
items-lent FaderLevel v first body h = none_lent (v Count) (drop first body)
items-lent Integer v first body h = none_lent (v Count) (drop first body)
items-lent StringEnum v first body h = some-lent StringEnum (v Count) first body h
items-lent FloatEnum v first body h = some-lent FloatEnum (v Count) first body h
items-lent String v first body h = none_lent (v Count) (drop first body)

-- six fields and others, grouped about the sixth
regroup : (p i x n l f a s : List ℕ) → (p ++ (i ++ (x ++ (n ++ (l ++ (f ++ a)))))) ++ s ≡ (p ++ (i ++ (x ++ (n ++ l)))) ++ (f ++ (a ++ s))
regroup p i x n l f a s = simp append_assoc

-- a body of bytes whose fields all stand
module _ (body : List ℕ) (b : Digits 256 body) (stand : Stand (all_fields body) body) where
  abbrev t : NodeType
  t = type_in body

  abbrev names : List FieldName
  names = names_in body

  abbrev v : FieldName → ℕ
  v k = number_named names k body

  abbrev c : FieldName → List ℕ
  c k = bytes_named names k body

  abbrev tail : List ℕ
  tail = beyond (map form names) body

  abbrev fields_of_items : List Field
  fields_of_items = items_of t (count_in body)

  parts : Stand (map form names) body × Stand fields_of_items tail
  parts = stand-parts (map form names) fields_of_items body stand

  held : (k : FieldName) (w : ℕ) → form k ≡ number w → has names k ≡ true → (bytes_of w (v k) ≡ c k) × (v k < 256 ^ w)
  held k w e h = number-back k w e names body h b parts.0

  -- what the parser said, as fields and what is lent
  abbrev Said : DefinitionValues
  Said = definition_in body

  abbrev G : Fields
  G = fields_said Said

  abbrev L : Lent
  L = lent_said body Said

  same-type : Said.type ≡ t
  unfolding number_named
  same-type = refl

  given-type : type_given G ≡ t
  given-type = ap type_of (type-held (as_read Said) Said.details) ∙ type-back Said.type ∙ same-type

  no-count-else : has_items t ≡ false → v Count ≡ 0
  no-count-else h = number-later header (added t) Count body refl ∙ no-count t (beyond (map form header) body) h

  given-count : G.count ≡ count_in body
  given-count = subst (λ u. (fields_by (as_read Said) (details_by u v (first_in body))).count ≡ v Count) (sym same-type) (count_held (as_read Said) L v c (first_in body) t ∙ go (has_items t) refl)
    where
      go : (q : Bool) → has_items t ≡ q → if q (v Count) 0 ≡ v Count
      go true h = refl
      go false h = sym (no-count-else h)

  -- the items that are lent
  abbrev its : List ℕ
  its = laid_all fields_of_items (contents_in fields_of_items tail)

  items-are : L.items ≡ its
  items-are = subst (λ u. item_bytes body u (details_by u v (first_in body)) ≡ its) (sym same-type) (items-lent t v (first_in body) body parts.1 ∙ front-laid fields_of_items tail parts.1)

  rest : List ℕ
  rest = beyond fields_of_items tail

  tail-is : tail ≡ its ++ rest
  unfolding rest
  tail-is = stand-laid fields_of_items tail parts.1

  rest-is : rest ≡ beyond (all_fields body) body
  unfolding rest
  rest-is = sym (beyond-parts (map form names) fields_of_items body)

  -- the flags anew
  abbrev f : List ℕ
  f = bytes_of 2 (v Flags)

  abbrev f' : List ℕ
  f' = bytes_of 2 (rewritten (v Flags))

  abbrev x : List ℕ
  x = c ParentId ++ (c Id ++ (c Index ++ (laid string (c Name) ++ laid string (c LongName))))

  abbrev a : List ℕ
  a = laid_all (map form (added t)) (map c (added t))

  header-anew : map (holds G L) header ≡ c ParentId ∷ c Id ∷ c Index ∷ c Name ∷ c LongName ∷ f' ∷ []
  header-anew = header-held (as_read Said) Said.details L ∙
      rw (unsigned_signed 31 (v ParentId) (held ParentId 4 refl refl).1, unsigned_signed 31 (v Id) (held Id 4 refl refl).1, (held ParentId 4 refl refl).0, (held Id 4 refl refl).0, (held Index 2 refl refl).0, flags-anew (v Flags))

  added-anew : map (holds G L) (added t) ≡ map c (added t)
  added-anew = subst (λ u. map (holds (fields_by (as_read Said) (details_by u v (first_in body))) L) (added t) ≡ map c (added t)) (sym same-type) (added-held (as_read Said) L v c (first_in body) t same-type held)

  abbrev row : List ℕ → List (List ℕ)
  row g = c ParentId ∷ c Id ∷ c Index ∷ c Name ∷ c LongName ∷ g ∷ map c (added t)

  -- fields with these flags, and then bytes
  row_laid : (g s : List ℕ) → laid_all (map form names) (row g) ++ s ≡ x ++ (g ++ (a ++ s))
  unfolding laid_all laid
  row_laid g s = regroup (c ParentId) (c Id) (c Index) (laid string (c Name)) (laid string (c LongName)) g a s

  anew_is : body_given G L ≡ x ++ (f' ++ (a ++ its))
  unfolding body_given
  anew_is =
      ap (λ u. laid_by (holds G L) (header ++ added u) ++ L.items) given-type ∙
      (λ j. laid_all (map form names) (header-anew j ++ added-anew j) ++ items-are j) ∙ row_laid f' its

  body_is : body ≡ x ++ (f ++ ((a ++ its) ++ rest))
  body_is =
      stand-laid (map form names) body parts.0 ∙ ap (λ vs. laid_all (map form names) vs ++ tail) (sym (named-contents t body)) ∙
      row_laid (c Flags) tail ∙ (λ j. x ++ (sym (held Flags 2 refl refl).0 j ++ (a ++ tail-is j))) ∙ ap (λ s. x ++ (f ++ s)) (sym (append_assoc a its rest))

  -- the same exactly when the flags are, and nothing follows
  flags-length : length f' ≡ length f
  flags-length = length-digits_in 256 2 (rewritten (v Flags)) ∙ sym (length-digits_in 256 2 (v Flags))

  flags-in : v Flags ≡ flags_in body
  unfolding number_named
  flags-in = refl

  rewritten-fits : rewritten (v Flags) < 256 ^ 2
  rewritten-fits =
      let p : small (v Flags / 16 % 16) < 8 = small-below (v Flags / 16 % 16) in
      let q : small (v Flags % 16) < 8 = small-below (v Flags % 16) in
      omega arith

  flags-same : f' ≡ f → Canonical (flags_in body)
  flags-same e =
      subst Canonical flags-in
      (only (v Flags) (sym (number_digits 256 2 (rewritten (v Flags)) (omega arith) rewritten-fits) ∙ ap big e ∙ number_digits 256 2 (v Flags) (omega arith) (held Flags 2 refl refl).1))

  within : extent (all_fields body) body ≤ length body
  within = stand-within (all_fields body) body stand

  rest-none : rest ≡ [] → Ends body
  rest-none e = omega (arith, length-drop (extent (all_fields body) body) body, ap length (sym rest-is ∙ e), within)

  none_rest : Ends body → rest ≡ []
  none_rest e = rest-is ∙ drop_of_length-le body {i = extent (all_fields body) body} (omega arith)

  pub same_bytes : (body_given G L ≡ body) ↔ (Canonical (flags_in body) × Ends body)
  same_bytes = (
    λ e. let both = apart x f' f (a ++ its) rest flags-length (sym anew_is ∙ e ∙ body_is) in (flags-same both.0, rest-none both.1),
    λ h. anew_is ∙ (λ j. x ++ (bytes_of 2 (kept (v Flags) (subst Canonical (sym flags-in) h.0) j) ++ (a ++ its))) ∙ sym (body_is ∙ ap (λ s. x ++ (f ++ s)) (ap (λ s. (a ++ its) ++ s) (none_rest h.1) ∙ append-nil (a ++ its))),
  )

  -- how long it is
  pub anew-length : length (body_given G L) ≡ extent (all_fields body) body
  anew-length =
      let u = a ++ its in
      let first : length (body_given G L) ≡ length x + (length f' + length u) = ap length anew_is ∙ length-append x (f' ++ u) ∙ ap (λ m. length x + m) (length-append f' u) in
      let second : length body ≡ length x + (length f + (length u + length rest)) =
      ap length body_is ∙ length-append x (f ++ (u ++ rest)) ∙ ap (λ m. length x + m) (length-append f (u ++ rest) ∙ ap (λ m. length f + m) (length-append u rest)) in
      omega (arith, first, second, flags-length, within, ap length rest-is, length-drop (extent (all_fields body) body) body)

  -- nothing of it is at fault
  items-fit : FitsAll fields_of_items (contents_in fields_of_items tail)
  items-fit = stand-fits fields_of_items tail parts.1

  items-exact : exact_items t (count_in body) its ≡ true
  unfolding exact_items
  items-exact =
      let e : extent fields_of_items its ≡ length its = rw (append-nil its) at (laid-extent [] items-fit) in
      rw (eq-eqb (extent fields_of_items its) (length its) e) (go (has_items t) refl)
    where
      go : (q : Bool) → has_items t ≡ q → or q (eqb (count_in body) 0) ≡ true
      go true h = refl
      go false h = eq-eqb (count_in body) 0 (no-count-else h)

  items-texts : texts fields_of_items its ≡ true
  items-texts = stand-texts fields_of_items its (rw (append-nil its) at (laid-stand [] items-fit))

  anew-passed : Passed G L
  anew-passed =
      let name = string-back Name refl names body refl b parts.0 in
      let long_name = string-back LongName refl names body refl b parts.0 in
      record {
        short = rw (le-ltb 255 (length (c Name)) name.0, le-ltb 255 (length (c LongName)) long_name.0);
        type = rw (type-held (as_read Said) Said.details) (type-below (v Flags / 16 % 16) (omega arith));
        unit = rw (unit-held (as_read Said) Said.details) (unit-below (v Flags % 16) (omega arith));
        exact = (λ j. exact_items (given-type j) (given-count j) (items-are j)) ∙ items-exact;
        name = name.1;
        long_name = long_name.1;
        items = (λ j. texts (items_of (given-type j) (given-count j)) (items-are j)) ∙ items-texts;
      }

  -- only the flags differ, and what follows the last field is left out
  abbrev five : List FieldName
  five = ParentId ∷ Id ∷ Index ∷ Name ∷ LongName ∷ []

  five-laid : laid_all (map form five) (contents_in (map form five) body) ≡ x
  unfolding laid_all laid bytes_named
  five-laid = rw (append-nil (c LongName))

  flags-at : flags_at body ≡ length x
  flags-at = extent-laid (map form five) body (stand-parts (map form five) (map form (Flags ∷ added t)) body parts.0).0 ∙ ap length five-laid

  pub anew-front : take (flags_at body) (body_given G L) ≡ take (flags_at body) body
  anew-front =
      rw flags-at
      (ap (take (length x)) anew_is ∙ take-append_seam x (f' ++ (a ++ its)) ∙ sym (ap (take (length x)) body_is ∙ take-append_seam x (f ++ ((a ++ its) ++ rest))))

  pub anew-flags : take 2 (drop (flags_at body) (body_given G L)) ≡ bytes_of 2 (flags_anew (flags_in body))
  anew-flags =
      rw flags-at
      (ap (λ s. take 2 (drop (length x) s)) anew_is ∙ ap (take 2) (drop-append_seam x (f' ++ (a ++ its))) ∙ take_at f' (a ++ its) 2 (length-digits_in 256 2 (rewritten (v Flags))) ∙
      ap (bytes_of 2) (sym (flags-anew (v Flags)) ∙ ap flags_anew flags-in))

  fields-length : length (x ++ (f ++ (a ++ its))) ≡ extent (all_fields body) body
  fields-length =
      length-append x (f ++ (a ++ its)) ∙ ap (λ m. length x + m) (length-append f (a ++ its) ∙ ap (λ m. m + length (a ++ its)) (sym flags-length) ∙ sym (length-append f' (a ++ its))) ∙
      sym (length-append x (f' ++ (a ++ its))) ∙ ap length (sym anew_is) ∙ anew-length

  pub anew-rest : drop (flags_at body + 2) (body_given G L) ≡ drop (flags_at body + 2) (take (extent (all_fields body) body) body)
  anew-rest =
      let u = a ++ its in
      let past : (g : List ℕ) → length g ≡ 2 → drop (length x + 2) (x ++ (g ++ u)) ≡ u = λ g e. drop-append-add x (g ++ u) 2 ∙ drop_at g u 2 e in
      let all : take (extent (all_fields body) body) body ≡ x ++ (f ++ u) =
      ap (take (extent (all_fields body) body)) (body_is ∙ ap (λ s. x ++ s) (sym (append_assoc f u rest)) ∙ sym (append_assoc x (f ++ u) rest)) ∙ take_at (x ++ (f ++ u)) rest (extent (all_fields body) body) fields-length in
      rw flags-at
      (ap (drop (length x + 2)) anew_is ∙ past f' (length-digits_in 256 2 (rewritten (v Flags))) ∙ sym (ap (drop (length x + 2)) all ∙ past f (length-digits_in 256 2 (v Flags))))

  -- what the writer gives
  pub anew-fault : (out : List ℕ) → fault_of G L out ≡ room_fault (body_given G L) out
  anew-fault out = rw (passed-lent G L anew-passed)

-- by the parser's own answer
abbrev values_in : DefinitionValues → Result DefinitionValues → DefinitionValues
values_in v (ok w) = w
values_in v (refused why) = v

said-values : (r s : DefinitionValues) → ◌≡◌ {A = Result DefinitionValues} (ok r) (ok s) → r ≡ s
said-values r s e = ap (values_in r) e

module _ (body out : List ℕ) (d : Definition) (reading : Reading body d) where
  body-stands : Stand (all_fields body) body
  body-stands = (taken body).0 (record { definition = values_of body d; says = ap (parsed_result body) reading.answer })

  values-are : values_of body d ≡ definition_in body
  values-are = said-values _ _ (sym (ap (parsed_result body) reading.answer) ∙ said body body-stands)

  abbrev anew : List ℕ
  anew = body_given (fields_said (definition_in body)) (lent_said body (definition_in body))

  given_is : gives (body_of_fields (fields_of d) (lent_from body d) out) ≡ gives (body_of_fields (fields_said (definition_in body)) (lent_said body (definition_in body)) out)
  given_is =
      ap (λ (g : Fields). gives (body_of_fields g (lent_from body d) out)) (same-fields body d d.details) ∙
      ap (λ (v : DefinitionValues). gives (body_of_fields (fields_said v) (lent_said body v) out)) values-are

  came : (x : Fault) → room_fault anew out ≡ x → gives (body_of_fields (fields_of d) (lent_from body d) out) ≡ given_by x anew
  came x e = given_is ∙ writer-gives _ _ out ∙ rw (anew-fault body reading.bytes body-stands out, e)

  long-is : length anew ≡ extent (all_fields body) body
  long-is = anew-length body reading.bytes body-stands

  pub written-long : 4096 < extent (all_fields body) body → gives (body_of_fields (fields_of d) (lent_from body d) out) ≡ refused BodyLong
  unfolding room_fault
  written-long h = came (because BodyLong) (rw (long-is, lt-ltb 4096 (extent (all_fields body) body) h))

  module _ (fits : extent (all_fields body) body ≤ 4096) where
    pub written-anew : extent (all_fields body) body ≤ length out → WrittenAnew body (gives (body_of_fields (fields_of d) (lent_from body d) out))
    unfolding room_fault
    written-anew h =
        record {
          bytes = anew;
          written = came no_fault (rw (long-is, le-ltb 4096 (extent (all_fields body) body) fits, le-ltb (length out) (extent (all_fields body) body) h));
          same = same_bytes body reading.bytes body-stands;
          front = anew-front body reading.bytes body-stands;
          flags = anew-flags body reading.bytes body-stands;
          rest = anew-rest body reading.bytes body-stands;
        }

    pub written-short : length out < extent (all_fields body) body → gives (body_of_fields (fields_of d) (lent_from body d) out) ≡ refused OutputShort
    unfolding room_fault
    written-short h = came (because OutputShort) (rw (long-is, le-ltb 4096 (extent (all_fields body) body) fits, lt-ltb (length out) (extent (all_fields body) body) h))

pub both_ways : BothWays
both_ways = record { back = written_back; anew = written-anew; long = written-long; short = written-short }
