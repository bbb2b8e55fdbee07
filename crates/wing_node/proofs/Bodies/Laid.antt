-- Fields that are laid stand, and hold what they were laid with; a whole definition reads back so, for all types at once.
use mathlib.Core.Path.{◌≡◌, refl, ◌∙◌, ap, sym, subst}
use mathlib.Core.Bool.{Bool, true, false}
use mathlib.Core.List.{List, [], ◌∷◌, ◌++◌, map, append_assoc}
use Prim.Native.Nat.{ℕ, zero, suc, ◌+◌, ◌/◌, ◌%◌, ◌<◌}
use native.Mathlib.Omega.{arith}
use lib.Dec.{eqb}
use lib.ListN.{length, drop, get_or, length-append}
use lib.Seq.{drop-append_seam, take-append_seam}
use borrow.Author.Tests.{eqb-true}
use Rattle.wing_node.specs.Bool.{if}
use Rattle.wing_node.specs.Result.{ok}
use Rattle.wing_node.specs.Utf8.{utf8}
use Rattle.wing_node.specs.Types.{type_of, has_items}
use Rattle.wing_node.specs.Cursor.{Field, number, string, size, content, right, value_of}
use Rattle.wing_node.specs.Definition.{FieldName, ParentId, Id, Index, Name, LongName, Flags, Min, Max, Steps, Count, MaxLen, name_number, form, header, added, times, items_of}
use Rattle.wing_node.specs.Laid.{laid, laid_all, Fits, FitsAll, empty, more, number_of}
use Rattle.wing_node.specs.Standing.{Whole, extent, beyond, Stand, empty as empty_stand, more as more_stand}
use Rattle.wing_node.specs.Answers.{values_by, details_by}
use Rattle.wing_node.specs.InBody.{number_named, bytes_named, type_in, count_in, all_fields, first_in, item_in}
use Rattle.wing_node.specs.Parsing.{parser_says, number_says, Takes}
use Rattle.wing_node.specs.Written.{Pair, in_row, pair_values, numbers_of, kind_of, names_of, front_of, count_of, list_of, body_of, Fit}
use Rattle.wing_node.specs.declared.node_type.NodeType.{NodeType}
use Rattle.wing_node.specs.declared.node_type.NodeType.TheVariants.{Node, LinearFloat, LogarithmicFloat, FaderLevel, Integer, StringEnum, FloatEnum, String}
use Rattle.wing_node.proofs.Bodies.Standing.{stand-join, extent-parts, beyond-parts}
use Rattle.wing_node.proofs.Bodies.InBody.{has, one_name, number-later}
use Rattle.wing_node.proofs.Bodies.Parsing.{taken, said}
use Rattle.wing_node.proofs.Bodies.Walks.{by_number_lem, no-count}

-- one field, laid before a rest
laid-size : (f : Field) (v rest : List ℕ) → Fits f v → size f (laid f v ++ rest) ≡ length (laid f v)
unfolding laid size
laid-size (number w) v rest h = sym h
laid-size string v rest h = omega arith

laid-right : (f : Field) (v rest : List ℕ) → Fits f v → right f (laid f v ++ rest) ≡ true
unfolding laid right content
laid-right (number w) v rest h = refl
laid-right string v rest h = ap utf8 (take-append_seam v rest) ∙ h

laid-value : (f : Field) (v rest : List ℕ) → Fits f v → value_of f (laid f v ++ rest) ≡ number_of f v
unfolding laid value_of number_of
laid-value (number w) v rest h = rw (← h, take-append_seam)
laid-value string v rest h = refl

-- the bytes after it, and those that it holds
laid-drop : (f : Field) (v rest : List ℕ) → Fits f v → drop (size f (laid f v ++ rest)) (laid f v ++ rest) ≡ rest
laid-drop f v rest h = rw (laid-size f v rest h) (drop-append_seam (laid f v) rest)

laid-whole : (f : Field) (v rest : List ℕ) → Fits f v → Whole f (laid f v ++ rest)
laid-whole f v rest h = rw (laid-size f v rest h) (simp length-append (omega arith))

pub laid-content : (f : Field) (v rest : List ℕ) → Fits f v → content f (laid f v ++ rest) ≡ v
unfolding laid content
laid-content (number w) v rest h = rw (← h, take-append_seam)
laid-content string v rest h = take-append_seam v rest

-- fields in a row
pub laid-stand : {fs : List Field} {vs : List (List ℕ)} (rest : List ℕ) → FitsAll fs vs → Stand fs (laid_all fs vs ++ rest)
unfolding laid_all
laid-stand rest empty = empty_stand
laid-stand rest (more {f} {v} {fs} {vs} h hs) =
    rw append_assoc (more_stand {f = f} {fs = fs} (laid-whole f v (laid_all fs vs ++ rest) h) (laid-right f v (laid_all fs vs ++ rest) h) (rw (laid-drop f v (laid_all fs vs ++ rest) h) (laid-stand rest hs)))

pub laid-extent : {fs : List Field} {vs : List (List ℕ)} (rest : List ℕ) → FitsAll fs vs → extent fs (laid_all fs vs ++ rest) ≡ length (laid_all fs vs)
unfolding laid_all extent
laid-extent rest empty = refl
laid-extent rest (more {f} {v} {fs} {vs} h hs) =
    let tail = laid_all fs vs ++ rest in
    rw (append_assoc, laid-drop f v tail h, laid-size f v tail h, laid-extent rest hs) (sym (length-append (laid f v) (laid_all fs vs)))

pub laid-beyond : {fs : List Field} {vs : List (List ℕ)} (rest : List ℕ) → FitsAll fs vs → beyond fs (laid_all fs vs ++ rest) ≡ rest
laid-beyond {fs} {vs} rest h = rw (laid-extent rest h) (drop-append_seam (laid_all fs vs) rest)

-- the field of a name
choose : {A : Type 0} (b among : Bool) (x y z : A) → if b true among ≡ true → (b ≡ true → x ≡ z) → (among ≡ true → y ≡ z) → if b x y ≡ z
choose true among x y z h p q = p refl
choose false among x y z h p q = q h

module _ (bytes : FieldName → List ℕ) where
  pub number-laid : (ks : List FieldName) (k : FieldName) (rest : List ℕ) → has ks k ≡ true → FitsAll (map form ks) (map bytes ks) →
      number_named ks k (laid_all (map form ks) (map bytes ks) ++ rest) ≡ numbers_of bytes k
  unfolding number_named laid_all
  number-laid [] k rest h empty = absurd (let z : ◌≡◌ {A = ℕ} 0 1 = cc in omega arith)
  number-laid (j ∷ js) k rest h (more fit fits) =
      let tail = laid_all (map form js) (map bytes js) ++ rest in
      rw (append_assoc, laid-drop (form j) (bytes j) tail fit)
      (choose (eqb (name_number j) (name_number k)) (has js k) _ _ _ h (λ e. laid-value (form j) (bytes j) tail fit ∙ ap (numbers_of bytes) (one_name j k (eqb-true _ _ e))) (λ i. number-laid js k rest i fits))

  pub bytes-laid : (ks : List FieldName) (k : FieldName) (rest : List ℕ) → has ks k ≡ true → FitsAll (map form ks) (map bytes ks) →
      bytes_named ks k (laid_all (map form ks) (map bytes ks) ++ rest) ≡ bytes k
  unfolding bytes_named laid_all
  bytes-laid [] k rest h empty = absurd (let z : ◌≡◌ {A = ℕ} 0 1 = cc in omega arith)
  bytes-laid (j ∷ js) k rest h (more fit fits) =
      let tail = laid_all (map form js) (map bytes js) ++ rest in
      rw (append_assoc, laid-drop (form j) (bytes j) tail fit)
      (choose (eqb (name_number j) (name_number k)) (has js k) _ _ _ h (λ e. laid-content (form j) (bytes j) tail fit ∙ ap bytes (one_name j k (eqb-true _ _ e))) (λ i. bytes-laid js k rest i fits))

-- what a type adds, by numbers that are the same for its own fields
details-alike : (t : NodeType) (v v' : FieldName → ℕ) (first : ℕ) → ((k : FieldName) → has (header ++ added t) k ≡ true → v k ≡ v' k) → details_by t v first ≡ details_by t v' first
details-alike Node v v' first h = refl
details-alike LinearFloat v v' first h = rw (h Min refl, h Max refl, h Steps refl)
details-alike LogarithmicFloat v v' first h = rw (h Min refl, h Max refl, h Steps refl)
details-alike FaderLevel v v' first h = refl
details-alike Integer v v' first h = rw (h Min refl, h Max refl)
details-alike StringEnum v v' first h = rw (h Count refl)
details-alike FloatEnum v v' first h = rw (h Count refl)
details-alike String v v' first h = rw (h MaxLen refl)

-- types with items have a count among their fields
counted : (t : NodeType) → has_items t ≡ true → has (header ++ added t) Count ≡ true
counted Node h = h
counted LinearFloat h = h
counted LogarithmicFloat h = h
counted FaderLevel h = h
counted Integer h = h
counted StringEnum h = refl
counted FloatEnum h = refl
counted String h = h

-- fields that fit, and then bytes at whose front the items stand
module _ (bytes : FieldName → List ℕ) (tail : List ℕ) (fields : FitsAll (map form (names_of bytes)) (map bytes (names_of bytes)))
    (items : Stand (items_of (kind_of bytes) (count_of bytes)) tail) where
  abbrev body : List ℕ
  body = front_of bytes ++ tail

  pub same_flags : number_named header Flags body ≡ numbers_of bytes Flags
  unfolding number_named
  same_flags = number-laid bytes (names_of bytes) Flags tail refl fields

  pub same_kind : type_in body ≡ kind_of bytes
  same_kind = ap (λ n. type_of (n / 16 % 16)) same_flags

  same_number : (k : FieldName) → has (names_of bytes) k ≡ true → number_named (names_of bytes) k body ≡ numbers_of bytes k
  same_number k h = number-laid bytes (names_of bytes) k tail h fields

  pub same_count : count_in body ≡ count_of bytes
  same_count = ap (λ t. number_named (header ++ added t) Count body) same_kind ∙ go (has_items (kind_of bytes)) refl
    where
      go : (b : Bool) → has_items (kind_of bytes) ≡ b → number_named (names_of bytes) Count body ≡ if b (numbers_of bytes Count) 0
      go true e = same_number Count (counted (kind_of bytes) e)
      go false e = number-later header (added (kind_of bytes)) Count body refl ∙ no-count (kind_of bytes) (beyond (map form header) body) e

  all-stand : Stand (all_fields body) body
  all-stand =
      rw (same_count, same_kind)
      (stand-join (map form (names_of bytes)) (items_of (kind_of bytes) (count_of bytes)) body (laid-stand tail fields) (rw (laid-beyond tail fields) items))

  pub body-taken : Takes body
  body-taken = (taken body).1 all-stand

  same_first : first_in body ≡ length (front_of bytes)
  same_first = ap (λ t. extent (map form (header ++ added t)) body) same_kind ∙ laid-extent tail fields

  pub same-extent : extent (all_fields body) body ≡ length (front_of bytes) + extent (items_of (kind_of bytes) (count_of bytes)) tail
  same-extent =
      let items = items_of (kind_of bytes) (count_of bytes) in
      rw (same_count, same_kind) (extent-parts (map form (names_of bytes)) items body ∙ (λ j. laid-extent tail fields j + extent items (laid-beyond tail fields j)))

  values-alike : (v : FieldName → ℕ) (found : FieldName → List ℕ) (first : ℕ) → ((k : FieldName) → has (names_of bytes) k ≡ true → v k ≡ numbers_of bytes k) →
      ((k : FieldName) → has (names_of bytes) k ≡ true → found k ≡ bytes k) → values_by v found first ≡ values_by (numbers_of bytes) bytes first
  values-alike v found first h g =
      rw (h ParentId refl, h Id refl, h Index refl, h Flags refl, g Name refl, g LongName refl, details-alike (kind_of bytes) v (numbers_of bytes) first h)

  pub fields_back : parser_says body ≡ ok (values_by (numbers_of bytes) bytes (length (front_of bytes)))
  fields_back =
      said body all-stand ∙ ap ok
      (ap (λ t. values_by (λ k. number_named (header ++ added t) k body) (λ k. bytes_named (header ++ added t) k body) (first_in body)) same_kind ∙
      values-alike _ _ (first_in body) same_number (λ k h. bytes-laid bytes (names_of bytes) k tail h fields) ∙
      ap (values_by (numbers_of bytes) bytes) same_first)

  pub item_back : (n : ℕ) → n < count_of bytes → number_says body n ≡ ok (item_in (kind_of bytes) (beyond (items_of (kind_of bytes) n) tail))
  item_back n l =
      let c : n < count_in body = rw same_count l in
      let d : drop (first_in body) body ≡ tail = ap (λ m. drop m body) same_first ∙ drop-append_seam (front_of bytes) tail in
      (by_number_lem body n).said body-taken c ∙ ap ok (rw (d, same_kind))

-- the pair of a number stands where the items of lower numbers end
record There (f : Field) (s : List ℕ) (p : Pair) : Type 0 where
  tail : List ℕ
  here : s ≡ laid f p.0 ++ (laid string p.1 ++ tail)
  first : Fits f p.0
  second : Fits string p.1

pair-there : (f : Field) (count n : ℕ) (pairs : List Pair) (rest : List ℕ) → n < count → FitsAll (times count (f ∷ string ∷ [])) (in_row pairs) →
    There f (beyond (times n (f ∷ string ∷ [])) (laid_all (times count (f ∷ string ∷ [])) (in_row pairs) ++ rest)) (get_or pairs n ([], []))
unfolding times laid_all extent
pair-there f zero n pairs rest l h = absurd (omega arith)
pair-there f (suc count) zero [] rest l h = elim h [ ]
pair-there f (suc count) (suc n) [] rest l h = elim h [ ]
pair-there f (suc count) zero (p ∷ pairs) rest l (more a (more b hs)) =
    record { tail = laid_all (times count (f ∷ string ∷ [])) (in_row pairs) ++ rest; here = simp append_assoc; first = a; second = b }
pair-there f (suc count) (suc n) (p ∷ pairs) rest l (more a (more b hs)) =
    let I = f ∷ string ∷ [] in
    let others = laid_all (times count I) (in_row pairs) ++ rest in
    let s = (laid f p.0 ++ (laid string p.1 ++ laid_all (times count I) (in_row pairs))) ++ rest in
    let whole : s ≡ laid_all I (p.0 ∷ p.1 ∷ []) ++ others = simp append_assoc in
    let past : beyond (I ++ times n I) s ≡ beyond (times n I) others =
    ap (beyond (I ++ times n I)) whole ∙ beyond-parts I (times n I) (laid_all I (p.0 ∷ p.1 ∷ []) ++ others) ∙ ap (beyond (times n I)) (laid-beyond others (more a (more b empty))) in
    subst (λ t. There f t (get_or pairs n ([], []))) (sym past) (pair-there f count n pairs rest (omega arith) hs)

first-content : (f : Field) (s : List ℕ) (p : Pair) → There f s p → content f s ≡ p.0
first-content f s p h = ap (content f) h.here ∙ laid-content f p.0 (laid string p.1 ++ h.tail) h.first

first-value : (f : Field) (s : List ℕ) (p : Pair) → There f s p → value_of f s ≡ number_of f p.0
first-value f s p h = ap (value_of f) h.here ∙ laid-value f p.0 (laid string p.1 ++ h.tail) h.first

second-content : (f : Field) (s : List ℕ) (p : Pair) → There f s p → content string (beyond (f ∷ []) s) ≡ p.1
unfolding extent
second-content f s p h =
    let others = laid string p.1 ++ h.tail in
    let e : size f (laid f p.0 ++ others) + 0 ≡ size f (laid f p.0 ++ others) = omega arith in
    rw (h.here, e, laid-drop f p.0 others h.first) (laid-content string p.1 h.tail h.second)

item-laid : (t : NodeType) (count n : ℕ) (pairs : List Pair) (rest : List ℕ) → n < count → FitsAll (items_of t count) (in_row pairs) →
    item_in t (beyond (items_of t n) (laid_all (items_of t count) (in_row pairs) ++ rest)) ≡ pair_values t (get_or pairs n ([], []))
unfolding number_of
item-laid Node count n pairs rest l h = refl
item-laid LinearFloat count n pairs rest l h = refl
item-laid LogarithmicFloat count n pairs rest l h = refl
item-laid FaderLevel count n pairs rest l h = refl
item-laid Integer count n pairs rest l h = refl
item-laid StringEnum count n pairs rest l h =
    let p = get_or pairs n ([], []) in
    let there = pair-there string count n pairs rest l h in
    rw (first-content string _ p there, second-content string _ p there)
item-laid FloatEnum count n pairs rest l h =
    let p = get_or pairs n ([], []) in
    let there = pair-there (number 4) count n pairs rest l h in
    rw (first-value (number 4) _ p there, second-content (number 4) _ p there)
item-laid String count n pairs rest l h = refl

module _ (bytes : FieldName → List ℕ) (pairs : List Pair) (rest : List ℕ) (fit : Fit bytes pairs) where
  pub definition-back : parser_says (body_of bytes pairs rest) ≡ ok (values_by (numbers_of bytes) bytes (length (front_of bytes)))
  definition-back = fields_back bytes (list_of bytes pairs ++ rest) fit.fields (laid-stand rest fit.items)

  pub items_back : (n : ℕ) → n < count_of bytes → number_says (body_of bytes pairs rest) n ≡ ok (pair_values (kind_of bytes) (get_or pairs n ([], [])))
  items_back n l =
      item_back bytes (list_of bytes pairs ++ rest) fit.fields (laid-stand rest fit.items) n l ∙ ap ok (item-laid (kind_of bytes) (count_of bytes) n pairs rest l fit.items)
