-- The parser's cursor, tied to what a body says by its bytes alone.
use mathlib.Core.Path.{◌≡◌, refl, ◌∙◌, ap, sym}
use mathlib.Core.Bool.{Bool, true, false}
use mathlib.Core.List.{List, [], ◌∷◌, ◌++◌, map}
use Prim.Native.Nat.{ℕ, ◌+◌, ◌/◌, ◌%◌}
use native.Mathlib.Omega.{arith}
use lib.Dec.{eqb}
use lib.ListN.{drop, get_or}
use lib.Seq.{drop-drop}
use borrow.Author.Tests.{eqb-true}
use Rattle.wing_node.specs.Refusal.{no_fault, is_refused, Fault}
use Rattle.wing_node.specs.Bool.{if}
use Rattle.wing_node.specs.Types.{type_of}
use Rattle.wing_node.specs.Cursor.{Cursor, Reading, Field, string, size, content, value_of, content_at, cursor, start, field_read, reads, after}
use Rattle.wing_node.specs.Definition.{FieldName, ParentId, Id, Index, Name, LongName, Flags, Min, Max, Steps, Count, MaxLen, name_number, form, named, past, header, added, items_of, span_of, kind_from, details_at, fields_in}
use Rattle.wing_node.specs.Standing.{extent, beyond, Stand, more}
use Rattle.wing_node.specs.Answers.{bytes_at}
use Rattle.wing_node.specs.InBody.{number_named, bytes_named, type_in, count_in, all_fields}
use Rattle.wing_node.specs.declared.node_type.NodeType.{NodeType}
use Rattle.wing_node.proofs.Bodies.Fields.{after-append, after-refused}
use Rattle.wing_node.proofs.Bodies.Standing.{one-read, onward, passes, stands}
use Rattle.std.specs.Prelude.{Ok, Err}

-- a name by its number
known : ℕ → FieldName
known n = get_or (ParentId ∷ Id ∷ Index ∷ Name ∷ LongName ∷ Flags ∷ Min ∷ Max ∷ Steps ∷ Count ∷ []) n MaxLen

known-order : (k : FieldName) → known (name_number k) ≡ k
unfolding known
known-order ParentId = refl
known-order Id = refl
known-order Index = refl
known-order Name = refl
known-order LongName = refl
known-order Flags = refl
known-order Min = refl
known-order Max = refl
known-order Steps = refl
known-order Count = refl
known-order MaxLen = refl

pub one_name : (j k : FieldName) → name_number j ≡ name_number k → j ≡ k
one_name j k e = sym (known-order j) ∙ ap known e ∙ known-order k

-- whether a name is among these
abbrev pub has : List FieldName → FieldName → Bool
has [] k = false
has (j ∷ js) k = if (eqb (name_number j) (name_number k)) true (has js k)

-- what the field of a name was read as is what it holds there
pick : (b : Bool) (r r' : Reading) (n n' : ℕ) → r.value ≡ n → r'.value ≡ n' → (if {A = Reading} b r r').value ≡ if b n n'
pick true r r' n n' e e' = e
pick false r r' n n' e e' = e'

pub named-number : (ks : List FieldName) (k : FieldName) (body : List ℕ) (at : ℕ) → Stand (map form ks) (drop at body) →
    (named ks body (cursor at no_fault) k).value ≡ number_named ks k (drop at body)
unfolding reads number_named
named-number [] k body at h = refl
named-number (j ∷ js) k body at (more w r h) =
    let n = size (form j) (drop at body) in
    let rest : (named js body (cursor (at + n) no_fault) k).value ≡ number_named js k (drop (at + n) body) = named-number js k body (at + n) (onward (form j) (map form js) body at h) in
    rw (one-read (form j) body at w r, drop-drop) (pick (eqb (name_number j) (name_number k)) _ _ _ _ refl rest)

pick-bytes : (body : List ℕ) (b : Bool) (r r' : Reading) (s s' : List ℕ) → (b ≡ true → bytes_at body (span_of r) ≡ s) → bytes_at body (span_of r') ≡ s' →
    bytes_at body (span_of (if b r r')) ≡ if b s s'
pick-bytes body true r r' s s' e e' = e refl
pick-bytes body false r r' s s' e e' = e'

pub string_bytes : (f : Field) (body : List ℕ) (at : ℕ) (c : Cursor) → f ≡ string →
    bytes_at body (span_of (field_read (value_of f (drop at body)) (content_at f at) c)) ≡ content f (drop at body)
unfolding value_of content_at content
string_bytes f body at c e = rw (e, drop-drop)

pub named-bytes : (ks : List FieldName) (k : FieldName) (body : List ℕ) (at : ℕ) → form k ≡ string → Stand (map form ks) (drop at body) →
    bytes_at body (span_of (named ks body (cursor at no_fault) k)) ≡ bytes_named ks k (drop at body)
unfolding reads bytes_named
named-bytes [] k body at e h = refl
named-bytes (j ∷ js) k body at e (more w r h) =
    let n = size (form j) (drop at body) in
    let rest : bytes_at body (span_of (named js body (cursor (at + n) no_fault) k)) ≡ bytes_named js k (drop (at + n) body) = named-bytes js k body (at + n) e (onward (form j) (map form js) body at h) in
    rw (one-read (form j) body at w r, drop-drop)
    (pick-bytes body (eqb (name_number j) (name_number k)) _ _ _ _ (λ t. string_bytes (form j) body at (cursor (at + n) no_fault) (ap form (one_name j k (eqb-true _ _ t)) ∙ e)) rest)

-- a name that is not among the first is looked for after them
pub number-later : (ks js : List FieldName) (k : FieldName) (s : List ℕ) → has ks k ≡ false → number_named (ks ++ js) k s ≡ number_named js k (beyond (map form ks) s)
unfolding number_named extent
number-later [] js k s h = refl
number-later (i ∷ is) js k s h = go (eqb (name_number i) (name_number k)) h (number-later is js k (drop (size (form i) s) s))
  where
    go : (b : Bool) → if b true (has is k) ≡ false → (has is k ≡ false → number_named (is ++ js) k (drop (size (form i) s) s) ≡ number_named js k (beyond (map form is) (drop (size (form i) s) s))) →
        if b (value_of (form i) s) (number_named (is ++ js) k (drop (size (form i) s) s)) ≡ number_named js k (drop (size (form i) s + extent (map form is) (drop (size (form i) s) s)) s)
    go true e h = absurd (let z : ◌≡◌ {A = ℕ} 0 1 = cc in omega arith)
    go false e h = rw (← drop-drop) (h e)

-- what follows fields that fail does not matter
pub follow : (fs gs gs' : List Field) (body : List ℕ) (c : Cursor) →
    ((after fs body c).fault ≡ no_fault → after gs body (after fs body c) ≡ after gs' body (after fs body c)) → after (fs ++ gs) body c ≡ after (fs ++ gs') body c
follow fs gs gs' body c h = after-append fs gs body c ∙ go (after fs body c).fault refl ∙ sym (after-append fs gs' body c)
  where
    go : (x : Fault) → (after fs body c).fault ≡ x → after gs body (after fs body c) ≡ after gs' body (after fs body c)
    go (Ok u) e = h e
    go (Err why) e = after-refused gs body (after fs body c) (ap is_refused e) ∙ sym (after-refused gs' body (after fs body c) (ap is_refused e))

-- the cursor after the header, where it stands
pub past-header : (body : List ℕ) → Stand (map form header) body → past header body start ≡ cursor (extent (map form header) body) no_fault
past-header body h = let e : 0 + extent (map form header) body ≡ extent (map form header) body = omega arith in passes (map form header) body 0 h ∙ ap (λ n. cursor n no_fault) e

-- the type that the cursor finds
pub same-type : (body : List ℕ) → Stand (map form header) body → kind_from (named header body start) ≡ type_in body
same-type body h = ap (λ n. type_of (n / 16 % 16)) (named-number header Flags body 0 h)

-- the count that it finds
pub same_count : (body : List ℕ) (t : NodeType) → Stand (map form (added t)) (beyond (map form header) body) →
    (named (added t) body (cursor (extent (map form header) body) no_fault) Count).value ≡ number_named (header ++ added t) Count body
same_count body t a =
    named-number (added t) Count body (extent (map form header) body) a ∙ sym (number-later header (added t) Count body refl)

-- the cursor after the last field
pub end_of : (body : List ℕ) →
    after (fields_in body) body start ≡ (details_at (kind_from (named header body start)) body (past header body start)).next
unfolding fields_in details_at
end_of body =
    let c = past header body start in
    let t = kind_from (named header body start) in
    let items = items_of t (named (added t) body c Count).value in
    after-append (map form header) (map form (added t) ++ items) body start ∙ after-append (map form (added t)) items body c

-- is the cursor after the last of the fields that the bytes tell
pub same_end : (body : List ℕ) → after (fields_in body) body start ≡ after (all_fields body) body start
unfolding fields_in
same_end body = follow (map form header) _ _ body start (λ z. second ((stands (map form header) body 0).0 z))
  where
    t : NodeType
    t = type_in body

    c : Cursor
    c = past header body start

    second : Stand (map form header) body →
        after (map form (added (kind_from (named header body start))) ++ items_of (kind_from (named header body start)) (named (added (kind_from (named header body start))) body c Count).value) body c ≡
        after (map form (added t) ++ items_of t (count_in body)) body c
    second h =
        rw (same-type body h, past-header body h)
        (follow (map form (added t)) _ _ body (cursor (extent (map form header) body) no_fault)
        (λ z. ap (λ n. after (items_of t n) body (after (map form (added t)) body (cursor (extent (map form header) body) no_fault))) (same_count body t ((stands (map form (added t)) body (extent (map form header) body)).0 z))))
