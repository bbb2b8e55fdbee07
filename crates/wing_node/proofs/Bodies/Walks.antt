-- Walks over a body: how they begin, where steps lead, and the item of a number.
use mathlib.Core.Path.{◌≡◌, refl, ◌∙◌, ap, sym}
use mathlib.Core.Bool.{Bool, true, false, true≢false}
use mathlib.Core.Logic.{◌↔◌, ◌⊎◌, inl, inr}
use mathlib.Core.List.{List, ◌++◌, map}
use Prim.Native.Nat.{ℕ, zero, suc, ◌+◌, ◌-◌, ◌≤◌, ◌<◌}
use native.Mathlib.Omega.{arith}
use lib.Dec.{leb}
use lib.ListN.{drop}
use lib.Seq.{drop-drop}
use borrow.Author.Tests.{le-leb, lt-leb, leb-true, leb-false}
use Rattle.wing_node.specs.Bool.{if}
use Rattle.wing_node.specs.Refusal.{no_fault}
use Rattle.wing_node.specs.Cursor.{Cursor, cursor, after}
use Rattle.wing_node.specs.Anew.{items_read}
use Rattle.wing_node.specs.Result.{Result, ok, refused}
use Rattle.wing_node.specs.Types.{has_items}
use Rattle.wing_node.specs.Definition.{FieldName, Count, form, header, added, times, item_of, items_of, definition_of}
use Rattle.wing_node.specs.Items.{walk, walk_from, begin_from, begin_of, numbered_from, numbered_in, item_numbered}
use Rattle.wing_node.specs.Standing.{extent, beyond, Stand}
use Rattle.wing_node.specs.Answers.{DefinitionValues, values_of, none, details_by, parsed_result, item_result}
use Rattle.wing_node.specs.InBody.{number_named, type_in, names_in, count_in, all_fields, first_in, walk_in, item_in, item_in_body}
use Rattle.wing_node.specs.Parsing.{parser_says, Takes, Beginning, step_of, step_says, number_says, Left, IsItem, ByNumber, walked, Walking, Definitions}
use Rattle.wing_node.specs.declared.refusal.Refusal.{Refusal}
use Rattle.wing_node.specs.declared.refusal.Refusal.TheVariants.{NumberOver}
use Rattle.wing_node.specs.declared.node_type.NodeType.{NodeType}
use Rattle.wing_node.specs.declared.node_type.NodeType.TheVariants.{Node, LinearFloat, LogarithmicFloat, FaderLevel, Integer, StringEnum, FloatEnum, String}
use Rattle.wing_node.specs.declared.items.Walk.{Walk}
use Rattle.wing_node.specs.declared.items.Step.{Step}
use Rattle.wing_node.proofs.Refusals.{reason}
use Rattle.wing_node.proofs.Bodies.Fails.{value}
use Rattle.wing_node.proofs.Bodies.Standing.{passes, stand-parts, extent-parts, times-stand}
use Rattle.wing_node.proofs.Bodies.InBody.{number-later, same-type}
use Rattle.wing_node.proofs.Bodies.Parsing.{found, taken, parsing, header-stands, details-said, parsed-good}
use Rattle.wing_node.proofs.Bodies.Steps.{moves, stepping, mark, item-mark}
use Rattle.wing_node.specs.declared.definition.Definition.{Definition}
use Rattle.std.specs.Prelude.{Ok, Err, is_err}

begun-refused : (body : List ℕ) (p : Result Definition) (why : Refusal) → (begin_from p ≡ refused why) ↔ (parsed_result body p ≡ refused why)
begun-refused body (Ok d) why = (λ e. absurd (let z : ◌≡◌ {A = ℕ} 0 1 = cc in omega arith), λ e. absurd (let z : ◌≡◌ {A = ℕ} 0 1 = cc in omega arith))
begun-refused body (Err other) why = (λ e. ap refused (ap (reason other) e), λ e. ap refused (ap (reason other) e))

-- a walk by what the type adds
walk-by : (t : NodeType) (v : FieldName → ℕ) (first : ℕ) → walk_from t (details_by t v first) ≡ if (has_items t) (walk first (v Count) t) (walk 0 0 t)
walk-by Node v first = refl
walk-by LinearFloat v first = refl
walk-by LogarithmicFloat v first = refl
walk-by FaderLevel v first = refl
walk-by Integer v first = refl
walk-by StringEnum v first = refl
walk-by FloatEnum v first = refl
walk-by String v first = refl

-- 01: types without items have count 0
pub no-count : (t : NodeType) (s : List ℕ) → has_items t ≡ false → number_named (added t) Count s ≡ 0
unfolding number_named
no-count Node s h = refl
no-count LinearFloat s h = refl
no-count LogarithmicFloat s h = refl
no-count FaderLevel s h = refl
no-count Integer s h = refl
no-count StringEnum s h = absurd (let z : ◌≡◌ {A = ℕ} 0 1 = cc in omega arith)
no-count FloatEnum s h = absurd (let z : ◌≡◌ {A = ℕ} 0 1 = cc in omega arith)
no-count String s h = refl

module _ (body : List ℕ) where
  count_none : has_items (type_in body) ≡ false → count_in body ≡ 0
  count_none h = number-later header (added (type_in body)) Count body refl ∙ no-count (type_in body) (beyond (map form header) body) h

  begun-at : Takes body → begin_of body ≡ Ok (walk_in body)
  unfolding begin_of
  begun-at k =
      let h = (taken body).0 k in
      rw (parsed-good body h, details-said body h, same-type body (header-stands body h)) (ap Ok (walk-by (type_in body) (λ n. number_named (names_in body) n body) (first_in body)))

  pub beginning : Beginning body
  unfolding begin_of
  beginning = record { refusals = λ why. begun-refused body (definition_of body) why; begun = λ k. begun-at k }

  -- a body without a count has nothing to walk
  with_items : (n : ℕ) → n < count_in body → has_items (type_in body) ≡ true
  with_items n l = go (has_items (type_in body)) refl
    where
      go : (b : Bool) → has_items (type_in body) ≡ b → b ≡ true
      go true e = refl
      go false e = absurd (omega (arith, count_none e))

  -- the items left at the beginning are the count
  begins-with : (walk_in body).left ≡ count_in body
  begins-with = go (has_items (type_in body)) refl
    where
      go : (b : Bool) → has_items (type_in body) ≡ b → (if {A = Walk} b (walk (first_in body) (count_in body) (type_in body)) (walk 0 0 (type_in body))).left ≡ count_in body
      go true e = refl
      go false e = sym (count_none e)

-- where steps over items that stand lead
walked_to : (t : NodeType) (body : List ℕ) (n count at : ℕ) → has_items t ≡ true → n ≤ count → Stand (items_of t count) (drop at body) →
    walked n body (walk at count t) ≡ walk (at + extent (items_of t n) (drop at body)) (count - n) t
unfolding walked times extent
walked_to t body zero count at i l h =
    let e : at + 0 ≡ at = omega arith in
    let f : count - 0 ≡ count = omega arith in
    rw (e, f)
walked_to t body (suc n) zero at i l h = absurd (omega arith)
walked_to t body (suc n) (suc count) at i l h =
    let I = item_of t in
    let to = at + extent I (drop at body) in
    let p = stand-parts I (times count I) (drop at body) h in
    let next : (step_of body (walk at (suc count) t)).next ≡ walk to count t =
    ap (λ (s : Step). s.next) (moves body (walk at (suc count) t) (λ z. omega arith, i) p.0) ∙ ap (λ m. walk to m t) (let e : suc count - 1 ≡ count = omega arith in e) in
    let rest = walked_to t body n count to i (omega arith) (rw drop-drop at p.1) in
    let place : to + extent (times n I) (drop to body) ≡ at + extent (I ++ times n I) (drop at body) =
    rw (extent-parts I (times n I) (drop at body), drop-drop) (omega arith) in
    let left : count - n ≡ suc count - suc n = omega arith in
    ap (walked n body) next ∙ rest ∙ rw (place, left)

-- the item of a number below the count, in a body whose fields stand
module _ (body : List ℕ) (h : Stand (all_fields body) body) (n : ℕ) (l : n < count_in body) where
  items : Stand (items_of (type_in body) (count_in body)) (drop (first_in body) body)
  items = (stand-parts (map form (names_in body)) (items_of (type_in body) (count_in body)) body h).1

  abbrev place : ℕ
  place = first_in body + extent (items_of (type_in body) n) (drop (first_in body) body)

  -- where the walk then stands
  abbrev there : Walk
  there = walk place (count_in body - n) (type_in body)

  first_walk : walk_in body ≡ walk (first_in body) (count_in body) (type_in body)
  first_walk = rw (with_items body n l)

  parts : Stand (items_of (type_in body) n) (drop (first_in body) body) × Stand (item_of (type_in body)) (beyond (items_of (type_in body) n) (drop (first_in body) body))
  parts = times-stand (item_of (type_in body)) (count_in body) n (drop (first_in body) body) l items

  same_place : beyond (items_of (type_in body) n) (drop (first_in body) body) ≡ drop place body
  same_place = drop-drop (extent (items_of (type_in body) n) (drop (first_in body) body)) (first_in body) body

  left_there : Left there
  left_there = (λ z. omega arith, with_items body n l)

  numbered-at : item_numbered body n ≡ (step_of body there).item
  unfolding item_numbered numbered_from
  numbered-at =
      rw (begun-at body ((taken body).1 h), first_walk, lt-leb (count_in body) n l, passes (items_of (type_in body) n) body (first_in body) parts.0)

  walked_at : step_says body (walked n body (walk_in body)) ≡ number_says body n
  walked_at =
      ap (step_says body) (ap (walked n body) first_walk ∙ walked_to (type_in body) body n (count_in body) (first_in body) (with_items body n l) (omega arith) items) ∙ sym (ap (item_result body) numbered-at)

  gives-item : IsItem (step_says body there)
  gives-item = (stepping body there).given.1 (left_there, rw same_place at parts.1)

  numbered-item : IsItem (number_says body n)
  numbered-item = rw numbered-at gives-item

  numbered-said : item_result body (item_numbered body n) ≡ ok (item_in_body body n)
  numbered-said = ap (item_result body) numbered-at ∙ (stepping body there).said gives-item ∙ ap (λ s. ok (item_in (type_in body) s)) (sym same_place)

module _ (body : List ℕ) where
  numbered-past : (n : ℕ) → Takes body → count_in body ≤ n → item_numbered body n ≡ Err NumberOver
  unfolding item_numbered numbered_from
  numbered-past n k l = rw (begun-at body k, le-leb (walk_in body).left n (omega (arith, begins-with body)))

  refused-first : (n : ℕ) (why : Refusal) (p : Result Definition) → parsed_result body p ≡ refused why → item_result body (numbered_in body n (begin_from p)) ≡ refused why
  refused-first n why (Ok d) e = absurd (let z : ◌≡◌ {A = ℕ} 0 1 = cc in omega arith)
  refused-first n why (Err other) e = ap refused (ap (reason other) e)

  numbered-refused : (n : ℕ) (why : Refusal) → parser_says body ≡ refused why → number_says body n ≡ refused why
  unfolding item_numbered begin_of
  numbered-refused n why e = refused-first n why (definition_of body) e

  -- why a number is refused
  abbrev Why : ℕ → Refusal → Type 0
  Why n why = (parser_says body ≡ refused why) ⊎ (Takes body × (count_in body ≤ n) × (why ≡ NumberOver))

  numbered-refusals : (n : ℕ) (why : Refusal) → number_says body n ≡ refused why → Why n why
  numbered-refusals n why e = go (parser_says body) refl
    where
      over : Takes body → (b : Bool) → leb (count_in body) n ≡ b → Why n why
      over g true q =
          let l : count_in body ≤ n = leb-true _ _ q in
          inr (g, l, ap (reason why) (sym e ∙ ap (item_result body) (numbered-past n g l)))
      over g false q = absurd (omega (arith, ap mark e, item-mark (number_says body n) (numbered-item body ((taken body).0 g) n (leb-false _ _ q))))

      go : (r : Result DefinitionValues) → parser_says body ≡ r → Why n why
      go (ok d) q = over (record { definition = d; says = q }) (leb (count_in body) n) refl
      go (refused other) q = inl (q ∙ ap refused (ap (reason other) (sym (numbered-refused n other q) ∙ e)))

  why-refused : (n : ℕ) (why : Refusal) → Why n why → number_says body n ≡ refused why
  why-refused n why (inl e) = numbered-refused n why e
  why-refused n why (inr (g, l, z)) = ap (item_result body) (numbered-past n g l) ∙ ap refused (sym z)

  pub by_number_lem : (n : ℕ) → ByNumber body n
  by_number_lem n =
      record {
        refusals = λ why. (numbered-refusals n why, why-refused n why);
        given = λ g l. numbered-item body ((taken body).0 g) n l;
        said = λ g l. numbered-said body ((taken body).0 g) n l;
      }

  -- after the last item none is left
  all-walked : Stand (all_fields body) body → (b : Bool) → has_items (type_in body) ≡ b → step_says body (walked (count_in body) body (walk_in body)) ≡ ok none
  unfolding walked
  all-walked h true i =
      let e : count_in body - count_in body ≡ 0 = omega arith in
      let items = (stand-parts (map form (names_in body)) (items_of (type_in body) (count_in body)) body h).1 in
      let to = first_in body + extent (items_of (type_in body) (count_in body)) (drop (first_in body) body) in
      rw (i, walked_to (type_in body) body (count_in body) (count_in body) (first_in body) i (omega arith) items, e)
      ((stepping body (walk to 0 (type_in body))).nothing.1 (inl refl))
  all-walked h false i = rw (count_none body i, i) ((stepping body (walk 0 0 (type_in body))).nothing.1 (inl refl))

  pub walking : Takes body → Walking body
  walking g =
      let h = (taken body).0 g in
      record {
        in_order = λ n l. walked_at body h n l;
        each = λ n l. rw (walked_at body h n l) (numbered-item body h n l);
        ends = all-walked h (has_items (type_in body)) refl;
      }

-- the parser and the item calls, on every body
pub definitions : Definitions
definitions = record { parsing = parsing; beginning = beginning; stepping = stepping; by_number = by_number_lem; walking = walking }

-- a body of which a walk begins is taken
taken-by : (body : List ℕ) (d : Definition) → definition_of body ≡ Ok d → Takes body
taken-by body d e = record { definition = values_of body d; says = ap (parsed_result body) e }

module _ (body : List ℕ) where
  walk-taken : (w : Walk) → begin_of body ≡ Ok w → Takes body
  unfolding begin_of
  walk-taken w e = go (definition_of body) refl e
    where
      go : (p : Result Definition) → definition_of body ≡ p → begin_from p ≡ Ok w → Takes body
      go (Ok d) q h = taken-by body d q
      go (Err why) q h = absurd (true≢false (ap is_err h))

  -- the items before one of a walk that begins are not refused
  pub items-pass : (w : Walk) (n : ℕ) → begin_of body ≡ Ok w → n < w.left → (after (items_of w.kind n) body (cursor w.at no_fault)).fault ≡ no_fault
  items-pass w n e l =
      let k = walk-taken w e in
      let h = (taken body).0 k in
      let same : walk_in body ≡ w = ap (value w) (sym (begun-at body k) ∙ e) in
      let below : n < count_in body = omega (arith, l, ap (λ (v : Walk). v.left) same, begins-with body) in
      let there : w ≡ walk (first_in body) (count_in body) (type_in body) = sym same ∙ first_walk body h n below in
      ap (λ (v : Walk). (after (items_of v.kind n) body (cursor v.at no_fault)).fault) there ∙
      ap (λ (c : Cursor). c.fault) (passes (items_of (type_in body) n) body (first_in body) (parts body h n below).0)

  read-by : (t : NodeType) (v : FieldName → ℕ) (first : ℕ) → (after (items_of t (v Count)) body (cursor first no_fault)).fault ≡ no_fault → items_read body t (details_by t v first)
  read-by Node v first h = tt
  read-by LinearFloat v first h = tt
  read-by LogarithmicFloat v first h = tt
  read-by FaderLevel v first h = tt
  read-by Integer v first h = tt
  read-by StringEnum v first h = h
  read-by FloatEnum v first h = h
  read-by String v first h = tt

  -- nor is any of a definition's
  pub items-read : (d : Definition) → definition_of body ≡ Ok d → items_read body d.node_type d.details
  items-read d e =
      let h = (taken body).0 (taken-by body d e) in
      let same : d ≡ found body = sym (ap (value d) (sym (parsed-good body h) ∙ e)) in
      let all = (stand-parts (map form (names_in body)) (items_of (type_in body) (count_in body)) body h).1 in
      rw (same, details-said body h, same-type body (header-stands body h))
      (read-by (type_in body) (λ n. number_named (names_in body) n body) (first_in body) (ap (λ (c : Cursor). c.fault) (passes (items_of (type_in body) (count_in body)) body (first_in body) all)))
