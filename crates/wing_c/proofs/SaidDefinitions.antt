-- Every definition, item and walk is what its numbers mean: type and unit come back by 01's tables, the details by the type.
use Prim.Native.Nat.{ℕ, ◌≤◌}
use mathlib.Core.Bool.{false}
use mathlib.Core.Path.{◌≡◌, refl, ap, sym, ◌∙◌}
use mathlib.Core.List.{List}
use native.Mathlib.Omega.{arith}
use lib.Dec.{eqb, eqb→eq}
use lib.IntN.{pos}
use lib.ListN.{length}
use borrow.Author.Tests.{eqb-true}
use Rattle.wing_node.specs.Bool.{or}
use Rattle.wing_node.specs.Refusal.{no_fault, Fault}
use Rattle.wing_node.specs.Result.{Result, ok, refused}
use Rattle.wing_node.specs.Answers.{DefinitionValues, parsed_result}
use Rattle.wing_node.specs.Standing.{extent}
use Rattle.wing_node.specs.BothWays.{values_given, InWidth, gives}
use Rattle.wing_node.proofs.Below.{below}
use Rattle.wing_node.proofs.Branches.{and_right}
use Rattle.wing_node.proofs.Bodies.Back.{given_by, writer-gives, Passed, lent-passed, lent_none, written_back as reads-back}
use Rattle.wing_node.specs.Types.{type_of, unit_of, type_number, unit_number, has_items}
use Rattle.wing_node.specs.Definition.{items_of, definition_of}
use Rattle.wing_node.specs.Items.{begin_of, step_at, item_numbered}
use Rattle.wing_node.specs.Writer.{Lent, exact_items, lent_fault, body_given, fault_of, body_of_fields}
use Rattle.wing_node.specs.Anew.{fields_of, lent_from, anew_of}
use Rattle.wing_node.proofs.Numerals.Signs.{signed-unsigned, unsigned_signed, signed-in}
use Rattle.wing_node.specs.declared.node_type.NodeType.{NodeType}
use Rattle.wing_node.specs.declared.node_type.NodeType.TheVariants.{Node, LinearFloat, LogarithmicFloat, FaderLevel, Integer, StringEnum, FloatEnum, String}
use Rattle.wing_node.specs.declared.node_type.NodeUnit.{NodeUnit}
use Rattle.wing_node.specs.declared.node_type.NodeUnit.TheVariants.{None as NoUnit, Db, Percent, Milliseconds, Hertz, Meters, Seconds, Octaves}
use Rattle.wing_node.specs.declared.definition.Details.{Details}
use Rattle.wing_node.specs.declared.definition.Item.{Item}
use Rattle.wing_node.specs.declared.definition.Item.TheVariants.{Strings, Float}
use Rattle.wing_node.specs.declared.definition.Definition.{Definition}
use Rattle.wing_node.specs.declared.items.Walk.{Walk}
use Rattle.wing_node.specs.declared.items.Step.{Step}
use Rattle.wing_c.specs.declared.writer.WingFields.{WingFields}
use Rattle.wing_c.specs.Definitions.{detail_numbers, taken_numbers, definition_numbers, walk_numbers, begun_numbers, item_numbers, step_numbers, fields_given}
use Rattle.wing_c.specs.DefinitionMeanings.{details_in, definition_in, fields_read, of_its_type, TypedFields, parsed_in, walk_in, begun_in, item_kind_in, item_in, step_in, OfType, OfParsed, DefinitionsSay}
use Rattle.wing_c.specs.DefinitionMeanings.OfType.{node, linear, logarithmic, fader, integers, strings, floats, text}
use Rattle.wing_c.proofs.Said.{both, written}
use Rattle.wing_c.proofs.Answered.{parsed-answer}
use Rattle.std.specs.Prelude.{Ok, Err, Option, Some, None}

types : (t : NodeType) → type_of (type_number t) ≡ t
unfolding type_of
types Node = refl
types LinearFloat = refl
types LogarithmicFloat = refl
types FaderLevel = refl
types Integer = refl
types StringEnum = refl
types FloatEnum = refl
types String = refl

units : (u : NodeUnit) → unit_of (unit_number u) ≡ u
unfolding unit_of
units NoUnit = refl
units Db = refl
units Percent = refl
units Milliseconds = refl
units Hertz = refl
units Meters = refl
units Seconds = refl
units Octaves = refl

-- what the type has is read from the fields that it has
details : (d : Definition) (t : NodeType) (x : Details) → d.details ≡ x → OfType t x → details_in t (taken_numbers d) ≡ x
unfolding details_in
details d t x e node = refl
details d t x e linear = rw e
details d t x e logarithmic = rw e
details d t x e fader = refl
details d t x e (integers {min} {max} a b) = rw e (rw (signed-unsigned 31 min a, signed-unsigned 31 max b))
details d t x e strings = rw e
details d t x e floats = rw e
details d t x e text = rw e

parsed : (p : Result Definition) → OfParsed p → parsed_in (definition_numbers p) ≡ p
unfolding parsed_in definition_in
parsed (Ok d) h = rw (types d.node_type, units d.unit, details d d.node_type d.details refl h)
parsed (Err why) h = both Err _ why

walk : (w : Walk) → walk_in (walk_numbers w) ≡ w
unfolding walk_in
walk w = rw (types w.kind)

begun : (b : Result Walk) → begun_in (begun_numbers b) ≡ b
unfolding begun_in
begun (Ok w) = ap Ok (walk w)
begun (Err why) = both Err _ why

item : (i : Result (Option Item)) → item_in (item_numbers i) ≡ i
unfolding item_in item_kind_in
item (Ok None) = refl
item (Ok (Some (Strings a b))) = refl
item (Ok (Some (Float bits b))) = refl
item (Err why) = both Err _ why

step : (s : Step) → step_in (step_numbers s) ≡ s
unfolding step_in
step s = rw (item s.item, walk s.next)

-- a type's own fields come back by its details, and the writer looks at no others
given : (d : Definition) (t : NodeType) (x : Details) (l : Lent) (out : List ℕ) → d.node_type ≡ t → d.details ≡ x → OfType t x →
    body_of_fields (fields_given (fields_read (taken_numbers d))) l out ≡ body_of_fields (fields_of d) l out
unfolding body_of_fields body_given lent_fault type_of
given d t x l out k e node = simp (k, e) refl
given d t x l out k e linear = simp (k, e) refl
given d t x l out k e logarithmic = simp (k, e) refl
given d t x l out k e fader = simp (k, e) refl
given d t x l out k e (integers {min} {max} a b) = simp (k, e) (rw (signed-unsigned 31 min a, signed-unsigned 31 max b) refl)
given d t x l out k e strings = simp (k, e) refl
given d t x l out k e floats = simp (k, e) refl
given d t x l out k e text = simp (k, e) refl

given-anew : (body out : List ℕ) (d : Definition) → definition_of body ≡ Ok d → OfParsed (definition_of body) →
    body_of_fields (fields_given (fields_read (taken_numbers d))) (lent_from body d) out ≡ anew_of body out
unfolding anew_of
given-anew body out d e h = rw e (given d d.node_type d.details (lent_from body d) out refl refl (rw e at h))

-- ---- written and read back

type-back : (n : ℕ) → n ≤ 7 → type_number (type_of n) ≡ n
unfolding type_of
type-back n h = eqb→eq _ _ (below (λ m. eqb (type_number (type_of m)) m) 8 tt n (omega arith))

unit-back : (n : ℕ) → n ≤ 7 → unit_number (unit_of n) ≡ n
unfolding unit_of
unit-back n h = eqb→eq _ _ (below (λ m. eqb (unit_number (unit_of m)) m) 8 tt n (omega arith))

-- the numbers of a definition that was read, by its values
abbrev numbers_of : DefinitionValues → WingFields
numbers_of v =
    let n = detail_numbers v.details in
    record {
      parent_id = v.parent_id;
      id = v.id;
      index = v.index;
      node_type = type_number v.type;
      unit = unit_number v.unit;
      read_only = v.read_only;
      count = n.count;
      max_len = n.max_len;
      min = n.min;
      max = n.max;
      steps = n.steps;
    }

abbrev values_in : DefinitionValues → Result DefinitionValues → DefinitionValues
values_in other (ok v) = v
values_in other (refused why) = other

-- a body that says these values has their numbers
numbers-back : (body : List ℕ) (p : Result Definition) (v : DefinitionValues) → parsed_result body p ≡ ok v → ((definition_numbers p).status ≡ pos 0) × (fields_read (definition_numbers p) ≡ numbers_of v)
numbers-back body (Ok d) v e = (refl, ap (λ (r : Result DefinitionValues). numbers_of (values_in v r)) e)
numbers-back body (Err why) v e = absurd (let z : ◌≡◌ {A = ℕ} 0 1 = cc in omega arith)

no-fault : (x : Fault) (b body : List ℕ) → given_by x b ≡ ok body → x ≡ no_fault
no-fault (Ok u) b body e = refl
no-fault (Err why) b body e = absurd (let z : ◌≡◌ {A = ℕ} 0 1 = cc in omega arith)

module _ (f : WingFields) (l : Lent) (w : TypedFields f) where
  in-width : InWidth (fields_given f)
  in-width = record {
    parent = w.parent;
    id = w.id;
    index = w.index;
    min_float = w.min;
    max_float = w.max;
    min_int = signed-in 31 f.min w.min;
    max_int = signed-in 31 f.max w.max;
    steps = w.steps;
    count = w.count;
    max_len = w.max_len;
  }

  -- where the type has no items the count is 0
  no-count : Passed (fields_given f) l → has_items (type_of f.node_type) ≡ false → f.count ≡ 0
  unfolding exact_items
  no-count p n =
      let t = type_of f.node_type in
      let either = and_right (eqb (extent (items_of t f.count) l.items) (length l.items)) (or (has_items t) (eqb f.count 0)) p.exact in
      eqb-true f.count 0 (rw n at either)

  same_numbers : Passed (fields_given f) l → (first : ℕ) (t : NodeType) → type_of f.node_type ≡ t → numbers_of (values_given (fields_given f) l first) ≡ of_its_type t f
  same_numbers p first t e = go t e (type-back f.node_type p.type) (unit-back f.unit p.unit) (λ h. no-count p h)
    where
      go : (t : NodeType) → type_of f.node_type ≡ t → type_number (type_of f.node_type) ≡ f.node_type → unit_number (unit_of f.unit) ≡ f.unit →
          (has_items (type_of f.node_type) ≡ false → f.count ≡ 0) → numbers_of (values_given (fields_given f) l first) ≡ of_its_type t f
      go Node e a b c = rw (a, b, e) (rw (c (ap has_items e)) refl)
      go LinearFloat e a b c = rw (a, b, e) (rw (c (ap has_items e)) refl)
      go LogarithmicFloat e a b c = rw (a, b, e) (rw (c (ap has_items e)) refl)
      go FaderLevel e a b c = rw (a, b, e) (rw (c (ap has_items e)) refl)
      go Integer e a b c = rw (a, b, e) (rw (c (ap has_items e), unsigned_signed 31 f.min w.min, unsigned_signed 31 f.max w.max) refl)
      go StringEnum e a b c = rw (a, b, e) refl
      go FloatEnum e a b c = rw (a, b, e) refl
      go String e a b c = rw (a, b, e) (rw (c (ap has_items e)) refl)

  written-again : (out body : List ℕ) → gives (body_of_fields (fields_given f) l out) ≡ ok body →
      ((definition_numbers (definition_of body)).status ≡ pos 0) × (fields_read (definition_numbers (definition_of body)) ≡ of_its_type (type_of f.node_type) f)
  written-again out body e =
      let d = fields_given f in
      let none = no-fault (fault_of d l out) (body_given d l) body (sym (writer-gives d l out) ∙ e) in
      let p = lent-passed d l (lent_none d l out none) in
      let n = numbers-back body (definition_of body) _ (reads-back d l out in-width body e).definition in
      (n.0, n.1 ∙ same_numbers p _ (type_of f.node_type) refl)

-- every definition, item and walk is what its numbers mean
pub definitions-say : DefinitionsSay
definitions-say =
    record {
      parsed = parsed;
      walk = walk;
      begun = begun;
      item = item;
      step = step;
      definition_call = λ body b. parsed (definition_of body) (parsed-answer body b);
      begin_call = λ body. begun (begin_of body);
      step_call = λ body at left t. step (step_at body at left t);
      item_call = λ body n. item (item_numbered body n);
      write_call = λ d l out. written (body_of_fields d l out).answer;
      anew_call = λ body out. written (anew_of body out).answer;
      given_back = λ body out d b e. given-anew body out d e (parsed-answer body b);
      written_back = λ f l out body w e. written-again f l w out body e;
      good_beside = λ why. record { definition = refl; walk = refl; item = refl };
      refused_zero = λ why. record {
        definition = (refl, refl, refl, refl, refl, refl, refl, refl, refl, refl);
        details = (refl, refl, refl, refl, refl, refl);
        walk = (refl, refl, refl);
        item = (refl, refl, refl, refl, refl, refl);
      };
      other_zero = record {
        read = λ d. refl;
        walk = λ w. refl;
        none = λ d e. rw e (refl, refl, refl, refl, refl, refl);
        floats = λ d min max steps e. rw e (refl, refl, refl);
        integers = λ d min max e. rw e (refl, refl, refl, refl);
        items = λ d count first e. rw e (refl, refl, refl, refl);
        text = λ d n e. rw e (refl, refl, refl, refl, refl);
        strings_item = λ a b. (refl, refl);
        float_item = λ bits b. (refl, refl, refl);
        no_item = (refl, refl, refl, refl, refl, refl, refl);
      };
    }
