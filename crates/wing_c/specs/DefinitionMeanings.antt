-- What the numbers of definitions and items mean, by the header's words, and that each of them is the meaning of its numbers.
use Rattle.std.specs.Prelude.{ℕ, ◌^◌, ◌<◌, false, ◌≡◌, List, eqb, ℤ, pos, Ok, Err, Option, Some, None as NoItem}
use Rattle.wing_node.specs.Bool.{if}
use Rattle.wing_node.specs.Refusal.{good_beside}
use Rattle.wing_node.specs.Result.{ok, Result}
use Rattle.wing_node.specs.Signed.{signed, InBits}
use Rattle.wing_node.specs.Types.{type_of, unit_of}
use Rattle.wing_node.specs.Definition.{definition_of}
use Rattle.wing_node.specs.Items.{begin_of, step_at, item_numbered}
use Rattle.wing_node.specs.Writer.{Lent, body_of_fields}
use Rattle.wing_node.specs.Anew.{lent_from, anew_of}
use Rattle.wing_node.specs.BothWays.{gives}
use Rattle.wing_wire.specs.Range.{AreBytes}
use Rattle.wing_node.specs.declared.refusal.Refusal.{Refusal}
use Rattle.wing_node.specs.declared.node_type.NodeType.{NodeType}
use Rattle.wing_node.specs.declared.node_type.NodeType.TheVariants.{Node, LinearFloat, LogarithmicFloat, FaderLevel, Integer, StringEnum, FloatEnum, String}
use Rattle.wing_node.specs.declared.definition.Span.{Span}
use Rattle.wing_node.specs.declared.definition.Details.{Details}
use Rattle.wing_node.specs.declared.definition.Details.TheVariants.{None, Floats, Integers, Items, String as MaxLen}
use Rattle.wing_node.specs.declared.definition.Item.{Item}
use Rattle.wing_node.specs.declared.definition.Item.TheVariants.{Strings, Float}
use Rattle.wing_node.specs.declared.definition.Definition.{Definition}
use Rattle.wing_node.specs.declared.items.Walk.{Walk}
use Rattle.wing_node.specs.declared.items.Step.{Step}
use Rattle.wing_node.specs.declared.writer.Fields.{Fields}
use Rattle.wing_c.specs.Numbers.{written_numbers}
use Rattle.wing_c.specs.Definitions.{taken_numbers, definition_numbers, walk_numbers, begun_numbers, item_numbers, step_numbers, fields_given}
use Rattle.wing_c.specs.Meanings.{by_status_and_good, written_in}
use Rattle.wing_c.specs.declared.definitions.WingDefinition.{WingDefinition}
use Rattle.wing_c.specs.declared.definitions.WingWalk.{WingWalk}
use Rattle.wing_c.specs.declared.definitions.WingItem.{WingItem}
use Rattle.wing_c.specs.declared.definitions.WingStep.{WingStep}
use Rattle.wing_c.specs.declared.writer.WingFields.{WingFields}

-- ---- what the numbers mean

-- a string in the body: where it stands and how many bytes it has
abbrev pub span : ℕ → ℕ → Span
span start len = record { start = start; len = len }

-- what a type adds. Types 1, 2: min, max and steps; 4: min and max, by their 32 bits; 5, 6: how many items, and where the first stands; 7: the
-- longest string
unfoldable pub details_in : NodeType → WingDefinition → Details
details_in Node r = None
details_in LinearFloat r = Floats r.min r.max r.steps
details_in LogarithmicFloat r = Floats r.min r.max r.steps
details_in FaderLevel r = None
details_in Integer r = Integers (signed 31 r.min) (signed 31 r.max)
details_in StringEnum r = Items r.count r.first_item
details_in FloatEnum r = Items r.count r.first_item
details_in String r = MaxLen r.max_len

-- a definition; its type and unit by 01's tables
unfoldable pub definition_in : WingDefinition → Definition
definition_in r =
    record {
      parent_id = r.parent_id;
      id = r.id;
      index = r.index;
      name = span r.name_start r.name_len;
      long_name = span r.long_name_start r.long_name_len;
      node_type = type_of r.node_type;
      unit = unit_of r.unit;
      read_only = r.read_only;
      details = details_in (type_of r.node_type) r;
    }

-- the definition in a body, or a refusal
unfoldable pub parsed_in : WingDefinition → Result Definition
parsed_in r = by_status_and_good r.status r.good Err (λ _. Ok (definition_in r))

-- a definition that was read as one to be written: the fields of the same names
abbrev pub fields_read : WingDefinition → WingFields
fields_read r =
    record {
      parent_id = r.parent_id;
      id = r.id;
      index = r.index;
      node_type = r.node_type;
      unit = r.unit;
      read_only = r.read_only;
      count = r.count;
      max_len = r.max_len;
      min = r.min;
      max = r.max;
      steps = r.steps;
    }

-- the fields to be written, with these limits, steps and longest string
abbrev pub with_details : WingFields → ℕ → ℕ → ℤ → ℕ → WingFields
with_details f min max steps max_len =
    record {
      parent_id = f.parent_id;
      id = f.id;
      index = f.index;
      node_type = f.node_type;
      unit = f.unit;
      read_only = f.read_only;
      count = f.count;
      max_len = max_len;
      min = min;
      max = max;
      steps = steps;
    }

-- 02: those its type lacks left out: types 1 and 2 have limits and steps, 4 has limits, 7 the longest string. The count stays: where the type has no items,
-- one above 0 is 16
abbrev pub of_its_type : NodeType → WingFields → WingFields
of_its_type Node f = with_details f 0 0 (pos 0) 0
of_its_type LinearFloat f = with_details f f.min f.max f.steps 0
of_its_type LogarithmicFloat f = with_details f f.min f.max f.steps 0
of_its_type FaderLevel f = with_details f 0 0 (pos 0) 0
of_its_type Integer f = with_details f f.min f.max (pos 0) 0
of_its_type StringEnum f = with_details f 0 0 (pos 0) 0
of_its_type FloatEnum f = with_details f 0 0 (pos 0) 0
of_its_type String f = with_details f 0 0 (pos 0) f.max_len

-- a walk: the place in the body reached, the items left, the type
unfoldable pub walk_in : WingWalk → Walk
walk_in r = record { at = r.at; left = r.left; kind = type_of r.node_type }

-- a walk at the first item, or a refusal
unfoldable pub begun_in : WingWalk → Result Walk
begun_in r = by_status_and_good r.status r.good Err (λ _. Ok (walk_in r))

-- an item by its kind: 0 two strings, 1 float bits and a string
unfoldable pub item_kind_in : WingItem → Item
item_kind_in r =
    if (eqb r.kind 0) (Strings (span r.start r.len) (span r.long_start r.long_len))
    (Float r.bits (span r.long_start r.long_len))

-- 1 an item, 0 none
unfoldable pub item_in : WingItem → Result (Option Item)
item_in r = by_status_and_good r.status r.good Err (λ s. Ok (if (eqb s 1) (Some (item_kind_in r)) NoItem))

-- a step: the item there, and the walk after it
unfoldable pub step_in : WingStep → Step
step_in r = record { item = item_in r.item; next = walk_in r.walk }

-- ---- which answers there are: an integer has 32 bits, and details are those of the type

-- the details that each type has
pub data OfType : NodeType → Details → Type 0 where
  node : OfType Node None
  linear : {min max : ℕ} {steps : ℤ} → OfType LinearFloat (Floats min max steps)
  logarithmic : {min max : ℕ} {steps : ℤ} → OfType LogarithmicFloat (Floats min max steps)
  fader : OfType FaderLevel None
  integers : {min max : ℤ} → InBits 31 min → InBits 31 max → OfType Integer (Integers min max)
  strings : {count first : ℕ} → OfType StringEnum (Items count first)
  floats : {count first : ℕ} → OfType FloatEnum (Items count first)
  text : {n : ℕ} → OfType String (MaxLen n)

-- the fields to be written are within their types. No caller can fail it
pub record TypedFields (f : WingFields) : Type 0 where
  pub parent : InBits 31 f.parent_id
  pub id : InBits 31 f.id
  pub index : f.index < 2 ^ 16
  pub count : f.count < 2 ^ 16
  pub max_len : f.max_len < 2 ^ 16
  pub min : f.min < 2 ^ 32
  pub max : f.max < 2 ^ 32
  pub steps : InBits 31 f.steps

-- of the parser
abbrev pub OfParsed : Result Definition → Type 0
OfParsed (Ok d) = OfType d.node_type d.details
OfParsed (Err why) = Unit {0}

-- ---- what holds of them

-- 02: beside a refusal stands its good: of 5 that of the string, 0 of every other
pub record GoodBeside (why : Refusal) : Type 0 where
  pub definition : (definition_numbers (Err why)).good ≡ good_beside why
  pub walk : (begun_numbers (Err why)).good ≡ good_beside why
  pub item : (item_numbers (Err why)).good ≡ good_beside why

-- where the status is a refusal, all other fields are 0, but for the good of 5
pub record RefusedZero (why : Refusal) : Type 0 where
  pub definition : let r = definition_numbers (Err why) in
      (r.parent_id ≡ pos 0) × (r.id ≡ pos 0) × (r.index ≡ 0) × (r.node_type ≡ 0) × (r.unit ≡ 0) × (r.read_only ≡ false) ×
      (r.name_len ≡ 0) × (r.long_name_len ≡ 0) × (r.name_start ≡ 0) × (r.long_name_start ≡ 0)
  pub details : let r = definition_numbers (Err why) in
      (r.count ≡ 0) × (r.max_len ≡ 0) × (r.min ≡ 0) × (r.max ≡ 0) × (r.steps ≡ pos 0) × (r.first_item ≡ 0)
  pub walk : let r = begun_numbers (Err why) in (r.at ≡ 0) × (r.left ≡ 0) × (r.node_type ≡ 0)
  pub item : let r = item_numbers (Err why) in
      (r.kind ≡ 0) × (r.bits ≡ 0) × (r.len ≡ 0) × (r.long_len ≡ 0) × (r.start ≡ 0) × (r.long_start ≡ 0)

-- what a type has not is 0, by the details of a definition that was read, and so is the good; two strings have no bits, a float no short string, a walk under
-- way no good
pub record OtherZero : Type 0 where
  pub read : (d : Definition) → (definition_numbers (Ok d)).good ≡ 0
  pub walk : (w : Walk) → (walk_numbers w).good ≡ 0
  pub none : (d : Definition) → d.details ≡ None → let r = definition_numbers (Ok d) in
      (r.count ≡ 0) × (r.max_len ≡ 0) × (r.min ≡ 0) × (r.max ≡ 0) × (r.steps ≡ pos 0) × (r.first_item ≡ 0)
  pub floats : (d : Definition) (min max : ℕ) (steps : ℤ) → d.details ≡ Floats min max steps → let r = definition_numbers (Ok d) in
      (r.count ≡ 0) × (r.max_len ≡ 0) × (r.first_item ≡ 0)
  pub integers : (d : Definition) (min max : ℤ) → d.details ≡ Integers min max → let r = definition_numbers (Ok d) in
      (r.count ≡ 0) × (r.max_len ≡ 0) × (r.steps ≡ pos 0) × (r.first_item ≡ 0)
  pub items : (d : Definition) (count first : ℕ) → d.details ≡ Items count first → let r = definition_numbers (Ok d) in
      (r.max_len ≡ 0) × (r.min ≡ 0) × (r.max ≡ 0) × (r.steps ≡ pos 0)
  pub text : (d : Definition) (n : ℕ) → d.details ≡ MaxLen n → let r = definition_numbers (Ok d) in
      (r.count ≡ 0) × (r.min ≡ 0) × (r.max ≡ 0) × (r.steps ≡ pos 0) × (r.first_item ≡ 0)
  pub strings_item : (a b : Span) → let r = item_numbers (Ok (Some (Strings a b))) in (r.good ≡ 0) × (r.bits ≡ 0)
  pub float_item : (bits : ℕ) (b : Span) → let r = item_numbers (Ok (Some (Float bits b))) in (r.good ≡ 0) × (r.len ≡ 0) × (r.start ≡ 0)
  pub no_item : let r = item_numbers (Ok NoItem) in
      (r.good ≡ 0) × (r.kind ≡ 0) × (r.bits ≡ 0) × (r.len ≡ 0) × (r.long_len ≡ 0) × (r.start ≡ 0) × (r.long_start ≡ 0)

-- every definition, item and walk is what its numbers mean
pub record DefinitionsSay : Type 0 where
  pub parsed : (p : Result Definition) → OfParsed p → parsed_in (definition_numbers p) ≡ p
  pub walk : (w : Walk) → walk_in (walk_numbers w) ≡ w
  pub begun : (b : Result Walk) → begun_in (begun_numbers b) ≡ b
  pub item : (i : Result (Option Item)) → item_in (item_numbers i) ≡ i
  pub step : (s : Step) → step_in (step_numbers s) ≡ s
  -- what the calls over a body answer is read back from their numbers, whatever its bytes are
  pub definition_call : (body : List ℕ) → AreBytes body → parsed_in (definition_numbers (definition_of body)) ≡ definition_of body
  pub begin_call : (body : List ℕ) → begun_in (begun_numbers (begin_of body)) ≡ begin_of body
  pub step_call : (body : List ℕ) (at left : ℕ) (t : NodeType) → step_in (step_numbers (step_at body at left t)) ≡ step_at body at left t
  pub item_call : (body : List ℕ) (n : ℕ) → item_in (item_numbers (item_numbered body n)) ≡ item_numbered body n
  -- and so is what the writers answer, whatever is given and lent
  pub write_call : (d : Fields) (l : Lent) (out : List ℕ) → let w = (body_of_fields d l out).answer in written_in (written_numbers w) ≡ w
  pub anew_call : (body out : List ℕ) → let w = (anew_of body out).answer in written_in (written_numbers w) ≡ w
  -- the fields that were read of a body, given with its names and items, are written as the body is anew: a limit's 32 bits serve both ways
  pub given_back : (body out : List ℕ) (d : Definition) → AreBytes body → definition_of body ≡ Ok d →
      body_of_fields (fields_given (fields_read (taken_numbers d))) (lent_from body d) out ≡ anew_of body out
  -- 02: what is written of numbers reads back as the same numbers, type, unit and count too, those that the type lacks left out
  pub written_back : (f : WingFields) (l : Lent) (out body : List ℕ) → TypedFields f → gives (body_of_fields (fields_given f) l out) ≡ ok body →
      let r = definition_numbers (definition_of body) in (r.status ≡ pos 0) × (fields_read r ≡ of_its_type (type_of f.node_type) f)
  pub good_beside : (why : Refusal) → GoodBeside why
  pub refused_zero : (why : Refusal) → RefusedZero why
  pub other_zero : OtherZero
