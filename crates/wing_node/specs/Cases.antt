-- 01's worked case: a node definition of 15 bytes with a one-letter name passes, and 14 bytes give 4. From its fields these bytes are written (02).
-- Then four tables of cases: what each type adds, read and, from the same fields (02), written; its items; and RFC 3629's grammar at the ends of its rows.
use Rattle.std.specs.Prelude.{ℕ, ◌≡◌, refl, Bool, true, false, List, [], ◌∷◌, map, take, ℤ, pos, negsuc, Ok, Err, Some, Option}
use Rattle.wing_node.specs.Digits.{number_from, number_in, digits_in}
use Rattle.wing_node.specs.Utf8.{holds, begins, first_that, char_length, good_from, good, utf8}
use Rattle.wing_node.specs.Types.{type_of, unit_of}
use Rattle.wing_node.specs.Cursor.{size, content, right, held_fault, fault, value_of, content_at, read_at, reads, after}
use Rattle.wing_node.specs.Definition.{definition_of, details_at, times}
use Rattle.wing_node.specs.Items.{item_numbered}
use Rattle.wing_node.specs.Laid.{laid, laid_all}
use Rattle.wing_node.specs.Writer.{Lent, lent, body_given}
use Rattle.wing_node.specs.declared.node_type.NodeType.{NodeType}
use Rattle.wing_node.specs.declared.node_type.NodeType.TheVariants.{Node, LinearFloat, LogarithmicFloat, FaderLevel, Integer, StringEnum, FloatEnum, String}
use Rattle.wing_node.specs.declared.node_type.NodeUnit.{NodeUnit}
use Rattle.wing_node.specs.declared.node_type.NodeUnit.TheVariants.{None as no_unit, Db, Percent, Milliseconds, Hertz, Meters, Seconds, Octaves}
use Rattle.wing_node.specs.declared.definition.Span.{Span}
use Rattle.wing_node.specs.declared.definition.Item.{Item}
use Rattle.wing_node.specs.declared.definition.Item.TheVariants.{Strings, Float}
use Rattle.wing_node.specs.declared.definition.Details.{Details}
use Rattle.wing_node.specs.declared.definition.Details.TheVariants.{None, Floats, Integers, Items, String as max_len}
use Rattle.wing_node.specs.declared.refusal.Refusal.TheVariants.{DefinitionNotUtf8, DefinitionShort, NumberOver}
use Rattle.wing_node.specs.declared.writer.Fields.{Fields}
use Rattle.wing_node.specs.Result.{Result}
use Rattle.wing_node.specs.declared.definition.Definition.{Definition}

-- 01's definition of 15 bytes
abbrev pub fifteen : List ℕ
fifteen = 0 ∷ 0 ∷ 0 ∷ 1 ∷ 255 ∷ 255 ∷ 255 ∷ 254 ∷ 0 ∷ 7 ∷ 1 ∷ 65 ∷ 0 ∷ 2 ∷ 1 ∷ []

pub passes : definition_of fifteen ≡ Ok (record {
  parent_id = pos 1;
  id = negsuc 1;
  index = 7;
  name = record { start = 11; len = 1 };
  long_name = record { start = 13; len = 0 };
  node_type = Node;
  unit = Db;
  read_only = true;
  details = None;
})
unfolding number_from number_in holds begins first_that char_length good_from good utf8 type_of unit_of size content right held_fault fault value_of content_at read_at reads after definition_of details_at times
passes = refl

-- 02: from these fields the same bytes are written
pub written : body_given (record {
  parent_id = pos 1;
  id = negsuc 1;
  index = 7;
  node_type = 0;
  unit = 1;
  read_only = true;
  min_float = 5;
  max_float = 5;
  min_int = pos 5;
  max_int = pos 5;
  steps = pos 5;
  count = 0;
  max_len = 5;
}) (lent (65 ∷ []) [] []) ≡ fifteen
unfolding digits_in type_of laid laid_all body_given
written = refl

pub short : definition_of (take 14 fifteen) ≡ Err DefinitionShort
unfolding number_from number_in holds begins first_that char_length good_from good utf8 type_of unit_of size content right held_fault fault value_of content_at read_at reads after definition_of details_at times
short = refl

-- the first failing field counts: a name that is not UTF-8 comes before fields that are missing
pub wrong : definition_of (0 ∷ 0 ∷ 0 ∷ 1 ∷ 0 ∷ 0 ∷ 0 ∷ 2 ∷ 0 ∷ 7 ∷ 1 ∷ 200 ∷ []) ≡ Err (DefinitionNotUtf8 0)
unfolding number_from number_in holds begins first_that char_length good_from good utf8 type_of unit_of size content right held_fault fault value_of content_at read_at reads after definition_of details_at times
wrong = refl

-- in a field the length comes before UTF-8
pub past_end : definition_of (0 ∷ 0 ∷ 0 ∷ 1 ∷ 0 ∷ 0 ∷ 0 ∷ 2 ∷ 0 ∷ 7 ∷ 2 ∷ 200 ∷ []) ≡ Err DefinitionShort
unfolding number_from number_in holds begins first_that char_length good_from good utf8 type_of unit_of size content right held_fault fault value_of content_at read_at reads after definition_of details_at times
past_end = refl

-- ---- tables of cases

-- what the definitions give, and what is wanted
pub record Case (A : Type 0) : Type 0 where
  pub got : A
  pub wanted : A

-- what the definitions give in each case of a table is what is wanted
abbrev pub AsWanted : {A : Type 0} → List (Case A) → Type 0
AsWanted {A} cs = map (λ (c : Case A). c.got) cs ≡ map (λ (c : Case A). c.wanted) cs

-- ---- definitions read

-- a body and what the parser says of it
abbrev pub parses : List ℕ → Result Definition → Case (Result Definition)
parses body answer = record { got = definition_of body; wanted = answer }

-- a string by its start in the body and its length
abbrev pub span : ℕ → ℕ → Span
span start len = record { start = start; len = len }

-- node 2 below node 1, index 7, both names empty, then the two bytes of its flags and what follows them
abbrev pub node_two : ℕ → ℕ → List ℕ → List ℕ
node_two high low rest = 0 ∷ 0 ∷ 0 ∷ 1 ∷ 0 ∷ 0 ∷ 0 ∷ 2 ∷ 0 ∷ 7 ∷ 0 ∷ 0 ∷ high ∷ low ∷ rest

-- what it says
abbrev pub is_two : NodeType → NodeUnit → Bool → Details → Result Definition
is_two type unit read_only details =
    Ok (record {
      parent_id = pos 1;
      id = pos 2;
      index = 7;
      name = span 11 0;
      long_name = span 12 0;
      node_type = type;
      unit = unit;
      read_only = read_only;
      details = details;
    })

unfoldable pub definitions : List (Case (Result Definition))
definitions =
    -- 01: 15 bytes with a one-letter name
    parses fifteen (Ok (record {
      parent_id = pos 1;
      id = negsuc 1;
      index = 7;
      name = span 11 1;
      long_name = span 13 0;
      node_type = Node;
      unit = Db;
      read_only = true;
      details = None;
    })) ∷
    -- 01: 14 bytes give 4
    parses (take 14 fifteen) (Err DefinitionShort) ∷
    -- the first failing field counts: a name that is not UTF-8 comes before fields that are missing
    parses (0 ∷ 0 ∷ 0 ∷ 1 ∷ 0 ∷ 0 ∷ 0 ∷ 2 ∷ 0 ∷ 7 ∷ 1 ∷ 200 ∷ []) (Err (DefinitionNotUtf8 0)) ∷
    -- 02: three bytes of it are good
    parses (0 ∷ 0 ∷ 0 ∷ 1 ∷ 0 ∷ 0 ∷ 0 ∷ 2 ∷ 0 ∷ 7 ∷ 4 ∷ 0x41 ∷ 0xc3 ∷ 0xa9 ∷ 0x80 ∷ []) (Err (DefinitionNotUtf8 3)) ∷
    -- in a field the length comes before UTF-8
    parses (0 ∷ 0 ∷ 0 ∷ 1 ∷ 0 ∷ 0 ∷ 0 ∷ 2 ∷ 0 ∷ 7 ∷ 2 ∷ 200 ∷ []) (Err DefinitionShort) ∷
    -- type 1: min, max, steps
    parses (node_two 0 0x12 (0xc1 ∷ 0x90 ∷ 0x00 ∷ 0x00 ∷ 0x41 ∷ 0x90 ∷ 0x00 ∷ 0x00 ∷ 0xff ∷ 0xff ∷ 0xff ∷ 0xfe ∷ [])) (is_two LinearFloat Percent false (Floats 0xc1900000 0x41900000 (negsuc 1))) ∷
    -- a byte less
    parses (node_two 0 0x12 (0xc1 ∷ 0x90 ∷ 0x00 ∷ 0x00 ∷ 0x41 ∷ 0x90 ∷ 0x00 ∷ 0x00 ∷ 0xff ∷ 0xff ∷ 0xff ∷ [])) (Err DefinitionShort) ∷
    -- type 2: the same
    parses (node_two 0 0x23 (0x41 ∷ 0xa0 ∷ 0x00 ∷ 0x00 ∷ 0x46 ∷ 0x9c ∷ 0x40 ∷ 0x00 ∷ 0x00 ∷ 0x00 ∷ 0x00 ∷ 0x78 ∷ [])) (is_two LogarithmicFloat Milliseconds false (Floats 0x41a00000 0x469c4000 (pos 120))) ∷
    -- type 3 adds nothing; later bytes are ignored
    parses (node_two 0 0x34 (9 ∷ [])) (is_two FaderLevel Hertz false None) ∷
    -- type 4: min, max, signed
    parses (node_two 0 0x45 (0xff ∷ 0xff ∷ 0xff ∷ 0x9c ∷ 0x00 ∷ 0x00 ∷ 0x00 ∷ 0x64 ∷ [])) (is_two Integer Meters false (Integers (negsuc 99) (pos 100))) ∷
    -- type 5: a count, and its items from 16 on
    parses (node_two 2 0x56 (0 ∷ 1 ∷ 1 ∷ 67 ∷ 2 ∷ 68 ∷ 69 ∷ [])) (is_two StringEnum Seconds true (Items 1 16)) ∷
    -- its item's long string is not UTF-8: one byte is good
    parses (node_two 0 0x50 (0 ∷ 1 ∷ 1 ∷ 67 ∷ 2 ∷ 68 ∷ 0xc3 ∷ [])) (Err (DefinitionNotUtf8 1)) ∷
    -- type 6
    parses (node_two 0 0x67 (0 ∷ 1 ∷ 0x3f ∷ 0x80 ∷ 0 ∷ 0 ∷ 1 ∷ 68 ∷ [])) (is_two FloatEnum Octaves false (Items 1 16)) ∷
    -- type 7: a length
    parses (node_two 0 0x70 (1 ∷ 0 ∷ [])) (is_two String no_unit false (max_len 256)) ∷
    -- 01: type and unit over 7 are 0: 13 and 9
    parses (node_two 0 0xd9 []) (is_two Node no_unit false None) ∷
    -- 8 and 15
    parses (node_two 2 0x8f []) (is_two Node no_unit true None) ∷
    -- read-only is bit 9 alone
    parses (node_two 0xfd 0x01 []) (is_two Node Db false None) ∷ []

-- ---- items

-- a body, an item's number and what is answered
abbrev pub holds_item : List ℕ → ℕ → Result (Option Item) → Case (Result (Option Item))
holds_item body number answer = record { got = item_numbered body number; wanted = answer }

-- two items of two strings: C and DE, none and F
abbrev pub two_items : List ℕ
two_items = node_two 0 0x50 (0 ∷ 2 ∷ 1 ∷ 67 ∷ 2 ∷ 68 ∷ 69 ∷ 0 ∷ 1 ∷ 70 ∷ [])

unfoldable pub items : List (Case (Result (Option Item)))
items =
    -- a short and a long string
    holds_item two_items 0 (Ok (Some (Strings (span 17 1) (span 19 2)))) ∷
    holds_item two_items 1 (Ok (Some (Strings (span 22 0) (span 23 1)))) ∷
    -- 01: a number not below the count is 14
    holds_item two_items 2 (Err NumberOver) ∷
    -- float bits and a string
    holds_item (node_two 0 0x60 (0 ∷ 1 ∷ 0x3f ∷ 0x80 ∷ 0 ∷ 0 ∷ 1 ∷ 68 ∷ [])) 0 (Ok (Some (Float 0x3f800000 (span 21 1)))) ∷ []

-- ---- definitions written

-- fields, what is lent and the body
abbrev pub writes : Fields → Lent → List ℕ → Case (List ℕ)
writes fields l body = record { got = body_given fields l; wanted = body }

-- the same numbers whatever the type, of which it takes those that it has
abbrev pub given : ℤ → ℕ → ℕ → Bool → Fields
given id type unit read_only =
    record {
      parent_id = pos 1;
      id = id;
      index = 7;
      node_type = type;
      unit = unit;
      read_only = read_only;
      min_float = 0xc1900000;
      max_float = 0x41900000;
      min_int = negsuc 99;
      max_int = pos 100;
      steps = negsuc 1;
      count = 1;
      max_len = 256;
    }

unfoldable pub bodies : List (Case (List ℕ))
bodies =
    -- 01's 15 bytes
    writes (given (negsuc 1) 0 1 true) (lent (65 ∷ []) [] []) fifteen ∷
    -- the name, then the long name
    writes (given (pos 2) 3 4 false) (lent (65 ∷ []) (66 ∷ 67 ∷ []) []) (0 ∷ 0 ∷ 0 ∷ 1 ∷ 0 ∷ 0 ∷ 0 ∷ 2 ∷ 0 ∷ 7 ∷ 1 ∷ 65 ∷ 2 ∷ 66 ∷ 67 ∷ 0 ∷ 0x34 ∷ []) ∷
    -- types 1 and 2: the float limits, not the integer ones, and the steps
    writes (given (pos 2) 1 2 false) (lent [] [] []) (node_two 0 0x12 (0xc1 ∷ 0x90 ∷ 0x00 ∷ 0x00 ∷ 0x41 ∷ 0x90 ∷ 0x00 ∷ 0x00 ∷ 0xff ∷ 0xff ∷ 0xff ∷ 0xfe ∷ [])) ∷
    writes (given (pos 2) 2 3 true) (lent [] [] []) (node_two 2 0x23 (0xc1 ∷ 0x90 ∷ 0x00 ∷ 0x00 ∷ 0x41 ∷ 0x90 ∷ 0x00 ∷ 0x00 ∷ 0xff ∷ 0xff ∷ 0xff ∷ 0xfe ∷ [])) ∷
    -- type 4: the integer limits, not the float ones
    writes (given (pos 2) 4 5 false) (lent [] [] []) (node_two 0 0x45 (0xff ∷ 0xff ∷ 0xff ∷ 0x9c ∷ 0x00 ∷ 0x00 ∷ 0x00 ∷ 0x64 ∷ [])) ∷
    -- types 5 and 6: the count, and the items as they were lent
    writes (given (pos 2) 5 6 true) (lent [] [] (1 ∷ 67 ∷ 2 ∷ 68 ∷ 69 ∷ [])) (node_two 2 0x56 (0 ∷ 1 ∷ 1 ∷ 67 ∷ 2 ∷ 68 ∷ 69 ∷ [])) ∷
    writes (given (pos 2) 6 7 false) (lent [] [] (0x3f ∷ 0x80 ∷ 0 ∷ 0 ∷ 1 ∷ 68 ∷ [])) (node_two 0 0x67 (0 ∷ 1 ∷ 0x3f ∷ 0x80 ∷ 0 ∷ 0 ∷ 1 ∷ 68 ∷ [])) ∷
    -- type 7: the length
    writes (given (pos 2) 7 0 false) (lent [] [] []) (node_two 0 0x70 (1 ∷ 0 ∷ [])) ∷ []

-- ---- strings

-- a string and its good
abbrev pub has_good : List ℕ → ℕ → Case ℕ
has_good s n = record { got = good s; wanted = n }

unfoldable pub strings : List (Case ℕ)
strings =
    -- UTF8-1: 00 to 7f
    has_good (0x00 ∷ []) 1 ∷
    has_good (0x7f ∷ []) 1 ∷
    has_good (0x80 ∷ []) 0 ∷
    -- UTF8-2: c2 to df, a tail
    has_good (0xc1 ∷ 0x80 ∷ []) 0 ∷
    has_good (0xc2 ∷ 0x80 ∷ []) 2 ∷
    has_good (0xdf ∷ 0xbf ∷ []) 2 ∷
    has_good (0xc2 ∷ 0x7f ∷ []) 0 ∷
    has_good (0xc2 ∷ 0xc0 ∷ []) 0 ∷
    -- UTF8-3: e0, a0 to bf
    has_good (0xe0 ∷ 0x9f ∷ 0xbf ∷ []) 0 ∷
    has_good (0xe0 ∷ 0xa0 ∷ 0x80 ∷ []) 3 ∷
    has_good (0xe0 ∷ 0xbf ∷ 0xbf ∷ []) 3 ∷
    has_good (0xe0 ∷ 0xc0 ∷ 0x80 ∷ []) 0 ∷
    has_good (0xe0 ∷ 0xa0 ∷ 0x7f ∷ []) 0 ∷
    has_good (0xe0 ∷ 0xa0 ∷ 0xc0 ∷ []) 0 ∷
    -- e1 to ec
    has_good (0xe1 ∷ 0x7f ∷ 0xbf ∷ []) 0 ∷
    has_good (0xe1 ∷ 0x80 ∷ 0x80 ∷ []) 3 ∷
    has_good (0xec ∷ 0xbf ∷ 0xbf ∷ []) 3 ∷
    has_good (0xe1 ∷ 0xc0 ∷ 0x80 ∷ []) 0 ∷
    has_good (0xe1 ∷ 0x80 ∷ 0x7f ∷ []) 0 ∷
    has_good (0xe1 ∷ 0x80 ∷ 0xc0 ∷ []) 0 ∷
    -- ed, 80 to 9f: no surrogates
    has_good (0xed ∷ 0x7f ∷ 0xbf ∷ []) 0 ∷
    has_good (0xed ∷ 0x80 ∷ 0x80 ∷ []) 3 ∷
    has_good (0xed ∷ 0x9f ∷ 0xbf ∷ []) 3 ∷
    has_good (0xed ∷ 0xa0 ∷ 0x80 ∷ []) 0 ∷
    has_good (0xed ∷ 0x80 ∷ 0x7f ∷ []) 0 ∷
    has_good (0xed ∷ 0x80 ∷ 0xc0 ∷ []) 0 ∷
    -- ee and ef
    has_good (0xee ∷ 0x7f ∷ 0xbf ∷ []) 0 ∷
    has_good (0xee ∷ 0x80 ∷ 0x80 ∷ []) 3 ∷
    has_good (0xef ∷ 0xbf ∷ 0xbf ∷ []) 3 ∷
    has_good (0xef ∷ 0xc0 ∷ 0x80 ∷ []) 0 ∷
    has_good (0xee ∷ 0x80 ∷ 0x7f ∷ []) 0 ∷
    has_good (0xee ∷ 0x80 ∷ 0xc0 ∷ []) 0 ∷
    -- UTF8-4: f0, 90 to bf
    has_good (0xf0 ∷ 0x8f ∷ 0xbf ∷ 0xbf ∷ []) 0 ∷
    has_good (0xf0 ∷ 0x90 ∷ 0x80 ∷ 0x80 ∷ []) 4 ∷
    has_good (0xf0 ∷ 0xbf ∷ 0xbf ∷ 0xbf ∷ []) 4 ∷
    has_good (0xf0 ∷ 0xc0 ∷ 0x80 ∷ 0x80 ∷ []) 0 ∷
    has_good (0xf0 ∷ 0x90 ∷ 0x80 ∷ 0x7f ∷ []) 0 ∷
    has_good (0xf0 ∷ 0x90 ∷ 0x80 ∷ 0xc0 ∷ []) 0 ∷
    has_good (0xf0 ∷ 0x90 ∷ 0x7f ∷ 0x80 ∷ []) 0 ∷
    has_good (0xf0 ∷ 0x90 ∷ 0xc0 ∷ 0x80 ∷ []) 0 ∷
    -- f1 to f3
    has_good (0xf1 ∷ 0x7f ∷ 0xbf ∷ 0xbf ∷ []) 0 ∷
    has_good (0xf1 ∷ 0x80 ∷ 0x80 ∷ 0x80 ∷ []) 4 ∷
    has_good (0xf3 ∷ 0xbf ∷ 0xbf ∷ 0xbf ∷ []) 4 ∷
    has_good (0xf3 ∷ 0xc0 ∷ 0x80 ∷ 0x80 ∷ []) 0 ∷
    has_good (0xf1 ∷ 0x80 ∷ 0x80 ∷ 0x7f ∷ []) 0 ∷
    has_good (0xf1 ∷ 0x80 ∷ 0x80 ∷ 0xc0 ∷ []) 0 ∷
    has_good (0xf1 ∷ 0x80 ∷ 0x7f ∷ 0x80 ∷ []) 0 ∷
    has_good (0xf1 ∷ 0x80 ∷ 0xc0 ∷ 0x80 ∷ []) 0 ∷
    -- f4, 80 to 8f
    has_good (0xf4 ∷ 0x7f ∷ 0xbf ∷ 0xbf ∷ []) 0 ∷
    has_good (0xf4 ∷ 0x80 ∷ 0x80 ∷ 0x80 ∷ []) 4 ∷
    has_good (0xf4 ∷ 0x8f ∷ 0xbf ∷ 0xbf ∷ []) 4 ∷
    has_good (0xf4 ∷ 0x90 ∷ 0x80 ∷ 0x80 ∷ []) 0 ∷
    has_good (0xf4 ∷ 0x80 ∷ 0x80 ∷ 0x7f ∷ []) 0 ∷
    has_good (0xf4 ∷ 0x80 ∷ 0x80 ∷ 0xc0 ∷ []) 0 ∷
    has_good (0xf4 ∷ 0x80 ∷ 0x7f ∷ 0x80 ∷ []) 0 ∷
    has_good (0xf4 ∷ 0x80 ∷ 0xc0 ∷ 0x80 ∷ []) 0 ∷
    -- no other lead byte
    has_good (0xf5 ∷ 0x80 ∷ 0x80 ∷ 0x80 ∷ []) 0 ∷
    has_good (0xff ∷ []) 0 ∷
    has_good (0xbf ∷ []) 0 ∷
    has_good (0xc0 ∷ []) 0 ∷
    -- a character cut off
    has_good (0xc3 ∷ []) 0 ∷
    has_good (0xe2 ∷ 0x82 ∷ []) 0 ∷
    has_good (0xf0 ∷ 0x9f ∷ 0x98 ∷ []) 0 ∷
    -- 41 c3a9 e282ac f09f9880, then e282: ten bytes are good
    has_good (0x41 ∷ 0xc3 ∷ 0xa9 ∷ 0xe2 ∷ 0x82 ∷ 0xac ∷ 0xf0 ∷ 0x9f ∷ 0x98 ∷ 0x80 ∷ 0xe2 ∷ 0x82 ∷ []) 10 ∷
    -- nothing; what follows a bad byte is not looked at
    has_good ([]) 0 ∷
    has_good (0x41 ∷ 0x80 ∷ 0x41 ∷ 0x42 ∷ []) 1 ∷ []
