-- The parser and the item calls, said of the fields that stand in the body and of the bytes alone.
use Rattle.std.specs.Prelude.{ℕ, zero, suc, ◌+◌, ◌-◌, ◌≤◌, ◌<◌, true, false, ◌≡◌, ◌↔◌, ◌⊎◌, List, drop}
use Rattle.wing_node.specs.Result.{Result, ok, refused}
use Rattle.wing_node.specs.declared.refusal.Refusal.{Refusal}
use Rattle.wing_node.specs.declared.refusal.Refusal.TheVariants.{DefinitionNotUtf8, DefinitionShort, NumberOver}
use Rattle.wing_node.specs.Refusal.{good_beside}
use Rattle.wing_node.specs.Types.{has_items}
use Rattle.wing_node.specs.Definition.{item_of, definition_of}
use Rattle.wing_node.specs.Items.{walk, begin_of, step_at, item_numbered}
use Rattle.wing_node.specs.Standing.{PastEnd, NotUtf8, Stand, StopsAt, extent}
use Rattle.wing_node.specs.Answers.{DefinitionValues, ItemValues, none, strings, float, parsed_result, item_result}
use Rattle.wing_node.specs.InBody.{count_in, all_fields, definition_in, walk_in, item_in, item_in_body}
use Rattle.wing_node.specs.declared.items.Walk.{Walk}
use Rattle.wing_node.specs.declared.items.Step.{Step}

-- what the parser answers for a body
abbrev pub parser_says : List ℕ → Result DefinitionValues
parser_says body = parsed_result body (definition_of body)

-- the parser takes the body
pub record Takes (body : List ℕ) : Type 0 where
  -- it answers some definition
  pub definition : DefinitionValues
  pub says : parser_says body ≡ ok definition

-- 4, or 5 with a good
abbrev pub FourOrFive : Refusal → Type 0
FourOrFive why = (why ≡ DefinitionShort) ⊎ (why ≡ DefinitionNotUtf8 (good_beside why))

-- the parser. 01: in a definition the first failing field counts, length before UTF-8
pub record Parsing (body : List ℕ) : Type 0 where
  -- 01: definition field past the end, 4
  pub past_end : (parser_says body ≡ refused DefinitionShort) ↔ StopsAt PastEnd (all_fields body) body
  -- 01: definition string not UTF-8, 5; 02: with the good of that string
  pub not_utf8 : (g : ℕ) → (parser_says body ≡ refused (DefinitionNotUtf8 g)) ↔ StopsAt (NotUtf8 g) (all_fields body) body
  -- no other refusal
  pub others : (why : Refusal) → parser_says body ≡ refused why → FourOrFive why
  -- else all fields stand. 01: later bytes are ignored
  pub taken : Takes body ↔ Stand (all_fields body) body
  -- and then what the fields hold is said
  pub said : Takes body → parser_says body ≡ ok (definition_in body)

-- what beginning a walk answers
abbrev pub begin_says : List ℕ → Result Walk
begin_says body = begin_of body

-- beginning a walk
pub record Beginning (body : List ℕ) : Type 0 where
  -- 01: beginning on a body that the parser refuses gives its 4 or 5
  pub refusals : (why : Refusal) → (begin_says body ≡ refused why) ↔ (parser_says body ≡ refused why)
  -- 01: it begins at the first item
  pub begun : Takes body → begin_says body ≡ ok (walk_in body)

-- a step of a walk
abbrev pub step_of : List ℕ → Walk → Step
step_of body w = step_at body w.at w.left w.kind

-- what a step answers
abbrev pub step_says : List ℕ → Walk → Result ItemValues
step_says body w = item_result body (step_of body w).item

-- items are left, of a type that has them
abbrev pub Left : Walk → Type 0
Left w = (w.left ≡ 0 → ⊥) × (has_items w.kind ≡ true)

-- an item, neither none nor a refusal
abbrev pub IsItem : Result ItemValues → Type 0
IsItem (ok none) = ⊥
IsItem (ok (strings a b)) = Unit {0}
IsItem (ok (float bits b)) = Unit {0}
IsItem (refused why) = ⊥

-- a step, from any place. 01: none when no items are left or the type has none, else the item there, or 4 or 5
pub record Stepping (body : List ℕ) (w : Walk) : Type 0 where
  -- none, exactly then
  pub nothing : (step_says body w ≡ ok none) ↔ ((w.left ≡ 0) ⊎ (has_items w.kind ≡ false))
  -- 4: a field of the item is past the end
  pub past_end : (step_says body w ≡ refused DefinitionShort) ↔ (Left w × StopsAt PastEnd (item_of w.kind) (drop w.at body))
  -- 5: a string of it is not UTF-8; 02: with its good
  pub not_utf8 : (g : ℕ) → (step_says body w ≡ refused (DefinitionNotUtf8 g)) ↔ (Left w × StopsAt (NotUtf8 g) (item_of w.kind) (drop w.at body))
  -- no other refusal
  pub others : (why : Refusal) → step_says body w ≡ refused why → FourOrFive why
  -- an item, exactly where its fields stand
  pub given : IsItem (step_says body w) ↔ (Left w × Stand (item_of w.kind) (drop w.at body))
  -- and then it says what they hold
  pub said : IsItem (step_says body w) → step_says body w ≡ ok (item_in w.kind (drop w.at body))
  -- and the walk goes past them, with one item fewer left
  pub moved : IsItem (step_says body w) → (step_of body w).next ≡ walk (w.at + extent (item_of w.kind) (drop w.at body)) (w.left - 1) w.kind
  -- otherwise the walk is as it was
  pub stays : (IsItem (step_says body w) → ⊥) → (step_of body w).next ≡ w

-- what the call for the item of a number answers
abbrev pub number_says : List ℕ → ℕ → Result ItemValues
number_says body n = item_result body (item_numbered body n)

-- the item of a number
pub record ByNumber (body : List ℕ) (n : ℕ) : Type 0 where
  -- 01: a body that the parser refuses gives its 4 or 5 before 14; 14: item number not below its count
  pub refusals : (why : Refusal) → (number_says body n ≡ refused why) ↔ ((parser_says body ≡ refused why) ⊎ (Takes body × (count_in body ≤ n) × (why ≡ NumberOver)))
  -- else an item
  pub given : Takes body → n < count_in body → IsItem (number_says body n)
  -- and it says what the item of that number holds
  pub said : Takes body → n < count_in body → number_says body n ≡ ok (item_in_body body n)

-- a walk after a number of steps
unfoldable pub walked : ℕ → List ℕ → Walk → Walk
walked zero body w = w
walked (suc n) body w = walked n body (step_of body w).next

-- the walk over a body that the parser takes
pub record Walking (body : List ℕ) : Type 0 where
  -- the item of a number is the one that so many steps lead to
  pub in_order : (n : ℕ) → n < count_in body → step_says body (walked n body (walk_in body)) ≡ number_says body n
  -- each of these steps gives an item
  pub each : (n : ℕ) → n < count_in body → IsItem (step_says body (walked n body (walk_in body)))
  -- 01: none when no items are left
  pub ends : step_says body (walked (count_in body) body (walk_in body)) ≡ ok none

-- the parser and the item calls, on every body
pub record Definitions : Type 0 where
  -- the parser
  pub parsing : (body : List ℕ) → Parsing body
  -- the walk's beginning
  pub beginning : (body : List ℕ) → Beginning body
  -- a step from any place, with any number of items left, of any type
  pub stepping : (body : List ℕ) (w : Walk) → Stepping body w
  -- an item by its number, whatever the number
  pub by_number : (body : List ℕ) (n : ℕ) → ByNumber body n
  -- all steps of a walk
  pub walking : (body : List ℕ) → Takes body → Walking body
