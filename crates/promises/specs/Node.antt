-- What is promised of the parser and of the item calls, by the body and the answer. The fields of a body and what each holds are told from
-- its bytes (wing_node's specs/InBody); which of them stand in it, specs/Standing says.
use Rattle.std.specs.Prelude.{ℕ, ◌+◌, ◌-◌, ◌/◌, ◌%◌, ◌^◌, ◌≤◌, ◌<◌, ◌≡◌, false, true, ◌↔◌, ◌⊎◌, List, [], ◌∷◌, drop, length, Option}
use Rattle.wing_node.specs.Utf8.{good, Longest, utf8, class, ClassesHold}
use Rattle.wing_node.specs.Refusal.{good_beside, string_not_utf8, definition_not_utf8}
use Rattle.wing_node.specs.declared.refusal.Refusal.{Refusal}
use Rattle.wing_node.specs.Result.{Result, ok, refused}
use Rattle.wing_node.specs.Types.{has_items}
use Rattle.wing_node.specs.Definition.{item_of, definition_of}
use Rattle.wing_node.specs.Items.{walk, step_at, item_numbered}
use Rattle.wing_node.specs.Standing.{PastEnd, NotUtf8, Stand, StopsAt, extent}
use Rattle.wing_node.specs.Answers.{none, parsed_result, item_result}
use Rattle.wing_node.specs.InBody.{count_in, all_fields, definition_in, walk_in, item_in, item_in_body}
use Rattle.wing_node.specs.Parsing.{Left, IsItem, Walking}
use Rattle.wing_node.specs.declared.definition.Item.{Item}
use Rattle.wing_node.specs.declared.items.Walk.{Walk}
use Rattle.wing_node.specs.declared.items.Step.{Step}
use Rattle.wing_mirror.specs.Rows.{In}
use Rattle.promises.specs.Refusals.{string_wrong, definition_short, definition_wrong, number_over}
use Rattle.wing_node.specs.declared.definition.Definition.{Definition}

-- 01: definition field past the end, 4: some number of fields stand whole and good at the front, and the next one is not whole
abbrev pub Short : List ℕ → Type 0
Short body = StopsAt PastEnd (all_fields body) body

-- 01: definition string not UTF-8, 5: some stand, and the next one is whole and its string is not UTF-8. 02: so many of its leading bytes are good
abbrev pub Unreadable : ℕ → List ℕ → Type 0
Unreadable g body = StopsAt (NotUtf8 g) (all_fields body) body

-- all fields stand whole and good
abbrev pub AllStand : List ℕ → Type 0
AllStand body = Stand (all_fields body) body

-- a call that the parser's refusals decide: 4, and 5 with the good of the string that failed, exactly then, and no other but these
pub record AsParsed {A : Type 0} (body : List ℕ) (others : List Refusal) (came : Result A) : Type 0 where
  pub past_end : (came ≡ refused definition_short) ↔ Short body
  pub not_utf8 : (g : ℕ) → (came ≡ refused (definition_wrong g)) ↔ Unreadable g body
  pub no_other : (why : Refusal) → came ≡ refused why → In why (definition_short ∷ definition_wrong (good_beside why) ∷ others)

-- from_bytes: 4 or 5, or the definition that the fields say, exactly where all stand
pub record ParserCall (body : List ℕ) (answer : Result Definition) : Type 0 where
  pub refusals : AsParsed body [] (parsed_result body answer)
  pub taken : (parsed_result body answer ≡ ok (definition_in body)) ↔ AllStand body
  -- it is the parser that BothWays of wing_node's specs/ speaks of
  pub same : answer ≡ definition_of body

-- beginning, by the plain call and by the walker: the parser's 4 or 5, or the walk at the first item with their count; types without items
-- have count 0
pub record BeginCall (body : List ℕ) (came : Result Walk) : Type 0 where
  pub refusals : AsParsed body [] came
  pub taken : (came ≡ ok (walk_in body)) ↔ AllStand body

-- item_step, from any place
pub record StepCall (body : List ℕ) (w : Walk) (answer : Step) : Type 0 where
  -- 01: none when no items are left or the type has none
  pub nothing : (item_result body answer.item ≡ ok none) ↔ ((w.left ≡ 0) ⊎ (has_items w.kind ≡ false))
  -- else 4 or 5 as the fields of the item there stand
  pub past_end : (item_result body answer.item ≡ refused definition_short) ↔ (Left w × StopsAt PastEnd (item_of w.kind) (drop w.at body))
  pub not_utf8 : (g : ℕ) → (item_result body answer.item ≡ refused (definition_wrong g)) ↔ (Left w × StopsAt (NotUtf8 g) (item_of w.kind) (drop w.at body))
  pub no_other : (why : Refusal) → item_result body answer.item ≡ refused why → In why (definition_short ∷ definition_wrong (good_beside why) ∷ [])
  -- else the item there, and the walk goes past it
  pub given : IsItem (item_result body answer.item) ↔ (Left w × Stand (item_of w.kind) (drop w.at body))
  pub said : IsItem (item_result body answer.item) → item_result body answer.item ≡ ok (item_in w.kind (drop w.at body))
  pub moved : IsItem (item_result body answer.item) → answer.next ≡ walk (w.at + extent (item_of w.kind) (drop w.at body)) (w.left - 1) w.kind
  -- a step that gives none, 4 or 5 leaves the walk as it was
  pub stays : (IsItem (item_result body answer.item) → ⊥) → answer.next ≡ w
  pub same : answer ≡ step_at body w.at w.left w.kind

-- item_by_number: the body's 4 or 5, then 14 exactly for a number that is not below the count, else what the item of that number holds
pub record ItemCall (body : List ℕ) (number : ℕ) (answer : Result (Option Item)) : Type 0 where
  pub refusals : AsParsed body (number_over ∷ []) (item_result body answer)
  pub over : (item_result body answer ≡ refused number_over) ↔ (AllStand body × (count_in body ≤ number))
  pub given : AllStand body → number < count_in body → IsItem (item_result body answer)
  pub said : AllStand body → number < count_in body → item_result body answer ≡ ok (item_in_body body number)
  pub same : answer ≡ item_numbered body number

-- over a body whose fields all stand, the walk gives the item of each number in its turn, as many as the count, and then none
abbrev pub Walks : Type 0
Walks = (body : List ℕ) → AllStand body → Walking body

-- 01: a byte's count of leading one bits: so many bits from the highest on are 1, and the next, if there is one, is 0
pub record LeadingOnes (count b : ℕ) : Type 0 where
  pub most : count ≤ 8
  pub ones : (i : ℕ) → i < count → b / 2 ^ (7 - i) % 2 ≡ 1
  pub next : count < 8 → b / 2 ^ (7 - count) % 2 ≡ 0

-- 02: the good that stands beside 1 and 5, of the string that was refused: how many leading bytes form whole characters, the largest such number by RFC 3629's grammar;
-- and a string is UTF-8 exactly if all of it is good
pub record Goods : Type 0 where
  pub largest : (s : List ℕ) → Longest (good s) s
  pub all : (s : List ℕ) → (utf8 s ≡ true) ↔ (good s ≡ length s)
  -- 02: the refusal of a string is 1 with its good, that of a definition's string 5 with its good
  pub string : (s : List ℕ) → string_not_utf8 s ≡ string_wrong (good s)
  pub definition : (s : List ℕ) → definition_not_utf8 s ≡ definition_wrong (good s)
  -- 01: a lead byte's class is its count of leading one bits; of a byte that begins a character it says how many bytes the character has
  pub classes : (b : ℕ) → b < 256 → LeadingOnes (class b) b
  pub lengths : ClassesHold
