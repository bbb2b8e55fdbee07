-- What is promised of the definition writer (02), by what is given and lent and by the answer.
use Rattle.std.specs.Prelude.{ℕ, ◌≤◌, ◌<◌, ◌≡◌, not, ◌↔◌, List, [], ◌∷◌, ltb, length, drop, Ok}
use Rattle.wing_node.specs.declared.refusal.Refusal.{Refusal}
use Rattle.wing_node.specs.Refusal.{because}
use Rattle.wing_node.specs.Result.{ok, refused, Result}
use Rattle.wing_node.specs.Utf8.{good, utf8, Decides}
use Rattle.wing_node.specs.Definition.{items_of, definition_of}
use Rattle.wing_node.specs.Standing.{NotUtf8, extent, Stand, StopsAt}
use Rattle.wing_node.specs.InBody.{all_fields}
use Rattle.wing_node.specs.Writer.{Lent, type_given, body_given, exact_items, Exactly, ExactItems, texts_fault, texts, body_effect, body_of_fields, body_result}
use Rattle.wing_node.specs.Anew.{fields_of, lent_from}
use Rattle.wing_node.specs.BothWays.{ReadsAsGiven, WrittenAnew}
use Rattle.wing_node.specs.declared.definition.Definition.{Definition}
use Rattle.wing_node.specs.declared.writer.Fields.{Fields}
use Rattle.promises.specs.Refusals.{body_long, definition_wrong, output_short, name_long, fields_unfit}
use Rattle.promises.specs.Lines.{Line, ◌gives◌, Answers}
use Rattle.promises.specs.Node.{AllStand, AsParsed}

-- 02: the writer's order is 15, 16, 5, 2, 9; 5 is for the first string that fails: the name, the long name, the items' in order, each with its good
abbrev pub writer_lines : Fields → Lent → List ℕ → List Line
writer_lines d l out =
    (ltb 255 (length l.name) gives name_long) ∷
    (ltb 255 (length l.long_name) gives name_long) ∷
    (ltb 7 d.node_type gives fields_unfit) ∷
    (ltb 7 d.unit gives fields_unfit) ∷
    (not (exact_items (type_given d) d.count l.items) gives fields_unfit) ∷
    (not (utf8 l.name) gives definition_wrong (good l.name)) ∷
    (not (utf8 l.long_name) gives definition_wrong (good l.long_name)) ∷
    texts_fault (items_of (type_given d) d.count) l.items ∷
    (ltb 4096 (length (body_given d l)) gives body_long) ∷
    (ltb (length out) (length (body_given d l)) gives output_short) ∷ []

-- a body of these fields: sent back as its lines have it, with the output as it was; else the body at the front of the output, whose bytes past
-- it are not altered
pub record BodyWrites (d : Fields) (l : Lent) (out : List ℕ) (answer : Result ℕ) (after : List ℕ) : Type 0 where
  pub answered : Answers (writer_lines d l out) (body_given d l) (body_result answer after) (after ≡ out)
  pub rest : (n : ℕ) → answer ≡ Ok n → (n ≡ length (body_given d l)) × (drop n after ≡ drop n out)
  -- it is the call that BothWays of wing_node's specs/ speaks of
  pub same : body_effect answer after ≡ body_of_fields d l out

-- to_bytes
pub record WriterCall (d : Fields) (l : Lent) (out : List ℕ) (answer : Result ℕ) (after : List ℕ) : Type 0 where
  pub writes : BodyWrites d l out answer after
  -- the items' lines in words: exactly the count of items, by their lengths, and none with a type that has none; and their strings UTF-8
  pub exact : Decides (exact_items (type_given d) d.count l.items) (ExactItems (type_given d) d.count l.items)
  pub text : Exactly (items_of (type_given d) d.count) l.items → Decides (texts (items_of (type_given d) d.count) l.items) (Stand (items_of (type_given d) d.count) l.items)
  -- 02: the items' line in words: 5 for the first of their strings that fails, with its good
  pub first : Exactly (items_of (type_given d) d.count) l.items → (g : ℕ) →
      (texts_fault (items_of (type_given d) d.count) l.items ≡ because (definition_wrong g)) ↔ StopsAt (NotUtf8 g) (items_of (type_given d) d.count) l.items
  -- 02: what it writes reads back as the same fields, those its type lacks left out, with the names' bytes and every item
  pub reads : (body : List ℕ) → body_result answer after ≡ ok body → ReadsAsGiven d l body

-- write_anew
pub record AnewCall (body out : List ℕ) (answer : Result ℕ) (after : List ℕ) : Type 0 where
  -- the parser's 4 and 5, exactly then; else 2 and 9 and no other; sent back, the output is as it was
  pub refusals : AsParsed body (body_long ∷ output_short ∷ []) (body_result answer after)
  pub as_it_was : (why : Refusal) → body_result answer after ≡ refused why → after ≡ out
  pub long : AllStand body → 4096 < extent (all_fields body) body → body_result answer after ≡ refused body_long
  pub short : AllStand body → extent (all_fields body) body ≤ 4096 → length out < extent (all_fields body) body → body_result answer after ≡ refused output_short
  -- 02: a body of at most 4,096 bytes, whose fields take no more than it has, that was read and is written anew has the same bytes exactly when ..
  pub within : AllStand body → extent (all_fields body) body ≤ length body
  pub anew : AllStand body → extent (all_fields body) body ≤ 4096 → extent (all_fields body) body ≤ length out → WrittenAnew body (body_result answer after)
  -- it is the writer's call on the fields of the parser's own answer and the bytes that these tell
  pub writer : (d : Definition) → definition_of body ≡ Ok d → BodyWrites (fields_of d) (lent_from body d) out answer after
