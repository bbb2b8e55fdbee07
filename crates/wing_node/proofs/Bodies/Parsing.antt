-- The parser, by the fields that stand in the body: for all types at once.
use mathlib.Core.Path.{◌≡◌, refl, ◌∙◌, ap, sym}
use mathlib.Core.Bool.{false, true≢false}
use mathlib.Core.Logic.{◌↔◌}
use mathlib.Core.List.{List, ◌++◌, map}
use Prim.Native.Nat.{ℕ}
use native.Mathlib.Omega.{arith}
use Rattle.wing_node.specs.Refusal.{no_fault, because, is_refused, Fault}
use Rattle.wing_node.specs.Result.{ok, refused}
use Rattle.wing_node.specs.Cursor.{Cursor, Reading, cursor, start, after}
use Rattle.wing_node.specs.Definition.{FieldName, ParentId, Id, Index, Name, LongName, Flags, Min, Max, Steps, Count, MaxLen, form, named, past, header, added, items_of, kind_from, details_from, details_at, definition_from, parsed_from, definition_of}
use Rattle.wing_node.specs.Standing.{extent, beyond, Stand}
use Rattle.wing_node.specs.Answers.{DefinitionValues, values_of, parsed_result, details_by}
use Rattle.wing_node.specs.InBody.{number_named, bytes_named, type_in, names_in, count_in, all_fields, first_in, definition_in}
use Rattle.wing_node.specs.Parsing.{parser_says, Takes, Parsing}
use Rattle.wing_node.specs.declared.refusal.Refusal.{Refusal}
use Rattle.wing_node.specs.declared.refusal.Refusal.TheVariants.{DefinitionNotUtf8, DefinitionShort}
use Rattle.wing_node.specs.declared.node_type.NodeType.{NodeType}
use Rattle.wing_node.specs.declared.node_type.NodeType.TheVariants.{Node, LinearFloat, LogarithmicFloat, FaderLevel, Integer, StringEnum, FloatEnum, String}
use Rattle.wing_node.specs.declared.definition.Definition.{Definition}
use Rattle.wing_node.proofs.Refusals.{reason, reason_of}
use Rattle.wing_node.proofs.Bodies.Standing.{passes, stands, ends-past, ends-wrong, ends_so, stand-parts, extent-parts}
use Rattle.wing_node.proofs.Bodies.InBody.{has, named-number, named-bytes, number-later, past-header, same-type, end_of, same_end}
use Rattle.std.specs.Prelude.{Ok, Err}

-- the reason of a fault is that of the refusal
module _ (body : List ℕ) (d : Definition) where
  refused-with : (x : Fault) (why : Refusal) → (parsed_result body (parsed_from x d) ≡ refused why) ↔ (x ≡ because why)
  refused-with (Ok u) why = (λ e. absurd (let z : ◌≡◌ {A = ℕ} 0 1 = cc in omega arith), λ e. absurd (true≢false (sym (ap is_refused e))))
  refused-with (Err other) why = (λ e. ap because (ap (reason other) e), λ e. ap refused (ap (reason_of other) e))

  good-with : (x : Fault) (v : DefinitionValues) → parsed_result body (parsed_from x d) ≡ ok v → x ≡ no_fault
  good-with (Ok u) v h = refl
  good-with (Err why) v h = absurd (let z : ◌≡◌ {A = ℕ} 0 1 = cc in omega arith)

-- what a type adds, by the numbers of its fields
same-details : (t : NodeType) (f : FieldName → Reading) (v : FieldName → ℕ) (first : ℕ) → ((k : FieldName) → has header k ≡ false → (f k).value ≡ v k) →
    details_from t f first ≡ details_by t v first
same-details Node f v first h = refl
same-details LinearFloat f v first h = rw (h Min refl, h Max refl, h Steps refl)
same-details LogarithmicFloat f v first h = rw (h Min refl, h Max refl, h Steps refl)
same-details FaderLevel f v first h = refl
same-details Integer f v first h = rw (h Min refl, h Max refl)
same-details StringEnum f v first h = rw (h Count refl)
same-details FloatEnum f v first h = rw (h Count refl)
same-details String f v first h = rw (h MaxLen refl)

module _ (body : List ℕ) where
  abbrev pub fields : FieldName → Reading
  fields = named header body start

  abbrev end : Fault
  end = (after (all_fields body) body start).fault

  abbrev pub found : Definition
  found = definition_from fields (details_at (kind_from fields) body (past header body start)).details

  pub parsed : definition_of body ≡ parsed_from end found
  unfolding definition_of
  parsed = ap (λ (c : Cursor). parsed_from c.fault found) (sym (end_of body) ∙ same_end body)

  pub parsed-good : Stand (all_fields body) body → definition_of body ≡ Ok found
  parsed-good h = parsed ∙ ap (λ x. parsed_from x found) ((stands (all_fields body) body 0).1 h)

  -- the header and what the type adds stand, if all fields do
  pub header-stands : Stand (all_fields body) body → Stand (map form header) body
  header-stands h = (stand-parts (map form header) (map form (added (type_in body)) ++ items_of (type_in body) (count_in body)) body h).0

  pub added-stand : Stand (all_fields body) body → Stand (map form (added (type_in body))) (beyond (map form header) body)
  added-stand h =
      (stand-parts (map form (added (type_in body))) (items_of (type_in body) (count_in body)) (beyond (map form header) body)
      (stand-parts (map form header) (map form (added (type_in body)) ++ items_of (type_in body) (count_in body)) body h).1).0

  -- the place after them
  pub first-at : Stand (all_fields body) body → past (added (type_in body)) body (cursor (extent (map form header) body) no_fault) ≡ cursor (first_in body) no_fault
  first-at h =
      passes (map form (added (type_in body))) body (extent (map form header) body) (added-stand h) ∙
      ap (λ n. cursor n no_fault) (sym (extent-parts (map form header) (map form (added (type_in body))) body))

  -- what the definition says of the type's own fields
  pub details-said : Stand (all_fields body) body →
      (details_at (kind_from fields) body (past header body start)).details ≡ details_by (type_in body) (λ k. number_named (names_in body) k body) (first_in body)
  unfolding details_at
  details-said h =
      let t = type_in body in
      let c = cursor (extent (map form header) body) no_fault in
      rw (same-type body (header-stands h), past-header body (header-stands h), first-at h)
      (same-details t (named (added t) body c) (λ k. number_named (names_in body) k body) (first_in body)
      (λ k o. named-number (added t) k body (extent (map form header) body) (added-stand h) ∙ sym (number-later header (added t) k body o)))

  pub found-said : Stand (all_fields body) body → values_of body found ≡ definition_in body
  unfolding number_named bytes_named
  found-said h =
      let s = header-stands h in
      let n : (k : FieldName) → (fields k).value ≡ number_named header k body = λ k. named-number header k body 0 s in
      rw (details-said h, n ParentId, n Id, n Index, n Flags, named-bytes header Name body 0 refl s, named-bytes header LongName body 0 refl s)

  pub said : Stand (all_fields body) body → parser_says body ≡ ok (definition_in body)
  said h = ap (parsed_result body) (parsed-good h) ∙ ap ok (found-said h)

  says : parser_says body ≡ parsed_result body (parsed_from end found)
  says = ap (parsed_result body) parsed

  pub taken : Takes body ↔ Stand (all_fields body) body
  taken = (
    λ h. (stands (all_fields body) body 0).0 (good-with body found end h.definition (sym says ∙ h.says)),
    λ h. record { definition = definition_in body; says = said h },
  )

  pub parsing : Parsing body
  parsing =
      let from : (why : Refusal) → parser_says body ≡ refused why → end ≡ because why = λ why e. (refused-with body found end why).0 (sym says ∙ e) in
      let to : (why : Refusal) → end ≡ because why → parser_says body ≡ refused why = λ why e. says ∙ (refused-with body found end why).1 e in
      record {
        past_end = (λ e. (ends-past (all_fields body) body 0).0 (from DefinitionShort e), λ h. to DefinitionShort ((ends-past (all_fields body) body 0).1 h));
        not_utf8 = λ g. (λ e. (ends-wrong (all_fields body) body 0 g).0 (from (DefinitionNotUtf8 g) e), λ h. to (DefinitionNotUtf8 g) ((ends-wrong (all_fields body) body 0 g).1 h));
        others = λ why e. ends_so (all_fields body) body 0 why (from why e);
        taken = taken;
        said = λ h. said (taken.0 h);
      }
