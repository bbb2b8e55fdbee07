-- What is promised of the definition writer, as specs/Writer states it: wing_node's laws, said of the answers.
use Prim.Native.Nat.{ℕ, ◌+◌, ◌≤◌, ◌<◌}
use mathlib.Core.Path.{◌≡◌, refl, ◌∙◌, ap, sym, ap₂}
use mathlib.Core.Bool.{Bool, true, false, not}
use mathlib.Core.Logic.{◌↔◌, ◌⊎◌, inl, inr}
use mathlib.Core.List.{List, [], ◌∷◌}
use native.Mathlib.Omega.{arith}
use lib.Dec.{ltb}
use lib.ListN.{length, drop, get_or}
use lib.Seq.{drop-append_seam}
use borrow.Author.Tests.{ltb-true, ltb-false}
use Rattle.wing_node.proofs.Refusals.{reason}
use Rattle.wing_node.specs.Refusal.{refusal_number, good_beside, no_fault, because, first_fault, text_fault, Fault}
use Rattle.wing_node.specs.declared.refusal.Refusal.{Refusal}
use Rattle.wing_node.specs.Bool.{if, or}
use Rattle.wing_node.specs.Bytes.{placed}
use Rattle.wing_node.specs.Result.{Result, refused}
use Rattle.wing_node.specs.Utf8.{good, utf8}
use Rattle.wing_node.specs.Definition.{items_of, definition_of}
use Rattle.wing_node.specs.Standing.{extent}
use Rattle.wing_node.specs.Answers.{parsed_result}
use Rattle.wing_node.specs.InBody.{all_fields}
use Rattle.wing_node.specs.Writer.{Lent, type_given, body_given, exact_items, texts_fault, lent_fault, room_fault, fault_of, body_put, body_of_fields}
use Rattle.wing_node.specs.Anew.{fields_of, lent_from, anew_from, anew_of}
use Rattle.wing_node.specs.BothWays.{InWidth, WrittenAnew, Reading, gives as result}
use Rattle.wing_node.specs.declared.definition.Definition.{Definition}
use Rattle.wing_node.specs.declared.writer.Fields.{Fields}
use Rattle.wing_node.proofs.Bodies.Back.{given_by, writer-gives, texts-decide, texts-first}
use Rattle.wing_node.proofs.Bodies.Checks.{exact-decides}
use Rattle.wing_node.proofs.Bodies.Held.{stand-within}
use Rattle.wing_node.proofs.Bodies.Anew.{both_ways}
use Rattle.wing_mirror.specs.Rows.{In}
use Rattle.promises.specs.Refusals.{definition_short, definition_wrong, body_long, output_short, name_long, fields_unfit}
use Rattle.promises.specs.Lines.{◌gives◌, by}
use Rattle.promises.specs.Node.{AllStand}
use Rattle.promises.specs.Writer.{writer_lines, BodyWrites, WriterCall, AnewCall}
use Rattle.promises.proofs.Lines.{given}
use Rattle.promises.proofs.Parses.{parser-call}
use Rattle.std.specs.Prelude.{Ok, Err}

module _ (d : Fields) (l : Lent) (out : List ℕ) where
  abbrev b : List ℕ
  b = body_given d l

  -- what the tests come to, in the order of the lines
  abbrev tree : (m n t u x : Bool) (p q r : Fault) (large short : Bool) → Result (List ℕ)
  tree m n t u x p q r large short =
      given_by (first_fault (if (or m n) (because name_long) (if (or t (or u (not x))) (because fields_unfit) (first_fault p (first_fault q r)))) (if large (because body_long) (if short (because output_short) no_fault))) b

  in_order : (m n t u x : Bool) (p q r : Fault) (large short : Bool) → tree m n t u x p q r large short ≡
      by ((m gives name_long) ∷ (n gives name_long) ∷ (t gives fields_unfit) ∷ (u gives fields_unfit) ∷ (not x gives fields_unfit) ∷ p ∷ q ∷ r ∷ (large gives body_long) ∷ (short gives output_short) ∷ []) b
  unfolding by
  in_order true n t u x p q r large short = refl
  in_order false true t u x p q r large short = refl
  in_order false false true u x p q r large short = refl
  in_order false false false true x p q r large short = refl
  in_order false false false false false p q r large short = refl
  in_order false false false false true (Err why) q r large short = refl
  in_order false false false false true (Ok u) (Err why) r large short = refl
  in_order false false false false true (Ok u) (Ok v) (Err why) large short = refl
  in_order false false false false true (Ok u) (Ok v) (Ok w) true short = refl
  in_order false false false false true (Ok u) (Ok v) (Ok w) false true = refl
  in_order false false false false true (Ok u) (Ok v) (Ok w) false false = refl

  -- a name's line
  text-line : (s : List ℕ) → text_fault s ≡ (not (utf8 s) gives definition_wrong (good s))
  unfolding text_fault
  text-line s = go (utf8 s)
    where
      go : (t : Bool) → if t no_fault (because (definition_wrong (good s))) ≡ (not t gives definition_wrong (good s))
      go true = refl
      go false = refl

  by_lines : result (body_of_fields d l out) ≡ by (writer_lines d l out) b
  unfolding lent_fault room_fault
  by_lines =
      writer-gives d l out ∙
      in_order (ltb 255 (length l.name)) (ltb 255 (length l.long_name)) (ltb 7 d.node_type) (ltb 7 d.unit) (exact_items (type_given d) d.count l.items) (text_fault l.name) (text_fault l.long_name)
      (texts_fault (items_of (type_given d) d.count) l.items) (ltb 4096 (length b)) (ltb (length out) (length b)) ∙
      ap₂ (λ p q. by ((ltb 255 (length l.name) gives name_long) ∷ (ltb 255 (length l.long_name) gives name_long) ∷ (ltb 7 d.node_type gives fields_unfit) ∷ (ltb 7 d.unit gives fields_unfit) ∷
      (not (exact_items (type_given d) d.count l.items) gives fields_unfit) ∷ p ∷ q ∷ texts_fault (items_of (type_given d) d.count) l.items ∷
      (ltb 4096 (length b) gives body_long) ∷ (ltb (length out) (length b) gives output_short) ∷ []) b) (text-line l.name) (text-line l.long_name)

  -- refused, the output is as it was; else what stands past the body is
  kept : (fault : Fault) (why : Refusal) → result (body_put fault b out) ≡ refused why → (body_put fault b out).out ≡ out
  kept (Ok u) why e = absurd (given _ why e)
  kept (Err other) why e = refl

  past : (fault : Fault) (n : ℕ) → (body_put fault b out).answer ≡ Ok n → (n ≡ length b) × (drop n (body_put fault b out).out ≡ drop n out)
  unfolding placed
  past (Ok u) n e =
      let m : length b ≡ n = cc in
      let k : 0 + length b ≡ length b = omega arith in
      (sym m, rw (← m, k) (drop-append_seam b (drop (length b) out)))
  past (Err why) n e = absurd (let z : ◌≡◌ {A = ℕ} 0 1 = cc in omega arith)

  pub body-writes : BodyWrites d l out (body_of_fields d l out).answer (body_of_fields d l out).out
  unfolding body_of_fields
  body-writes = record {
    answered = record { result = by_lines; as_it_was = λ why e. kept (fault_of d l out) why e };
    rest = λ n e. past (fault_of d l out) n e;
    same = refl;
  }

  pub writer-call : InWidth d → WriterCall d l out (body_of_fields d l out).answer (body_of_fields d l out).out
  writer-call w = record {
    writes = body-writes;
    exact = exact-decides (type_given d) d.count l.items;
    text = texts-decide (items_of (type_given d) d.count) l.items;
    first = texts-first (items_of (type_given d) d.count) l.items;
    reads = λ body e. both_ways.back d l out w body e;
  }

-- a body read and written anew, by the parser's answer
module _ (body out : List ℕ) (bytes : (i : ℕ) → get_or body i 0 < 256) where
  abbrev fields : ℕ
  fields = extent (all_fields body) body

  stood : (why : Refusal) → definition_of body ≡ Err why → AllStand body → ⊥
  stood why e h = given _ why (sym ((parser-call body).taken.1 h) ∙ ap (parsed_result body) e)

  reading : (d : Definition) → definition_of body ≡ Ok d → Reading body d
  reading d e = record { bytes = bytes; answer = e }

  anew : (a : Result Definition) → definition_of body ≡ a → AllStand body → fields ≤ 4096 → fields ≤ length out → WrittenAnew body (result (anew_from body a out))
  anew (Ok d) e s h r = both_ways.anew body out d (reading d e) h r
  anew (Err why) e s h r = absurd (stood why e s)

  long : (a : Result Definition) → definition_of body ≡ a → AllStand body → 4096 < fields → result (anew_from body a out) ≡ refused body_long
  long (Ok d) e s h = both_ways.long body out d (reading d e) h
  long (Err why) e s h = absurd (stood why e s)

  short : (a : Result Definition) → definition_of body ≡ a → AllStand body → fields ≤ 4096 → length out < fields → result (anew_from body a out) ≡ refused output_short
  short (Ok d) e s h r = both_ways.short body out d (reading d e) h r
  short (Err why) e s h r = absurd (stood why e s)

  kept-anew : (a : Result Definition) (why : Refusal) → result (anew_from body a out) ≡ refused why → (anew_from body a out).out ≡ out
  kept-anew (Ok d) why e = (body-writes (fields_of d) (lent_from body d) out).answered.as_it_was why e
  kept-anew (Err other) why e = refl

  -- of a body that the parser takes, 2, 9 or bytes
  only : (d : Definition) → definition_of body ≡ Ok d → (why : Refusal) → result (anew_from body (Ok d) out) ≡ refused why → (why ≡ body_long) ⊎ (why ≡ output_short)
  only d e why r = go (ltb 4096 fields) (ltb (length out) fields) refl refl
    where
      go : (x y : Bool) → ltb 4096 fields ≡ x → ltb (length out) fields ≡ y → (why ≡ body_long) ⊎ (why ≡ output_short)
      go true y p q = inl (ap (reason why) (sym r ∙ both_ways.long body out d (record { bytes = bytes; answer = e }) (ltb-true _ _ p)))
      go false true p q = inr (ap (reason why) (sym r ∙ both_ways.short body out d (record { bytes = bytes; answer = e }) (ltb-false _ _ p) (ltb-true _ _ q)))
      go false false p q = absurd (given _ why (sym (both_ways.anew body out d (record { bytes = bytes; answer = e }) (ltb-false _ _ p) (ltb-false _ _ q)).written ∙ r))

  -- 4 and 5 are the parser's
  parsers : (a : Result Definition) → definition_of body ≡ a → (k : Refusal) → (k ≡ body_long → ⊥) → (k ≡ output_short → ⊥) → (result (anew_from body a out) ≡ refused k) ↔ (parsed_result body a ≡ refused k)
  parsers (Ok d) e k p q = (λ r. absurd (neither k p q (only d e k r)), λ r. absurd (given _ k r))
    where
      neither : (k : Refusal) → (k ≡ body_long → ⊥) → (k ≡ output_short → ⊥) → (k ≡ body_long) ⊎ (k ≡ output_short) → ⊥
      neither k p q (inl z) = p z
      neither k p q (inr z) = q z
  parsers (Err other) e k p q = (λ r. ap refused (ap (reason other) r), λ r. ap refused (ap (reason other) r))

  through : {P : Type 0} (k : Refusal) → (k ≡ body_long → ⊥) → (k ≡ output_short → ⊥) → (parsed_result body (definition_of body) ≡ refused k) ↔ P → (result (anew_from body (definition_of body) out) ≡ refused k) ↔ P
  through k p q h = (λ r. h.0 ((parsers (definition_of body) refl k p q).0 r), λ s. (parsers (definition_of body) refl k p q).1 (h.1 s))

  others : (a : Result Definition) → definition_of body ≡ a → (why : Refusal) → result (anew_from body a out) ≡ refused why → In why (definition_short ∷ definition_wrong (good_beside why) ∷ body_long ∷ output_short ∷ [])
  others (Ok d) e why r = own (only d e why r)
    where
      own : (why ≡ body_long) ⊎ (why ≡ output_short) → In why (definition_short ∷ definition_wrong (good_beside why) ∷ body_long ∷ output_short ∷ [])
      own (inl z) = inr (inr (inl z))
      own (inr z) = inr (inr (inr (inl z)))
  others (Err other) e why r = parsed ((parser-call body).refusals.no_other why (ap (parsed_result body) e ∙ ap refused (ap (reason other) r)))
    where
      parsed : In why (definition_short ∷ definition_wrong (good_beside why) ∷ []) → In why (definition_short ∷ definition_wrong (good_beside why) ∷ body_long ∷ output_short ∷ [])
      parsed (inl z) = inl z
      parsed (inr (inl z)) = inr (inl z)
      parsed (inr (inr z)) = absurd z

  -- refusals with other numbers are not the same
  apart : (a b : Refusal) → (refusal_number a ≡ refusal_number b → ⊥) → a ≡ b → ⊥
  apart a b n e = n (ap refusal_number e)

  pub anew_call : AnewCall body out (anew_of body out).answer (anew_of body out).out
  unfolding anew_of
  anew_call = record {
    refusals = record {
      past_end = through definition_short (apart _ _ (λ z. omega arith)) (apart _ _ (λ z. omega arith)) (parser-call body).refusals.past_end;
      not_utf8 = λ g. through (definition_wrong g) (apart _ _ (λ z. omega arith)) (apart _ _ (λ z. omega arith)) ((parser-call body).refusals.not_utf8 g);
      no_other = others (definition_of body) refl;
    };
    as_it_was = kept-anew (definition_of body);
    long = long (definition_of body) refl;
    short = short (definition_of body) refl;
    within = stand-within (all_fields body) body;
    anew = anew (definition_of body) refl;
    writer = λ d e. rw e (body-writes (fields_of d) (lent_from body d) out);
  }
