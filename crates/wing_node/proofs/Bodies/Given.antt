-- The body of given fields: each field fits its form, how long it is, and how it is laid part by part.
use mathlib.Core.Path.{◌≡◌, refl, ◌∙◌, ap, sym}
use mathlib.Core.Bool.{Bool, true, false, true≢false}
use mathlib.Core.List.{List, [], ◌∷◌, ◌++◌, map, append_assoc}
use Prim.Native.Nat.{ℕ, ◌+◌, ◌≤◌, ◌<◌}
use native.Mathlib.Omega.{arith}
use lib.Dec.{ltb}
use lib.ListN.{length, length-append}
use lib.Seq.{sets}
use borrow.Author.Tests.{lt-ltb, le-ltb, ltb-false}
use Rattle.wing_node.specs.Bool.{if, or}
use Rattle.wing_node.specs.Bytes.{placed}
use Rattle.wing_node.specs.Signed.{unsigned}
use Rattle.wing_node.specs.Utf8.{utf8, good_from, good}
use Rattle.wing_node.specs.Refusal.{no_fault, because, is_refused}
use Rattle.wing_node.specs.Cursor.{size}
use Rattle.wing_node.specs.Standing.{extent}
use Rattle.wing_node.specs.Laid.{laid, laid_all, Fits, FitsAll, empty, more}
use Rattle.wing_node.specs.Definition.{FieldName, ParentId, Id, Index, Name, LongName, Flags, Min, Max, Steps, Count, MaxLen, form, header, added}
use Rattle.wing_node.specs.Written.{laid_by}
use Rattle.wing_node.specs.Writer.{Lent, lent, type_given, flags_of, limit, holds, body_given, unfit, all_texts_fault, lent_fault, room_fault, body_effect, body_of_fields}
use Rattle.wing_node.specs.declared.refusal.Refusal.{Refusal}
use Rattle.wing_node.specs.declared.refusal.Refusal.TheVariants.{FieldsUnfit, NameLong, BodyLong, OutputShort}
use Rattle.wing_node.specs.declared.node_type.NodeType.{NodeType}
use Rattle.wing_node.specs.declared.node_type.NodeType.TheVariants.{Node, LinearFloat, LogarithmicFloat, FaderLevel, Integer, StringEnum, FloatEnum, String}
use Rattle.wing_node.specs.declared.writer.Fields.{Fields}
use Rattle.wing_node.proofs.Numerals.Numbers.{length-digits_in}
use Rattle.wing_node.proofs.Bodies.Laid.{laid-extent}
use Rattle.wing_node.proofs.Bodies.Lays.{lays-then, sets-placed, laid-parts}
use Rattle.std.specs.Prelude.{Ok, Err}

-- each field fits its form, where the names are UTF-8
pub holds_fits : (d : Fields) (l : Lent) → utf8 l.name ≡ true → utf8 l.long_name ≡ true → (k : FieldName) → Fits (form k) (holds d l k)
holds_fits d l n m ParentId = length-digits_in 256 4 (unsigned 31 d.parent_id)
holds_fits d l n m Id = length-digits_in 256 4 (unsigned 31 d.id)
holds_fits d l n m Index = length-digits_in 256 2 d.index
holds_fits d l n m Name = n
holds_fits d l n m LongName = m
holds_fits d l n m Flags = length-digits_in 256 2 (flags_of d.node_type d.unit d.read_only)
holds_fits d l n m Min = length-digits_in 256 4 (limit (type_given d) d.min_float d.min_int)
holds_fits d l n m Max = length-digits_in 256 4 (limit (type_given d) d.max_float d.max_int)
holds_fits d l n m Steps = length-digits_in 256 4 (unsigned 31 d.steps)
holds_fits d l n m Count = length-digits_in 256 2 d.count
holds_fits d l n m MaxLen = length-digits_in 256 2 d.max_len

pub all_fit : (bytes : FieldName → List ℕ) → ((k : FieldName) → Fits (form k) (bytes k)) → (ks : List FieldName) → FitsAll (map form ks) (map bytes ks)
all_fit bytes h [] = empty
all_fit bytes h (k ∷ ks) = more (h k) (all_fit bytes h ks)

-- what a type adds are numbers, whose widths no bytes alter
added-width : (t : NodeType) (s : List ℕ) → extent (map form (added t)) s ≡ extent (map form (added t)) []
unfolding extent size
added-width Node s = refl
added-width LinearFloat s = refl
added-width LogarithmicFloat s = refl
added-width FaderLevel s = refl
added-width Integer s = refl
added-width StringEnum s = refl
added-width FloatEnum s = refl
added-width String s = refl

pub added-small : (t : NodeType) → extent (map form (added t)) [] ≤ 12
unfolding extent size
added-small Node = omega arith
added-small LinearFloat = omega arith
added-small LogarithmicFloat = omega arith
added-small FaderLevel = omega arith
added-small Integer = omega arith
added-small StringEnum = omega arith
added-small FloatEnum = omega arith
added-small String = omega arith

no_text : utf8 [] ≡ true
unfolding utf8 good_from good
no_text = refl

pub added-length : (d : Fields) (t : NodeType) → length (laid_by (holds d (lent [] [] [])) (added t)) ≡ extent (map form (added t)) []
added-length d t =
    let bytes = holds d (lent [] [] []) in
    sym (laid-extent [] (all_fit bytes (holds_fits d (lent [] [] []) no_text no_text) (added t))) ∙ added-width t _

pub header-length : (d : Fields) (l : Lent) → length (laid_by (holds d l) header) ≡ 14 + length l.name + length l.long_name
unfolding laid_all laid
header-length d l = simp (length-append, length-digits_in) (omega arith)

module _ (d : Fields) (l : Lent) where
  -- what a type adds does not hold the names
  pub no_names : (t : NodeType) → laid_by (holds d l) (added t) ≡ laid_by (holds d (lent [] [] [])) (added t)
  no_names Node = refl
  no_names LinearFloat = refl
  no_names LogarithmicFloat = refl
  no_names FaderLevel = refl
  no_names Integer = refl
  no_names StringEnum = refl
  no_names FloatEnum = refl
  no_names String = refl

  abbrev front : List ℕ
  front = laid_by (holds d (lent l.name l.long_name [])) header

  abbrev rest : List ℕ
  rest = laid_by (holds d (lent [] [] [])) (added (type_given d))

  -- the body in its three parts
  pub body-parts : body_given d l ≡ front ++ (rest ++ l.items)
  unfolding body_given
  body-parts =
      let t = type_given d in
      ap (λ s. s ++ l.items) (laid-parts (map form header) (map form (added t)) (map (holds d l) header) (map (holds d l) (added t)) refl) ∙
      append_assoc front (laid_by (holds d l) (added t)) l.items ∙ ap (λ s. front ++ (s ++ l.items)) (no_names t)

  pub body-length : length (body_given d l) ≡ 14 + length l.name + length l.long_name + extent (map form (added (type_given d))) [] + length l.items
  body-length =
      let h = header-length d (lent l.name l.long_name []) in
      ap length body-parts ∙ omega (arith, length-append front (rest ++ l.items), length-append rest l.items, h, added-length d (type_given d))

  -- the same of a type that was found and of what it adds
  pub body-size : (t : NodeType) (n : ℕ) → t ≡ type_given d → n ≡ extent (map form (added t)) [] → 14 + length l.name + length l.long_name + n + length l.items ≡ length (body_given d l)
  body-size t n e k = let z = ap (λ u. extent (map form (added u)) []) e in omega (arith, body-length, k, z)

  -- laid one after the other they are the body at the front
  pub body-laid : (x₀ x₁ x₂ x₃ : List ℕ) (m n : ℕ) → length (body_given d l) ≤ length x₀ →
      (m ≡ 14 + length l.name + length l.long_name) × (x₁ ≡ sets x₀ 0 front) → x₂ ≡ sets x₁ m rest →
      n ≡ extent (map form (added (type_given d))) [] → x₃ ≡ sets x₂ (m + n) l.items → x₃ ≡ placed x₀ 0 (body_given d l)
  body-laid x₀ x₁ x₂ x₃ m n room e f k g =
      let long : m ≡ 0 + length front = omega (arith, e.0, header-length d (lent l.name l.long_name [])) in
      let then : m + n ≡ m + length rest = omega (arith, added-length d (type_given d)) in
      lays-then x₀ x₁ x₃ 0 m front (rest ++ l.items) e.1 long (lays-then x₁ x₂ x₃ m (m + n) rest l.items f then g) ∙
      ap (sets x₀ 0) (sym body-parts) ∙ sets-placed x₀ (body_given d l) room

-- what the call leaves, case by case
module _ (d : Fields) (l : Lent) (out : List ℕ) where
  pub effect-refused : (why : Refusal) → because why ≡ lent_fault d l → body_effect (Err why) out ≡ body_of_fields d l out
  unfolding body_of_fields
  effect-refused why e = rw (← e)

  module _ (none : no_fault ≡ lent_fault d l) where
    pub names-short : (length l.name ≤ 255) × (length l.long_name ≤ 255)
    unfolding lent_fault
    names-short = go (ltb 255 (length l.name)) (ltb 255 (length l.long_name)) refl refl none
      where
        go : (a b : Bool) → ltb 255 (length l.name) ≡ a → ltb 255 (length l.long_name) ≡ b →
            no_fault ≡ if (or a b) (because NameLong) (if (unfit d.node_type d.unit d.count l.items) (because FieldsUnfit) (all_texts_fault d l)) → (length l.name ≤ 255) × (length l.long_name ≤ 255)
        go true b p q h = absurd (true≢false (sym (ap is_refused h)))
        go false true p q h = absurd (true≢false (sym (ap is_refused h)))
        go false false p q h = (ltb-false _ _ p, ltb-false _ _ q)

    pub effect-large : 4096 < length (body_given d l) → body_effect (Err BodyLong) out ≡ body_of_fields d l out
    unfolding body_of_fields room_fault
    effect-large h = simp (← none, lt-ltb 4096 (length (body_given d l)) h)

    pub effect-short : length (body_given d l) ≤ 4096 → length out < length (body_given d l) → body_effect (Err OutputShort) out ≡ body_of_fields d l out
    unfolding body_of_fields room_fault
    effect-short h k = simp (← none, le-ltb 4096 (length (body_given d l)) h, lt-ltb (length out) (length (body_given d l)) k)

    pub effect-written : length (body_given d l) ≤ 4096 → length (body_given d l) ≤ length out →
        body_effect (Ok (length (body_given d l))) (placed out 0 (body_given d l)) ≡ body_of_fields d l out
    unfolding body_of_fields room_fault
    effect-written h k = simp (← none, le-ltb 4096 (length (body_given d l)) h, le-ltb (length out) (length (body_given d l)) k)
