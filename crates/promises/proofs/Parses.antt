-- What is promised of the parser and of the item calls, as specs/Node states it: wing_node's laws, said of the answers.
use Prim.Native.Nat.{ℕ, ◌-◌, ◌/◌, ◌%◌, ◌^◌, ◌≤◌, ◌<◌}
use mathlib.Core.Bool.{Bool, true}
use mathlib.Core.Path.{◌≡◌, refl, sym, ◌∙◌, ap, subst}
use mathlib.Core.Logic.{◌↔◌, ◌⊎◌, inl, inr}
use mathlib.Core.List.{List, [], ◌∷◌}
use native.Mathlib.Omega.{arith}
use lib.Dec.{T, ltb, leb, eqb, leb→le, eqb→eq}
use borrow.Author.Tests.{lt-ltb}
use Rattle.wing_node.specs.Bool.{if, and}
use Rattle.wing_node.specs.Utf8.{ones_in, class}
use Rattle.wing_node.proofs.Below.{every, and-T-left, and-T-right, below}
use Rattle.promises.specs.Refusals.{definition_short, definition_wrong, number_over}
use Rattle.wing_node.specs.Refusal.{refusal_number, good_beside}
use Rattle.wing_node.specs.declared.refusal.Refusal.{Refusal}
use Rattle.wing_node.specs.Result.{Result, ok, refused}
use Rattle.wing_node.specs.Definition.{definition_of}
use Rattle.wing_node.specs.Items.{begin_of, step_at, item_numbered}
use Rattle.wing_node.specs.Answers.{DefinitionValues}
use Rattle.wing_node.specs.InBody.{count_in, definition_in, walk_in}
use Rattle.wing_node.specs.Parsing.{parser_says, Takes, begin_says, number_says, Parsing, Beginning, ByNumber, FourOrFive}
use Rattle.wing_node.specs.declared.items.Walk.{Walk}
use Rattle.wing_node.proofs.Bodies.Walks.{definitions}
use Rattle.wing_mirror.specs.Rows.{In}
use Rattle.promises.specs.Node.{AllStand, LeadingOnes, ParserCall, BeginCall, StepCall, ItemCall}
use Rattle.promises.proofs.Lines.{given}

-- 4 or 5 as a member of the list
listed : (why : Refusal) (others : List Refusal) → FourOrFive why → In why (definition_short ∷ definition_wrong (good_beside why) ∷ others)
listed why others (inl e) = inl e
listed why others (inr e) = inr (inl e)

module _ (body : List ℕ) where
  p : Parsing body
  p = definitions.parsing body

  -- what is taken stands, and what stands is taken
  pub whole-taken : AllStand body → Takes body
  whole-taken s = p.taken.1 s

  pub parser-call : ParserCall body (definition_of body)
  parser-call = record {
    refusals = record { past_end = p.past_end; not_utf8 = p.not_utf8; no_other = λ why e. listed why [] (p.others why e) };
    taken = (λ e. p.taken.0 (record { definition = definition_in body; says = e }), λ s. p.said (whole-taken s));
    same = refl;
  }

  b : Beginning body
  b = definitions.beginning body

  pub begin_call : BeginCall body (begin_of body)
  begin_call = record {
    refusals = record {
      past_end = (λ e. p.past_end.0 ((b.refusals definition_short).0 e), λ s. (b.refusals definition_short).1 (p.past_end.1 s));
      not_utf8 = λ g. (λ e. (p.not_utf8 g).0 ((b.refusals (definition_wrong g)).0 e), λ s. (b.refusals (definition_wrong g)).1 ((p.not_utf8 g).1 s));
      no_other = λ why e. listed why [] (p.others why ((b.refusals why).0 e));
    };
    taken = (λ e. begun-whole e, λ s. b.begun (whole-taken s));
  }
    where
      begun-whole : begin_says body ≡ ok (walk_in body) → AllStand body
      begun-whole e = go (parser_says body) refl
        where
          go : (r : Result DefinitionValues) → parser_says body ≡ r → AllStand body
          go (ok d) q = p.taken.0 (record { definition = d; says = q })
          go (refused why) q = absurd (given (walk_in body) why (sym e ∙ (b.refusals why).1 q))

  pub step_call : (w : Walk) → StepCall body w (step_at body w.at w.left w.kind)
  step_call w = let s = definitions.stepping body w in record {
    nothing = s.nothing;
    past_end = s.past_end;
    not_utf8 = s.not_utf8;
    no_other = λ why e. listed why [] (s.others why e);
    given = s.given;
    said = s.said;
    moved = s.moved;
    stays = s.stays;
    same = refl;
  }

  module _ (number : ℕ) where
    i : ByNumber body number
    i = definitions.by_number body number

    short-not : definition_short ≡ number_over → ⊥
    short-not e = let z : ◌≡◌ {A = ℕ} 4 14 = ap refusal_number e in omega arith

    wrong-not : (g : ℕ) → definition_wrong g ≡ number_over → ⊥
    wrong-not g e = let z : ◌≡◌ {A = ℕ} 5 14 = ap refusal_number e in omega arith

    -- a refusal that is not 14 is the parser's
    from-parser : (k : Refusal) → (k ≡ number_over → ⊥) → (number_says body number ≡ refused k) ↔ (parser_says body ≡ refused k)
    from-parser k n = (λ e. go ((i.refusals k).0 e), λ e. (i.refusals k).1 (inl e))
      where
        go : (parser_says body ≡ refused k) ⊎ (Takes body × (count_in body ≤ number) × (k ≡ number_over)) → parser_says body ≡ refused k
        go (inl e) = e
        go (inr t) = absurd (n t.2)

    item-others : (k : Refusal) → number_says body number ≡ refused k → In k (definition_short ∷ definition_wrong (good_beside k) ∷ number_over ∷ [])
    item-others k e = go ((i.refusals k).0 e)
      where
        go : (parser_says body ≡ refused k) ⊎ (Takes body × (count_in body ≤ number) × (k ≡ number_over)) → In k (definition_short ∷ definition_wrong (good_beside k) ∷ number_over ∷ [])
        go (inl e) = listed k (number_over ∷ []) (p.others k e)
        go (inr t) = inr (inr (inl t.2))

    item-over : (number_says body number ≡ refused number_over) ↔ (AllStand body × (count_in body ≤ number))
    item-over = (λ e. go ((i.refusals number_over).0 e), λ s. (i.refusals number_over).1 (inr (whole-taken s.0, s.1, refl)))
      where
        other : FourOrFive number_over → ⊥
        other (inl e) = let z : ◌≡◌ {A = ℕ} 14 4 = ap refusal_number e in omega arith
        other (inr e) = let z : ◌≡◌ {A = ℕ} 14 5 = ap refusal_number e in omega arith

        go : (parser_says body ≡ refused number_over) ⊎ (Takes body × (count_in body ≤ number) × (number_over ≡ number_over)) → AllStand body × (count_in body ≤ number)
        go (inl e) = absurd (other (p.others number_over e))
        go (inr t) = (p.taken.0 t.0, t.1)

    pub item_call : ItemCall body number (item_numbered body number)
    item_call = record {
      refusals = record {
        past_end = (λ e. p.past_end.0 ((from-parser definition_short short-not).0 e), λ s. (from-parser definition_short short-not).1 (p.past_end.1 s));
        not_utf8 = λ g. (λ e. (p.not_utf8 g).0 ((from-parser (definition_wrong g) (wrong-not g)).0 e), λ s. (from-parser (definition_wrong g) (wrong-not g)).1 ((p.not_utf8 g).1 s));
        no_other = item-others;
      };
      over = item-over;
      given = λ s l. i.given (whole-taken s) l;
      said = λ s l. i.said (whole-taken s) l;
      same = refl;
    }

-- ---- the class of a lead byte: one test, computed at each of 256 bytes

abbrev bit_at : ℕ → ℕ → ℕ
bit_at b i = b / 2 ^ (7 - i) % 2

abbrev next_zero : ℕ → Bool → Bool
next_zero b within = if within (eqb (bit_at b (class b)) 0) true

leads : ℕ → Bool
leads b = and (leb (class b) 8) (and (every (class b) (λ i. eqb (bit_at b i) 1)) (next_zero b (ltb (class b) 8)))

computed : (b : ℕ) → b < 256 → T (leads b)
unfolding leads ones_in class
computed = below leads 256 tt

pub leading_ones : (b : ℕ) → b < 256 → LeadingOnes (class b) b
unfolding leads
leading_ones b h =
    let t = computed b h in
    let u = and-T-right (leb (class b) 8) _ t in
    record {
      most = leb→le (class b) 8 (and-T-left (leb (class b) 8) _ t);
      ones = λ i k. eqb→eq _ _ (below (λ i. eqb (bit_at b i) 1) (class b) (and-T-left (every (class b) (λ i. eqb (bit_at b i) 1)) _ u) i k);
      next = λ k. eqb→eq _ _ (subst T (ap (next_zero b) (lt-ltb (class b) 8 k)) (and-T-right (every (class b) (λ i. eqb (bit_at b i) 1)) _ u));
    }
