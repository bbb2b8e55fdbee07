-- A step of a walk, from any place, by the fields of the item that stand there.
use mathlib.Core.Path.{◌≡◌, refl, ◌∙◌, ap, sym}
use mathlib.Core.Bool.{Bool, true, false}
use mathlib.Core.Logic.{◌⊎◌, inl, inr}
use mathlib.Core.List.{List, [], ◌∷◌}
use Prim.Native.Nat.{ℕ, zero, suc, ◌+◌, ◌-◌}
use native.Mathlib.Omega.{arith}
use lib.Dec.{eqb}
use lib.ListN.{drop}
use lib.Seq.{drop-drop}
use borrow.Author.Tests.{eq-eqb, ne_eqb}
use Rattle.wing_node.specs.Refusal.{no_fault, because, Fault}
use Rattle.wing_node.specs.Bool.{if}
use Rattle.wing_node.specs.Result.{Result, ok, refused}
use Rattle.wing_node.specs.Types.{has_items}
use Rattle.wing_node.specs.Cursor.{Field, number, string, size, content, right, cursor, reads, after}
use Rattle.wing_node.specs.Definition.{span_of, nth, item_of, item_from, item_at}
use Rattle.wing_node.specs.Items.{stayed, step_at}
use Rattle.wing_node.specs.Standing.{Whole, extent, beyond, Stand, more}
use Rattle.wing_node.specs.Answers.{bytes_at, ItemValues, none as no_item, strings, float, item_result}
use Rattle.wing_node.specs.InBody.{item_in}
use Rattle.wing_node.specs.Parsing.{step_of, step_says, Left, IsItem, Stepping}
use Rattle.wing_node.specs.declared.refusal.Refusal.{Refusal}
use Rattle.wing_node.specs.declared.refusal.Refusal.TheVariants.{DefinitionNotUtf8, DefinitionShort}
use Rattle.wing_node.specs.declared.node_type.NodeType.{NodeType}
use Rattle.wing_node.specs.declared.node_type.NodeType.TheVariants.{Node, LinearFloat, LogarithmicFloat, FaderLevel, Integer, StringEnum, FloatEnum, String}
use Rattle.wing_node.specs.declared.definition.Item.{Item}
use Rattle.wing_node.specs.declared.items.Walk.{Walk}
use Rattle.wing_node.specs.declared.items.Step.{Step}
use Rattle.wing_node.proofs.Bodies.Standing.{one-read, onward, passes, stands, ends-past, ends-wrong, ends_so}
use Rattle.wing_node.proofs.Bodies.InBody.{string_bytes}
use Rattle.wing_node.proofs.Refusals.{reason}
use Rattle.std.specs.Prelude.{Ok, Err, Option, None}

-- the two fields of an item: what the second holds stands after the first
alone : (f : Field) (s : List ℕ) → Stand (f ∷ []) s → Whole f s × (right f s ≡ true)
alone f s (more w r h) = (w, r)

second-bytes : (f : Field) (body : List ℕ) (at : ℕ) → Stand (f ∷ string ∷ []) (drop at body) →
    bytes_at body (span_of (nth (reads (f ∷ string ∷ []) body (cursor at no_fault)) 1)) ≡ content string (beyond (f ∷ []) (drop at body))
unfolding reads extent
second-bytes f body at (more w r h) =
    let n = size f (drop at body) in
    let e : at + (n + 0) ≡ at + n = omega arith in
    let a = alone string (drop (at + n) body) (onward f (string ∷ []) body at h) in
    rw (one-read f body at w r, one-read string body (at + n) a.0 a.1, string_bytes string body (at + n) (cursor (at + n + size string (drop (at + n) body)) no_fault) refl, drop-drop, e)

-- an item that stands says what its fields hold
pub item-said : (t : NodeType) (body : List ℕ) (at : ℕ) → Stand (item_of t) (drop at body) →
    item_result body (Ok (item_from t (reads (item_of t) body (cursor at no_fault)))) ≡ ok (item_in t (drop at body))
unfolding reads
item-said Node body at h = refl
item-said LinearFloat body at h = refl
item-said LogarithmicFloat body at h = refl
item-said FaderLevel body at h = refl
item-said Integer body at h = refl
item-said StringEnum body at (more w r h) =
    let both = second-bytes string body at (more w r h) in
    rw (both, one-read string body at w r, string_bytes string body at (cursor (at + size string (drop at body)) no_fault) refl)
item-said FloatEnum body at (more w r h) =
    let both = second-bytes (number 4) body at (more w r h) in
    rw (both, one-read (number 4) body at w r)
item-said String body at h = refl

-- a type with items gives one
is-item : (t : NodeType) (body : List ℕ) (at : ℕ) → has_items t ≡ true → IsItem (item_result body (Ok (item_from t (reads (item_of t) body (cursor at no_fault)))))
is-item Node body at h = absurd (let z : ◌≡◌ {A = ℕ} 0 1 = cc in omega arith)
is-item LinearFloat body at h = absurd (let z : ◌≡◌ {A = ℕ} 0 1 = cc in omega arith)
is-item LogarithmicFloat body at h = absurd (let z : ◌≡◌ {A = ℕ} 0 1 = cc in omega arith)
is-item FaderLevel body at h = absurd (let z : ◌≡◌ {A = ℕ} 0 1 = cc in omega arith)
is-item Integer body at h = absurd (let z : ◌≡◌ {A = ℕ} 0 1 = cc in omega arith)
is-item StringEnum body at h = tt
is-item FloatEnum body at h = tt
is-item String body at h = absurd (let z : ◌≡◌ {A = ℕ} 0 1 = cc in omega arith)

-- answers apart: none, an item, a refusal
abbrev pub mark : Result ItemValues → ℕ
mark (ok no_item) = 0
mark (ok (strings a b)) = 1
mark (ok (float bits b)) = 1
mark (refused why) = 2

pub item-mark : (x : Result ItemValues) → IsItem x → mark x ≡ 1
item-mark (ok no_item) h = absurd h
item-mark (ok (strings a b)) h = refl
item-mark (ok (float bits b)) h = refl
item-mark (refused why) h = absurd h

module _ (body : List ℕ) (w : Walk) where
  abbrev there : List ℕ
  there = drop w.at body

  abbrev came : Fault
  came = (after (item_of w.kind) body (cursor w.at no_fault)).fault

  abbrev read : Option Item
  read = item_from w.kind (reads (item_of w.kind) body (cursor w.at no_fault))

  abbrev Ended : Type 0
  Ended = (w.left ≡ 0) ⊎ (has_items w.kind ≡ false)

  -- one or the other
  none_left : (n : ℕ) (b : Bool) → w.left ≡ n → has_items w.kind ≡ b → Ended ⊎ Left w
  none_left zero b e h = inl (inl e)
  none_left (suc n) false e h = inl (inr h)
  none_left (suc n) true e h = inr (λ z. omega arith, h)

  ended : Ended → step_of body w ≡ stayed (Ok None) w.at w.left w.kind
  unfolding step_at
  ended (inl e) = simp (eq-eqb _ _ e)
  ended (inr h) = simp h (same (eqb w.left 0) _)
    where
      same : (b : Bool) (x : Step) → if b x x ≡ x
      same true x = refl
      same false x = refl

  stopped : (why : Refusal) → Left w → came ≡ because why → step_of body w ≡ stayed (Err why) w.at w.left w.kind
  unfolding step_at item_at
  stopped why l e = simp (ne_eqb _ _ l.0, l.1, e)

  pub moves : Left w → Stand (item_of w.kind) there → step_of body w ≡ stayed (Ok read) (w.at + extent (item_of w.kind) there) (w.left - 1) w.kind
  unfolding step_at item_at
  moves l h = simp (ne_eqb _ _ l.0, l.1, passes (item_of w.kind) body w.at h)

  gives-item : Left w → Stand (item_of w.kind) there → IsItem (step_says body w)
  gives-item l h = rw (moves l h) (is-item w.kind body w.at l.1)

  -- what a step comes to
  data Outcome : Type 0 where
    nothing : Ended → step_of body w ≡ stayed (Ok None) w.at w.left w.kind → Outcome
    item : Left w → Stand (item_of w.kind) there → IsItem (step_says body w) → Outcome
    stop : (why : Refusal) → Left w → came ≡ because why → step_of body w ≡ stayed (Err why) w.at w.left w.kind → Outcome

  outcome : Outcome
  outcome = go (none_left w.left (has_items w.kind) refl refl) came refl
    where
      go : Ended ⊎ Left w → (x : Fault) → came ≡ x → Outcome
      go (inl e) x c = nothing e (ended e)
      go (inr l) (Ok u) c = let h = (stands (item_of w.kind) body w.at).0 c in item l h (gives-item l h)
      go (inr l) (Err why) c = stop why l c (stopped why l c)

  abbrev marked : ℕ
  marked = mark (step_says body w)

  mark-by : (x : Result (Option Item)) (at left : ℕ) (kind : NodeType) → step_of body w ≡ stayed x at left kind → marked ≡ mark (item_result body x)
  mark-by x at left kind e = ap (λ (s : Step). mark (item_result body s.item)) e

  only_none : marked ≡ 0 → Outcome → Ended
  only_none e (nothing h q) = h
  only_none e (item l h i) = absurd (omega (arith, item-mark (step_says body w) i))
  only_none e (stop why l c q) = absurd (omega (arith, mark-by _ _ _ _ q))

  only_item : IsItem (step_says body w) → Outcome → Left w × Stand (item_of w.kind) there
  only_item i (nothing h q) = absurd (omega (arith, item-mark (step_says body w) i, mark-by _ _ _ _ q))
  only_item i (item l h j) = (l, h)
  only_item i (stop why l c q) = absurd (omega (arith, item-mark (step_says body w) i, mark-by _ _ _ _ q))

  only-stop : (why : Refusal) → step_says body w ≡ refused why → Outcome → Left w × (came ≡ because why)
  only-stop why e (nothing h q) = absurd (omega (arith, ap mark e, mark-by _ _ _ _ q))
  only-stop why e (item l h i) = absurd (omega (arith, ap mark e, item-mark (step_says body w) i))
  only-stop why e (stop other l c q) = (l, c ∙ ap because (ap (reason other) (sym (ap (λ (s : Step). item_result body s.item) q) ∙ e)))

  stays : (IsItem (step_says body w) → ⊥) → Outcome → (step_of body w).next ≡ w
  stays not (nothing h q) = ap (λ (s : Step). s.next) q
  stays not (item l h i) = absurd (not i)
  stays not (stop why l c q) = ap (λ (s : Step). s.next) q

  pub stepping : Stepping body w
  stepping =
      let K = item_of w.kind in
      let says : Step → Result ItemValues = λ s. item_result body s.item in
      let part : (why : Refusal) → step_says body w ≡ refused why → Left w × (came ≡ because why) = λ why e. only-stop why e outcome in
      let both : IsItem (step_says body w) → Left w × Stand K there = λ i. only_item i outcome in
      record {
        nothing = (λ e. only_none (ap mark e) outcome, λ h. ap says (ended h));
        past_end = (λ e. ((part DefinitionShort e).0, (ends-past K body w.at).0 (part DefinitionShort e).1), λ h. ap says (stopped DefinitionShort h.0 ((ends-past K body w.at).1 h.1)));
        not_utf8 = λ g.
            (λ e. ((part (DefinitionNotUtf8 g) e).0, (ends-wrong K body w.at g).0 (part (DefinitionNotUtf8 g) e).1), λ h. ap says (stopped (DefinitionNotUtf8 g) h.0 ((ends-wrong K body w.at g).1 h.1)));
        others = λ why e. ends_so K body w.at why (part why e).1;
        given = (both, λ h. gives-item h.0 h.1);
        said = λ i. ap says (moves (both i).0 (both i).1) ∙ item-said w.kind body w.at (both i).1;
        moved = λ i. ap (λ (s : Step). s.next) (moves (both i).0 (both i).1);
        stays = λ not. stays not outcome;
      }
