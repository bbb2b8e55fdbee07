-- Fields that stand at the front of bytes, and what a cursor that reads them comes to.
use mathlib.Core.Path.{◌≡◌, refl, ap, sym, subst, ◌∙◌}
use mathlib.Core.Bool.{Bool, true, false, true≢false}
use mathlib.Core.Logic.{◌↔◌, ◌⊎◌, inl, inr}
use mathlib.Core.List.{List, [], ◌∷◌, ◌++◌}
use Prim.Native.Nat.{ℕ, zero, suc, ◌+◌, ◌-◌, ◌≤◌, ◌<◌}
use native.Mathlib.Omega.{arith}
use lib.Dec.{ltb}
use lib.ListN.{length, drop, length-drop}
use lib.Seq.{drop-drop}
use borrow.Author.Tests.{le-ltb, ltb-true, ltb-false}
use Rattle.wing_node.specs.Utf8.{good}
use Rattle.wing_node.specs.Refusal.{refusal_number, good_beside, no_fault, because, is_refused, Fault}
use Rattle.wing_node.specs.Bool.{if}
use Rattle.wing_node.specs.Cursor.{Cursor, Field, size, content, held_fault, right, fault, value_of, content_at, cursor, from, field_read, read_at, after}
use Rattle.wing_node.specs.Definition.{times}
use Rattle.wing_node.specs.Standing.{Whole, PastEnd, NotUtf8, extent, beyond, Stand, empty, more, StopsAt}
use Rattle.wing_node.specs.Parsing.{FourOrFive}
use Rattle.wing_node.specs.declared.refusal.Refusal.{Refusal}
use Rattle.wing_node.specs.declared.refusal.Refusal.TheVariants.{DefinitionNotUtf8, DefinitionShort}
use Rattle.wing_node.proofs.Refusals.{reason_of}
use Rattle.wing_node.proofs.Bodies.Cases.{read-there}
use Rattle.wing_node.proofs.Bodies.Fields.{after-append, after-refused}
use Rattle.std.specs.Prelude.{Ok, Err}

-- a fault apart from the others: its number, its good
abbrev fault_number : Fault → ℕ
fault_number (Ok u) = 0
fault_number (Err why) = refusal_number why

abbrev pub fault_good : Fault → ℕ
fault_good (Ok u) = 0
fault_good (Err why) = good_beside why

-- a field that stands is read, and the cursor goes past it
pub one-read : (f : Field) (body : List ℕ) (at : ℕ) → Whole f (drop at body) → right f (drop at body) ≡ true →
    read_at f body (cursor at no_fault) ≡ field_read (value_of f (drop at body)) (content_at f at) (cursor (at + size f (drop at body)) no_fault)
one-read f body at w r =
    let e : length (drop at body) ≡ length body - at = length-drop at body in
    let h : size f (drop at body) ≤ length body - at = omega arith in
    read-there f body (cursor at no_fault) refl h r

-- what stands after the first field stands from the place after it
pub onward : (f : Field) (fs : List Field) (body : List ℕ) (at : ℕ) → Stand fs (drop (size f (drop at body)) (drop at body)) → Stand fs (drop (at + size f (drop at body)) body)
onward f fs body at h = rw drop-drop at h

-- fields that stand are passed
pub passes : (fs : List Field) (body : List ℕ) (at : ℕ) → Stand fs (drop at body) → after fs body (cursor at no_fault) ≡ cursor (at + extent fs (drop at body)) no_fault
unfolding after extent
passes [] body at empty = let e : at + 0 ≡ at = omega arith in rw e
passes (f ∷ fs) body at (more w r h) =
    let n = size f (drop at body) in
    let rest : after fs body (cursor (at + n) no_fault) ≡ cursor (at + n + extent fs (drop (at + n) body)) no_fault = passes fs body (at + n) (onward f fs body at h) in
    let e : at + (n + extent fs (drop (at + n) body)) ≡ at + n + extent fs (drop (at + n) body) = omega arith in
    rw (one-read f body at w r, drop-drop, e) rest

-- a fault stops the cursor
stopped-at : (f : Field) (body : List ℕ) (c : Cursor) (why : Refusal) → is_refused c.fault ≡ false → fault f (from body c) ≡ because why → (read_at f body c).next.fault ≡ because why
unfolding read_at
stopped-at f body c why z e = rw (z, e)

-- what fails for a reason refuses the row for it
module _ (Fails : Field → List ℕ → Type 0) (why : Refusal) (reason : (f : Field) (s : List ℕ) → Fails f s → fault f s ≡ because why) where
  pub stops : (fs : List Field) (body : List ℕ) (at : ℕ) → StopsAt Fails fs (drop at body) → (after fs body (cursor at no_fault)).fault ≡ because why
  unfolding after
  stops fs body at h =
      let here = at + extent h.stood (drop at body) in
      let c = after h.stood body (cursor at no_fault) in
      let past : c ≡ cursor here no_fault = passes h.stood body at h.stand in
      let there : beyond h.stood (drop at body) ≡ drop here body = drop-drop (extent h.stood (drop at body)) at body in
      let e : fault h.next (drop here body) ≡ because why = rw there at (reason h.next (beyond h.stood (drop at body)) h.fails) in
      let r : (read_at h.next body (cursor here no_fault)).next.fault ≡ because why = stopped-at h.next body (cursor here no_fault) why refl e in
      let end : after (h.next ∷ h.others) body (cursor here no_fault) ≡ (read_at h.next body (cursor here no_fault)).next =
      after-refused h.others body (read_at h.next body (cursor here no_fault)).next (ap is_refused r) in
      rw (h.row, after-append, past, end) r

pub past_end : (f : Field) (s : List ℕ) → PastEnd f s → fault f s ≡ because DefinitionShort
unfolding fault
past_end f s h = go (ltb (length s) (size f s)) refl
  where
    go : (b : Bool) → ltb (length s) (size f s) ≡ b → if b (because DefinitionShort) (held_fault f s) ≡ because DefinitionShort
    go true e = refl
    go false e = absurd (h (ltb-false _ _ e))

pub not_utf8 : (g : ℕ) (f : Field) (s : List ℕ) → NotUtf8 g f s → fault f s ≡ because (DefinitionNotUtf8 g)
unfolding fault held_fault
not_utf8 g f s (w, r, e) = rw (le-ltb _ _ w, r, e)

-- one of three: all stand, or the first that fails is past the end, or not UTF-8 with some good
abbrev pub Found : List Field → List ℕ → Type 0
Found fs s = Stand fs s ⊎ (StopsAt PastEnd fs s ⊎ ((g : ℕ) × StopsAt (NotUtf8 g) fs s))

-- the first field fails
at_once : {Fails : Field → List ℕ → Type 0} (f : Field) (fs : List Field) (s : List ℕ) → Fails f s → StopsAt Fails (f ∷ fs) s
unfolding extent
at_once f fs s h = record { stood = []; next = f; others = fs; row = refl; stand = empty; fails = h }

-- it stands, and a later one fails
later : {Fails : Field → List ℕ → Type 0} (f : Field) (fs : List Field) (s : List ℕ) → Whole f s → right f s ≡ true →
    StopsAt Fails fs (drop (size f s) s) → StopsAt Fails (f ∷ fs) s
unfolding extent
later f fs s w r h =
    record {
      stood = f ∷ h.stood;
      next = h.next;
      others = h.others;
      row = ap (λ l. f ∷ l) h.row;
      stand = more w r h.stand;
      fails = rw drop-drop at h.fails;
    }

pub find : (fs : List Field) (s : List ℕ) → Found fs s
find [] s = inl empty
find (f ∷ fs) s = go (ltb (length s) (size f s)) (right f s) refl refl (find fs (drop (size f s) s))
  where
    rest : Whole f s → right f s ≡ true → Found fs (drop (size f s) s) → Found (f ∷ fs) s
    rest w r (inl h) = inl (more w r h)
    rest w r (inr (inl h)) = inr (inl (later f fs s w r h))
    rest w r (inr (inr (g, h))) = inr (inr (g, later f fs s w r h))

    go : (short right_there : Bool) → ltb (length s) (size f s) ≡ short → right f s ≡ right_there → Found fs (drop (size f s) s) → Found (f ∷ fs) s
    go true r e q others = inr (inl (at_once f fs s (λ w. let l : length s < size f s = ltb-true _ _ e in omega arith)))
    go false true e r others = rest (ltb-false _ _ e) r others
    go false false e r others = inr (inr (good (content f s), at_once f fs s (ltb-false _ _ e, r, refl)))

-- what a cursor comes to, exactly
module _ (fs : List Field) (body : List ℕ) (at : ℕ) where
  abbrev came : Fault
  came = (after fs body (cursor at no_fault)).fault

  all : Stand fs (drop at body) → came ≡ no_fault
  all h = ap (λ (c : Cursor). c.fault) (passes fs body at h)

  short-stops : StopsAt PastEnd fs (drop at body) → came ≡ because DefinitionShort
  short-stops = stops PastEnd DefinitionShort past_end fs body at

  wrong-stops : (g : ℕ) → StopsAt (NotUtf8 g) fs (drop at body) → came ≡ because (DefinitionNotUtf8 g)
  wrong-stops g = stops (NotUtf8 g) (DefinitionNotUtf8 g) (not_utf8 g) fs body at

  pub stands : (came ≡ no_fault) ↔ Stand fs (drop at body)
  stands = (λ e. go e (find fs (drop at body)), all)
    where
      go : came ≡ no_fault → Found fs (drop at body) → Stand fs (drop at body)
      go e (inl h) = h
      go e (inr (inl h)) = absurd (true≢false (ap is_refused (sym (short-stops h) ∙ e)))
      go e (inr (inr (g, h))) = absurd (true≢false (ap is_refused (sym (wrong-stops g h) ∙ e)))

  pub ends-past : (came ≡ because DefinitionShort) ↔ StopsAt PastEnd fs (drop at body)
  ends-past = (λ e. go e (find fs (drop at body)), short-stops)
    where
      go : came ≡ because DefinitionShort → Found fs (drop at body) → StopsAt PastEnd fs (drop at body)
      go e (inl h) = absurd (true≢false (ap is_refused (sym e ∙ all h)))
      go e (inr (inl h)) = h
      go e (inr (inr (g, h))) = absurd (let z : ◌≡◌ {A = ℕ} 5 4 = ap fault_number (sym (wrong-stops g h) ∙ e) in omega arith)

  pub ends-wrong : (g : ℕ) → (came ≡ because (DefinitionNotUtf8 g)) ↔ StopsAt (NotUtf8 g) fs (drop at body)
  ends-wrong g = (λ e. go e (find fs (drop at body)), wrong-stops g)
    where
      go : came ≡ because (DefinitionNotUtf8 g) → Found fs (drop at body) → StopsAt (NotUtf8 g) fs (drop at body)
      go e (inl h) = absurd (true≢false (ap is_refused (sym e ∙ all h)))
      go e (inr (inl h)) = absurd (let z : ◌≡◌ {A = ℕ} 4 5 = ap fault_number (sym (short-stops h) ∙ e) in omega arith)
      go e (inr (inr (k, h))) = subst (λ n. StopsAt (NotUtf8 n) fs (drop at body)) (ap fault_good (sym (wrong-stops k h) ∙ e)) h

  pub ends_so : (why : Refusal) → came ≡ because why → FourOrFive why
  ends_so why e = go (find fs (drop at body))
    where
      same : (x : Refusal) → came ≡ because x → why ≡ x
      same x c = ap (reason_of why) (sym e ∙ c)

      go : Found fs (drop at body) → FourOrFive why
      go (inl h) = absurd (true≢false (ap is_refused (sym e ∙ all h)))
      go (inr (inl h)) = inl (same DefinitionShort (short-stops h))
      go (inr (inr (g, h))) = let s = same (DefinitionNotUtf8 g) (wrong-stops g h) in inr (rw s)

-- a row in two parts
pub stand-parts : (fs gs : List Field) (s : List ℕ) → Stand (fs ++ gs) s → Stand fs s × Stand gs (beyond fs s)
unfolding extent
stand-parts [] gs s h = (empty, h)
stand-parts (f ∷ fs) gs s (more w r h) =
    let p = stand-parts fs gs (drop (size f s) s) h in
    (more w r p.0, rw drop-drop at p.1)

pub extent-parts : (fs gs : List Field) (s : List ℕ) → extent (fs ++ gs) s ≡ extent fs s + extent gs (beyond fs s)
unfolding extent
extent-parts [] gs s = omega arith
extent-parts (f ∷ fs) gs s =
    let t = drop (size f s) s in
    let e : size f s + (extent fs t + extent gs (beyond fs t)) ≡ size f s + extent fs t + extent gs (beyond fs t) = omega arith in
    rw (extent-parts fs gs t, e, drop-drop)

pub stand-join : (fs gs : List Field) (s : List ℕ) → Stand fs s → Stand gs (beyond fs s) → Stand (fs ++ gs) s
unfolding extent
stand-join [] gs s empty k = k
stand-join (f ∷ fs) gs s (more w r h) k = more w r (stand-join fs gs (drop (size f s) s) h (rw drop-drop k))

pub beyond-parts : (fs gs : List Field) (s : List ℕ) → beyond (fs ++ gs) s ≡ beyond gs (beyond fs s)
beyond-parts fs gs s = rw (extent-parts fs gs s) (sym (drop-drop (extent gs (beyond fs s)) (extent fs s) s))

-- of fields that stand count times, so do the first n, and the next
pub times-stand : (fs : List Field) (count n : ℕ) (s : List ℕ) → n < count → Stand (times count fs) s → Stand (times n fs) s × Stand fs (beyond (times n fs) s)
unfolding times extent
times-stand fs zero n s l h = absurd (omega arith)
times-stand fs (suc count) zero s l h = (empty, (stand-parts fs (times count fs) s h).0)
times-stand fs (suc count) (suc n) s l h =
    let p = stand-parts fs (times count fs) s h in
    let q = times-stand fs count n (beyond fs s) (omega arith) p.1 in
    (stand-join fs (times n fs) s p.0 q.0, rw beyond-parts q.1)
