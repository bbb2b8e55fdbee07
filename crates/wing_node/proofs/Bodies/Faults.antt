-- The first of some faults, and of the strings of fields in a row.
use mathlib.Core.Path.{◌≡◌, refl, ◌∙◌, ap, sym}
use mathlib.Core.Bool.{Bool, true, false, not, true≢false}
use mathlib.Core.List.{List, [], ◌∷◌, ◌++◌}
use Prim.Native.Nat.{ℕ}
use lib.ListN.{drop}
use lib.Seq.{drop-drop}
use Rattle.wing_node.specs.Bool.{if, and}
use Rattle.wing_node.specs.Utf8.{utf8}
use Rattle.wing_node.specs.Refusal.{definition_not_utf8, no_fault, because, is_refused, first_fault, text_fault, Fault}
use Rattle.wing_node.specs.Cursor.{Field, size, content, right, held_fault}
use Rattle.wing_node.specs.Standing.{extent, beyond}
use Rattle.wing_node.specs.Writer.{texts, texts_fault}
use Rattle.wing_node.specs.declared.refusal.Refusal.{Refusal}
use Rattle.std.specs.Prelude.{Ok, Err}

pub first-assoc : (a b c : Fault) → first_fault (first_fault a b) c ≡ first_fault a (first_fault b c)
first-assoc (Ok u) b c = refl
first-assoc (Err why) b c = refl

pub first-none : (a : Fault) → first_fault a no_fault ≡ a
first-none (Ok u) = refl
first-none (Err why) = refl

-- none of two is at fault
first_passes : (a b : Fault) → not (is_refused (first_fault a b)) ≡ and (not (is_refused a)) (not (is_refused b))
first_passes (Ok u) b = refl
first_passes (Err why) b = refl

chosen : (b : Bool) (why : Refusal) → not (is_refused (if b no_fault (because why))) ≡ b
chosen true why = refl
chosen false why = refl

held-passes : (f : Field) (s : List ℕ) → not (is_refused (held_fault f s)) ≡ right f s
unfolding held_fault
held-passes f s = chosen (right f s) (definition_not_utf8 (content f s))

pub text-passes : (s : List ℕ) → not (is_refused (text_fault s)) ≡ utf8 s
unfolding text_fault
text-passes s = chosen (utf8 s) (definition_not_utf8 s)

-- the strings of fields are UTF-8, one by one
pub texts-cons : (f : Field) (fs : List Field) (s : List ℕ) → texts (f ∷ fs) s ≡ and (right f s) (texts fs (drop (size f s) s))
unfolding texts_fault
texts-cons f fs s = first_passes (held_fault f s) (texts_fault fs (drop (size f s) s)) ∙ ap (λ b. and b (texts fs (drop (size f s) s))) (held-passes f s)

pub texts-parts : (fs gs : List Field) (s : List ℕ) → texts_fault (fs ++ gs) s ≡ first_fault (texts_fault fs s) (texts_fault gs (beyond fs s))
unfolding texts_fault extent
texts-parts [] gs s = refl
texts-parts (f ∷ fs) gs s =
    rw (texts-parts fs gs (drop (size f s) s), drop-drop, first-assoc (held_fault f s) (texts_fault fs (drop (size f s) s)))

pub texts-none : (fs : List Field) (s : List ℕ) → texts fs s ≡ true → texts_fault fs s ≡ no_fault
texts-none fs s e = go (texts_fault fs s) e
  where
    go : (x : Fault) → not (is_refused x) ≡ true → x ≡ no_fault
    go (Ok u) h = refl
    go (Err why) h = absurd (true≢false (sym h))

-- all of three passes
pub all_pass : (a b c : Fault) → first_fault a (first_fault b c) ≡ no_fault → (a ≡ no_fault) × (b ≡ no_fault) × (c ≡ no_fault)
all_pass (Ok u) (Ok v) c e = (refl, refl, e)
all_pass (Ok u) (Err why) c e = absurd (true≢false (ap is_refused e))
all_pass (Err why) b c e = absurd (true≢false (ap is_refused e))
