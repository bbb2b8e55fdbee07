-- What fields that stand hold: laid anew they are the bytes, and the number of a name gives its bytes back.
use mathlib.Core.Path.{◌≡◌, refl, ◌∙◌, ap, sym, subst}
use mathlib.Core.Bool.{Bool, true, false}
use mathlib.Core.List.{List, [], ◌∷◌, ◌++◌, map, append_assoc}
use Prim.Native.Nat.{ℕ, suc, ◌+◌, ◌^◌, ◌≤◌, ◌<◌}
use native.Mathlib.Omega.{arith}
use lib.Dec.{eqb}
use lib.ListN.{length, take, drop, get_or, take-append-drop, length-take, length-drop}
use lib.Seq.{drop-drop, length-take-le, take-append_seam}
use borrow.Author.Tests.{eqb-true}
use Rattle.wing_node.specs.Bool.{if}
use Rattle.wing_node.specs.Field.{big, bytes_of}
use Rattle.wing_node.specs.Utf8.{utf8}
use Rattle.wing_node.specs.Cursor.{Field, number, string, size, content, right, value_of}
use Rattle.wing_node.specs.Definition.{FieldName, name_number, form, header, added}
use Rattle.wing_node.specs.Laid.{laid, laid_all, FitsAll, empty as empty_fit, more as more_fit}
use Rattle.wing_node.specs.Standing.{Whole, extent, beyond, Stand, empty, more}
use Rattle.wing_node.specs.InBody.{number_named, bytes_named}
use Rattle.wing_node.specs.Writer.{texts, texts_fault}
use Rattle.wing_node.specs.declared.node_type.NodeType.{NodeType}
use Rattle.wing_node.specs.declared.node_type.NodeType.TheVariants.{Node, LinearFloat, LogarithmicFloat, FaderLevel, Integer, StringEnum, FloatEnum, String}
use Rattle.wing_node.proofs.Numerals.Numbers.{Digits, digits-take, digits-drop, digits_number, number-below}
use Rattle.wing_node.proofs.Bodies.InBody.{has, one_name}
use Rattle.wing_node.proofs.Bodies.Faults.{texts-cons}
use Rattle.wing_node.proofs.Bodies.Laid.{laid-extent}

-- what fields in a row hold
abbrev pub contents_in : List Field → List ℕ → List (List ℕ)
contents_in [] s = []
contents_in (f ∷ fs) s = content f s ∷ contents_in fs (drop (size f s) s)

-- a field that is whole, laid anew
relaid : (f : Field) (s : List ℕ) → Whole f s → s ≡ laid f (content f s) ++ drop (size f s) s
unfolding laid content size
relaid (number w) s h = sym (take-append-drop w s)
relaid string [] h = absurd (omega arith)
relaid string (b ∷ s) h =
    let e : 1 + b ≡ suc b = omega arith in
    rw (e, length-take-le b s (omega arith)) (ap (λ l. b ∷ l) (sym (take-append-drop b s)))

-- fields that stand, laid anew
pub stand-laid : (fs : List Field) (s : List ℕ) → Stand fs s → s ≡ laid_all fs (contents_in fs s) ++ beyond fs s
unfolding laid_all extent
stand-laid [] s empty = refl
stand-laid (f ∷ fs) s (more w r h) =
    let t = drop (size f s) s in
    let v = laid f (content f s) in
    relaid f s w ∙ ap (λ l. v ++ l) (stand-laid fs t h ∙ ap (λ l. laid_all fs (contents_in fs t) ++ l) (drop-drop (extent fs t) (size f s) s)) ∙
    sym (append_assoc v (laid_all fs (contents_in fs t)) (drop (size f s + extent fs t) s))

fits_one : (f : Field) (s : List ℕ) → Whole f s → right f s ≡ true → (fs : List Field) (vs : List (List ℕ)) → FitsAll fs vs → FitsAll (f ∷ fs) (content f s ∷ vs)
unfolding content size right
fits_one (number w) s h r fs vs o = more_fit {f = number w} (length-take-le w s h) o
fits_one string s h r fs vs o = more_fit {f = string} r o

pub stand-fits : (fs : List Field) (s : List ℕ) → Stand fs s → FitsAll fs (contents_in fs s)
stand-fits [] s empty = empty_fit
stand-fits (f ∷ fs) s (more w r h) = fits_one f s w r fs (contents_in fs (drop (size f s) s)) (stand-fits fs (drop (size f s) s) h)

pub stand-texts : (fs : List Field) (s : List ℕ) → Stand fs s → texts fs s ≡ true
unfolding texts_fault
stand-texts [] s empty = refl
stand-texts (f ∷ fs) s (more w r h) = texts-cons f fs s ∙ rw (r, stand-texts fs (drop (size f s) s) h)

pub stand-within : (fs : List Field) (s : List ℕ) → Stand fs s → extent fs s ≤ length s
unfolding extent
stand-within [] s empty = omega arith
stand-within (f ∷ fs) s (more w r h) = omega (arith, stand-within fs (drop (size f s) s) h, length-drop (size f s) s)

-- by names they are the same, in the order in which they stand
pub named-contents : (t : NodeType) (s : List ℕ) → map (λ k. bytes_named (header ++ added t) k s) (header ++ added t) ≡ contents_in (map form (header ++ added t)) s
unfolding bytes_named
named-contents Node s = refl
named-contents LinearFloat s = refl
named-contents LogarithmicFloat s = refl
named-contents FaderLevel s = refl
named-contents Integer s = refl
named-contents StringEnum s = refl
named-contents FloatEnum s = refl
named-contents String s = refl

-- the number of a field has its bytes
field_back : (w : ℕ) (s : List ℕ) → Digits 256 s → Whole (number w) s → (bytes_of w (value_of (number w) s) ≡ content (number w) s) × (value_of (number w) s < 256 ^ w)
unfolding size content value_of
field_back w s b h =
    let long : length (take w s) ≡ w = length-take-le w s h in
    (digits_number 256 w (take w s) long (digits-take 256 w s b), subst (λ m. big (take w s) < 256 ^ m) long (number-below 256 (take w s) (digits-take 256 w s b)))

choose : {A : Type 0} (P : A → List ℕ → Type 0) (q i : Bool) (x y : A) (s t : List ℕ) → if q true i ≡ true → (q ≡ true → P x s) → (i ≡ true → P y t) → P (if q x y) (if q s t)
choose P true i x y s t h p r = p refl
choose P false i x y s t h p r = r h

module _ (k : FieldName) (w : ℕ) (e : form k ≡ number w) where
  abbrev Back : ℕ → List ℕ → Type 0
  Back n s = (bytes_of w n ≡ s) × (n < 256 ^ w)

  pub number-back : (ks : List FieldName) (s : List ℕ) → has ks k ≡ true → Digits 256 s → Stand (map form ks) s → Back (number_named ks k s) (bytes_named ks k s)
  unfolding number_named bytes_named
  number-back [] s h b empty = absurd (let z : ◌≡◌ {A = ℕ} 0 1 = cc in omega arith)
  number-back (j ∷ js) s h b (more x r o) =
      let t = drop (size (form j) s) s in
      choose Back (eqb (name_number j) (name_number k)) (has js k) (value_of (form j) s) (number_named js k t) (content (form j) s) (bytes_named js k t) h
      (λ q. subst (λ f. Whole f s → Back (value_of f s) (content f s)) (sym (ap form (one_name j k (eqb-true _ _ q)) ∙ e)) (field_back w s b) x)
      (λ i. number-back js t i (digits-drop 256 (size (form j) s) s b) o)

-- a string's length is a byte, and its bytes are UTF-8
string-here : (s : List ℕ) → Digits 256 s → Whole string s → right string s ≡ true → (length (content string s) ≤ 255) × (utf8 (content string s) ≡ true)
unfolding content right
string-here s b h r = (omega (arith, length-take (get_or s 0 0) (drop 1 s), b 0), r)

pub string-back : (k : FieldName) → form k ≡ string → (ks : List FieldName) (s : List ℕ) → has ks k ≡ true → Digits 256 s → Stand (map form ks) s →
    (length (bytes_named ks k s) ≤ 255) × (utf8 (bytes_named ks k s) ≡ true)
unfolding bytes_named
string-back k e [] s h b empty = absurd (let z : ◌≡◌ {A = ℕ} 0 1 = cc in omega arith)
string-back k e (j ∷ js) s h b (more x r o) =
    let t = drop (size (form j) s) s in
    choose (λ (n : ℕ) (s : List ℕ). (length s ≤ 255) × (utf8 s ≡ true)) (eqb (name_number j) (name_number k)) (has js k) 0 0 (content (form j) s) (bytes_named js k t) h
    (λ q. subst (λ f. Whole f s → right f s ≡ true → (length (content f s) ≤ 255) × (utf8 (content f s) ≡ true)) (sym (ap form (one_name j k (eqb-true _ _ q)) ∙ e)) (string-here s b) x r)
    (λ i. string-back k e js t i (digits-drop 256 (size (form j) s) s b) o)

-- so many fields that stand, laid anew, are the front
pub extent-laid : (fs : List Field) (s : List ℕ) → Stand fs s → extent fs s ≡ length (laid_all fs (contents_in fs s))
extent-laid fs s h = ap (extent fs) (stand-laid fs s h) ∙ laid-extent (beyond fs s) (stand-fits fs s h)

pub front-laid : (fs : List Field) (s : List ℕ) → Stand fs s → take (extent fs s) s ≡ laid_all fs (contents_in fs s)
front-laid fs s h =
    let x = laid_all fs (contents_in fs s) in
    rw (extent-laid fs s h) (ap (take (length x)) (stand-laid fs s h) ∙ take-append_seam x (beyond fs s))
