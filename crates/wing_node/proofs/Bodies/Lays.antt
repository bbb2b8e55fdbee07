-- Bytes laid one after the other: what the writes of a body leave.
use mathlib.Core.Path.{◌≡◌, refl, ◌∙◌, ap, sym}
use mathlib.Core.List.{List, [], ◌∷◌, ◌++◌, append_assoc, append-nil}
use Prim.Native.Nat.{ℕ, ◌+◌, ◌≤◌}
use native.Mathlib.Omega.{arith}
use lib.ListN.{length, take, drop, length-append}
use lib.Seq.{sets, sets-eq}
use Rattle.wing_node.specs.Bytes.{placed}
use Rattle.wing_node.specs.Field.{bytes_of}
use Rattle.wing_node.specs.Signed.{unsigned}
use Rattle.wing_node.specs.Cursor.{Field, string}
use Rattle.wing_node.specs.Definition.{header}
use Rattle.wing_node.specs.Laid.{laid, laid_all}
use Rattle.wing_node.specs.Written.{laid_by}
use Rattle.wing_node.specs.Writer.{lent, flags_of, holds}
use Rattle.wing_node.specs.declared.writer.Fields.{Fields}
use Rattle.wing_node.proofs.Numerals.Numbers.{length-digits_in}
use Rattle.wing_node.proofs.Numerals.Placed.{sets-append}

-- a, and then b where a ends
pub lays-then : (d e f : List ℕ) (at n : ℕ) (a b : List ℕ) → e ≡ sets d at a → n ≡ at + length a → f ≡ sets e n b → f ≡ sets d at (a ++ b)
lays-then d e f at n a b p q r = r ∙ rw (p, q) (sets-append a b d at)

-- from the front on, the bytes are placed
pub sets-placed : (d s : List ℕ) → length s ≤ length d → sets d 0 s ≡ placed d 0 s
unfolding placed
sets-placed d s h = sets-eq s d 0 (let e : 0 + length s ≡ length s = omega arith in rw e h) ∙ append_assoc (take 0 d) s (drop (0 + length s) d)

-- fields in two parts
pub laid-parts : (fs gs : List Field) (vs ws : List (List ℕ)) → length fs ≡ length vs → laid_all (fs ++ gs) (vs ++ ws) ≡ laid_all fs vs ++ laid_all gs ws
unfolding laid_all
laid-parts [] gs [] ws e = refl
laid-parts [] gs (v ∷ vs) ws e = absurd (omega arith)
laid-parts (f ∷ fs) gs [] ws e = absurd (omega arith)
laid-parts (f ∷ fs) gs (v ∷ vs) ws e = ap (λ l. laid f v ++ l) (laid-parts fs gs vs ws (omega arith)) ∙ sym (append_assoc (laid f v) (laid_all fs vs) (laid_all gs ws))

-- one, two and three fields at a place, each where the one before it ends
pub one-laid : (x₀ x₁ : List ℕ) (at : ℕ) (a : List ℕ) → x₁ ≡ sets x₀ at a → x₁ ≡ sets x₀ at (a ++ [])
one-laid x₀ x₁ at a e = e ∙ ap (sets x₀ at) (sym (append-nil a))

pub two-laid : (x₀ x₁ x₂ : List ℕ) (at m : ℕ) (a b : List ℕ) → x₁ ≡ sets x₀ at a → m ≡ at + length a → x₂ ≡ sets x₁ m b → x₂ ≡ sets x₀ at (a ++ (b ++ []))
two-laid x₀ x₁ x₂ at m a b e k f = lays-then x₀ x₁ x₂ at m a (b ++ []) e k (one-laid x₁ x₂ m b f)

pub three-laid : (x₀ x₁ x₂ x₃ : List ℕ) (at m n : ℕ) (a b c : List ℕ) → x₁ ≡ sets x₀ at a → m ≡ at + length a → x₂ ≡ sets x₁ m b → n ≡ m + length b →
    x₃ ≡ sets x₂ n c → x₃ ≡ sets x₀ at (a ++ (b ++ (c ++ [])))
three-laid x₀ x₁ x₂ x₃ at m n a b c e k f j g = lays-then x₀ x₁ x₃ at m a (b ++ (c ++ [])) e k (two-laid x₁ x₂ x₃ m n b c f j g)

-- the fields of every definition: ids and index, two names, flags
pub header-laid : (d : Fields) (name long x₀ x₁ x₂ x₃ x₄ : List ℕ) (m n : ℕ) →
    x₁ ≡ sets x₀ 0 (bytes_of 4 (unsigned 31 d.parent_id) ++ (bytes_of 4 (unsigned 31 d.id) ++ bytes_of 2 d.index)) →
    (m ≡ 10 + length (laid string name)) × (x₂ ≡ sets x₁ 10 (laid string name)) →
    (n ≡ m + length (laid string long)) × (x₃ ≡ sets x₂ m (laid string long)) →
    x₄ ≡ sets x₃ n (bytes_of 2 (flags_of d.node_type d.unit d.read_only)) →
    (n + 2 ≡ 14 + length name + length long) × (x₄ ≡ sets x₀ 0 (laid_by (holds d (lent name long [])) header))
unfolding laid_all laid
header-laid d name long x₀ x₁ x₂ x₃ x₄ m n ids named longer flagged =
    let p = bytes_of 4 (unsigned 31 d.parent_id) in
    let i = bytes_of 4 (unsigned 31 d.id) in
    let x = bytes_of 2 d.index in
    let f = bytes_of 2 (flags_of d.node_type d.unit d.read_only) in
    let rest = (length name ∷ name) ++ ((length long ∷ long) ++ (f ++ [])) in
    let ten : 10 ≡ 0 + length (p ++ (i ++ x)) = omega (arith, length-append p (i ++ x), length-append i x, length-digits_in 256 4 (unsigned 31 d.parent_id), length-digits_in 256 4 (unsigned 31 d.id), length-digits_in 256 2 d.index) in
    let tail : x₄ ≡ sets x₁ 10 rest = three-laid x₁ x₂ x₃ x₄ 10 m n (length name ∷ name) (length long ∷ long) f named.1 named.0 longer.1 longer.0 flagged in
    (omega (arith, named.0, longer.0), lays-then x₀ x₁ x₄ 0 10 (p ++ (i ++ x)) rest ids ten tail ∙ ap (sets x₀ 0) (append_assoc p (i ++ x) rest ∙ ap (λ l. p ++ l) (append_assoc i x rest)))

-- two limits and steps, and two limits alone
pub limits-steps : (min max steps at : ℕ) (x₀ x₁ x₂ : List ℕ) → x₁ ≡ sets x₀ at (bytes_of 4 min ++ bytes_of 4 max) → x₂ ≡ sets x₁ (at + 8) (bytes_of 4 steps) →
    x₂ ≡ sets x₀ at (bytes_of 4 min ++ (bytes_of 4 max ++ (bytes_of 4 steps ++ [])))
limits-steps min max steps at x₀ x₁ x₂ e f =
    let a = bytes_of 4 min in
    let b = bytes_of 4 max in
    let long : at + 8 ≡ at + length (a ++ b) = omega (arith, length-append a b, length-digits_in 256 4 min, length-digits_in 256 4 max) in
    two-laid x₀ x₁ x₂ at (at + 8) (a ++ b) (bytes_of 4 steps) e long f ∙ ap (sets x₀ at) (append_assoc a b (bytes_of 4 steps ++ []))

pub limits-alone : (min max at : ℕ) (x₀ x₁ : List ℕ) → x₁ ≡ sets x₀ at (bytes_of 4 min ++ bytes_of 4 max) → x₁ ≡ sets x₀ at (bytes_of 4 min ++ (bytes_of 4 max ++ []))
limits-alone min max at x₀ x₁ e = e ∙ ap (λ b. sets x₀ at (bytes_of 4 min ++ b)) (sym (append-nil (bytes_of 4 max)))
