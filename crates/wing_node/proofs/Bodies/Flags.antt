-- When a body written anew is the body: its flags are those that the writer writes, and nothing follows.
use mathlib.Core.Path.{◌≡◌, refl, ◌∙◌, ap, sym}
use mathlib.Core.Bool.{Bool, true, false}
use mathlib.Core.List.{List, [], ◌∷◌, ◌++◌}
use Prim.Native.Nat.{ℕ, zero, suc, ◌+◌, ◌*◌, ◌/◌, ◌%◌, ◌≤◌, ◌<◌}
use native.Mathlib.Omega.{arith}
use native.Mathlib.Nat.{div-div-eq-div-mul}
use lib.Dec.{ltb, eqb, eqb→eq}
use lib.ListN.{length, take, drop, length-append}
use lib.Seq.{drop-append_seam, take-append_seam}
use borrow.Author.Tests.{lt-ltb, ltb-true}
use Rattle.wing_node.specs.Bool.{if}
use Rattle.wing_node.specs.Types.{type_of, unit_of, type_number, unit_number}
use Rattle.wing_node.specs.Writer.{flags_of}
use Rattle.wing_node.specs.BothWays.{Canonical}
use Rattle.wing_node.proofs.Below.{below}

-- over 7 is 0
abbrev pub small : ℕ → ℕ
small n = if (ltb n 8) n 0

-- what is written for flags that were read
abbrev pub rewritten : ℕ → ℕ
rewritten f = small (f / 16 % 16) * 16 + small (f % 16) + f / 512 % 2 * 512

pub kept : (f : ℕ) → Canonical f → rewritten f ≡ f
kept f k =
    let t = k.type in
    let u = k.unit in
    let n = k.unused in
    let a : f / 16 / 16 ≡ f / 256 = div-div-eq-div-mul f 16 16 in
    let b : f / 256 / 2 ≡ f / 512 = div-div-eq-div-mul f 256 2 in
    let c : f / 512 / 2 ≡ f / 1024 = div-div-eq-div-mul f 512 2 in
    rw (lt-ltb (f / 16 % 16) 8 t, lt-ltb (f % 16) 8 u) (omega arith)

under : (b : Bool) (n : ℕ) → (b ≡ true → n < 8) → if b n 0 < 8
under true n h = h refl
under false n h = omega arith

pub small-below : (n : ℕ) → small n < 8
small-below n = under (ltb n 8) n (ltb-true n 8)

pub only : (f : ℕ) → rewritten f ≡ f → Canonical f
only f e =
    let t : small (f / 16 % 16) < 8 = small-below (f / 16 % 16) in
    let u : small (f % 16) < 8 = small-below (f % 16) in
    record { type = omega arith; unit = omega arith; unused = (omega arith, omega arith) }

-- the numbers of the type and the unit that four bits are read as: computed
type-small : (n : ℕ) → n < 16 → type_number (type_of n) ≡ small n
unfolding type_of
type-small n h = eqb→eq _ _ (below (λ m. eqb (type_number (type_of m)) (small m)) 16 tt n h)

unit-small : (n : ℕ) → n < 16 → unit_number (unit_of n) ≡ small n
unfolding unit_of
unit-small n h = eqb→eq _ _ (below (λ m. eqb (unit_number (unit_of m)) (small m)) 16 tt n h)

pub type-below : (n : ℕ) → n < 16 → type_number (type_of n) ≤ 7
type-below n h = omega (arith, type-small n h, small-below n)

pub unit-below : (n : ℕ) → n < 16 → unit_number (unit_of n) ≤ 7
unit-below n h = omega (arith, unit-small n h, small-below n)

bit-back : (b : ℕ) → b < 2 → if {A = ℕ} (eqb b 1) 512 0 ≡ b * 512
bit-back zero h = refl
bit-back (suc zero) h = refl
bit-back (suc (suc b)) h = absurd (omega arith)

-- the flags that are written for those that were read
pub flags-anew : (f : ℕ) → flags_of (type_number (type_of (f / 16 % 16))) (unit_number (unit_of (f % 16))) (eqb (f / 512 % 2) 1) ≡ rewritten f
flags-anew f = rw (type-small (f / 16 % 16) (omega arith), unit-small (f % 16) (omega arith), bit-back (f / 512 % 2) (omega arith))

-- two bodies that are the same but for one field, and for what follows in the second
empty : (s : List ℕ) → length s ≡ 0 → s ≡ []
empty [] h = refl
empty (a ∷ s) h = absurd (omega arith)

pub apart : (x a b t rest : List ℕ) → length a ≡ length b → x ++ (a ++ t) ≡ x ++ (b ++ (t ++ rest)) → (a ≡ b) × (rest ≡ [])
apart x a b t rest e h =
    let same : a ++ t ≡ b ++ (t ++ rest) = sym (drop-append_seam x (a ++ t)) ∙ ap (drop (length x)) h ∙ drop-append_seam x (b ++ (t ++ rest)) in
    let first : take (length a) (b ++ (t ++ rest)) ≡ b = rw e (take-append_seam b (t ++ rest)) in (
      sym (take-append_seam a t) ∙ ap (take (length a)) same ∙ first,
      empty rest (omega (arith, simp length-append at (ap length same))),
    )
