-- What holds of a choice by a test, and of two tests that both pass.
use mathlib.Core.Bool.{Bool, true, false, true≢false}
use mathlib.Core.Path.{◌≡◌, refl, sym}
use Rattle.wing_node.specs.Bool.{if, and}

-- P of a choice, from P of each side, with the test in hand
pub branch : {A : Type 0} (P : A → Type 0) (t : Bool) (a b : A) → (t ≡ true → P a) → (t ≡ false → P b) → P (if t a b)
branch P true a b p q = p refl
branch P false a b p q = q refl

-- two tests that both pass
pub and_left : (a b : Bool) → and a b ≡ true → a ≡ true
and_left true b e = refl
and_left false b e = e

pub and_right : (a b : Bool) → and a b ≡ true → b ≡ true
and_right true b e = e
and_right false b e = absurd (true≢false (sym e))

-- the same of a choice whose other side is false
pub if-both : (p q : Bool) → if p q false ≡ true → (p ≡ true) × (q ≡ true)
if-both true q e = (refl, e)
if-both false q e = absurd (true≢false (sym e))
