-- Two's complement, at any width: what the conversions need, and that they undo each other.
use mathlib.Core.Path.{◌≡◌, refl, ◌∙◌, ap}
use mathlib.Core.Bool.{Bool, true, false}
use Prim.Native.Nat.{ℕ, suc, ◌+◌, ◌-◌, ◌≤◌, ◌<◌, ◌^◌}
use native.Mathlib.Omega.{arith}
use native.Mathlib.Nat.{pow-suc}
use native.Mathlib.Numerals.{add-one}
use lib.Dec.{ltb}
use lib.IntN.{ℤ, pos, negsuc, nat_abs}
use lib.Signed.{mag}
use borrow.Author.Tests.{lt-ltb, le-ltb, ltb-true, ltb-false}
use mir.Syntax.{Width}
use mir.Val.{bits, hbits, to_z, of_z, sel, SFits}
use Rattle.wing_node.specs.Bool.{if}
use Rattle.wing_node.specs.Signed.{signed, unsigned, InBits}
use Rattle.wing_node.proofs.Branches.{branch}

sel-if : (b : Bool) (x y : ℤ) → sel b x y ≡ if b x y
sel-if true x y = refl
sel-if false x y = refl

-- a width is one bit and the bits of its magnitude
module _ (w : Width) (wide : bits w ≡ hbits w + 1) where
  -- the machine's reading is the definition's
  pub reads : (u : ℕ) → to_z w u ≡ signed (hbits w) u
  reads u =
      sel-if (ltb u (2 ^ hbits w)) (pos u) (negsuc (2 ^ bits w - suc u)) ∙
      ap (λ (m : ℕ). if (ltb u (2 ^ hbits w)) (pos u) (negsuc (2 ^ m - suc u))) wide

  -- and so are its bits
  pub writes : (x : ℤ) → of_z w x ≡ unsigned (hbits w) x
  writes (pos n) = refl
  writes (negsuc n) = ap (λ (m : ℕ). 2 ^ m - suc n) wide

-- the magnitude of a number is within its bits
pub magnitude-fits : (w : Width) (x : ℤ) → SFits w x → nat_abs x ≤ 2 ^ hbits w
magnitude-fits w x fits = go x fits.sfits
  where
    go : (y : ℤ) → mag y < 2 ^ hbits w → nat_abs y ≤ 2 ^ hbits w
    go (pos n) f = omega arith
    go (negsuc n) f = omega arith

doubled : (k : ℕ) → 2 ^ (k + 1) ≡ 2 ^ k + 2 ^ k
doubled k = rw (add-one k, pow-suc) (omega arith)

-- a number's bits read as the number, and bits that were read are the number's
pub signed-unsigned : (k : ℕ) (x : ℤ) → InBits k x → signed k (unsigned k x) ≡ x
signed-unsigned k (pos n) h = simp (lt-ltb n (2 ^ k) h)
signed-unsigned k (negsuc n) h =
    let d = doubled k in
    let over : 2 ^ k ≤ 2 ^ (k + 1) - suc n = omega arith in
    let e : 2 ^ (k + 1) - suc (2 ^ (k + 1) - suc n) ≡ n = omega arith in
    rw (le-ltb (2 ^ (k + 1) - suc n) (2 ^ k) over) (ap negsuc e)

pub unsigned_signed : (k u : ℕ) → u < 2 ^ (k + 1) → unsigned k (signed k u) ≡ u
unsigned_signed k u h = go (ltb u (2 ^ k))
  where
    go : (b : Bool) → unsigned k (if b (pos u) (negsuc (2 ^ (k + 1) - suc u))) ≡ u
    go true = refl
    go false = omega arith

-- what k + 1 bits are read as has k + 1 bits
pub signed-in : (k u : ℕ) → u < 2 ^ (k + 1) → InBits k (signed k u)
signed-in k u h =
    branch (InBits k) (ltb u (2 ^ k)) _ _ (λ e. ltb-true _ _ e)
    (λ e.
    let d = doubled k in
    let l : 2 ^ k ≤ u = ltb-false _ _ e in
    omega arith)
