-- Meters laid one by one into an array are the meters of the pairs, as far as the pairs reach.
use Prim.Native.Nat.{ℕ, zero, suc, ◌+◌, ◌*◌, ◌/◌, ◌≤◌, ◌<◌}
use mathlib.Core.Bool.{Bool, true, false}
use mathlib.Core.Path.{◌≡◌, refl, sym, ◌∙◌, ap, ap₂}
use mathlib.Core.List.{List, [], ◌∷◌}
use native.Mathlib.Omega.{arith}
use borrow.Author.Count.{below_more}
use borrow.Author.Tests.{lt-ltb, leb-true}
use lib.Dec.{leb}
use lib.ListN.{length, take, get_or, set}
use lib.Seq.{ext_get_or, get_or-take, length-take-le, get_or-set_same, get_or-set_other}
use Rattle.wing_wire.specs.Meter.{request_meter}
use Rattle.wing_wire.specs.declared.meter.Meter.{Meter}
use Rattle.wing_wire.specs.declared.meter.Meter.TheVariants.{Rta}
use Rattle.wing_c.specs.Meters.{meter_of, meters_of, meter_at, HoldsMeters}

-- half of two more is one more
half : (n : ℕ) → suc (suc n) / 2 ≡ suc (n / 2)
half n = omega arith

-- there are half as many meters as bytes
pub length-meters : (p : List ℕ) → length (meters_of p) ≡ length p / 2
length-meters [] = refl
length-meters (k ∷ []) = refl
length-meters (k ∷ n ∷ s) = ap suc (length-meters s) ∙ sym (half (length s))

-- each is the meter of its number
pub meter-at : (p : List ℕ) (i : ℕ) → i < length p / 2 → get_or (meters_of p) i Rta ≡ meter_of (get_or p (2 * i) 0) (get_or p (2 * i + 1) 0)
meter-at [] i h = absurd (omega arith)
meter-at (k ∷ []) i h = absurd (omega arith)
meter-at (k ∷ n ∷ s) zero h = refl
meter-at (k ∷ n ∷ s) (suc i) h =
    let e : 2 * suc i ≡ suc (suc (2 * i)) = omega arith in
    let f : 2 * suc i + 1 ≡ suc (suc (2 * i + 1)) = omega arith in
    let inside : i < length s / 2 = omega (arith, half (length s)) in
    meter-at s i inside ∙ ap₂ meter_of (ap (λ (j : ℕ). get_or (k ∷ n ∷ s) j 0) (sym e)) (ap (λ (j : ℕ). get_or (k ∷ n ∷ s) j 0) (sym f))

-- an array that holds each meter at its number begins with the meters of the pairs
meters-front : (p : List ℕ) (array : List Meter) → length array ≡ 64 → length p / 2 ≤ 64 → HoldsMeters p array →
    take (length p / 2) array ≡ take (length p / 2) (meters_of p)
meters-front p array l h all =
    let n = length p / 2 in
    let whole : length (take n array) ≡ n = length-take-le n array (omega arith) in
    ext_get_or Rta (take n array) (take n (meters_of p)) (whole ∙ sym (length-take-le n (meters_of p) (omega (arith, length-meters p))))
    (λ i b.
    let c : i < n = omega arith in
    get_or-take n array i Rta c ∙ all i (omega arith) ∙ rw (lt-ltb i n c) (sym (meter-at p i c) ∙ sym (get_or-take n (meters_of p) i Rta c)))

-- so a request of the array is one of the meters of the pairs
pub request-same : (port last : ℕ) (p : List ℕ) (array : List Meter) (out : List ℕ) → length array ≡ 64 → HoldsMeters p array →
    request_meter port last array (length p / 2) out ≡ request_meter port last (meters_of p) (length p / 2) out
unfolding request_meter
request-same port last p array out l all = go (leb (length p / 2) 64) refl
  where
    go : (b : Bool) → leb (length p / 2) 64 ≡ b → request_meter port last array (length p / 2) out ≡ request_meter port last (meters_of p) (length p / 2) out
    go true e = rw (meters-front p array l (leb-true (length p / 2) 64 e) all) refl
    go false e = rw e refl

-- one meter more at its number
pub meters-turn : (p : List ℕ) (array : List Meter) (i : ℕ) (m : Meter) → i < length array → m ≡ meter_at p i →
    ((k : ℕ) → k < i → get_or array k Rta ≡ meter_at p k) → (k : ℕ) → k < i + 1 → get_or (set array i m) k Rta ≡ meter_at p k
meters-turn p array i m h e all =
    below_more (λ (k : ℕ). get_or (set array i m) k Rta ≡ meter_at p k) i (λ k b. get_or-set_other array i k m Rta (λ x. omega arith) ∙ all k b) (get_or-set_same array i m Rta h ∙ e)
