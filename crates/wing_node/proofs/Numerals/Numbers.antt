-- Numbers by their digits and back, in any base and at any width.
use mathlib.Core.Path.{◌≡◌, refl, ◌∙◌, ap, sym}
use mathlib.Core.List.{List, [], ◌∷◌, ◌++◌}
use Prim.Native.Nat.{ℕ, zero, suc, ◌+◌, ◌*◌, ◌/◌, ◌%◌, ◌^◌, ◌≤◌, ◌<◌}
use native.Mathlib.Omega.{arith}
use native.Mathlib.Nat.{pow-zero, pow-suc, mod-eq_of_lt, div-eq_of_lt, div-add-mod', div-lt_iff_lt-mul, mul-add-div_right, mul-add-mod_self_right, mul-le-mul_right, add-mul, one-mul}
use lib.ListN.{length, take, drop, get_or, length-append}
use lib.Seq.{take-suc, take_all, length-take-le, get_or-drop}
use Rattle.wing_node.specs.Digits.{number_from, number_in, digits_in}

pub length-digits_in : (base w n : ℕ) → length (digits_in base w n) ≡ w
unfolding digits_in
length-digits_in base zero n = refl
length-digits_in base (suc w) n =
    length-append (digits_in base w (n / base)) (n % base ∷ []) ∙ omega (arith, length-digits_in base w (n / base))

number_from-snoc : (base v : ℕ) (ds : List ℕ) (d : ℕ) → number_from base v (ds ++ (d ∷ [])) ≡ number_from base v ds * base + d
unfolding number_from
number_from-snoc base v [] d = refl
number_from-snoc base v (a ∷ ds) d = number_from-snoc base (v * base + a) ds d

-- the number of the digits and one more
pub number-snoc : (base : ℕ) (ds : List ℕ) (d : ℕ) → number_in base (ds ++ (d ∷ [])) ≡ number_in base ds * base + d
unfolding number_in
number-snoc base ds d = number_from-snoc base 0 ds d

-- the digits written give the number back
pub number_digits : (base w n : ℕ) → 0 < base → n < base ^ w → number_in base (digits_in base w n) ≡ n
unfolding number_in number_from digits_in
number_digits base zero n b h = omega (arith, pow-zero base)
number_digits base (suc w) n b h =
    let below : n / base < base ^ w = (div-lt_iff_lt-mul b).1 (rw pow-suc at h) in
    number_from-snoc base 0 (digits_in base w (n / base)) (n % base) ∙
    ap (λ (m : ℕ). m * base + n % base) (number_digits base w (n / base) b below) ∙
    div-add-mod' n base

-- each is a digit of the base
abbrev pub Digits : ℕ → List ℕ → Type 0
Digits base ds = (i : ℕ) → get_or ds i 0 < base

pub digits-take : (base w : ℕ) (ds : List ℕ) → Digits base ds → Digits base (take w ds)
digits-take base zero ds b i = omega (arith, b 0)
digits-take base (suc w) [] b i = b i
digits-take base (suc w) (a ∷ ds) b zero = b zero
digits-take base (suc w) (a ∷ ds) b (suc i) = digits-take base w ds (λ j. b (suc j)) i

pub digits-drop : (base w : ℕ) (ds : List ℕ) → Digits base ds → Digits base (drop w ds)
digits-drop base w ds b i = rw (get_or-drop w ds i 0) (b (w + i))

-- a list and its last element
last_apart : (w : ℕ) (ds : List ℕ) → length ds ≡ suc w → ds ≡ take w ds ++ (get_or ds w 0 ∷ [])
last_apart w ds e = sym (take_all (suc w) ds (omega arith)) ∙ take-suc ds w 0 (omega arith)

number-last : (base w : ℕ) (ds : List ℕ) → length ds ≡ suc w → number_in base ds ≡ number_in base (take w ds) * base + get_or ds w 0
number-last base w ds e = ap (number_in base) (last_apart w ds e) ∙ number-snoc base (take w ds) (get_or ds w 0)

div-last : (base m d : ℕ) → d < base → (m * base + d) / base ≡ m
div-last base m d h =
    mul-add-div_right (omega arith) m d ∙ omega (arith, div-eq_of_lt h)

mod-last : (base m d : ℕ) → d < base → (m * base + d) % base ≡ d
mod-last base m d h = mul-add-mod_self_right m base d ∙ mod-eq_of_lt h

-- the digits of the number read are the digits
pub digits_number : (base w : ℕ) (ds : List ℕ) → length ds ≡ w → Digits base ds → digits_in base w (number_in base ds) ≡ ds
unfolding digits_in
digits_number base zero [] e b = refl
digits_number base zero (a ∷ ds) e b = absurd (omega arith)
digits_number base (suc w) ds e b =
    let m = number_in base (take w ds) in
    let d = get_or ds w 0 in
    let whole : number_in base ds ≡ m * base + d = number-last base w ds e in
    let high : number_in base ds / base ≡ m = ap (λ (x : ℕ). x / base) whole ∙ div-last base m d (b w) in
    let low : number_in base ds % base ≡ d = ap (λ (x : ℕ). x % base) whole ∙ mod-last base m d (b w) in
    rw (high, low) (ap (λ (l : List ℕ). l ++ (d ∷ [])) (digits_number base w (take w ds) (length-take-le w ds (omega arith)) (digits-take base w ds b)) ∙ sym (last_apart w ds e))

one-more-below : (base m d p : ℕ) → m < p → d < base → m * base + d < p * base
one-more-below base m d p h g =
    let k : suc m * base ≤ p * base = mul-le-mul_right base h in
    omega (arith, k, add-mul 1 m base, one-mul base)

number-below-at : (base w : ℕ) (ds : List ℕ) → length ds ≡ w → Digits base ds → number_in base ds < base ^ w
unfolding number_in number_from
number-below-at base zero [] e b = omega (arith, pow-zero base)
number-below-at base zero (a ∷ ds) e b = absurd (omega arith)
number-below-at base (suc w) ds e b =
    rw (pow-suc base w, number-last base w ds e)
    (one-more-below base (number_in base (take w ds)) (get_or ds w 0) (base ^ w)
    (number-below-at base w (take w ds) (length-take-le w ds (omega arith)) (digits-take base w ds b)) (b w))

-- w digits make a number below base ^ w
pub number-below : (base : ℕ) (ds : List ℕ) → Digits base ds → number_in base ds < base ^ length ds
number-below base ds b = number-below-at base (length ds) ds refl b
