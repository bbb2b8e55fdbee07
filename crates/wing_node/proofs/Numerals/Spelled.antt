-- The decimal of an integer reads back as the integer, and is the shortest.
use mathlib.Core.Path.{◌≡◌, refl, ◌∙◌, ap, sym, subst}
use mathlib.Core.Bool.{Bool, true, false}
use mathlib.Core.List.{List, [], ◌∷◌, ◌++◌, map}
use Prim.Native.Nat.{ℕ, zero, suc, ◌+◌, ◌-◌, ◌*◌, ◌/◌, ◌%◌, ◌^◌, ◌≤◌, ◌<◌}
use native.Mathlib.Omega.{arith}
use native.Mathlib.Nat.{pow-zero, pow-suc, one-le-pow}
use borrow.Author.Tests.{ltb-true, ltb-false, lt-ltb, le-ltb, ne_eqb}
use lib.Dec.{ltb}
use lib.IntN.{ℤ, pos, negsuc}
use lib.ListN.{length, get_or, length-append, get_or-append, length-map}
use Rattle.wing_node.specs.Bool.{if}
use Rattle.wing_node.specs.Digits.{number_in, number_from, digits_in}
use Rattle.wing_node.specs.Decimal.{ascii, digits_up_to, digits, decimal, last_digits, number_spelled, integer_of}
use Rattle.wing_node.proofs.Numerals.Numbers.{Digits, number-snoc, number-below, length-digits_in}

same_if : (t : Bool) (x y z : List ℕ) → (t ≡ false → y ≡ z) → if t x y ≡ if t x z
same_if true x y z h = refl
same_if false x y z h = h refl

split : {Q : Type 0} (t : Bool) → (t ≡ true → Q) → (t ≡ false → Q) → Q
split true p q = p refl
split false p q = q refl

-- where `most` is enough, another that is changes nothing
enough : (a b n : ℕ) → n < a → n < b → digits_up_to a n ≡ digits_up_to b n
unfolding digits_up_to
enough zero b n p q = absurd (omega arith)
enough (suc a) zero n p q = absurd (omega arith)
enough (suc a) (suc b) n p q =
    same_if (ltb n 10) (ascii n ∷ []) (digits_up_to a (n / 10) ++ (ascii (n % 10) ∷ [])) (digits_up_to b (n / 10) ++ (ascii (n % 10) ∷ [])) (λ e.
    let h : 10 ≤ n = ltb-false n 10 e in
    ap (λ (l : List ℕ). l ++ (ascii (n % 10) ∷ [])) (enough a b (n / 10) (omega arith) (omega arith)))

pub digits-small : (n : ℕ) → n < 10 → digits n ≡ ascii n ∷ []
unfolding digits digits_up_to
digits-small n h = simp (lt-ltb n 10 h)

pub digits_more : (n : ℕ) → 10 ≤ n → digits n ≡ digits (n / 10) ++ (ascii (n % 10) ∷ [])
unfolding digits digits_up_to
digits_more n h =
    rw (le-ltb n 10 h) (ap (λ (l : List ℕ). l ++ (ascii (n % 10) ∷ [])) (enough n (suc (n / 10)) (n / 10) (omega arith) (omega arith)))

-- what holds of a digit alone, and of n where it holds of n / 10, holds of every number
by-digits-below : (P : ℕ → Type 0) → ((n : ℕ) → n < 10 → P n) → ((n : ℕ) → 10 ≤ n → P (n / 10) → P n) → (m n : ℕ) → n < m → P n
by-digits-below P one more zero n h = absurd (omega arith)
by-digits-below P one more (suc m) n h =
    split (ltb n 10) (λ e. one n (ltb-true n 10 e)) (λ e.
    let g : 10 ≤ n = ltb-false n 10 e in
    more n g (by-digits-below P one more m (n / 10) (omega arith)))

by_digits : (P : ℕ → Type 0) → ((n : ℕ) → n < 10 → P n) → ((n : ℕ) → 10 ≤ n → P (n / 10) → P n) → (n : ℕ) → P n
by_digits P one more n = by-digits-below P one more (suc n) n (omega arith)

map_snoc : (f : ℕ → ℕ) (s : List ℕ) (a : ℕ) → map f (s ++ (a ∷ [])) ≡ map f s ++ (f a ∷ [])
map_snoc f [] a = refl
map_snoc f (b ∷ s) a = ap (λ (l : List ℕ). f b ∷ l) (map_snoc f s a)

number_spelled-snoc : (s : List ℕ) (a : ℕ) → number_spelled (s ++ (a ∷ [])) ≡ number_spelled s * 10 + (a - 0x30)
unfolding number_spelled
number_spelled-snoc s a =
    ap (number_in 10) (map_snoc (λ b. b - 0x30) s a) ∙ number-snoc 10 (map (λ b. b - 0x30) s) (a - 0x30)

number_spelled-one : (a : ℕ) → number_spelled (a ∷ []) ≡ a - 0x30
unfolding number_spelled number_in number_from
number_spelled-one a = omega arith

-- the digits of a number read as the number
pub number_read : (n : ℕ) → number_spelled (digits n) ≡ n
number_read =
    by_digits (λ n. number_spelled (digits n) ≡ n)
    (λ n h. ap number_spelled (digits-small n h) ∙ number_spelled-one (ascii n) ∙ omega arith)
    (λ n h e. ap number_spelled (digits_more n h) ∙ number_spelled-snoc (digits (n / 10)) (ascii (n % 10)) ∙ omega (arith, e))

pub length_more : (n : ℕ) → 10 ≤ n → length (digits n) ≡ suc (length (digits (n / 10)))
length_more n h = ap length (digits_more n h) ∙ length-append (digits (n / 10)) (ascii (n % 10) ∷ []) ∙ omega arith

pub length-small : (n : ℕ) → n < 10 → length (digits n) ≡ 1
length-small n h = ap length (digits-small n h)

pub length_some : (n : ℕ) → 0 < length (digits n)
length_some = by_digits (λ n. 0 < length (digits n)) (λ n h. omega (arith, length-small n h)) (λ n h e. omega (arith, length_more n h))

-- a number below 10 ^ suc w has at most suc w digits
pub length_digits : (w n : ℕ) → n < 10 ^ suc w → length (digits n) ≤ suc w
length_digits zero n h = omega (arith, length-small n h)
length_digits (suc w) n h =
    split (ltb n 10) (λ e. omega (arith, length-small n (ltb-true n 10 e))) (λ e.
    let g : 10 ≤ n = ltb-false n 10 e in
    let k : n / 10 < 10 ^ suc w = omega (arith, rw (pow-suc 10 (suc w)) at h) in
    omega (arith, length_more n g, length_digits w (n / 10) k))

-- the digits of a number from 10 ^ k on and below 10 ^ suc k are suc k
pub length-between : (k n : ℕ) → 10 ^ k ≤ n → n < 10 * 10 ^ k → length (digits n) ≡ suc k
length-between zero n g h = length-small n (omega (arith, pow-zero 10))
length-between (suc k) n g h =
    let p = pow-suc 10 k in
    let some = one-le-pow k 10 (omega arith) in
    let e = length-between k (n / 10) (omega (arith, p)) (omega (arith, p)) in
    omega (arith, length_more n (omega (arith, p)), e)

pub length-last_digits : (k n : ℕ) → length (last_digits k n) ≡ k
unfolding last_digits
length-last_digits k n = length-map (digits_in 10 k n) ascii ∙ length-digits_in 10 k n

pub last_digits-suc : (k n : ℕ) → last_digits (suc k) n ≡ last_digits k (n / 10) ++ (ascii (n % 10) ∷ [])
unfolding last_digits digits_in
last_digits-suc k n = map_snoc ascii (digits_in 10 k (n / 10)) (n % 10)

pub last_digits-zero : (n : ℕ) → last_digits 0 n ≡ []
unfolding last_digits digits_in
last_digits-zero n = refl

-- the digits of n are its last ones, as many as it has
pub last_digits-all : (n : ℕ) → last_digits (length (digits n)) n ≡ digits n
last_digits-all =
    by_digits (λ n. last_digits (length (digits n)) n ≡ digits n)
    (λ n h.
    let e : n % 10 ≡ n = omega arith in
    rw (length-small n h, digits-small n h, last_digits-suc 0 n, last_digits-zero (n / 10), e))
    (λ n h e. rw (length_more n h, digits_more n h, last_digits-suc (length (digits (n / 10))) n, e))

first_more : (n : ℕ) → 10 ≤ n → get_or (digits n) 0 0 ≡ get_or (digits (n / 10)) 0 0
first_more n h = ap (λ (l : List ℕ). get_or l 0 0) (digits_more n h) ∙ get_or-append (digits (n / 10)) (ascii (n % 10) ∷ []) 0 0 (length_some (n / 10))

first_small : (n : ℕ) → n < 10 → get_or (digits n) 0 0 ≡ ascii n
first_small n h = ap (λ (l : List ℕ). get_or l 0 0) (digits-small n h)

-- the first of the digits is no minus sign
first-digit : (n : ℕ) → 0x30 ≤ get_or (digits n) 0 0
first-digit = by_digits (λ n. 0x30 ≤ get_or (digits n) 0 0) (λ n h. omega (arith, first_small n h)) (λ n h e. omega (arith, e, first_more n h))

-- no leading zero: the first digit is 0 of 0 alone
pub no-leading-zero : (n : ℕ) → get_or (digits n) 0 0 ≡ 0x30 → n ≡ 0
no-leading-zero =
    by_digits (λ n. get_or (digits n) 0 0 ≡ 0x30 → n ≡ 0)
    (λ n h z. omega (arith, z, first_small n h))
    (λ n h e z. let k : n / 10 ≡ 0 = e (sym (first_more n h) ∙ z) in omega arith)

-- the decimal of an integer reads as the integer
pub read_back : (x : ℤ) → integer_of (decimal x) ≡ x
unfolding integer_of decimal
read_back (pos n) =
    rw (ne_eqb (get_or (digits n) 0 0) 0x2d (λ e. omega (arith, e, first-digit n))) (ap pos (number_read n))
read_back (negsuc n) = rw (number_read (suc n))

-- the shortest: no list of digits that spells a number has fewer than its decimal
pub shortest : (s : List ℕ) → 0 < length s → Digits 10 (map (λ a. a - 0x30) s) → length (digits (number_spelled s)) ≤ length s
unfolding number_spelled
shortest [] p b = absurd (omega arith)
shortest (a ∷ s) p b =
    let ds = map (λ c. c - 0x30) (a ∷ s) in
    let e : length ds ≡ suc (length s) = length-map (a ∷ s) (λ c. c - 0x30) in
    length_digits (length s) (number_in 10 ds) (subst (λ w. number_in 10 ds < 10 ^ w) e (number-below 10 ds b))
