-- Integers in a text: what the code reads of one, and that a text in form is the decimal of its integer and each decimal in form.
use Prim.Native.Nat.{ℕ, zero, suc, ◌+◌, ◌-◌, ◌*◌, ◌/◌, ◌%◌, ◌^◌, ◌≤◌, ◌<◌, min}
use mathlib.Core.Bool.{Bool, true, false, not, ◌&&◌}
use mathlib.Core.Path.{◌≡◌, refl, sym, ap, ◌∙◌}
use mathlib.Core.List.{List, [], ◌∷◌, ◌++◌, map, append_assoc, append-nil}
use native.Mathlib.Omega.{arith}
use borrow.Author.Tests.{ltb-true, ltb-false, leb-true, eqb-true, eqb-false, not-true, lt-ltb, le-ltb, le-leb, lt-leb, eq-eqb, ne_eqb}
use Rattle.std.specs.Char.{is_ascii_digit}
use lib.Dec.{ltb, leb, eqb}
use lib.IntN.{ℤ, pos, negsuc, neg_ℤ}
use lib.Signed.{mag}
use lib.ListN.{length, take, drop}
use lib.Pointwise.{pointwise}
use Rattle.wing_node.specs.Bool.{if, and, or}
use Rattle.wing_node.specs.Digits.{number_from, number_in}
use Rattle.wing_node.specs.Decimal.{ascii, digits_up_to, digits, decimal, number_spelled, integer_of}
use Rattle.wing_node.specs.Signed.{signed, InBits}
use Rattle.wing_node.proofs.Branches.{branch, if-both, and_left, and_right}
use Rattle.wing_node.proofs.Numerals.Spelled.{digits-small, digits_more, length_some, length-small, no-leading-zero, read_back}
use Rattle.wing_mirror.specs.Table.{every}
use Rattle.wing_listing.specs.Integers.{is_digit, first, no_leading_zero, is_natural, is_signed, fits32, is_integer}
use Rattle.wing_listing.specs.Steps.{number_up_to, read_as, natural_read, negative_read, integer_read}
use Rattle.std.proofs.Common.{Option, Some, None}

-- ---- tests

pub by-test : {P : Type 0} (t : Bool) → (t ≡ true → P) → (t ≡ false → P) → P
by-test true f g = f refl
by-test false f g = g refl

pub digit-yes : (a : ℕ) → 0x30 ≤ a → a ≤ 0x39 → is_digit a ≡ true
unfolding is_digit
digit-yes a h k = rw (le-leb 0x30 a h, le-leb a 0x39 k)

pub digit-high : (a : ℕ) → 0x39 < a → is_digit a ≡ false
unfolding is_digit
digit-high a h = rw (le-leb 0x30 a (omega arith), lt-leb a 0x39 h)

-- as the library tests it
pub digit-ascii : (a : ℕ) → is_ascii_digit a ≡ is_digit a
unfolding is_digit
digit-ascii a = go (leb 0x30 a) (leb a 0x39)
  where
    go : (t e : Bool) → (t && e) ≡ and t e
    go true e = refl
    go false e = refl

pub digit-range : (a : ℕ) → is_digit a ≡ true → (0x30 ≤ a) × (a ≤ 0x39)
unfolding is_digit
digit-range a e = (leb-true 0x30 a (and_left (leb 0x30 a) (leb a 0x39) e), leb-true a 0x39 (and_right (leb 0x30 a) (leb a 0x39) e))

-- ---- digits read one by one

-- the number that n and then the digits of s spell, as number_up_to has it
abbrev pub up_from : ℕ → List ℕ → ℕ
up_from n s = if (every is_digit s) (min (number_from 10 n (map (λ a. a - 0x30) s)) 0x100000000) 0x100000000

pub up-all : (s : List ℕ) → up_from 0 s ≡ number_up_to s
unfolding number_up_to number_spelled number_in
up-all s = refl

pub up-end : (n : ℕ) → n ≤ 0x100000000 → up_from n [] ≡ n
unfolding every number_from
up-end n h = omega arith

grows : (n : ℕ) (ds : List ℕ) → n ≤ number_from 10 n ds
unfolding number_from
grows n [] = omega arith
grows n (d ∷ ds) = omega (arith, grows (n * 10 + d) ds)

most : (n : ℕ) (ds : List ℕ) → min (number_from 10 (min n 0x100000000) ds) 0x100000000 ≡ min (number_from 10 n ds) 0x100000000
most n ds =
    by-test (ltb n 0x100000000)
    (λ t. let e : min n 0x100000000 ≡ n = omega (arith, ltb-true n 0x100000000 t) in rw e)
    (λ t.
    let h = ltb-false n 0x100000000 t in
    let e : min n 0x100000000 ≡ 0x100000000 = omega arith in
    omega (arith, grows n ds, grows (min n 0x100000000) ds))

pub up-digit : (n a : ℕ) (s : List ℕ) → is_digit a ≡ true → up_from n (a ∷ s) ≡ up_from (min (n * 10 + (a - 0x30)) 0x100000000) s
unfolding every number_from
up-digit n a s e =
    rw e (ap (λ m. if (every is_digit s) m 0x100000000) (sym (most (n * 10 + (a - 0x30)) (map (λ b. b - 0x30) s))))

pub up-not : (n a : ℕ) (s : List ℕ) → is_digit a ≡ false → up_from n (a ∷ s) ≡ 0x100000000
unfolding every
up-not n a s e = rw e

-- ---- digits without a leading zero are those of the number that they spell

spelled-on : (v : ℕ) (s : List ℕ) → 0 < v → every is_digit s ≡ true → digits (number_from 10 v (map (λ a. a - 0x30) s)) ≡ digits v ++ s
unfolding number_from every
spelled-on v [] h e = sym (append-nil (digits v))
spelled-on v (a ∷ s) h e =
    let d = if-both (is_digit a) (every is_digit s) e in
    let r = digit-range a d.0 in
    let x = v * 10 + (a - 0x30) in
    let q : x / 10 ≡ v = omega arith in
    let m : ascii (x % 10) ≡ a = omega arith in
    let w : digits (x / 10) ++ (ascii (x % 10) ∷ []) ≡ digits v ++ (a ∷ []) = rw (q, m) in
    spelled-on x s (omega arith) d.1 ∙ ap (λ (l : List ℕ). l ++ s) (digits_more x (omega arith) ∙ w) ∙ append_assoc (digits v) (a ∷ []) s

-- a digit alone, or a first one that is not 0
led-first : (s : List ℕ) → no_leading_zero s ≡ true → (1 ≤ length s) × (or (eqb (length s) 1) (not (eqb (first s) 0x30)) ≡ true)
unfolding no_leading_zero
led-first s e =
    (leb-true 1 (length s) (and_left (leb 1 (length s)) (or (eqb (length s) 1) (not (eqb (first s) 0x30))) e), and_right (leb 1 (length s)) (or (eqb (length s) 1) (not (eqb (first s) 0x30))) e)

ne-zero : (a : ℕ) → (0x30 ≤ a) × (a ≤ 0x39) → (a ≡ 0x30 → ⊥) → 0 < 0 * 10 + (a - 0x30)
ne-zero a r z =
    by-test (ltb 0x30 a) (λ t. omega (arith, ltb-true 0x30 a t)) (λ t. absurd (z (omega (arith, ltb-false 0x30 a t, r.0))))

pub natural-parts : (s : List ℕ) → is_natural s ≡ true → (0 < length s) × (every is_digit s ≡ true)
unfolding is_natural
natural-parts s e = ((led-first s (and_left (no_leading_zero s) (every is_digit s) e)).0, and_right (no_leading_zero s) (every is_digit s) e)

pub natural-spelled : (s : List ℕ) → is_natural s ≡ true → digits (number_spelled s) ≡ s
unfolding is_natural number_spelled number_in number_from every
natural-spelled [] e = absurd (omega (arith, (led-first [] (and_left (no_leading_zero []) true e)).0))
natural-spelled (a ∷ []) e =
    let r = digit-range a (if-both (is_digit a) true (and_right (no_leading_zero (a ∷ [])) (if (is_digit a) true false) e)).0 in
    let m : ascii (0 * 10 + (a - 0x30)) ≡ a = omega arith in
    digits-small (0 * 10 + (a - 0x30)) (omega arith) ∙ ap (λ b. b ∷ []) m
natural-spelled (a ∷ b ∷ s) e =
    let d = if-both (is_digit a) (every is_digit (b ∷ s)) (and_right (no_leading_zero (a ∷ b ∷ s)) (if (is_digit a) (every is_digit (b ∷ s)) false) e) in
    let r = digit-range a d.0 in
    let o = (led-first (a ∷ b ∷ s) (and_left (no_leading_zero (a ∷ b ∷ s)) (if (is_digit a) (every is_digit (b ∷ s)) false) e)).1 in
    let z = eqb-false a 0x30 (not-true (eqb a 0x30) (rw (ne_eqb (length (a ∷ b ∷ s)) 1 (λ l. omega arith)) at o)) in
    let v = 0 * 10 + (a - 0x30) in
    let m : ascii v ≡ a = omega arith in
    spelled-on v (b ∷ s) (ne-zero a r z) d.1 ∙ ap (λ (l : List ℕ). l ++ (b ∷ s)) (digits-small v (omega arith) ∙ ap (λ c. c ∷ []) m)

-- ---- what the code reads

or-true : (t : Bool) → or t true ≡ true
or-true true = refl
or-true false = refl

pub and-false : (t : Bool) → and t false ≡ false
and-false true = refl
and-false false = refl

negated : (u n : ℕ) → u ≡ n → 0 < n → n ≤ 0x80000000 → signed 31 (0x100000000 - u) ≡ neg_ℤ (pos n)
negated u zero e h k = absurd (omega arith)
negated u (suc m) e h k =
    let w : 2 ^ (31 + 1) - suc (0x100000000 - u) ≡ m = omega arith in
    rw (le-ltb (0x100000000 - u) (2 ^ 31) (omega arith), w)

up-some : (s : List ℕ) → number_up_to s < 0x100000000 → (every is_digit s ≡ true) × (number_up_to s ≡ number_spelled s)
unfolding number_up_to
up-some s h =
    branch (λ (n : ℕ). n < 0x100000000 → (every is_digit s ≡ true) × (n ≡ number_spelled s)) (every is_digit s) (min (number_spelled s) 0x100000000) 0x100000000
    (λ t k. (t, omega arith)) (λ t k. absurd (omega arith)) h

up-most : (s : List ℕ) (n : ℕ) → n < 0x100000000 → n < number_up_to s → every is_digit s ≡ true → n < number_spelled s
unfolding number_up_to
up-most s n h k e = let w : n < min (number_spelled s) 0x100000000 = rw e at k in omega arith

module _ (s : List ℕ) where
  pub natural-good : no_leading_zero s ≡ true → number_up_to s < 0x80000000 → ◌≡◌ {A = Option ℤ} (Some (signed 31 (number_up_to s))) (natural_read s)
  unfolding natural_read is_natural
  natural-good l h =
      let u = up-some s (omega arith) in
      rw (l, u.0, u.1, lt-ltb (number_spelled s) 0x80000000 (omega (arith, u.1)))

  pub natural-led : no_leading_zero s ≡ false → ◌≡◌ {A = Option ℤ} None (natural_read s)
  unfolding natural_read is_natural
  natural-led l = rw l

  pub natural-large : 0x80000000 ≤ number_up_to s → ◌≡◌ {A = Option ℤ} None (natural_read s)
  unfolding natural_read
  natural-large h =
      ap (λ t. read_as t (pos (number_spelled s))) {x = false} {y = and (is_natural s) (ltb (number_spelled s) 0x80000000)}
      (by-test (is_natural s)
      (λ t. rw (t, le-ltb (number_spelled s) 0x80000000 (omega (arith, up-most s 0x7fffffff (omega arith) (omega arith) (and_right (no_leading_zero s) (every is_digit s) (unfold is_natural in t))))))
      (λ t. rw t))

  -- after a minus sign there is a digit that is not 0, so that the number is not 0
  spelled-some : 0 < length s → (first s ≡ 0x30 → ⊥) → every is_digit s ≡ true → (no_leading_zero s ≡ true) × (0 < number_spelled s)
  unfolding no_leading_zero is_natural
  spelled-some p z e =
      let l : no_leading_zero s ≡ true = rw (le-leb 1 (length s) p, ne_eqb (first s) 0x30 z, or-true (eqb (length s) 1)) in
      let d = natural-spelled s (rw (l, e)) in (
        l,
        by-test (ltb 0 (number_spelled s)) (ltb-true 0 (number_spelled s)) (λ t.
            let n : number_spelled s ≡ 0 = omega (arith, ltb-false 0 (number_spelled s) t) in
            absurd (z (ap first (sym d ∙ ap digits n ∙ digits-small 0 (omega arith))))),
      )

  pub negative-good : 0 < length s → (first s ≡ 0x30 → ⊥) → number_up_to s ≤ 0x80000000 →
      (0 < number_up_to s) × ◌≡◌ {A = Option ℤ} (Some (signed 31 (0x100000000 - number_up_to s))) (negative_read s)
  unfolding negative_read is_natural
  negative-good p z h =
      let u = up-some s (omega arith) in
      let o = spelled-some p z u.0 in
      let w : signed 31 (0x100000000 - number_up_to s) ≡ neg_ℤ (pos (number_spelled s)) = negated (number_up_to s) (number_spelled s) u.1 o.1 (omega (arith, u.1)) in
      (omega (arith, u.1, o.1), rw (ne_eqb (first s) 0x30 z, o.0, u.0, le-leb (number_spelled s) 0x80000000 (omega (arith, u.1)), w))

  pub negative-none : length s ≡ 0 → ◌≡◌ {A = Option ℤ} None (negative_read s)
  unfolding negative_read is_natural no_leading_zero
  negative-none e = rw (lt-leb 1 (length s) (omega arith)) (ap (λ t. read_as (and t (leb (number_spelled s) 0x80000000)) (neg_ℤ (pos (number_spelled s)))) (sym (and-false (not (eqb (first s) 0x30)))))

  pub negative-zero : first s ≡ 0x30 → ◌≡◌ {A = Option ℤ} None (negative_read s)
  unfolding negative_read
  negative-zero e = rw (eq-eqb (first s) 0x30 e)

  pub negative-large : 0x80000000 < number_up_to s → ◌≡◌ {A = Option ℤ} None (negative_read s)
  unfolding negative_read
  negative-large h =
      ap (λ t. read_as t (neg_ℤ (pos (number_spelled s)))) {x = false} {y = and (and (not (eqb (first s) 0x30)) (is_natural s)) (leb (number_spelled s) 0x80000000)}
      (by-test (and (not (eqb (first s) 0x30)) (is_natural s))
      (λ t. rw (t, lt-leb (number_spelled s) 0x80000000 (up-most s 0x80000000 (omega arith) h (and_right (no_leading_zero s) (every is_digit s) (unfold is_natural in (and_right (not (eqb (first s) 0x30)) (is_natural s) t))))))
      (λ t. rw t))

-- ---- with its sign

fits-pos : (n : ℕ) → fits32 (pos n) ≡ ltb n 0x80000000
unfolding fits32
fits-pos n = refl

fits_neg : (n : ℕ) → fits32 (neg_ℤ (pos n)) ≡ leb n 0x80000000
unfolding fits32
fits_neg zero = refl
fits_neg (suc m) = refl

-- whether a minus comes first, as the library tests it
pub minus-first : (s : List ℕ) → pointwise eqb (take 1 s) (0x2d ∷ []) ≡ eqb (first s) 0x2d
minus-first [] = refl
minus-first (a ∷ s) = go (eqb a 0x2d)
  where
    go : (t : Bool) → (t && true) ≡ t
    go true = refl
    go false = refl

module _ (s : List ℕ) where
  pub int-minus : first s ≡ 0x2d → negative_read (drop 1 s) ≡ integer_read s
  unfolding negative_read integer_read is_integer is_signed integer_of
  int-minus e = let t = eq-eqb (first s) 0x2d e in rw (t, fits_neg (number_spelled (drop 1 s)))

  pub int-plain : (first s ≡ 0x2d → ⊥) → natural_read s ≡ integer_read s
  unfolding natural_read integer_read is_integer is_signed integer_of
  int-plain e = let t = ne_eqb (first s) 0x2d e in rw (t, fits-pos (number_spelled s))

-- ---- a text in form is the decimal of its integer

negated-spelled : (n : ℕ) → 0 < n → decimal (neg_ℤ (pos n)) ≡ 0x2d ∷ digits n
unfolding decimal
negated-spelled zero h = absurd (omega arith)
negated-spelled (suc m) h = refl

minus : (s : List ℕ) → first s ≡ 0x2d → and (not (eqb (first (drop 1 s)) 0x30)) (is_natural (drop 1 s)) ≡ true → decimal (neg_ℤ (pos (number_spelled (drop 1 s)))) ≡ s
minus [] e o = absurd (omega arith)
minus (a ∷ s) e o =
    let z = eqb-false (first s) 0x30 (not-true (eqb (first s) 0x30) (and_left (not (eqb (first s) 0x30)) (is_natural s) o)) in
    let n = and_right (not (eqb (first s) 0x30)) (is_natural s) o in
    let p = natural-parts s n in
    negated-spelled (number_spelled s) (spelled-some s p.0 z p.1).1 ∙ ap (λ (l : List ℕ). 0x2d ∷ l) (natural-spelled s n) ∙ ap (λ b. b ∷ s) (sym e)

pub integer-spelled : (s : List ℕ) → is_integer s ≡ true → decimal (integer_of s) ≡ s
unfolding is_integer is_signed integer_of decimal
integer-spelled s e =
    let o = and_left (is_signed s) (fits32 (integer_of s)) e in
    by-test (eqb (first s) 0x2d)
    (λ t. rw t (minus s (eqb-true (first s) 0x2d t) (rw t at o)))
    (λ t. rw t (natural-spelled s (rw t at o)))

-- ---- and each decimal is in form

pub every-both : (p : ℕ → Bool) (s t : List ℕ) → every p s ≡ true → every p t ≡ true → every p (s ++ t) ≡ true
unfolding every
every-both p [] t e f = f
every-both p (a ∷ s) t e f = let d = if-both (p a) (every p s) e in rw d.0 (every-both p s t d.1 f)

digits-digits : (most n : ℕ) → every is_digit (digits_up_to most n) ≡ true
unfolding digits_up_to every
digits-digits zero n = refl
digits-digits (suc most) n =
    by-test (ltb n 10)
    (λ t. rw (t, digit-yes (ascii n) (omega arith) (omega (arith, ltb-true n 10 t))))
    (λ t. rw t (every-both is_digit (digits_up_to most (n / 10)) (ascii (n % 10) ∷ []) (digits-digits most (n / 10)) (rw (digit-yes (ascii (n % 10)) (omega arith) (omega arith)))))

natural-digits : (n : ℕ) → is_natural (digits n) ≡ true
unfolding is_natural no_leading_zero
natural-digits n =
    let e : every is_digit (digits n) ≡ true = unfold digits in (digits-digits (suc n) n) in
    rw (e, le-leb 1 (length (digits n)) (length_some n))
    (by-test (eqb (first (digits n)) 0x30)
    (λ t.
    let z = no-leading-zero n (eqb-true (first (digits n)) 0x30 t) in
    let l : length (digits n) ≡ 1 = ap (λ m. length (digits m)) z ∙ length-small 0 (omega arith) in
    rw (eq-eqb (length (digits n)) 1 l))
    (λ t. rw (t, or-true (eqb (length (digits n)) 1))))

absurd-suc : {n : ℕ} → suc n ≡ 0 → ⊥
absurd-suc e = omega arith

no_minus : (s : List ℕ) → every is_digit s ≡ true → first s ≡ 0x2d → ⊥
unfolding every
no_minus [] e h = omega arith
no_minus (a ∷ s) e h = omega (arith, (digit-range a (if-both (is_digit a) (every is_digit s) e).0).0)

pub decimal-formed : (x : ℤ) → InBits 31 x → is_integer (decimal x) ≡ true
unfolding is_integer is_signed
decimal-formed x h = rw (read_back x, formed x) (unfold fits32 in (lt-ltb (mag x) (2 ^ 31) h))
  where
    formed : (y : ℤ) → if (eqb (first (decimal y)) 0x2d) (and (not (eqb (first (drop 1 (decimal y))) 0x30)) (is_natural (drop 1 (decimal y)))) (is_natural (decimal y)) ≡ true
    formed (pos n) = unfold decimal in (rw (ne_eqb (first (digits n)) 0x2d (no_minus (digits n) (natural-parts (digits n) (natural-digits n)).1)) (natural-digits n))
    formed (negsuc n) = unfold decimal in (rw (natural-digits (suc n), ne_eqb (first (digits (suc n))) 0x30 (λ e. absurd-suc (no-leading-zero (suc n) e))))
