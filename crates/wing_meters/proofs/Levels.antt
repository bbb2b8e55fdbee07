-- Readings and levels: that they are told by each other, and that sum, quotient, remainder and largest of readings are those of the levels, lowered.
use Prim.Native.Nat.{ℕ, suc, ◌+◌, ◌-◌, ◌*◌, ◌/◌, ◌%◌, ◌≤◌, ◌<◌, max}
use mathlib.Core.Bool.{Bool, true, false, cond}
use mathlib.Core.Path.{◌≡◌, refl, sym, ap, ◌∙◌}
use mathlib.Core.List.{List, [], ◌∷◌, map}
use native.Mathlib.Omega.{arith}
use native.Mathlib.Nat.{suc-mul, add-mul, mod-lt, div-add-mod', mod-eq_of_lt, mul-add-mod_self_right, mul-add-div_right, div-eq_of_lt}
use lib.Dec.{ltb}
use lib.IntN.{ℤ, pos, negsuc, ◌+ℤ◌, nat_abs, sub_ℕ}
use lib.ListN.{length}
use lib.Signed.{lt_z}
use borrow.Author.Tests.{lt-ltb, le-ltb, ltb-true, ltb-false}
use Rattle.wing_node.specs.Bool.{if}
use Rattle.wing_node.specs.Signed.{InBits}
use Rattle.wing_meters.specs.Afresh.{total, quotient, remainder, larger, largest}
use Rattle.wing_meters.specs.Level.{level_of, reading_at, lowered, added, greatest}

-- ---- a difference of two numbers

pub sub-below : (a b : ℕ) → a < b → sub_ℕ a b ≡ negsuc (b - suc a)
sub-below a b h = simp (lt-ltb a b h)

pub sub-above : (a b : ℕ) → b ≤ a → sub_ℕ a b ≡ pos (a - b)
sub-above a b h = simp (le-ltb a b h)

-- which of the two it is
pub sub_cases : (a b : ℕ) (P : ℤ → Type 0) → (a < b → P (negsuc (b - suc a))) → (b ≤ a → P (pos (a - b))) → P (sub_ℕ a b)
sub_cases a b P below above = go (ltb a b) refl
  where
    go : (t : Bool) → ltb a b ≡ t → P (cond t (negsuc (b - suc a)) (pos (a - b)))
    go true e = below (ltb-true a b e)
    go false e = above (ltb-false a b e)

-- ---- a reading and its level

pub reading-level : (x : ℤ) → InBits 15 x → reading_at (level_of x) ≡ x
reading-level (pos n) h = sub-above (n + 32768) 32768 (omega arith) ∙ ap pos (omega arith)
reading-level (negsuc n) h =
    let e : nat_abs (sub_ℕ 32768 (suc n)) ≡ 32768 - suc n = simp (sub-above 32768 (suc n) (omega arith)) in
    ap reading_at e ∙ (sub-below (32768 - suc n) 32768 (omega arith) ∙ ap negsuc (omega arith))

pub level-reading : (l : ℕ) → level_of (reading_at l) ≡ l
level-reading l =
    sub_cases l 32768 (λ (z : ℤ). level_of z ≡ l)
    (λ h.
    let e : nat_abs (sub_ℕ 32768 (suc (32768 - suc l))) ≡ 32768 - suc (32768 - suc l) =
    simp (sub-above 32768 (suc (32768 - suc l)) (omega arith)) in
    e ∙ omega arith)
    (λ h. omega arith)

pub reading-in : (l : ℕ) → l < 65536 → InBits 15 (reading_at l)
reading-in l b = sub_cases l 32768 (InBits 15) (λ h. omega arith) (λ h. omega arith)

-- ---- sums

-- a + c less b + d is a less b, and c less d
pub sub-add : (a b c d : ℕ) → sub_ℕ a b +ℤ sub_ℕ c d ≡ sub_ℕ (a + c) (b + d)
sub-add a b c d =
    sub_cases a b (λ (z : ℤ). z +ℤ sub_ℕ c d ≡ sub_ℕ (a + c) (b + d))
    (λ h.
    sub_cases c d (λ (z : ℤ). negsuc (b - suc a) +ℤ z ≡ sub_ℕ (a + c) (b + d))
    (λ k. ap negsuc (omega arith) ∙ sym (sub-below (a + c) (b + d) (omega arith)))
    (λ k. below-above h k))
    (λ h.
    sub_cases c d (λ (z : ℤ). pos (a - b) +ℤ z ≡ sub_ℕ (a + c) (b + d))
    (λ k. above-below h k)
    (λ k. ap pos (omega arith) ∙ sym (sub-above (a + c) (b + d) (omega arith))))
  where
    same : (a b c d : ℕ) → a + d ≡ c + b → sub_ℕ a b ≡ sub_ℕ c d
    same a b c d e =
        sub_cases c d (λ (z : ℤ). sub_ℕ a b ≡ z)
        (λ h. sub-below a b (omega arith) ∙ ap negsuc (omega arith))
        (λ h. sub-above a b (omega arith) ∙ ap pos (omega arith))

    below-above : a < b → d ≤ c → sub_ℕ (c - d) (suc (b - suc a)) ≡ sub_ℕ (a + c) (b + d)
    below-above h k = same (c - d) (suc (b - suc a)) (a + c) (b + d) (omega arith)

    above-below : b ≤ a → c < d → sub_ℕ (a - b) (suc (d - suc c)) ≡ sub_ℕ (a + c) (b + d)
    above-below h k = same (a - b) (suc (d - suc c)) (a + c) (b + d) (omega arith)

-- the sum of readings is that of their levels, lowered by 32,768 for each
pub total_lowered : (ls : List ℕ) → total (map reading_at ls) ≡ lowered (added ls) (length ls)
unfolding total added
total_lowered [] = refl
total_lowered (l ∷ ls) =
    ap (λ (z : ℤ). reading_at l +ℤ z) (total_lowered ls) ∙
    (sub-add l 32768 (added ls) (32768 * length ls) ∙ ap (λ (n : ℕ). sub_ℕ (l + added ls) n) (omega arith))

-- ---- quotient and remainder

-- a quotient and a remainder in range are those
divided : (q r d : ℕ) → r < d → (q * d + r) / d ≡ q
divided q r d h = mul-add-div_right (omega arith) q r ∙ (ap (λ (n : ℕ). q + n) (div-eq_of_lt h) ∙ omega arith)

rested : (q r d : ℕ) → r < d → (q * d + r) % d ≡ r
rested q r d h = mul-add-mod_self_right q d r ∙ mod-eq_of_lt h

-- the quotient of a sum of readings is that of the levels, lowered, and the remainder is the remainder
pub quotient-lowered : (s d : ℕ) → 0 < d → (quotient (lowered s d) d ≡ reading_at (s / d)) × (remainder (lowered s d) d ≡ s % d)
unfolding quotient remainder
quotient-lowered s d h =
    sub_cases (s / d) 32768 (λ (z : ℤ). (quotient (lowered s d) d ≡ z) × (remainder (lowered s d) d ≡ s % d)) below above
  where
    q : ℕ
    q = s / d

    r : ℕ
    r = s % d

    parts : s ≡ s / d * d + s % d
    parts = sym (div-add-mod' s d)

    small : s % d < d
    small = mod-lt s h

    below : s / d < 32768 → (quotient (lowered s d) d ≡ negsuc (32768 - suc (s / d))) × (remainder (lowered s d) d ≡ s % d)
    below b =
        let k = 32768 - suc (s / d) in
        let t = d - suc (s % d) in
        let whole : 32768 * d ≡ (k + suc (s / d)) * d = ap (λ (n : ℕ). n * d) (omega arith) in
        let split : (k + suc (s / d)) * d ≡ k * d + (s / d * d + d) = add-mul k (suc (s / d)) d ∙ ap (λ (n : ℕ). k * d + n) (suc-mul (s / d) d) in
        let left : 32768 * d - suc s ≡ k * d + t = omega (arith, parts, small, whole, split) in
        let under : s < 32768 * d = omega (arith, parts, small, whole, split) in
        let e = sub-below s (32768 * d) under ∙ ap negsuc left in (
          ap (λ (z : ℤ). quotient z d) e ∙ ap negsuc (divided k t d (omega arith)),
          ap (λ (z : ℤ). remainder z d) e ∙ (ap (λ (n : ℕ). d - suc n) (rested k t d (omega arith)) ∙ omega (arith, small)),
        )

    above : 32768 ≤ s / d → (quotient (lowered s d) d ≡ pos (s / d - 32768)) × (remainder (lowered s d) d ≡ s % d)
    above a =
        let k = s / d - 32768 in
        let whole : s / d * d ≡ (k + 32768) * d = ap (λ (n : ℕ). n * d) (omega arith) in
        let split : (k + 32768) * d ≡ k * d + 32768 * d = add-mul k 32768 d in
        let left : s - 32768 * d ≡ k * d + s % d = omega (arith, parts, whole, split) in
        let over : 32768 * d ≤ s = omega (arith, parts, whole, split) in
        let e = sub-above s (32768 * d) over ∙ ap pos left in
        (ap (λ (z : ℤ). quotient z d) e ∙ ap pos (divided k (s % d) d small), ap (λ (z : ℤ). remainder z d) e ∙ rested k (s % d) d small)

-- ---- the largest

-- two tests that hold alike
ltb-alike : (a b c d : ℕ) → (a < b → c < d) → (b ≤ a → d ≤ c) → ltb c d ≡ ltb a b
ltb-alike a b c d less not-less = go (ltb a b) refl
  where
    go : (t : Bool) → ltb a b ≡ t → ltb c d ≡ t
    go true e = lt-ltb c d (less (ltb-true a b e))
    go false e = le-ltb c d (not-less (ltb-false a b e))

-- readings stand in the order of their levels
ordered : (a b : ℕ) → lt_z (reading_at a) (reading_at b) ≡ ltb a b
ordered a b =
    sub_cases a 32768 (λ (z : ℤ). lt_z z (reading_at b) ≡ ltb a b)
    (λ h.
    sub_cases b 32768 (λ (z : ℤ). lt_z (negsuc (32768 - suc a)) z ≡ ltb a b)
    (λ k. ltb-alike a b (32768 - suc b) (32768 - suc a) (λ l. omega arith) (λ l. omega arith))
    (λ k. sym (lt-ltb a b (omega arith))))
    (λ h.
    sub_cases b 32768 (λ (z : ℤ). lt_z (pos (a - 32768)) z ≡ ltb a b)
    (λ k. sym (le-ltb a b (omega arith)))
    (λ k. ltb-alike a b (a - 32768) (b - 32768) (λ l. omega arith) (λ l. omega arith)))

larger-lowered : (a b : ℕ) → larger (reading_at a) (reading_at b) ≡ reading_at (max a b)
larger-lowered a b = ap (λ (t : Bool). if t (reading_at b) (reading_at a)) (ordered a b) ∙ go (ltb a b) refl
  where
    go : (t : Bool) → ltb a b ≡ t → if t (reading_at b) (reading_at a) ≡ reading_at (max a b)
    go true e = let h = ltb-true a b e in let m : b ≡ max a b = omega arith in ap reading_at m
    go false e = let h = ltb-false a b e in let m : a ≡ max a b = omega arith in ap reading_at m

-- the largest of readings is that of their levels
pub largest-lowered : (l : ℕ) (ls : List ℕ) → largest (reading_at l) (map reading_at ls) ≡ reading_at (greatest (l ∷ ls))
unfolding largest greatest
largest-lowered l [] = let m : l ≡ max l 0 = omega arith in ap reading_at m
largest-lowered l (m ∷ ls) = ap (larger (reading_at l)) (largest-lowered m ls) ∙ larger-lowered l (greatest (m ∷ ls))
