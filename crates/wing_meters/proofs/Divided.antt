-- The figures of readings, in words: a quotient rounded down with its remainder, and the largest.
use Prim.Native.Nat.{ℕ, suc, ◌+◌, ◌-◌, ◌*◌, ◌/◌, ◌%◌, ◌<◌}
use mathlib.Core.Bool.{Bool, true, false, not}
use mathlib.Core.Logic.{⊎_elim}
use mathlib.Core.Path.{◌≡◌, refl, sym, ap, ◌∙◌, subst}
use mathlib.Core.List.Memᴰ
use mathlib.Core.List.{List, [], ◌∷◌, Memᴰ}
use native.Mathlib.Omega.{arith}
use native.Mathlib.Nat.{le_of_lt, mod-lt, div-add-mod', suc-mul}
use lib.Dec.{T, le→leb, ltb→lt}
use lib.IntN.{ℤ, pos, negsuc, neg_ℤ, ◌+ℤ◌, ◌*ℤ◌}
use lib.ListN.{length}
use lib.Signed.{lt_z, ◌≤ℤ◌, le_z, le_z_yes, lt_z_yes, lt_z_no, ≤ℤ_refl, <ℤ-≤ℤ_trans, clash_ℤ}
use Rattle.wing_node.proofs.Branches.{branch}
use Rattle.wing_meters.specs.Afresh.{total, quotient, remainder, larger, largest, figures_of}
use Rattle.wing_meters.specs.Moving.{Say}
use Rattle.wing_meters.specs.declared.figures.Figures.{Figures}
use Rattle.wing_meters.proofs.Levels.{sub-below}
use Rattle.std.specs.Prelude.{Ok, Some, Option, None, Err}
use Rattle.wing_node.specs.Result.{Result}

-- 02: the remainder is from 0 to d − 1
rest_below : (z : ℤ) (d : ℕ) → 0 < d → remainder z d < d
unfolding remainder
rest_below (pos n) d h = mod-lt n h
rest_below (negsuc n) d h = omega (arith, mod-lt n h)

-- 02: exact
divided : (z : ℤ) (d : ℕ) → 0 < d → z ≡ quotient z d *ℤ pos d +ℤ pos (remainder z d)
unfolding quotient remainder
divided (pos n) d h = ap pos (sym (div-add-mod' n d))
divided (negsuc n) d h =
    let parts = div-add-mod' n d in
    let small = mod-lt n h in
    let product : suc (n / d) * d ≡ suc (n / d * d + d - 1) = suc-mul (n / d) d ∙ omega arith in
    let minus : neg_ℤ (pos (suc (n / d) * d)) ≡ negsuc (n / d * d + d - 1) = ap (λ (m : ℕ). neg_ℤ (pos m)) product in
    let below : d - suc (n % d) < suc (n / d * d + d - 1) = omega arith in
    let left : suc (n / d * d + d - 1) - suc (d - suc (n % d)) ≡ n = omega arith in
    sym
    (ap (λ (z : ℤ). z +ℤ pos (d - suc (n % d))) minus ∙
    (sub-below (d - suc (n % d)) (suc (n / d * d + d - 1)) below ∙ ap negsuc left))

-- ---- the largest

≤_trans : (a b c : ℤ) → a ≤ℤ b → b ≤ℤ c → a ≤ℤ c
≤_trans a b c h k = lt_z_no (go (lt_z c a) refl)
  where
    go : (t : Bool) → lt_z c a ≡ t → T (not t)
    go true e = clash_ℤ {a = c} {b = b} (<ℤ-≤ℤ_trans (lt_z_yes (subst T (sym e) tt)) h) k
    go false e = tt

less-le : (x y : ℤ) → T (lt_z x y) → T (le_z x y)
less-le (pos a) (pos b) t = le→leb a b (le_of_lt (ltb→lt a b t))
less-le (pos a) (negsuc b) t = t
less-le (negsuc a) (pos b) t = tt
less-le (negsuc a) (negsuc b) t = le→leb b a (le_of_lt (ltb→lt b a t))

larger-left : (x y : ℤ) → x ≤ℤ larger x y
larger-left x y = branch (λ (z : ℤ). x ≤ℤ z) (lt_z x y) _ _ (λ e. le_z_yes (less-le x y (subst T (sym e) tt))) (λ e. ≤ℤ_refl x)

larger-right : (x y : ℤ) → y ≤ℤ larger x y
larger-right x y = branch (λ (z : ℤ). y ≤ℤ z) (lt_z x y) _ _ (λ e. ≤ℤ_refl y) (λ e. lt_z_no (subst (λ (b : Bool). T (not b)) (sym e) tt))

largest-in : (x : ℤ) (xs : List ℤ) → Memᴰ (largest x xs) (x ∷ xs)
unfolding largest
largest-in x [] = Memᴰ.head refl
largest-in x (y ∷ ys) =
    branch (λ (z : ℤ). Memᴰ z (x ∷ y ∷ ys)) (lt_z x (largest y ys)) _ _ (λ e. Memᴰ.tail (largest-in y ys)) (λ e. Memᴰ.head refl)

largest-above : (x : ℤ) (xs : List ℤ) (z : ℤ) → Memᴰ z (x ∷ xs) → z ≤ℤ largest x xs
unfolding largest
largest-above x [] z m =
    ⊎_elim (λ e. subst (λ (y : ℤ). y ≤ℤ x) (sym e) (≤ℤ_refl x)) (λ n. absurd (Memᴰ.not-nil n)) (Memᴰ.cases_cons m)
largest-above x (y ∷ ys) z m =
    ⊎_elim (λ e. subst (λ (u : ℤ). u ≤ℤ larger x (largest y ys)) (sym e) (larger-left x (largest y ys)))
    (λ n. ≤_trans z (largest y ys) (larger x (largest y ys)) (largest-above y ys z n) (larger-right x (largest y ys)))
    (Memᴰ.cases_cons m)

-- ---- the figures

figure : Result (Option Figures) → Figures → Figures
figure (Ok None) f = f
figure (Ok (Some g)) f = g
figure (Err n) f = f

pub figures-say : (xs : List ℤ) (f : Figures) → figures_of xs ≡ Ok (Some f) → Say xs f
unfolding figures_of figure
figures-say [] f e = let z : ◌≡◌ {A = ℕ} 0 1 = cc in absurd (omega arith)
figures-say (x ∷ xs) f e =
    let n = length (x ∷ xs) in
    let sum = total (x ∷ xs) in
    subst (Say (x ∷ xs)) (ap (λ (t : Result (Option Figures)). figure t f) e)
    (record {
      held = refl;
      sum = refl;
      divided = divided sum n (omega arith);
      rest = rest_below sum n (omega arith);
      top = largest-in x xs;
      above = largest-above x xs;
    })

pub figures-none : (xs : List ℤ) → figures_of xs ≡ (Ok None) → xs ≡ []
unfolding figures_of
figures-none [] e = refl
figures-none (x ∷ xs) e = let z : ◌≡◌ {A = ℕ} 0 1 = cc in absurd (omega arith)
