-- Rows of the grammar: the first that passes a test, and a test that two rows are the same.
use Prim.Native.Nat.{ℕ}
use mathlib.Core.Bool.{Bool, true, false, true≢false}
use mathlib.Core.Logic.{◌⊎◌, inl, inr}
use mathlib.Core.Path.{◌≡◌, refl, ap, ap₂, sym, ◌∙◌}
use mathlib.Core.List.Memᴰ
use mathlib.Core.List.{List, [], ◌∷◌, Memᴰ}
use native.Mathlib.Omega.{arith}
use lib.Dec.{T, eqb, eqb→eq}
use Rattle.wing_node.specs.Bool.{if, and}
use Rattle.wing_node.specs.Utf8.{Range, ◌to◌, first_that}
use Rattle.wing_node.proofs.Below.{and-T-left, and-T-right}

abbrev Row : Type 0
Row = List Range

abbrev pub none_pass : (Row → Bool) → List Row → Bool
none_pass f [] = true
none_pass f (row ∷ rows) = if (f row) false (none_pass f rows)

-- at most one row passes
abbrev pub alone : (Row → Bool) → List Row → Bool
alone f [] = true
alone f (row ∷ rows) = if (f row) (none_pass f rows) (alone f rows)

module _ (f : Row → Bool) where
  -- [], which stands for no row, passes: so does what is found
  pub first_passes : (rows : List Row) → f [] ≡ true → f (first_that f rows) ≡ true
  unfolding first_that
  first_passes [] e = e
  first_passes (x ∷ rows) e = go (f x) refl (first_passes rows e)
    where
      go : (q : Bool) → f x ≡ q → f (first_that f rows) ≡ true → f (if q x (first_that f rows)) ≡ true
      go true p ih = p
      go false p ih = ih

  -- a row that is found is one of the rows
  pub first_member : (rows : List Row) (r : Range) (rs : Row) → first_that f rows ≡ r ∷ rs → Memᴰ (r ∷ rs) rows
  unfolding first_that
  first_member [] r rs e = absurd (let z : ◌≡◌ {A = ℕ} 0 1 = cc in omega arith)
  first_member (x ∷ rows) r rs e = go (f x) e (first_member rows r rs)
    where
      go : (q : Bool) → if q x (first_that f rows) ≡ r ∷ rs → (first_that f rows ≡ r ∷ rs → Memᴰ (r ∷ rs) rows) → Memᴰ (r ∷ rs) (x ∷ rows)
      go true e ih = Memᴰ.head (sym e)
      go false e ih = Memᴰ.tail (ih e)

  none_passes : (rows : List Row) (row : Row) → T (none_pass f rows) → Memᴰ row rows → f row ≡ true → ⊥
  none_passes [] row t m p = Memᴰ.not-nil m
  none_passes (x ∷ rows) row t m p = go (f x) refl t (Memᴰ.cases_cons m) (none_passes rows row)
    where
      go : (q : Bool) → f x ≡ q → T (if q false (none_pass f rows)) → (row ≡ x) ⊎ Memᴰ row rows → (T (none_pass f rows) → Memᴰ row rows → f row ≡ true → ⊥) → ⊥
      go true e t m ih = t
      go false e t (inl m) ih = true≢false (sym p ∙ ap f m ∙ e)
      go false e t (inr m) ih = ih t m p

  -- where one row passes, it is found
  pub first-only : (rows : List Row) (row : Row) → T (alone f rows) → Memᴰ row rows → f row ≡ true → first_that f rows ≡ row
  unfolding first_that
  first-only [] row t m p = absurd (Memᴰ.not-nil m)
  first-only (x ∷ rows) row t m p = go (f x) refl t (Memᴰ.cases_cons m) (first-only rows row)
    where
      go : (q : Bool) → f x ≡ q → T (if q (none_pass f rows) (alone f rows)) → (row ≡ x) ⊎ Memᴰ row rows → (T (alone f rows) → Memᴰ row rows → f row ≡ true → first_that f rows ≡ row) → if q x (first_that f rows) ≡ row
      go true e t (inl m) ih = sym m
      go true e t (inr m) ih = absurd (none_passes rows row t m p)
      go false e t (inl m) ih = absurd (true≢false (sym p ∙ ap f m ∙ e))
      go false e t (inr m) ih = ih t m p

-- f passes only what g passes, and g passes one row: the first that f passes is that row, if f passes it
module _ (f g : Row → Bool) (only : (row : Row) → g row ≡ false → f row ≡ false) where
  none_first : (rows : List Row) → T (none_pass g rows) → first_that f rows ≡ []
  unfolding first_that
  none_first [] t = refl
  none_first (x ∷ rows) t = go (g x) refl t (none_first rows)
    where
      go : (q : Bool) → g x ≡ q → T (if q false (none_pass g rows)) → (T (none_pass g rows) → first_that f rows ≡ []) → if (f x) x (first_that f rows) ≡ []
      go true e t ih = absurd t
      go false e t ih = rw (only x e) (ih t)

  pub first-narrow : (rows : List Row) → T (alone g rows) → first_that f rows ≡ if (f (first_that g rows)) (first_that g rows) []
  unfolding first_that
  first-narrow [] t = go (f [])
    where
      go : (q : Bool) → [] ≡ if {A = Row} q [] []
      go true = refl
      go false = refl
  first-narrow (x ∷ rows) t = go (g x) refl t (first-narrow rows)
    where
      go : (q : Bool) → g x ≡ q → T (if q (none_pass g rows) (alone g rows)) → (T (alone g rows) → first_that f rows ≡ if (f (first_that g rows)) (first_that g rows) []) → if (f x) x (first_that f rows) ≡ if (f (if q x (first_that g rows))) (if q x (first_that g rows)) []
      go true e t ih = rw (none_first rows t)
      go false e t ih = rw (only x e) (ih t)

abbrev pub same : Row → Row → Bool
same [] [] = true
same [] (q ∷ qs) = false
same (r ∷ rs) [] = false
same (r ∷ rs) (q ∷ qs) = and (eqb r.low q.low) (and (eqb r.high q.high) (same rs qs))

pub same-eq : (rs qs : Row) → T (same rs qs) → rs ≡ qs
same-eq [] [] t = refl
same-eq [] (q ∷ qs) t = absurd t
same-eq (r ∷ rs) [] t = absurd t
same-eq (r ∷ rs) (q ∷ qs) t =
    let u = and-T-right (eqb r.low q.low) _ t in
    ap₂ {C = Row} (λ x xs. x ∷ xs)
    (ap₂ {C = Range} (λ l h. l to h) (eqb→eq _ _ (and-T-left (eqb r.low q.low) _ t)) (eqb→eq _ _ (and-T-left (eqb r.high q.high) (same rs qs) u)))
    (same-eq rs qs (and-T-right (eqb r.high q.high) (same rs qs) u))
