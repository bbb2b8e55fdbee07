-- The elements of lists in rising order: two of them with the same elements are one.
use Prim.Native.Nat.{ℕ, ◌<◌}
use mathlib.Core.Bool.{true, false, true≢false}
use mathlib.Core.Path.{◌≡◌, refl, sym, ◌∙◌, ap, ap₂}
use mathlib.Core.Logic.{◌⊎◌, inl, inr}
use mathlib.Core.List.{List, [], ◌∷◌}
use native.Mathlib.Omega.{arith}
use borrow.Author.Tests.{eq-eqb, ne_eqb, ltb-true}
use Rattle.wing_mirror.specs.Rows.{holds, over, rising, insert, In}
use Rattle.wing_mirror.proofs.Tables.Ordered.{Cmp, cmp, low, same, high, insert-low, insert-same, insert-high, rising-head, rising-tail}

module _ {A : Type 0} (key : A → ℕ) where
  -- all elements after the first are above it
  pub above : (k : ℕ) (e : A) (xs : List A) → over key k xs ≡ true → rising key xs ≡ true → In e xs → k < key e
  unfolding over
  above k e [] o r i = absurd i
  above k e (x ∷ xs) o r (inl q) = rw q (ltb-true k (key x) o)
  above k e (x ∷ xs) o r (inr i) =
      let l : k < key x = ltb-true k (key x) o in
      let n : key x < key e = above (key x) e xs (rising-head key x xs r) (rising-tail key x xs r) i in
      omega arith

  -- two rising lists with the same elements are one
  pub one_list : (xs ys : List A) → rising key xs ≡ true → rising key ys ≡ true → ((e : A) → In e xs → In e ys) → ((e : A) → In e ys → In e xs) → xs ≡ ys
  one_list [] [] r s f g = refl
  one_list [] (y ∷ ys) r s f g = absurd (g y (inl refl))
  one_list (x ∷ xs) [] r s f g = absurd (f x (inl refl))
  one_list (x ∷ xs) (y ∷ ys) r s f g =
      ap₂ {C = List A} (λ h t. h ∷ t) heads
      (one_list xs ys (rising-tail key x xs r) (rising-tail key y ys s) (λ e i. down e i (f e (inr i))) (λ e i. back e i (g e (inr i))))
    where
      up-x : (e : A) → In e xs → key x < key e
      up-x e = above (key x) e xs (rising-head key x xs r) (rising-tail key x xs r)

      up-y : (e : A) → In e ys → key y < key e
      up-y e = above (key y) e ys (rising-head key y ys s) (rising-tail key y ys s)

      two : (x ≡ y) ⊎ In x ys → (y ≡ x) ⊎ In y xs → x ≡ y
      two (inl p) q = p
      two (inr p) (inl q) = sym q
      two (inr p) (inr q) = let a = up-y x p in let b = up-x y q in absurd (omega arith)

      heads : x ≡ y
      heads = two (f x (inl refl)) (g y (inl refl))

      down : (e : A) → In e xs → (e ≡ y) ⊎ In e ys → In e ys
      down e i (inl p) = let a = up-x e i in let b = ap key (p ∙ sym heads) in absurd (omega arith)
      down e i (inr p) = p

      back : (e : A) → In e ys → (e ≡ x) ⊎ In e xs → In e xs
      back e i (inl p) = let a = up-y e i in let b = ap key (p ∙ heads) in absurd (omega arith)
      back e i (inr p) = p

  -- insert adds the element, and takes none away if its key was not there
  pub in_insert : (d e : A) (xs : List A) → In d (insert key e xs) → (d ≡ e) ⊎ In d xs
  unfolding insert
  in_insert d e [] (inl p) = inl p
  in_insert d e [] (inr p) = inr p
  in_insert d e (x ∷ xs) i = go (cmp (key x) (key e)) (in_insert d e xs)
    where
      pass : (d ≡ x) ⊎ In d (insert key e xs) → (In d (insert key e xs) → (d ≡ e) ⊎ In d xs) → (d ≡ e) ⊎ ((d ≡ x) ⊎ In d xs)
      pass (inl p) ih = inr (inl p)
      pass (inr p) ih = turn (ih p)
        where
          turn : (d ≡ e) ⊎ In d xs → (d ≡ e) ⊎ ((d ≡ x) ⊎ In d xs)
          turn (inl q) = inl q
          turn (inr q) = inr (inr q)

      step : (d ≡ e) ⊎ In d xs → (d ≡ e) ⊎ ((d ≡ x) ⊎ In d xs)
      step (inl q) = inl q
      step (inr q) = inr (inr q)

      go : Cmp (key x) (key e) → (In d (insert key e xs) → (d ≡ e) ⊎ In d xs) → (d ≡ e) ⊎ In d (x ∷ xs)
      go (low p) ih = pass (rw (insert-low key e x xs p) at i) ih
      go (same p) ih = step (rw (insert-same key e x xs p) at i)
      go (high p) ih = rw (insert-high key e x xs p) at i

  -- an element that was there, or is put in, is there after
  pub insert-in : (d e : A) (xs : List A) → holds key (key e) xs ≡ false → (d ≡ e) ⊎ In d xs → In d (insert key e xs)
  unfolding insert holds
  insert-in d e [] h i = i
  insert-in d e (x ∷ xs) h i = go (cmp (key x) (key e)) (insert-in d e xs)
    where
      no : key x ≡ key e → In d (insert key e (x ∷ xs))
      no p = absurd (let z : true ≡ false = rw (eq-eqb (key x) (key e) p) at h in true≢false z)

      go : Cmp (key x) (key e) → (holds key (key e) xs ≡ false → (d ≡ e) ⊎ In d xs → In d (insert key e xs)) → In d (insert key e (x ∷ xs))
      go (low p) ih = rw (insert-low key e x xs p) (turn i)
        where
          h' : holds key (key e) xs ≡ false
          h' = rw (ne_eqb (key x) (key e) (omega arith)) at h

          turn : (d ≡ e) ⊎ ((d ≡ x) ⊎ In d xs) → (d ≡ x) ⊎ In d (insert key e xs)
          turn (inl q) = inr (ih h' (inl q))
          turn (inr (inl q)) = inl q
          turn (inr (inr q)) = inr (ih h' (inr q))
      go (same p) ih = no p
      go (high p) ih = rw (insert-high key e x xs p) i
