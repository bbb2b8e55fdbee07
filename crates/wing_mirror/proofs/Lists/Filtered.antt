-- Filtered lists: what passes keeps its order, is found as before, and is all that is left.
use Prim.Native.Nat.{ℕ, suc, ◌+◌}
use mathlib.Core.Bool.{Bool, true, false, not}
use mathlib.Core.Path.{◌≡◌, refl, sym, ◌∙◌, ap}
use mathlib.Core.Logic.{◌⊎◌, inl, inr}
use mathlib.Core.List.{List, [], ◌∷◌, ◌++◌, map}
use native.Mathlib.Omega.{arith}
use borrow.Author.Tests.{ltb-true, eqb-true}
use lib.Dec.{eqb}
use lib.ListN.{length}
use Rattle.wing_node.specs.Bool.{if}
use Rattle.wing_mirror.specs.Rows.{found, holds, over, rising, lookup, All, In}
use Rattle.wing_mirror.specs.Table.{every}
use Rattle.wing_mirror.specs.Lists.{filter}
use Rattle.wing_mirror.proofs.Tables.Ordered.{rising-cons, rising-head, rising-tail}
use Rattle.wing_mirror.proofs.Lists.LookedUp.{is_found, passing, holds-found, lookup-past, over-less}

module _ {A : Type 0} (p : A → Bool) where
  -- an element that passes, and one that does not
  pub filter-in : (x : A) (xs : List A) → p x ≡ true → filter p (x ∷ xs) ≡ x ∷ filter p xs
  unfolding filter
  filter-in x xs h = rw h

  pub filter-out : (x : A) (xs : List A) → p x ≡ false → filter p (x ∷ xs) ≡ filter p xs
  unfolding filter
  filter-out x xs h = rw h

  pub filter-append : (xs ys : List A) → filter p (xs ++ ys) ≡ filter p xs ++ filter p ys
  unfolding filter
  filter-append [] ys = refl
  filter-append (x ∷ xs) ys = go (p x) (filter-append xs ys)
    where
      go : (t : Bool) → filter p (xs ++ ys) ≡ filter p xs ++ filter p ys →
          if t (x ∷ filter p (xs ++ ys)) (filter p (xs ++ ys)) ≡ if t (x ∷ filter p xs) (filter p xs) ++ filter p ys
      go true ih = ap (λ (l : List A). x ∷ l) ih
      go false ih = ih

  -- where all pass, nothing is lost
  pub filter-every : (xs : List A) → every p xs ≡ true → filter p xs ≡ xs
  unfolding filter every
  filter-every [] h = refl
  filter-every (x ∷ xs) h = go (p x) (filter-every xs) h
    where
      go : (t : Bool) → (every p xs ≡ true → filter p xs ≡ xs) → if t (every p xs) false ≡ true → if t (x ∷ filter p xs) (filter p xs) ≡ x ∷ xs
      go true ih h = ap (λ (l : List A). x ∷ l) (ih h)
      go false ih h = cc

  -- where none passes, nothing is left
  pub filter_none : (xs : List A) → All (λ (x : A). p x ≡ false) xs → filter p xs ≡ []
  unfolding filter
  filter_none [] h = refl
  filter_none (x ∷ xs) h = filter-out x xs h.0 ∙ filter_none xs h.1

  -- all that is left passes
  pub every-filter : (xs : List A) → every p (filter p xs) ≡ true
  unfolding filter every
  every-filter [] = refl
  every-filter (x ∷ xs) = go (p x) refl (every-filter xs)
    where
      go : (t : Bool) → p x ≡ t → every p (filter p xs) ≡ true → every p (if t (x ∷ filter p xs) (filter p xs)) ≡ true
      go true q ih = rw q ih
      go false q ih = ih

  -- those that pass and those that do not, together, are as many as before
  pub length-filter : (xs : List A) → length (filter p xs) + length (filter (λ (x : A). not (p x)) xs) ≡ length xs
  unfolding filter
  length-filter [] = refl
  length-filter (x ∷ xs) = go (p x) (length-filter xs)
    where
      go : (t : Bool) → length (filter p xs) + length (filter (λ (x : A). not (p x)) xs) ≡ length xs →
          length (if t (x ∷ filter p xs) (filter p xs)) + length (if (not t) (x ∷ filter (λ (x : A). not (p x)) xs) (filter (λ (x : A). not (p x)) xs)) ≡ suc (length xs)
      go true ih = omega arith
      go false ih = omega arith

  -- an element that is left was there, and passes
  pub in-filter : (e : A) (xs : List A) → In e (filter p xs) → In e xs × (p e ≡ true)
  unfolding filter
  in-filter e [] i = absurd i
  in-filter e (x ∷ xs) i = go (p x) refl (in-filter e xs) i
    where
      go : (t : Bool) → p x ≡ t → (In e (filter p xs) → In e xs × (p e ≡ true)) → In e (if t (x ∷ filter p xs) (filter p xs)) → ((e ≡ x) ⊎ In e xs) × (p e ≡ true)
      go true q ih (inl h) = (inl h, ap p h ∙ q)
      go true q ih (inr h) = (inr (ih h).0, (ih h).1)
      go false q ih h = (inr (ih h).0, (ih h).1)

  -- an element that was there and passes is left
  pub filter-keeps : (e : A) (xs : List A) → p e ≡ true → In e xs → In e (filter p xs)
  unfolding filter
  filter-keeps e [] h i = absurd i
  filter-keeps e (x ∷ xs) h i = go (p x) refl (filter-keeps e xs h) i
    where
      go : (t : Bool) → p x ≡ t → (In e xs → In e (filter p xs)) → (e ≡ x) ⊎ In e xs → In e (if t (x ∷ filter p xs) (filter p xs))
      go true q ih (inl y) = inl y
      go true q ih (inr y) = inr (ih y)
      go false q ih (inl y) = absurd (let z : true ≡ false = sym h ∙ ap p y ∙ q in let w : ◌≡◌ {A = ℕ} 0 1 = cc in omega arith)
      go false q ih (inr y) = ih y

  -- what all elements share, those that are left share
  pub all_filter : (P : A → Type 0) (xs : List A) → All P xs → All P (filter p xs)
  unfolding filter
  all_filter P [] h = tt
  all_filter P (x ∷ xs) h = go (p x) (all_filter P xs h.1)
    where
      go : (t : Bool) → All P (filter p xs) → All P (if t (x ∷ filter p xs) (filter p xs))
      go true ih = (h.0, ih)
      go false ih = ih

-- two tests that agree on all elements
pub filter_same : {A : Type 0} (p q : A → Bool) (xs : List A) → All (λ (x : A). p x ≡ q x) xs → filter p xs ≡ filter q xs
unfolding filter
filter_same p q [] h = refl
filter_same p q (x ∷ xs) h = rw (h.0, filter_same p q xs h.1)

-- the image filtered is the image of those whose images pass
pub filter_map : {A B : Type 0} (p : B → Bool) (f : A → B) (xs : List A) → filter p (map f xs) ≡ map f (filter (λ (x : A). p (f x)) xs)
unfolding filter
filter_map p f [] = refl
filter_map {A} {B} p f (x ∷ xs) = go (p (f x)) (filter_map p f xs)
  where
    go : (t : Bool) → filter p (map f xs) ≡ map f (filter (λ (x : A). p (f x)) xs) →
        if t (f x ∷ filter p (map f xs)) (filter p (map f xs)) ≡ map f (if t (x ∷ filter (λ (x : A). p (f x)) xs) (filter (λ (x : A). p (f x)) xs))
    go true ih = ap (λ (l : List B). f x ∷ l) ih
    go false ih = ih

-- ---- lists in rising order

module _ {A : Type 0} (key : A → ℕ) (p : A → Bool) where
  -- the first that is left is above what the first was above
  pub over-filter : (k : ℕ) (xs : List A) → rising key xs ≡ true → over key k xs ≡ true → over key k (filter p xs) ≡ true
  unfolding filter over
  over-filter k [] r o = refl
  over-filter k (x ∷ xs) r o = go (p x) (over-filter k xs (rising-tail key x xs r))
    where
      go : (t : Bool) → (over key k xs ≡ true → over key k (filter p xs) ≡ true) → over key k (if t (x ∷ filter p xs) (filter p xs)) ≡ true
      go true ih = o
      go false ih = let l = ltb-true k (key x) o in ih (over-less key k (key x) xs (omega arith) (rising-head key x xs r))

  -- it keeps its order
  pub rising-filter : (xs : List A) → rising key xs ≡ true → rising key (filter p xs) ≡ true
  unfolding filter
  rising-filter [] r = r
  rising-filter (x ∷ xs) r = go (p x) (rising-filter xs (rising-tail key x xs r))
    where
      go : (t : Bool) → rising key (filter p xs) ≡ true → rising key (if t (x ∷ filter p xs) (filter p xs)) ≡ true
      go true ih = rising-cons key x (filter p xs) (over-filter (key x) xs (rising-tail key x xs r) (rising-head key x xs r)) ih
      go false ih = ih

  -- what is found, if it passes, is found still, and nothing else is
  pub lookup-filter : (k : ℕ) (xs : List A) → rising key xs ≡ true → lookup key k (filter p xs) ≡ passing p (lookup key k xs)
  unfolding filter lookup passing
  lookup-filter k [] r = refl
  lookup-filter k (x ∷ xs) r = go (p x) refl (eqb (key x) k) refl (lookup-filter k xs (rising-tail key x xs r))
    where
      go : (t : Bool) → p x ≡ t → (u : Bool) → eqb (key x) k ≡ u → lookup key k (filter p xs) ≡ passing p (lookup key k xs) →
          lookup key k (if t (x ∷ filter p xs) (filter p xs)) ≡ passing p (if u (found x) (lookup key k xs))
      go true q true e ih = rw (e, q)
      go true q false e ih = rw e ih
      go false q true e ih = rw q (ih ∙ ap (passing p) (lookup-past key k x xs r (omega (arith, eqb-true (key x) k e))))
      go false q false e ih = ih

  -- its key is there exactly then
  pub holds-filter : (k : ℕ) (xs : List A) → rising key xs ≡ true → holds key k (filter p xs) ≡ is_found (passing p (lookup key k xs))
  holds-filter k xs r = holds-found key k (filter p xs) ∙ ap is_found (lookup-filter k xs r)
