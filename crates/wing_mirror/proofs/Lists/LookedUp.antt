-- Lookups in lists in rising order: two such lists with the same lookups are one.
use Prim.Native.Nat.{ℕ, ◌≤◌, ◌<◌}
use mathlib.Core.Bool.{Bool, true, false}
use mathlib.Core.Path.{◌≡◌, refl, sym, ◌∙◌, ap}
use mathlib.Core.List.{List, [], ◌∷◌}
use native.Mathlib.Omega.{arith}
use borrow.Author.Tests.{lt-ltb, eq-eqb, ne_eqb, ltb-true, eqb-true}
use lib.Dec.{eqb}
use Rattle.wing_node.specs.Bool.{if}
use Rattle.wing_mirror.specs.Rows.{Found, found, nothing, holds, over, rising, lookup}
use Rattle.wing_mirror.proofs.Tables.Ordered.{Cmp, cmp, low, same, high, rising-head, rising-tail, over-holds}

-- there is one
abbrev pub is_found : {A : Type 0} → Found A → Bool
is_found (found x) = true
is_found nothing = false

-- what was found, if it passes
unfoldable pub passing : {A : Type 0} → (A → Bool) → Found A → Found A
passing p (found x) = if (p x) (found x) nothing
passing p nothing = nothing

module _ {A : Type 0} (key : A → ℕ) where
  -- a key is there exactly if it is found
  pub holds-found : (k : ℕ) (xs : List A) → holds key k xs ≡ is_found (lookup key k xs)
  unfolding holds lookup
  holds-found k [] = refl
  holds-found k (x ∷ xs) = go (eqb (key x) k) (holds-found k xs)
    where
      go : (t : Bool) → holds key k xs ≡ is_found (lookup key k xs) → if t true (holds key k xs) ≡ is_found (if t (found x) (lookup key k xs))
      go true ih = refl
      go false ih = ih

  -- a key that is not there is not found
  pub lookup-none : (k : ℕ) (xs : List A) → holds key k xs ≡ false → lookup key k xs ≡ nothing
  lookup-none k xs h = go (lookup key k xs) (sym (holds-found k xs) ∙ h)
    where
      go : (f : Found A) → is_found f ≡ false → f ≡ nothing
      go (found x) q = cc
      go nothing q = refl

  pub lookup_first : (k : ℕ) (x : A) (xs : List A) → key x ≡ k → lookup key k (x ∷ xs) ≡ found x
  unfolding lookup
  lookup_first k x xs h = rw (eq-eqb (key x) k h)

  pub lookup-later : (k : ℕ) (x : A) (xs : List A) → (key x ≡ k → ⊥) → lookup key k (x ∷ xs) ≡ lookup key k xs
  unfolding lookup
  lookup-later k x xs h = rw (ne_eqb (key x) k h)

  -- what is found has the key
  pub lookup_key : (k : ℕ) (xs : List A) (x : A) → lookup key k xs ≡ found x → key x ≡ k
  unfolding lookup
  lookup_key k [] x h = absurd (let z : ◌≡◌ {A = ℕ} 0 1 = cc in omega arith)
  lookup_key k (y ∷ xs) x h = go (eqb (key y) k) refl (lookup_key k xs x) h
    where
      go : (t : Bool) → eqb (key y) k ≡ t → (lookup key k xs ≡ found x → key x ≡ k) → if t (found y) (lookup key k xs) ≡ found x → key x ≡ k
      go true q ih e = let d : y ≡ x = cc in ap key (sym d) ∙ eqb-true (key y) k q
      go false q ih e = ih e

  -- a key at or below the first is not found after it
  pub lookup-past : (k : ℕ) (x : A) (xs : List A) → rising key (x ∷ xs) ≡ true → k ≤ key x → lookup key k xs ≡ nothing
  lookup-past k x xs r h = lookup-none k xs (over-holds key k (key x) xs (rising-tail key x xs r) (rising-head key x xs r) h)

  -- a key below the first is not found
  pub lookup-under : (k : ℕ) (x : A) (xs : List A) → rising key (x ∷ xs) ≡ true → k < key x → lookup key k (x ∷ xs) ≡ nothing
  lookup-under k x xs r h = lookup-later k x xs (λ e. omega arith) ∙ lookup-past k x xs r (omega arith)

  -- keys above k are above all that k is above
  pub over-less : (j k : ℕ) (xs : List A) → j ≤ k → over key k xs ≡ true → over key j xs ≡ true
  unfolding over
  over-less j k [] h o = refl
  over-less j k (x ∷ xs) h o = let l = ltb-true k (key x) o in lt-ltb j (key x) (omega arith)

  -- two rising lists with the same lookups are one
  pub same-lookups : (xs ys : List A) → rising key xs ≡ true → rising key ys ≡ true → ((k : ℕ) → lookup key k xs ≡ lookup key k ys) → xs ≡ ys
  same-lookups [] [] r s f = refl
  same-lookups [] (y ∷ ys) r s f = cc (f (key y), lookup_first (key y) y ys refl, lookup-none (key y) [] (unfold holds in refl))
  same-lookups (x ∷ xs) [] r s f = cc (f (key x), lookup_first (key x) x xs refl, lookup-none (key x) [] (unfold holds in refl))
  same-lookups (x ∷ xs) (y ∷ ys) r s f = go (cmp (key x) (key y)) (same-lookups xs ys (rising-tail key x xs r) (rising-tail key y ys s))
    where
      tails : key x ≡ key y → (k : ℕ) → Cmp (key x) k → lookup key k xs ≡ lookup key k ys
      tails p k (low q) = sym (lookup-later k x xs (λ e. omega arith)) ∙ f k ∙ lookup-later k y ys (λ e. omega arith)
      tails p k (same q) = lookup-past k x xs r (omega arith) ∙ sym (lookup-past k y ys s (omega arith))
      tails p k (high q) = lookup-past k x xs r (omega arith) ∙ sym (lookup-past k y ys s (omega arith))

      go : Cmp (key x) (key y) → (((k : ℕ) → lookup key k xs ≡ lookup key k ys) → xs ≡ ys) → x ∷ xs ≡ y ∷ ys
      go (low p) ih = cc (f (key x), lookup_first (key x) x xs refl, lookup-under (key x) y ys s p)
      go (same p) ih = let t = ih (λ k. tails p k (cmp (key x) k)) in cc (f (key x), lookup_first (key x) x xs refl, lookup_first (key x) y ys (sym p))
      go (high p) ih = cc (f (key y), lookup_first (key y) y ys refl, lookup-under (key y) x xs r p)
