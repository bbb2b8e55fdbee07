-- The number of an element by its key, in a list of strictly rising keys.
use Prim.Native.Nat.{ℕ, zero, suc, ◌<◌, ◌≤◌}
use mathlib.Core.Bool.{Bool, true, false}
use mathlib.Core.Path.{◌≡◌, refl, sym, ◌∙◌, ap}
use mathlib.Core.List.{List, [], ◌∷◌}
use native.Mathlib.Omega.{arith}
use borrow.Author.Tests.{lt-ltb, le-ltb, eq-eqb, ne_eqb}
use lib.Dec.{ltb}
use lib.ListN.{length, get_or}
use Rattle.wing_node.specs.Bool.{if}
use Rattle.wing_mirror.specs.Rows.{holds, below, rising}
use Rattle.wing_mirror.proofs.Tables.Ordered.{Cmp, cmp, low, same, high, rising-head, rising-tail, over-holds}

module _ {A : Type 0} (key : A → ℕ) where
  pub below-most : (k : ℕ) (xs : List A) → below key k xs ≤ length xs
  unfolding below
  below-most k [] = omega arith
  below-most k (x ∷ xs) = go (ltb (key x) k) (below-most k xs)
    where
      go : (t : Bool) → below key k xs ≤ length xs → (if t (suc (below key k xs)) 0) ≤ suc (length xs)
      go true h = omega arith
      go false h = omega arith

module _ {A : Type 0} (key : A → ℕ) (default : A) where
  -- a key that is there stands at the place that `below` tells
  abbrev Placed : ℕ → List A → Type 0
  Placed k xs = holds key k xs ≡ true → (below key k xs < length xs) × (key (get_or xs (below key k xs) default) ≡ k)

  -- an element of this key is there, and stands at no other place
  abbrev Found : ℕ → ℕ → List A → Type 0
  Found k n xs = (holds key k xs ≡ true) × (below key k xs ≡ n)

  -- the keys after a first one are above it
  no-key-above : (k : ℕ) (x : A) (xs : List A) → rising key (x ∷ xs) ≡ true → k ≤ key x → holds key k xs ≡ true → ⊥
  no-key-above k x xs r g m =
      let f : holds key k xs ≡ false = over-holds key k (key x) xs (rising-tail key x xs r) (rising-head key x xs r) g in
      let z : ◌≡◌ {A = Bool} true false = sym m ∙ f in
      let w : ◌≡◌ {A = ℕ} 0 1 = cc in
      omega arith

  placed_first : (k : ℕ) (x : A) (xs : List A) → rising key (x ∷ xs) ≡ true → Placed k xs → Cmp (key x) k → Placed k (x ∷ xs)
  unfolding holds below
  placed_first k x xs r later (low l) h =
      let m = later (rw (ne_eqb (key x) k (λ e. omega arith)) at h) in
      rw (lt-ltb (key x) k l) (omega (arith, m.0), m.1)
  placed_first k x xs r later (same e) h = rw (le-ltb (key x) k (omega arith)) (omega arith, e)
  placed_first k x xs r later (high l) h = absurd (no-key-above k x xs r (omega arith) (rw (ne_eqb (key x) k (λ e. omega arith)) at h))

  pub placed : (k : ℕ) (xs : List A) → rising key xs ≡ true → Placed k xs
  unfolding holds
  placed k [] r = λ h. absurd (let z : ◌≡◌ {A = ℕ} 0 1 = cc in omega arith)
  placed k (x ∷ xs) r = placed_first k x xs r (placed k xs (rising-tail key x xs r)) (cmp (key x) k)

  found-later : (k n : ℕ) (x : A) (xs : List A) → rising key (x ∷ xs) ≡ true → Found k n xs → Cmp (key x) k → Found k (suc n) (x ∷ xs)
  unfolding holds below
  found-later k n x xs r m (low h) = rw (ne_eqb (key x) k (λ e. omega arith), lt-ltb (key x) k h) (m.0, ap suc m.1)
  found-later k n x xs r m (same h) = absurd (no-key-above k x xs r (omega arith) m.0)
  found-later k n x xs r m (high h) = absurd (no-key-above k x xs r (omega arith) m.0)

  pub found_at : (k n : ℕ) (xs : List A) → rising key xs ≡ true → n < length xs → key (get_or xs n default) ≡ k → Found k n xs
  unfolding holds below
  found_at k n [] r l e = absurd (omega arith)
  found_at k zero (x ∷ xs) r l e = rw (eq-eqb (key x) k e, le-ltb (key x) k (omega arith)) (refl, refl)
  found_at k (suc n) (x ∷ xs) r l e = found-later k n x xs r (found_at k n xs (rising-tail key x xs r) (omega arith) e) (cmp (key x) k)
