-- Two lists in rising order merged: in order, with the keys of both, the second's element where both have the key.
use Prim.Native.Nat.{ℕ, ◌<◌}
use mathlib.Core.Bool.{true}
use mathlib.Core.Path.{◌≡◌, refl, sym, ◌∙◌, ap}
use mathlib.Core.List.{List, [], ◌∷◌, ◌++◌, append-nil}
use native.Mathlib.Omega.{arith}
use borrow.Author.Tests.{lt-ltb, le-ltb, eq-eqb, ne_eqb, ltb-true}
use lib.ListN.{length}
use Rattle.wing_node.specs.Bool.{if}
use Rattle.wing_mirror.specs.Rows.{holds, over, rising, insert, lookup, All}
use Rattle.wing_mirror.specs.Lists.{or_else, insert_all, merge, key_count}
use Rattle.wing_mirror.proofs.Tables.Ordered.{Cmp, cmp, low, same, high, insert-low, insert-same, insert-high, rising-head, rising-tail}
use Rattle.wing_mirror.proofs.Lists.LookedUp.{over-less}
use Rattle.wing_mirror.proofs.Lists.Distinct.{holds-append, distinct-rising}
use Rattle.wing_mirror.proofs.Lists.Inserted.{insert_all-append, insert_all-self, rising-insert_all, all-insert_all, holds-insert_all, lookup-insert_all, length-insert_all}

module _ {A : Type 0} (key : A → ℕ) where
  -- the lower of the two first ones is the first, the second's if they are the same
  pub merge_low : (x y : A) (xs ys : List A) → key x < key y → merge key (x ∷ xs) (y ∷ ys) ≡ x ∷ merge key xs (y ∷ ys)
  unfolding merge
  merge_low x y xs ys h = rw (lt-ltb (key x) (key y) h)

  pub merge-same : (x y : A) (xs ys : List A) → key x ≡ key y → merge key (x ∷ xs) (y ∷ ys) ≡ y ∷ merge key xs ys
  unfolding merge
  merge-same x y xs ys h = rw (le-ltb (key x) (key y) (omega arith), eq-eqb (key x) (key y) h)

  pub merge-high : (x y : A) (xs ys : List A) → key y < key x → merge key (x ∷ xs) (y ∷ ys) ≡ y ∷ merge key (x ∷ xs) ys
  unfolding merge
  merge-high x y xs ys h = rw (le-ltb (key x) (key y) (omega arith), ne_eqb (key x) (key y) (λ e. omega arith))

  pub merge_none : (xs : List A) → merge key xs [] ≡ xs
  unfolding merge
  merge_none [] = refl
  merge_none (x ∷ xs) = refl

  -- elements above the first go into the rest
  insert_all-past : (x : A) (xs ys : List A) → over key (key x) ys ≡ true → rising key ys ≡ true → insert_all key ys (x ∷ xs) ≡ x ∷ insert_all key ys xs
  unfolding insert_all over
  insert_all-past x xs [] o s = refl
  insert_all-past x xs (y ∷ ys) o s =
      let l = ltb-true (key x) (key y) o in
      rw (insert-low key y x xs l) (insert_all-past x (insert key y xs) ys (over-less key (key x) (key y) ys (omega arith) (rising-head key y ys s)) (rising-tail key y ys s))

  -- a merge is the second's elements inserted one by one into the first
  pub merge-inserted : (xs ys : List A) → rising key xs ≡ true → rising key ys ≡ true → merge key xs ys ≡ insert_all key ys xs
  unfolding merge insert_all
  merge-inserted [] ys r s = sym (insert_all-self key ys s)
  merge-inserted (x ∷ xs) [] r s = refl
  merge-inserted (x ∷ xs) (y ∷ ys) r s =
      go (cmp (key x) (key y)) (merge-inserted xs (y ∷ ys) (rising-tail key x xs r) s) (merge-inserted xs ys (rising-tail key x xs r) t)
      (merge-inserted (x ∷ xs) ys r t)
    where
      o : over key (key y) ys ≡ true
      o = rising-head key y ys s

      t : rising key ys ≡ true
      t = rising-tail key y ys s

      go : Cmp (key x) (key y) → merge key xs (y ∷ ys) ≡ insert_all key (y ∷ ys) xs → merge key xs ys ≡ insert_all key ys xs → merge key (x ∷ xs) ys ≡ insert_all key ys (x ∷ xs) →
          merge key (x ∷ xs) (y ∷ ys) ≡ insert_all key (y ∷ ys) (x ∷ xs)
      go (low p) a b c = rw (merge_low x y xs ys p, a) (sym (insert_all-past x xs (y ∷ ys) (unfold over in lt-ltb _ _ p) s))
      go (same p) a b c = rw (merge-same x y xs ys p, insert-same key y x xs p, b) (sym (insert_all-past y xs ys o t))
      go (high p) a b c = rw (merge-high x y xs ys p, insert-high key y x xs p, c) (sym (insert_all-past y (x ∷ xs) ys o t))

-- ---- what a merge of rising lists is

module _ {A : Type 0} (key : A → ℕ) (xs ys : List A) (r : rising key xs ≡ true) (s : rising key ys ≡ true) where
  -- the table of the two lists joined
  pub merge-joined : merge key xs ys ≡ insert_all key (xs ++ ys) []
  merge-joined = merge-inserted key xs ys r s ∙ sym (insert_all-append key xs ys [] ∙ ap (insert_all key ys) (insert_all-self key xs r))

  -- it is rising
  pub rising-merge : rising key (merge key xs ys) ≡ true
  rising-merge = rw (merge-inserted key xs ys r s) (rising-insert_all key ys xs r)

  -- what is found: the second's, or else the first's
  pub lookup-merge : (k : ℕ) → lookup key k (merge key xs ys) ≡ or_else (lookup key k ys) (lookup key k xs)
  lookup-merge k = rw (merge-inserted key xs ys r s) (lookup-insert_all key k ys xs (distinct-rising key ys s))

  -- the keys of both are there, and no others
  pub holds-merge : (k : ℕ) → holds key k (merge key xs ys) ≡ if (holds key k ys) true (holds key k xs)
  holds-merge k = rw (merge-inserted key xs ys r s) (holds-insert_all key k ys xs ∙ holds-append key k ys xs)

  -- as many as there are different keys in both
  pub length-merge : length (merge key xs ys) ≡ key_count key (xs ++ ys)
  length-merge = ap length merge-joined ∙ length-insert_all key (xs ++ ys) [] (unfold rising in refl) ∙ ap (key_count key) (append-nil (xs ++ ys))

  -- what all elements of both share
  pub all-merge : (P : A → Type 0) → All P xs → All P ys → All P (merge key xs ys)
  all-merge P a b = rw (merge-inserted key xs ys r s) (all-insert_all key P ys xs b a)
