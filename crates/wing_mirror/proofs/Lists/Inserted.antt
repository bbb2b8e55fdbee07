-- A list inserted one by one into a list in rising order: what it holds, what is found in it, how long it is.
use Prim.Native.Nat.{ℕ, suc, ◌≤◌}
use mathlib.Core.Bool.{Bool, true, false}
use mathlib.Core.Path.{◌≡◌, refl, sym, ◌∙◌, ap}
use mathlib.Core.List.{List, [], ◌∷◌, ◌++◌, map}
use native.Mathlib.Omega.{arith}
use borrow.Author.Tests.{eqb-true, eqb-false}
use lib.Dec.{eqb}
use lib.ListN.{length}
use Rattle.wing_node.specs.Bool.{if}
use Rattle.wing_mirror.specs.Rows.{Found, found, nothing, holds, rising, insert, lookup, All}
use Rattle.wing_mirror.specs.Lists.{or_else, insert_all, distinct, key_count}
use Rattle.wing_mirror.proofs.Tables.Ordered.{insert-swap, rising-insert, length-insert, all_insert}
use Rattle.wing_mirror.proofs.Tables.Stays.{lookup-insert}
use Rattle.wing_mirror.proofs.Tables.Images.{Stands, insert-map}
use Rattle.wing_mirror.proofs.Lists.LookedUp.{lookup-none, same-lookups}
use Rattle.wing_mirror.proofs.Lists.Distinct.{holds-between, distinct-first, distinct-rest, distinct-rising, key_count-distinct, key_count-between}

module _ {A : Type 0} (key : A → ℕ) where
  -- joined lists: one after the other
  pub insert_all-append : (xs ys zs : List A) → insert_all key (xs ++ ys) zs ≡ insert_all key ys (insert_all key xs zs)
  unfolding insert_all
  insert_all-append [] ys zs = refl
  insert_all-append (x ∷ xs) ys zs = insert_all-append xs ys (insert key x zs)

  -- it stays rising
  pub rising-insert_all : (xs zs : List A) → rising key zs ≡ true → rising key (insert_all key xs zs) ≡ true
  unfolding insert_all
  rising-insert_all [] zs r = r
  rising-insert_all (x ∷ xs) zs r = rising-insert_all xs (insert key x zs) (rising-insert key x zs r)

  -- what all share, all share after
  pub all-insert_all : (P : A → Type 0) (xs zs : List A) → All P xs → All P zs → All P (insert_all key xs zs)
  unfolding insert_all
  all-insert_all P [] zs h g = g
  all-insert_all P (x ∷ xs) zs h g = all-insert_all P xs (insert key x zs) h.1 (all_insert key P x zs h.0 g)

  -- the keys of both are there, and no others
  pub holds-insert_all : (k : ℕ) (xs zs : List A) → holds key k (insert_all key xs zs) ≡ holds key k (xs ++ zs)
  unfolding insert_all holds
  holds-insert_all k [] zs = refl
  holds-insert_all k (x ∷ xs) zs = holds-insert_all k xs (insert key x zs) ∙ holds-between key k x xs zs

  -- an element whose key comes no more may as well be inserted last
  pub insert-late : (x : A) (xs zs : List A) → holds key (key x) xs ≡ false → insert_all key xs (insert key x zs) ≡ insert key x (insert_all key xs zs)
  unfolding insert_all holds
  insert-late x [] zs h = refl
  insert-late x (y ∷ xs) zs h = go (eqb (key y) (key x)) refl h (insert-late x xs (insert key y zs))
    where
      go : (t : Bool) → eqb (key y) (key x) ≡ t → if t true (holds key (key x) xs) ≡ false →
          (holds key (key x) xs ≡ false → insert_all key xs (insert key x (insert key y zs)) ≡ insert key x (insert_all key xs (insert key y zs))) →
          insert_all key xs (insert key y (insert key x zs)) ≡ insert key x (insert_all key xs (insert key y zs))
      go true q n ih = cc
      go false q n ih = ap (insert_all key xs) (sym (insert-swap key x y zs (eqb-false (key y) (key x) q))) ∙ ih n

  -- what is found in the list inserted, or else what was found before
  pub lookup-insert_all : (k : ℕ) (xs zs : List A) → distinct key xs ≡ true → lookup key k (insert_all key xs zs) ≡ or_else (lookup key k xs) (lookup key k zs)
  unfolding insert_all lookup or_else
  lookup-insert_all k [] zs d = refl
  lookup-insert_all k (x ∷ xs) zs d = lookup-insert_all k xs (insert key x zs) (distinct-rest key x xs d) ∙ rw (lookup-insert key k x zs) (go (eqb (key x) k) refl)
    where
      go : (t : Bool) → eqb (key x) k ≡ t → or_else (lookup key k xs) (if t (found x) (lookup key k zs)) ≡ or_else (if t (found x) (lookup key k xs)) (lookup key k zs)
      go true q = rw (← eqb-true (key x) k q, lookup-none key (key x) xs (distinct-first key x xs d))
      go false q = refl

  -- a rising list is the table of its own elements
  pub insert_all-self : (xs : List A) → rising key xs ≡ true → insert_all key xs [] ≡ xs
  unfolding lookup
  insert_all-self xs r = same-lookups key (insert_all key xs []) xs (rising-insert_all xs [] (unfold rising in refl)) r (λ k. lookup-insert_all k xs [] (distinct-rising key xs r) ∙ go (lookup key k xs))
    where
      go : (f : Found A) → or_else f nothing ≡ f
      go (found x) = unfold or_else in refl
      go nothing = unfold or_else in refl

  -- ---- how many

  -- never shorter than it was
  pub insert_all-grows : (xs zs : List A) → rising key zs ≡ true → length zs ≤ length (insert_all key xs zs)
  unfolding insert_all
  insert_all-grows [] zs r = omega arith
  insert_all-grows (x ∷ xs) zs r = let m = insert_all-grows xs (insert key x zs) (rising-insert key x zs r) in let n = go (holds key (key x) zs) (length-insert key x zs r) in omega arith
    where
      go : (t : Bool) → length (insert key x zs) ≡ if t (length zs) (suc (length zs)) → length zs ≤ length (insert key x zs)
      go true h = omega arith
      go false h = omega arith

  -- no list on the way is longer than the last
  pub insert_all-grows-on : (xs ys zs : List A) → rising key zs ≡ true → length (insert_all key xs zs) ≤ length (insert_all key (xs ++ ys) zs)
  insert_all-grows-on xs ys zs r = rw (insert_all-append xs ys zs) (insert_all-grows ys (insert_all key xs zs) (rising-insert_all xs zs r))

  -- as many as there are different keys in both
  pub length-insert_all : (xs zs : List A) → rising key zs ≡ true → length (insert_all key xs zs) ≡ key_count key (xs ++ zs)
  unfolding insert_all
  length-insert_all [] zs r = sym (key_count-distinct key zs (distinct-rising key zs r))
  length-insert_all (x ∷ xs) zs r = length-insert_all xs (insert key x zs) (rising-insert key x zs r) ∙ key_count-between key x xs zs r

-- the image of a list with others inserted, under a map that keeps the keys
pub insert_all-map : {A B : Type 0} (key : B → ℕ) (rank : A → ℕ) (f : A → B) (es xs : List A) → All (Stands key rank f) es → All (Stands key rank f) xs →
    map f (insert_all rank es xs) ≡ insert_all key (map f es) (map f xs)
unfolding insert_all
insert_all-map key rank f [] xs s a = refl
insert_all-map key rank f (e ∷ es) xs s a =
    insert_all-map key rank f es (insert rank e xs) s.1 (all_insert rank (Stands key rank f) e xs s.0 a)
    ∙ ap (insert_all key (map f es)) (insert-map key rank f e xs s.0 a)
