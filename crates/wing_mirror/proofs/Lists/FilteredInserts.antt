-- A filtered list in rising order into which an element is inserted, and the elements but those of one key.
use Prim.Native.Nat.{ℕ}
use mathlib.Core.Bool.{Bool, true, false, not}
use mathlib.Core.Path.{◌≡◌, refl, sym, ◌∙◌, ap}
use mathlib.Core.List.{List, [], ◌∷◌}
use native.Mathlib.Omega.{arith}
use borrow.Author.Tests.{eq-eqb, ne_eqb}
use lib.Dec.{eqb}
use Rattle.wing_node.specs.Bool.{if}
use Rattle.wing_mirror.specs.Rows.{Found, found, nothing, holds, rising, insert, lookup}
use Rattle.wing_mirror.specs.Table.{every}
use Rattle.wing_mirror.specs.Lists.{filter, insert_all}
use Rattle.wing_mirror.proofs.Tables.Ordered.{Cmp, cmp, low, same, high, rising-insert}
use Rattle.wing_mirror.proofs.Tables.Stays.{lookup-insert}
use Rattle.wing_mirror.proofs.Lists.LookedUp.{passing, lookup-none, lookup_key, same-lookups}
use Rattle.wing_mirror.proofs.Lists.Filtered.{rising-filter, lookup-filter}

module _ {A : Type 0} (key : A → ℕ) where
  -- an element of another key
  abbrev pub other : ℕ → A → Bool
  other k x = not (eqb (key x) k)

  -- all are found but the one that is left out
  pub lookup-other : (j k : ℕ) (xs : List A) → rising key xs ≡ true → lookup key k (filter (other j) xs) ≡ if (eqb j k) nothing (lookup key k xs)
  unfolding passing
  lookup-other j k xs r = lookup-filter key (other j) k xs r ∙ go (lookup key k xs) (lookup_key key k xs) (cmp j k)
    where
      go : (f : Found A) → ((x : A) → f ≡ found x → key x ≡ k) → Cmp j k → passing (other j) f ≡ if (eqb j k) nothing f
      go nothing h c = sym (both (eqb j k))
        where
          both : (t : Bool) → ◌≡◌ {A = Found A} (if t nothing nothing) nothing
          both true = refl
          both false = refl
      go (found x) h (low l) = let e = h x refl in rw (ne_eqb (key x) j (λ d. omega arith), ne_eqb j k (λ d. omega arith))
      go (found x) h (same l) = let e = h x refl in rw (eq-eqb (key x) j (omega arith), eq-eqb j k l)
      go (found x) h (high l) = let e = h x refl in rw (ne_eqb (key x) j (λ d. omega arith), ne_eqb j k (λ d. omega arith))

  -- where none has the key, none is left out
  pub filter-other : (k : ℕ) (xs : List A) → rising key xs ≡ true → holds key k xs ≡ false → filter (other k) xs ≡ xs
  filter-other k xs r h = same-lookups key (filter (other k) xs) xs (rising-filter key (other k) xs r) r (λ j. lookup-other k j xs r ∙ go j (cmp k j))
    where
      go : (j : ℕ) → Cmp k j → if (eqb k j) nothing (lookup key j xs) ≡ lookup key j xs
      go j (low l) = rw (ne_eqb k j (λ d. omega arith))
      go j (same l) = rw (eq-eqb k j l, ← l) (sym (lookup-none key k xs h))
      go j (high l) = rw (ne_eqb k j (λ d. omega arith))

-- ---- an element inserted

module _ {A : Type 0} (key : A → ℕ) (p : A → Bool) (e : A) (xs : List A) (r : rising key xs ≡ true) where
  up : rising key (filter p (insert key e xs)) ≡ true
  up = rising-filter key p (insert key e xs) (rising-insert key e xs r)

  found-now : (k : ℕ) → lookup key k (filter p (insert key e xs)) ≡ passing p (if (eqb (key e) k) (found e) (lookup key k xs))
  found-now k = lookup-filter key p k (insert key e xs) (rising-insert key e xs r) ∙ ap (passing p) (lookup-insert key k e xs)

  -- one that passes: into those that are left
  pub filter-insert : p e ≡ true → filter p (insert key e xs) ≡ insert key e (filter p xs)
  filter-insert h =
      same-lookups key (filter p (insert key e xs)) (insert key e (filter p xs)) up (rising-insert key e (filter p xs) (rising-filter key p xs r))
      (λ k. found-now k ∙ go k (eqb (key e) k) ∙ sym (lookup-insert key k e (filter p xs)))
    where
      go : (k : ℕ) (t : Bool) → passing p (if t (found e) (lookup key k xs)) ≡ if t (found e) (lookup key k (filter p xs))
      go k true = unfold passing in rw h
      go k false = sym (lookup-filter key p k xs r)

  -- one that does not: of those that are left, the one of its key is lost
  pub filter-insert-out : p e ≡ false → filter p (insert key e xs) ≡ filter (other key (key e)) (filter p xs)
  filter-insert-out h =
      same-lookups key (filter p (insert key e xs)) (filter (other key (key e)) (filter p xs)) up (rising-filter key (other key (key e)) (filter p xs) (rising-filter key p xs r))
      (λ k. found-now k ∙ go k (eqb (key e) k) ∙ sym (lookup-other key (key e) k (filter p xs) (rising-filter key p xs r)))
    where
      go : (k : ℕ) (t : Bool) → passing p (if t (found e) (lookup key k xs)) ≡ if t nothing (lookup key k (filter p xs))
      go k true = unfold passing in rw h
      go k false = sym (lookup-filter key p k xs r)

  -- one that does not, and no other of its key is left: nothing is lost
  pub filter-insert-none : p e ≡ false → holds key (key e) (filter p xs) ≡ false → filter p (insert key e xs) ≡ filter p xs
  filter-insert-none h n = filter-insert-out h ∙ filter-other key (key e) (filter p xs) (rising-filter key p xs r) n

-- elements that all pass, inserted one by one
pub filter-insert_all : {A : Type 0} (key : A → ℕ) (p : A → Bool) (es xs : List A) → rising key xs ≡ true → every p es ≡ true → filter p (insert_all key es xs) ≡ insert_all key es (filter p xs)
unfolding insert_all every
filter-insert_all key p [] xs r h = refl
filter-insert_all key p (e ∷ es) xs r h = go (p e) refl h (filter-insert_all key p es (insert key e xs) (rising-insert key e xs r))
  where
    go : (t : Bool) → p e ≡ t → if t (every p es) false ≡ true → (every p es ≡ true → filter p (insert_all key es (insert key e xs)) ≡ insert_all key es (filter p (insert key e xs))) →
        filter p (insert_all key es (insert key e xs)) ≡ insert_all key es (insert key e (filter p xs))
    go true q g ih = ih g ∙ ap (insert_all key es) (filter-insert key p e xs r q)
    go false q g ih = cc
