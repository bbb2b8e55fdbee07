-- The keys of a list: which there are, whether all are different, how many.
use Prim.Native.Nat.{ℕ, suc, ◌≤◌}
use mathlib.Core.Bool.{Bool, true, false}
use mathlib.Core.Path.{◌≡◌, refl, sym, ◌∙◌}
use mathlib.Core.List.{List, [], ◌∷◌, ◌++◌}
use native.Mathlib.Omega.{arith}
use borrow.Author.Tests.{eq-eqb, ne_eqb}
use lib.Dec.{eqb}
use lib.ListN.{length}
use Rattle.wing_node.specs.Bool.{if}
use Rattle.wing_mirror.specs.Rows.{holds, rising, insert}
use Rattle.wing_mirror.specs.Lists.{distinct, key_count}
use Rattle.wing_mirror.proofs.Tables.Ordered.{Cmp, cmp, low, same, high, rising-head, rising-tail, rising-insert, over-holds, holds-insert, length-insert}

module _ {A : Type 0} (key : A → ℕ) where
  -- ---- which

  pub holds-append : (k : ℕ) (xs zs : List A) → holds key k (xs ++ zs) ≡ if (holds key k xs) true (holds key k zs)
  unfolding holds
  holds-append k [] zs = refl
  holds-append k (x ∷ xs) zs = go (eqb (key x) k) (holds-append k xs zs)
    where
      go : (t : Bool) → holds key k (xs ++ zs) ≡ if (holds key k xs) true (holds key k zs) →
          if t true (holds key k (xs ++ zs)) ≡ if (if t true (holds key k xs)) true (holds key k zs)
      go true ih = refl
      go false ih = ih

  -- two neighbours in either order
  pub holds-swap : (k : ℕ) (x y : A) (zs : List A) → holds key k (x ∷ (y ∷ zs)) ≡ holds key k (y ∷ (x ∷ zs))
  unfolding holds
  holds-swap k x y zs = go (eqb (key x) k) (eqb (key y) k)
    where
      go : (t u : Bool) → if t true (if u true (holds key k zs)) ≡ if u true (if t true (holds key k zs))
      go true true = refl
      go true false = refl
      go false true = refl
      go false false = refl

  -- one inserted after others, and one before them
  pub holds-between : (k : ℕ) (x : A) (xs zs : List A) → holds key k (xs ++ insert key x zs) ≡ holds key k (x ∷ (xs ++ zs))
  unfolding holds
  holds-between k x [] zs = holds-insert key k x zs
  holds-between k x (y ∷ xs) zs = rw (holds-between k x xs zs) (holds-swap k y x (xs ++ zs))

  -- ---- whether all are different

  pub distinct-first : (x : A) (xs : List A) → distinct key (x ∷ xs) ≡ true → holds key (key x) xs ≡ false
  unfolding distinct
  distinct-first x xs d = go (holds key (key x) xs) d
    where
      go : (t : Bool) → if t false (distinct key xs) ≡ true → t ≡ false
      go true h = sym h
      go false h = refl

  pub distinct-rest : (x : A) (xs : List A) → distinct key (x ∷ xs) ≡ true → distinct key xs ≡ true
  unfolding distinct
  distinct-rest x xs d = rw (distinct-first x xs d) at d

  -- the first two
  pub distinct-two : (x y : A) (zs : List A) → distinct key (x ∷ (y ∷ zs)) ≡ true → key x ≡ key y → ⊥
  unfolding holds
  distinct-two x y zs d e =
      let n : holds key (key x) (y ∷ zs) ≡ false = distinct-first x (y ∷ zs) d in
      let z : true ≡ false = rw (eq-eqb (key y) (key x) (sym e)) at n in
      let w : ◌≡◌ {A = ℕ} 0 1 = cc in
      omega arith

  -- a rising list has different keys
  pub distinct-rising : (xs : List A) → rising key xs ≡ true → distinct key xs ≡ true
  unfolding distinct
  distinct-rising [] r = refl
  distinct-rising (x ∷ xs) r =
      rw (over-holds key (key x) (key x) xs (rising-tail key x xs r) (rising-head key x xs r) (omega arith)) (distinct-rising xs (rising-tail key x xs r))

  -- whatever is made of each element's 'its key comes again', two neighbours may change places if the two tests may
  swapped : {B : Type 0} (f : Bool → B → B) → ((t u : Bool) (b : B) → f t (f u b) ≡ f u (f t b)) → (x y : A) (zs : List A) (b : B) →
      f (holds key (key x) (y ∷ zs)) (f (holds key (key y) zs) b) ≡ f (holds key (key y) (x ∷ zs)) (f (holds key (key x) zs) b)
  unfolding holds
  swapped {B} f g x y zs b = go (cmp (key x) (key y))
    where
      Swapped : Type 0
      Swapped = f (holds key (key x) (y ∷ zs)) (f (holds key (key y) zs) b) ≡ f (holds key (key y) (x ∷ zs)) (f (holds key (key x) zs) b)

      apart : (key x ≡ key y → ⊥) → Swapped
      apart n = rw (ne_eqb (key x) (key y) n, ne_eqb (key y) (key x) (λ e. n (sym e))) (g (holds key (key x) zs) (holds key (key y) zs) b)

      go : Cmp (key x) (key y) → Swapped
      go (low l) = apart (λ e. omega arith)
      go (same e) = simp (e, eq-eqb (key y) (key y) refl)
      go (high l) = apart (λ e. omega arith)

  pub distinct-swap : (x y : A) (zs : List A) → distinct key (x ∷ (y ∷ zs)) ≡ distinct key (y ∷ (x ∷ zs))
  unfolding distinct
  distinct-swap x y zs = swapped (λ t v. if t false v) go x y zs (distinct key zs)
    where
      go : (t u v : Bool) → if t false (if u false v) ≡ if u false (if t false v)
      go true true v = refl
      go true false v = refl
      go false true v = refl
      go false false v = refl

  -- ---- how many

  pub key_count-swap : (x y : A) (zs : List A) → key_count key (x ∷ (y ∷ zs)) ≡ key_count key (y ∷ (x ∷ zs))
  unfolding key_count
  key_count-swap x y zs = swapped (λ t n. if t n (suc n)) go x y zs (key_count key zs)
    where
      go : (t u : Bool) (n : ℕ) → if t (if u n (suc n)) (suc (if u n (suc n))) ≡ if u (if t n (suc n)) (suc (if t n (suc n)))
      go true true n = refl
      go true false n = refl
      go false true n = refl
      go false false n = refl

  -- elements of different keys are as many as their keys
  pub key_count-distinct : (xs : List A) → distinct key xs ≡ true → key_count key xs ≡ length xs
  unfolding key_count
  key_count-distinct [] d = refl
  key_count-distinct (x ∷ xs) d = rw (distinct-first x xs d, key_count-distinct xs (distinct-rest x xs d))

  -- there are at most as many keys as elements
  pub key_count-most : (xs : List A) → key_count key xs ≤ length xs
  unfolding key_count
  key_count-most [] = omega arith
  key_count-most (x ∷ xs) = go (holds key (key x) xs) (key_count-most xs)
    where
      go : (t : Bool) → key_count key xs ≤ length xs → if t (key_count key xs) (suc (key_count key xs)) ≤ suc (length xs)
      go true ih = omega arith
      go false ih = omega arith

  -- one inserted after others, and one before them
  pub key_count-between : (x : A) (xs zs : List A) → rising key zs ≡ true → key_count key (xs ++ insert key x zs) ≡ key_count key (x ∷ (xs ++ zs))
  unfolding key_count
  key_count-between x [] zs r =
      key_count-distinct (insert key x zs) (distinct-rising (insert key x zs) (rising-insert key x zs r)) ∙ length-insert key x zs r
      ∙ rw (key_count-distinct zs (distinct-rising zs r))
  key_count-between x (y ∷ xs) zs r = rw (holds-between (key y) x xs zs, key_count-between x xs zs r) (key_count-swap y x (xs ++ zs))
