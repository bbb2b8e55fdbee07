-- Laws of lists in rising order of a key, for any elements and any key.
use Prim.Native.Nat.{ℕ, suc, ◌≤◌, ◌<◌}
use mathlib.Core.Bool.{Bool, true, false}
use mathlib.Core.Path.{◌≡◌, refl, sym, ◌∙◌}
use mathlib.Core.List.{List, [], ◌∷◌}
use native.Mathlib.Omega.{arith}
use borrow.Author.Tests.{lt-ltb, le-ltb, eq-eqb, ne_eqb, ltb-true, ltb-false, eqb-true, eqb-false}
use lib.Dec.{ltb, eqb}
use lib.ListN.{length}
use Rattle.wing_node.specs.Bool.{if}
use Rattle.wing_mirror.specs.Rows.{holds, over, rising, insert, All}

pub data Cmp (a b : ℕ) : Type 0 where
  low : a < b → Cmp a b
  same : a ≡ b → Cmp a b
  high : b < a → Cmp a b

pub cmp : (a b : ℕ) → Cmp a b
cmp a b = go (ltb a b) refl (eqb a b) refl
  where
    go : (s : Bool) → ltb a b ≡ s → (t : Bool) → eqb a b ≡ t → Cmp a b
    go true p t q = low (ltb-true a b p)
    go false p true q = same (eqb-true a b q)
    go false p false q = let n = eqb-false a b q in let l = ltb-false a b p in high (omega (arith, n))

-- one more, of a number and the next
pub suc-if : (t : Bool) (n : ℕ) → suc (if t n (suc n)) ≡ if t (suc n) (suc (suc n))
suc-if true n = refl
suc-if false n = refl

module _ {A : Type 0} (key : A → ℕ) where
  pub insert-low : (e x : A) (xs : List A) → key x < key e → insert key e (x ∷ xs) ≡ x ∷ insert key e xs
  unfolding insert
  insert-low e x xs h = rw (lt-ltb (key x) (key e) h)

  pub insert-same : (e x : A) (xs : List A) → key x ≡ key e → insert key e (x ∷ xs) ≡ e ∷ xs
  unfolding insert
  insert-same e x xs h = rw (le-ltb (key x) (key e) (omega arith), eq-eqb (key x) (key e) h)

  pub insert-high : (e x : A) (xs : List A) → key e < key x → insert key e (x ∷ xs) ≡ e ∷ (x ∷ xs)
  unfolding insert
  insert-high e x xs h = rw (le-ltb (key x) (key e) (omega arith), ne_eqb (key x) (key e) (omega arith))

  -- an element below all goes in front
  pub insert-front : (e : A) (xs : List A) → over key (key e) xs ≡ true → insert key e xs ≡ e ∷ xs
  unfolding insert over
  insert-front e [] h = refl
  insert-front e (x ∷ xs) h = insert-high e x xs (ltb-true _ _ h)

  pub over-insert : (k : ℕ) (e : A) (xs : List A) → k < key e → over key k xs ≡ true → over key k (insert key e xs) ≡ true
  unfolding insert over
  over-insert k e [] h o = lt-ltb _ _ h
  over-insert k e (x ∷ xs) h o = go (cmp (key x) (key e))
    where
      go : Cmp (key x) (key e) → over key k (insert key e (x ∷ xs)) ≡ true
      go (low p) = rw (insert-low e x xs p) o
      go (same p) = rw (insert-same e x xs p) (lt-ltb _ _ h)
      go (high p) = rw (insert-high e x xs p) (lt-ltb _ _ h)

  pub insert-again : (e x : A) (ys : List A) → key x ≡ key e → insert key e (insert key x ys) ≡ insert key e ys
  unfolding insert
  insert-again e x [] h = insert-same e x [] h
  insert-again e x (y ∷ ys) h = go (cmp (key y) (key e)) (insert-again e x ys h)
    where
      go : Cmp (key y) (key e) → insert key e (insert key x ys) ≡ insert key e ys → insert key e (insert key x (y ∷ ys)) ≡ insert key e (y ∷ ys)
      go (low p) ih = rw (insert-low x y ys (omega arith), insert-low e y (insert key x ys) p, insert-low e y ys p, ih)
      go (same p) ih = rw (insert-same x y ys (omega arith), insert-same e x ys h, insert-same e y ys p)
      go (high p) ih = rw (insert-high x y ys (omega arith), insert-same e x (y ∷ ys) h, insert-high e y ys p)

  swap-up : (e x : A) (ys : List A) → key x < key e → insert key e (insert key x ys) ≡ insert key x (insert key e ys)
  unfolding insert
  swap-up e x [] h = insert-low e x [] h ∙ sym (insert-high x e [] h)
  swap-up e x (y ∷ ys) h = go (cmp (key y) (key x)) (swap-up e x ys h)
    where
      go : Cmp (key y) (key x) → insert key e (insert key x ys) ≡ insert key x (insert key e ys) → insert key e (insert key x (y ∷ ys)) ≡ insert key x (insert key e (y ∷ ys))
      go (low p) ih = rw (insert-low x y ys p, insert-low e y (insert key x ys) (omega arith), insert-low e y ys (omega arith), insert-low x y (insert key e ys) p, ih)
      go (same p) ih = rw (insert-same x y ys p, insert-low e x ys h, insert-low e y ys (omega arith), insert-same x y (insert key e ys) p)
      go (high p) ih = rw (insert-high x y ys p, insert-low e x (y ∷ ys) h) (sym (insert-front x (insert key e (y ∷ ys)) (over-insert (key x) e (y ∷ ys) h (unfold over in lt-ltb _ _ p))))

  pub insert-swap : (e x : A) (ys : List A) → (key x ≡ key e → ⊥) → insert key e (insert key x ys) ≡ insert key x (insert key e ys)
  insert-swap e x ys h = go (cmp (key x) (key e))
    where
      go : Cmp (key x) (key e) → insert key e (insert key x ys) ≡ insert key x (insert key e ys)
      go (low p) = swap-up e x ys p
      go (same p) = absurd (h p)
      go (high p) = sym (swap-up x e ys p)

  -- a rising list stays rising
  pub rising-cons : (x : A) (xs : List A) → over key (key x) xs ≡ true → rising key xs ≡ true → rising key (x ∷ xs) ≡ true
  unfolding rising
  rising-cons x xs o r = rw (o, r)

  pub rising-head : (x : A) (xs : List A) → rising key (x ∷ xs) ≡ true → over key (key x) xs ≡ true
  unfolding rising
  rising-head x xs r = go (over key (key x) xs) refl
    where
      go : (t : Bool) → over key (key x) xs ≡ t → over key (key x) xs ≡ true
      go true q = q
      go false q = cc (rw q at r)

  pub rising-tail : (x : A) (xs : List A) → rising key (x ∷ xs) ≡ true → rising key xs ≡ true
  unfolding rising
  rising-tail x xs r = rw (rising-head x xs r) at r

  pub rising-insert : (e : A) (xs : List A) → rising key xs ≡ true → rising key (insert key e xs) ≡ true
  unfolding insert rising over
  rising-insert e [] r = refl
  rising-insert e (x ∷ xs) r = go (cmp (key x) (key e)) (rising-insert e xs (rising-tail x xs r))
    where
      o : over key (key x) xs ≡ true
      o = rising-head x xs r

      go : Cmp (key x) (key e) → rising key (insert key e xs) ≡ true → rising key (insert key e (x ∷ xs)) ≡ true
      go (low p) ih = rw (insert-low e x xs p) (rising-cons x (insert key e xs) (over-insert (key x) e xs p o) ih)
      go (same p) ih = rw (insert-same e x xs p) (rising-cons e xs (rw p at o) (rising-tail x xs r))
      go (high p) ih = rw (insert-high e x xs p) (rising-cons e (x ∷ xs) (lt-ltb _ _ p) r)

  -- which keys are there
  pub holds-insert : (k : ℕ) (e : A) (xs : List A) → holds key k (insert key e xs) ≡ if (eqb (key e) k) true (holds key k xs)
  unfolding insert holds
  holds-insert k e [] = refl
  holds-insert k e (x ∷ xs) = go (cmp (key x) (key e)) (holds-insert k e xs)
    where
      swap : (a b c : Bool) → if a true (if b true c) ≡ if b true (if a true c)
      swap true true c = refl
      swap true false c = refl
      swap false true c = refl
      swap false false c = refl

      go : Cmp (key x) (key e) → holds key k (insert key e xs) ≡ if (eqb (key e) k) true (holds key k xs) → holds key k (insert key e (x ∷ xs)) ≡ if (eqb (key e) k) true (holds key k (x ∷ xs))
      go (low p) ih = rw (insert-low e x xs p, ih) (swap (eqb (key x) k) (eqb (key e) k) (holds key k xs))
      go (same p) ih = rw (insert-same e x xs p, p) (twice (eqb (key e) k) (holds key k xs))
        where
          twice : (a c : Bool) → if a true c ≡ if a true (if a true c)
          twice true c = refl
          twice false c = refl
      go (high p) ih = rw (insert-high e x xs p)

  -- nothing at or below k
  pub over-holds : (k j : ℕ) (xs : List A) → rising key xs ≡ true → over key j xs ≡ true → k ≤ j → holds key k xs ≡ false
  unfolding holds over
  over-holds k j [] r o h = refl
  over-holds k j (x ∷ xs) r o h =
      let l = ltb-true j (key x) o in
      rw (ne_eqb (key x) k (omega arith)) (over-holds k (key x) xs (rising-tail x xs r) (rising-head x xs r) (omega arith))

  -- one more, unless the key was there
  pub length-insert : (e : A) (xs : List A) → rising key xs ≡ true → length (insert key e xs) ≡ if (holds key (key e) xs) (length xs) (suc (length xs))
  unfolding insert holds
  length-insert e [] r = refl
  length-insert e (x ∷ xs) r = go (cmp (key x) (key e)) (length-insert e xs (rising-tail x xs r))
    where
      go : Cmp (key x) (key e) → length (insert key e xs) ≡ if (holds key (key e) xs) (length xs) (suc (length xs)) → length (insert key e (x ∷ xs)) ≡ if (holds key (key e) (x ∷ xs)) (length (x ∷ xs)) (suc (length (x ∷ xs)))
      go (low p) ih = rw (insert-low e x xs p, ne_eqb (key x) (key e) (omega arith), ih) (suc-if (holds key (key e) xs) (length xs))
      go (same p) ih = rw (insert-same e x xs p, eq-eqb (key x) (key e) p)
      go (high p) ih = rw (insert-high e x xs p, ne_eqb (key x) (key e) (omega arith), over-holds (key e) (key x) xs (rising-tail x xs r) (rising-head x xs r) (omega arith))

pub all_insert : {A : Type 0} (key : A → ℕ) (P : A → Type 0) (e : A) (xs : List A) → P e → All P xs → All P (insert key e xs)
unfolding insert
all_insert key P e [] p h = (p, tt)
all_insert key P e (x ∷ xs) p h = go (cmp (key x) (key e)) (all_insert key P e xs p h.1)
  where
    go : Cmp (key x) (key e) → All P (insert key e xs) → All P (insert key e (x ∷ xs))
    go (low q) ih = rw (insert-low key e x xs q) (h.0, ih)
    go (same q) ih = rw (insert-same key e x xs q) (p, h.1)
    go (high q) ih = rw (insert-high key e x xs q) (p, h)
