-- Ordered lists under a map that keeps the keys; what all elements of a list share.
use Prim.Native.Nat.{ℕ}
use mathlib.Core.Bool.{Bool, true, false}
use mathlib.Core.Path.{◌≡◌, refl, sym, ◌∙◌, ap}
use mathlib.Core.List.{List, [], ◌∷◌, ◌++◌, map}
use Rattle.wing_node.specs.Bool.{if}
use Rattle.wing_mirror.specs.Rows.{holds, over, rising, insert, All}
use Rattle.wing_mirror.specs.Table.{every}
use Rattle.wing_mirror.proofs.Tables.Ordered.{Cmp, cmp, low, same, high, insert-low, insert-same, insert-high}

module _ {A B : Type 0} (key : B → ℕ) (rank : A → ℕ) (f : A → B) where
  -- an element whose image stands where it does
  abbrev pub Stands : A → Type 0
  Stands x = key (f x) ≡ rank x

  -- the same keys are there
  pub holds-map : (k : ℕ) (xs : List A) → All Stands xs → holds key k (map f xs) ≡ holds rank k xs
  unfolding holds
  holds-map k [] a = refl
  holds-map k (x ∷ xs) a = rw (a.0, holds-map k xs a.1)

  -- the first key is above the same ones
  over-map : (k : ℕ) (xs : List A) → All Stands xs → over key k (map f xs) ≡ over rank k xs
  unfolding over
  over-map k [] a = refl
  over-map k (x ∷ xs) a = rw a.0

  -- the image rises exactly if the list does
  pub rising-map : (xs : List A) → All Stands xs → rising key (map f xs) ≡ rising rank xs
  unfolding rising
  rising-map [] a = refl
  rising-map (x ∷ xs) a = rw (a.0, over-map (rank x) xs a.1, rising-map xs a.1)

  -- the image of a list with an element put in its place
  pub insert-map : (e : A) (xs : List A) → Stands e → All Stands xs → map f (insert rank e xs) ≡ insert key (f e) (map f xs)
  unfolding insert
  insert-map e [] s a = refl
  insert-map e (x ∷ xs) s a = go (cmp (rank x) (rank e)) (insert-map e xs s a.1)
    where
      go : Cmp (rank x) (rank e) → map f (insert rank e xs) ≡ insert key (f e) (map f xs) → map f (insert rank e (x ∷ xs)) ≡ insert key (f e) (map f (x ∷ xs))
      go (low p) ih = rw (insert-low rank e x xs p, insert-low key (f e) (f x) (map f xs) (rw (s, a.0) p), ih)
      go (same p) ih = rw (insert-same rank e x xs p, insert-same key (f e) (f x) (map f xs) (a.0 ∙ p ∙ sym s))
      go (high p) ih = rw (insert-high rank e x xs p, insert-high key (f e) (f x) (map f xs) (rw (s, a.0) p))

-- what all images share
pub all_map : {A B : Type 0} (f : A → B) (P : A → Type 0) (Q : B → Type 0) (xs : List A) → ((x : A) → P x → Q (f x)) → All P xs → All Q (map f xs)
all_map f P Q [] g h = tt
all_map f P Q (x ∷ xs) g h = (g x h.0, all_map f P Q xs g h.1)

-- what all elements share by something else
pub all-also : {A : Type 0} (P Q : A → Type 0) (xs : List A) → ((x : A) → P x → Q x) → All P xs → All Q xs
all-also P Q [] g h = tt
all-also P Q (x ∷ xs) g h = (g x h.0, all-also P Q xs g h.1)

-- a test that each element passes
pub every-all : {A : Type 0} (p : A → Bool) (xs : List A) → All (λ (x : A). p x ≡ true) xs → every p xs ≡ true
unfolding every
every-all p [] h = refl
every-all p (x ∷ xs) h = rw (h.0, every-all p xs h.1)

-- the same test of the images
pub every_map : {A B : Type 0} (p : A → Bool) (q : B → Bool) (f : A → B) (xs : List A) → All (λ (x : A). p x ≡ q (f x)) xs → every p xs ≡ every q (map f xs)
unfolding every
every_map p q f [] h = refl
every_map p q f (x ∷ xs) h = rw (h.0, every_map p q f xs h.1)

-- one element more at the end
pub every-last : {A : Type 0} (p : A → Bool) (xs : List A) (x : A) → p x ≡ true → every p (xs ++ (x ∷ [])) ≡ every p xs
unfolding every
every-last p [] x h = rw h
every-last p (y ∷ xs) x h = ap (λ (t : Bool). if (p y) t false) (every-last p xs x h)

pub all-last : {A : Type 0} (P : A → Type 0) (xs : List A) (x : A) → All P xs → P x → All P (xs ++ (x ∷ []))
all-last P [] x h p = (p, tt)
all-last P (y ∷ xs) x h p = (h.0, all-last P xs x h.1 p)
