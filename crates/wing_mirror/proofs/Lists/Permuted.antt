-- Rearranged lists: elements of different keys give the same list, in whatever order they are inserted.
use Prim.Native.Nat.{ℕ, suc}
use mathlib.Core.Bool.{Bool, true, false}
use mathlib.Core.Path.{◌≡◌, refl, sym, ◌∙◌, ap, subst}
use mathlib.Core.List.Permᴰ
use mathlib.Core.List.{List, ◌∷◌, map}
use lib.ListN.{length}
use Rattle.wing_node.specs.Bool.{if}
use Rattle.wing_mirror.specs.Rows.{holds, insert, All}
use Rattle.wing_mirror.specs.Lists.{filter, Rearranged, insert_all, distinct, key_count}
use Rattle.wing_mirror.proofs.Tables.Ordered.{insert-swap}
use Rattle.wing_mirror.proofs.Lists.Distinct.{holds-swap, distinct-rest, distinct-two, distinct-swap, key_count-swap}

-- they are as many
pub rearranged-length : {A : Type 0} {xs ys : List A} → Rearranged xs ys → length xs ≡ length ys
rearranged-length Permᴰ.nil = refl
rearranged-length (Permᴰ.cons e d) = ap suc (rearranged-length d)
rearranged-length (Permᴰ.swap e f) = refl
rearranged-length (Permᴰ.trans c d) = rearranged-length c ∙ rearranged-length d

-- what all elements share, all share after
pub rearranged-all : {A : Type 0} (P : A → Type 0) {xs ys : List A} → Rearranged xs ys → All P xs → All P ys
rearranged-all P Permᴰ.nil h = h
rearranged-all P (Permᴰ.cons e d) h = (subst P e h.0, rearranged-all P d h.1)
rearranged-all P (Permᴰ.swap e f) h = (subst P f h.1.0, (subst P e h.0, h.1.1))
rearranged-all P (Permᴰ.trans c d) h = rearranged-all P d (rearranged-all P c h)

-- their images are rearranged alike
pub rearranged-map : {A B : Type 0} (f : A → B) {xs ys : List A} → Rearranged xs ys → Rearranged (map f xs) (map f ys)
rearranged-map f Permᴰ.nil = Permᴰ.nil
rearranged-map f (Permᴰ.cons e d) = Permᴰ.cons (ap f e) (rearranged-map f d)
rearranged-map f (Permᴰ.swap e d) = Permᴰ.swap (ap f e) (ap f d)
rearranged-map f (Permᴰ.trans c d) = Permᴰ.trans (rearranged-map f c) (rearranged-map f d)

-- so are those that pass
pub rearranged-filter : {A : Type 0} (p : A → Bool) {xs ys : List A} → Rearranged xs ys → Rearranged (filter p xs) (filter p ys)
unfolding filter
rearranged-filter p Permᴰ.nil = Permᴰ.nil
rearranged-filter {A} p (Permᴰ.cons {b = b} {l₁} {l₂} e d) = rw e (go (p b) (rearranged-filter p d))
  where
    go : (t : Bool) → Rearranged (filter p l₁) (filter p l₂) → Rearranged (if t (b ∷ filter p l₁) (filter p l₁)) (if t (b ∷ filter p l₂) (filter p l₂))
    go true ih = Permᴰ.cons refl ih
    go false ih = ih
rearranged-filter {A} p (Permᴰ.swap {a' = a} {b' = b} {l = l} e f) = rw (e, f) (go (p a) (p b))
  where
    go : (t u : Bool) → Rearranged (if u (b ∷ if t (a ∷ filter p l) (filter p l)) (if t (a ∷ filter p l) (filter p l))) (if t (a ∷ if u (b ∷ filter p l) (filter p l)) (if u (b ∷ filter p l) (filter p l)))
    go true true = Permᴰ.swap refl refl
    go true false = Permᴰ.refl (a ∷ filter p l)
    go false true = Permᴰ.refl (b ∷ filter p l)
    go false false = Permᴰ.refl (filter p l)
rearranged-filter p (Permᴰ.trans c d) = Permᴰ.trans (rearranged-filter p c) (rearranged-filter p d)

module _ {A : Type 0} (key : A → ℕ) where
  -- the same keys are there
  pub rearranged-holds : (k : ℕ) {xs ys : List A} → Rearranged xs ys → holds key k xs ≡ holds key k ys
  unfolding holds
  rearranged-holds k Permᴰ.nil = refl
  rearranged-holds k (Permᴰ.cons e d) = rw (e, rearranged-holds k d)
  rearranged-holds k (Permᴰ.swap {a' = a} {b' = b} {l = l} e f) = rw (e, f) (holds-swap key k b a l)
  rearranged-holds k (Permᴰ.trans c d) = rearranged-holds k c ∙ rearranged-holds k d

  -- keys are different exactly if they were
  pub rearranged-distinct : {xs ys : List A} → Rearranged xs ys → distinct key xs ≡ distinct key ys
  unfolding distinct
  rearranged-distinct Permᴰ.nil = refl
  rearranged-distinct (Permᴰ.cons {b = b} e d) = rw (e, rearranged-holds (key b) d, rearranged-distinct d)
  rearranged-distinct (Permᴰ.swap {a' = a} {b' = b} {l = l} e f) = rw (e, f) (distinct-swap key b a l)
  rearranged-distinct (Permᴰ.trans c d) = rearranged-distinct c ∙ rearranged-distinct d

  -- there are as many different keys
  pub rearranged-key_count : {xs ys : List A} → Rearranged xs ys → key_count key xs ≡ key_count key ys
  unfolding key_count
  rearranged-key_count Permᴰ.nil = refl
  rearranged-key_count (Permᴰ.cons {b = b} e d) = rw (e, rearranged-holds (key b) d, rearranged-key_count d)
  rearranged-key_count (Permᴰ.swap {a' = a} {b' = b} {l = l} e f) = rw (e, f) (key_count-swap key b a l)
  rearranged-key_count (Permᴰ.trans c d) = rearranged-key_count c ∙ rearranged-key_count d

  -- elements of different keys, inserted in any order, give one list
  pub rearranged-insert_all : {xs ys : List A} → Rearranged xs ys → distinct key xs ≡ true → (zs : List A) → insert_all key xs zs ≡ insert_all key ys zs
  unfolding insert_all
  rearranged-insert_all Permᴰ.nil h zs = refl
  rearranged-insert_all (Permᴰ.cons {a} {b} {l₁ = l} e d) h zs = rw e (rearranged-insert_all d (distinct-rest key a l h) (insert key b zs))
  rearranged-insert_all (Permᴰ.swap {a} {b} {l = l} e f) h zs = ap (insert_all key l) (insert-swap key b a zs (distinct-two key a b l h) ∙ rw (e, f))
  rearranged-insert_all (Permᴰ.trans c d) h zs = rearranged-insert_all c h zs ∙ rearranged-insert_all d (sym (rearranged-distinct c) ∙ h) zs
