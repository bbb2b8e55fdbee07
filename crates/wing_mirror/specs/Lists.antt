-- Lists of any elements, and lists by a key: filtered, inserted one by one, merged, rearranged.
use Rattle.std.specs.Prelude.{ℕ, suc, Bool, true, false, ltb, eqb}
use mathlib.Core.List.{List, [], ◌∷◌, Permᴰ}
use Rattle.wing_node.specs.Bool.{if}
use Rattle.wing_mirror.specs.Rows.{Found, found, nothing, holds, insert}

-- the elements that pass, in their order
unfoldable pub filter : {A : Type 0} → (A → Bool) → List A → List A
filter p [] = []
filter p (x ∷ xs) = if (p x) (x ∷ filter p xs) (filter p xs)

-- the one found, or else the other
unfoldable pub or_else : {A : Type 0} → Found A → Found A → Found A
or_else nothing other = other
or_else (found x) other = found x

-- the same elements, in any order: permutations as the kit's lists have them (none; the same first element; the first two swapped; one after the other)
abbrev pub Rearranged : {A : Type 0} → List A → List A → Type 0
Rearranged xs ys = Permᴰ xs ys

module _ {A : Type 0} (key : A → ℕ) where
  -- the first list's elements inserted into the second, one by one
  unfoldable pub insert_all : List A → List A → List A
  insert_all [] ys = ys
  insert_all (x ∷ xs) ys = insert_all xs (insert key x ys)

  -- two rising lists in one that rises; where both have the key, the second's element
  unfoldable pub merge : List A → List A → List A
  merge [] ys = ys
  merge (x ∷ xs) [] = x ∷ xs
  merge (x ∷ xs) (y ∷ ys) = if (ltb (key x) (key y)) (x ∷ merge xs (y ∷ ys)) (if (eqb (key x) (key y)) (y ∷ merge xs ys) (y ∷ merge (x ∷ xs) ys))

  -- no two elements have the same key
  unfoldable pub distinct : List A → Bool
  distinct [] = true
  distinct (x ∷ xs) = if (holds key (key x) xs) false (distinct xs)

  -- how many different keys the elements have
  unfoldable pub key_count : List A → ℕ
  key_count [] = 0
  key_count (x ∷ xs) = if (holds key (key x) xs) (key_count xs) (suc (key_count xs))
