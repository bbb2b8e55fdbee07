-- The test of a table, record by record: records of any width and form.
use Prim.Native.Nat.{ℕ, suc, ◌+◌, ◌-◌, ◌*◌, ◌≤◌, ◌<◌}
use mathlib.Core.Bool.{Bool, true, false}
use mathlib.Core.Path.{◌≡◌, refl, ◌∙◌, ap}
use mathlib.Core.List.{List, [], ◌∷◌}
use native.Mathlib.Omega.{arith}
use native.Mathlib.Nat.{mul-suc}
use native.Mathlib.Numerals.{add-one}
use borrow.Author.Tests.{ltb-true, ltb-false}
use lib.Dec.{ltb}
use lib.ListN.{drop}
use lib.Seq.{drop-drop}
use Rattle.wing_node.specs.Bool.{if}
use Rattle.wing_mirror.specs.Rows.{row, records, over, rising, next_above}
use Rattle.wing_mirror.specs.Record.{key_of}
use Rattle.wing_mirror.specs.Table.{every, passes_at, checked_of}

module _ (w : ℕ) where
  -- the records from the i-th on
  abbrev pub from : ℕ → ℕ → List ℕ → List (List ℕ)
  from n i b = records w (n - i) (drop (w * i) b)

  pub from_all : (n : ℕ) (b : List ℕ) → records w n b ≡ from n 0 b
  from_all n b =
      let z : n - 0 ≡ n = omega arith in
      let y : w * 0 ≡ 0 = omega arith in
      rw (z, y)

  pub from_next : (n i : ℕ) (b : List ℕ) → i < n → from n i b ≡ row w i b ∷ from n (i + 1) b
  unfolding records
  from_next n i b h =
      let z : n - i ≡ suc (n - (i + 1)) = omega arith in
      let y : w * i + w ≡ w * (i + 1) = rw (add-one i) (omega (arith, mul-suc w i)) in
      rw (z, ← y, ← drop-drop w (w * i) b)

  pub from-none : (n i : ℕ) (b : List ℕ) → n ≤ i → from n i b ≡ []
  unfolding records
  from-none n i b h = let z : n - i ≡ 0 = omega arith in rw z

  -- what stands after the i-th
  over-from : (k n i : ℕ) (b : List ℕ) → over key_of k (from n i b) ≡ if (ltb i n) (ltb k (key_of (row w i b))) true
  unfolding over
  over-from k n i b = go (ltb i n) refl
    where
      go : (t : Bool) → ltb i n ≡ t → over key_of k (from n i b) ≡ if t (ltb k (key_of (row w i b))) true
      go true q = ap (over key_of k) (from_next n i b (ltb-true i n q))
      go false q = ap (over key_of k) (from-none n i b (ltb-false i n q))

  -- records of a form, in rising order
  module _ (form : List ℕ → Bool) where
    abbrev tested : List (List ℕ) → Bool
    tested rs = checked_of key_of form rs

    tested-cons : (x : List ℕ) (xs : List (List ℕ)) → tested (x ∷ xs) ≡ if (if (form x) (over key_of (key_of x) xs) false) (tested xs) false
    unfolding checked_of every rising
    tested-cons x xs = go (form x) (over key_of (key_of x) xs) (every form xs) (rising key_of xs)
      where
        go : (f o e r : Bool) → (if (if f e false) (if o r false) false) ≡ if (if f o false) (if e r false) false
        go true true true r = refl
        go true true false r = refl
        go true false true r = refl
        go true false false r = refl
        go false o e r = refl

    -- one record more
    pub turn : (n i : ℕ) (b : List ℕ) → i < n → tested (from n i b) ≡ if (passes_at w key_of form b n i) (tested (from n (i + 1) b)) false
    unfolding next_above passes_at
    turn n i b h =
        ap tested (from_next n i b h) ∙ tested-cons (row w i b) (from n (i + 1) b)
        ∙ ap (λ (t : Bool). if (if (form (row w i b)) t false) (tested (from n (i + 1) b)) false) (over-from (key_of (row w i b)) n (i + 1) b)

    pub all-passed : (n i : ℕ) (b : List ℕ) → n ≤ i → tested (from n i b) ≡ true
    unfolding checked_of every rising
    all-passed n i b h = ap tested (from-none n i b h)
