-- Search from the high end of a table, for any width and key, and where its answer lies.
use Prim.Native.Nat.{ℕ, zero, suc, ◌+◌, ◌-◌, ◌*◌, ◌≤◌, ◌<◌}
use mathlib.Core.Bool.{Bool, true, false}
use mathlib.Core.Path.{◌≡◌, refl, sym, ◌∙◌, ap, ap₂}
use mathlib.Core.List.{List, [], ◌∷◌, ◌++◌}
use native.Mathlib.Omega.{arith}
use native.Mathlib.Nat.{mul-suc, mul-zero}
use borrow.Author.Tests.{lt-ltb, le-ltb, ltb-true, ne_eqb}
use lib.Dec.{ltb, eqb}
use Rattle.std.proofs.Common.{Ok, Err}
use Rattle.std.specs.Result.{is_ok}
use lib.ListN.{length, take, drop, get_or}
use lib.Seq.{drop-drop, get_or_at}
use Rattle.wing_node.specs.Bool.{if}
use Rattle.wing_mirror.specs.Rows.{row, records, holds, below, over, rising}
use Rattle.wing_mirror.specs.Order.{position, position_of}
use Rattle.wing_mirror.proofs.Tables.Ordered.{rising-cons, rising-head, rising-tail}
use Rattle.wing_mirror.proofs.Tables.Chunks.{length-records}
use Rattle.wing_mirror.proofs.Tables.Numbers.{below-most, placed, found_at}

module _ {A : Type 0} (key : A → ℕ) where
  -- a last element that is not below k
  below_last : (k : ℕ) (xs : List A) (x : A) → k ≤ key x → below key k (xs ++ (x ∷ [])) ≡ below key k xs
  unfolding below
  below_last k [] x h = rw (le-ltb (key x) k h)
  below_last k (y ∷ xs) x h = ap (λ (n : ℕ). if (ltb (key y) k) (suc n) 0) (below_last k xs x h)

  -- a last element that has another key than k
  holds-last : (k : ℕ) (xs : List A) (x : A) → eqb (key x) k ≡ false → holds key k (xs ++ (x ∷ [])) ≡ holds key k xs
  unfolding holds
  holds-last k [] x h = rw h
  holds-last k (y ∷ xs) x h = ap (λ (t : Bool). if (eqb (key y) k) true t) (holds-last k xs x h)

  pub last-above : (y : A) (xs : List A) (x : A) → rising key (y ∷ (xs ++ (x ∷ []))) ≡ true → key y < key x
  last-above y [] x r = ltb-true (key y) (key x) (unfold over in rising-head key y (x ∷ []) r)
  last-above y (z ∷ xs) x r =
      let l : key y < key z = ltb-true (key y) (key z) (unfold over in rising-head key y (z ∷ (xs ++ (x ∷ []))) r) in
      let m : key z < key x = last-above z xs x (rising-tail key y (z ∷ (xs ++ (x ∷ []))) r) in
      omega arith

  -- a last element below k: so are all
  below_all : (k : ℕ) (xs : List A) (x : A) → rising key (xs ++ (x ∷ [])) ≡ true → key x < k → below key k (xs ++ (x ∷ [])) ≡ suc (length xs)
  unfolding below
  below_all k [] x r h = rw (lt-ltb (key x) k h)
  below_all k (y ∷ xs) x r h =
      let l : key y < key x = last-above y xs x r in
      rw (lt-ltb (key y) k (omega arith), below_all k xs x (rising-tail key y (xs ++ (x ∷ [])) r) h)

  over-front : (k : ℕ) (xs ys : List A) → over key k (xs ++ ys) ≡ true → over key k xs ≡ true
  unfolding over
  over-front k [] ys o = refl
  over-front k (x ∷ xs) ys o = o

  pub rising-front : (xs ys : List A) → rising key (xs ++ ys) ≡ true → rising key xs ≡ true
  rising-front [] ys r = unfold rising in refl
  rising-front (x ∷ xs) ys r =
      rising-cons key x xs (over-front (key x) xs ys (rising-head key x (xs ++ ys) r)) (rising-front xs ys (rising-tail key x (xs ++ ys) r))

-- the last record apart
rows_snoc : (w j : ℕ) (b : List ℕ) → records w (suc j) b ≡ records w j b ++ (take w (drop (w * j) b) ∷ [])
unfolding records
rows_snoc w zero b = rw (mul-zero w)
rows_snoc w (suc j) b =
    let y : w * suc j ≡ w + w * j = omega (arith, mul-suc w j) in
    rw (y, ← drop-drop (w * j) w b) (ap (λ (l : List (List ℕ)). take w b ∷ l) (rows_snoc w j (drop w b)))

pub rows_last : (w i : ℕ) (b : List ℕ) → 0 < i → records w i b ≡ records w (i - 1) b ++ (take w (drop (w * (i - 1)) b) ∷ [])
rows_last w zero b h = absurd (omega arith)
rows_last w (suc i) b h = let z : suc i - 1 ≡ i = omega arith in rw z (rows_snoc w i b)

-- ---- what a search answers

pub position-ok : (m at : ℕ) (t : Bool) → Ok m ≡ position at t → (m ≡ at) × (t ≡ true)
position-ok m at true e = (cc, refl)
position-ok m at false e = cc

pub position-err : (m at : ℕ) (t : Bool) → Err m ≡ position at t → (m ≡ at) × (t ≡ false)
position-err m at true e = cc
position-err m at false e = (cc, refl)

pub ok-position : (at : ℕ) (t : Bool) → is_ok (position at t) ≡ t
ok-position at true = refl
ok-position at false = refl

-- a turn of the search: the last of i records has a higher key, a lower one or the one asked
module _ (w : ℕ) (key : List ℕ → ℕ) (k i : ℕ) (b : List ℕ) (some : 0 < i) where
  abbrev front : List (List ℕ)
  front = records w (i - 1) b

  abbrev last : List ℕ
  last = row w (i - 1) b

  abbrev rs : List (List ℕ)
  rs = records w i b

  pub down : k < key last → position_of key k rs ≡ position_of key k front
  down h =
      ap (position_of key k) (rows_last w i b some)
      ∙ ap₂ position (below_last key k front last (omega arith)) (holds-last key k front last (ne_eqb (key last) k (omega arith)))

  module _ (r : rising key rs ≡ true) where
    pub fewer : rising key front ≡ true
    fewer = rising-front key front (last ∷ []) (sym (ap (rising key) (rows_last w i b some)) ∙ r)

    all-below : key last < k → below key k rs ≡ i
    all-below h =
        ap (below key k) (rows_last w i b some)
        ∙ below_all key k front last (sym (ap (rising key) (rows_last w i b some)) ∙ r) h
        ∙ omega (arith, length-records w (i - 1) b)

    -- a key that is there has a number below i
    not_there : below key k rs ≡ i → holds key k rs ≡ false
    not_there e = go (holds key k rs) refl
      where
        go : (t : Bool) → holds key k rs ≡ t → holds key k rs ≡ false
        go true q = absurd (omega (arith, e, (placed key [] k rs r q).0, length-records w i b))
        go false q = q

    pub stops : key last < k → position_of key k rs ≡ position i false
    stops h = ap₂ position (all-below h) (not_there (all-below h))

    pub hits : key last ≡ k → position_of key k rs ≡ position (i - 1) true
    hits e =
        let g : get_or rs (i - 1) [] ≡ last = ap (λ (l : List (List ℕ)). get_or l (i - 1) []) (rows_last w i b some) ∙ get_or_at front last [] [] (i - 1) (length-records w (i - 1) b) in
        let m = found_at key [] k (i - 1) rs r (omega (arith, length-records w i b)) (ap key g ∙ e) in
        ap₂ position m.1 m.0

pub none_left : (w : ℕ) (key : List ℕ → ℕ) (k i : ℕ) (b : List ℕ) → i ≤ 0 → position_of key k (records w i b) ≡ position 0 false
unfolding below holds records
none_left w key k zero b h = refl
none_left w key k (suc i) b h = absurd (omega arith)

-- where the answer lies
module _ (w : ℕ) (key : List ℕ → ℕ) (k n : ℕ) (b : List ℕ) where
  pub at_most : below key k (records w n b) ≤ n
  at_most = omega (arith, below-most key k (records w n b), length-records w n b)

  pub found_below : rising key (records w n b) ≡ true → holds key k (records w n b) ≡ true → below key k (records w n b) < n
  found_below r h = omega (arith, (placed key [] k (records w n b) r h).0, length-records w n b)
