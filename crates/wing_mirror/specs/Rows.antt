-- A table: records of w bytes each at the front of a buffer, in strictly rising order of their keys. Any width, any key.
use Rattle.std.specs.Prelude.{ℕ, zero, suc, ◌+◌, ◌*◌, ◌/◌, ◌≤◌, Bool, true, false, List, [], ◌∷◌, ◌++◌, ◌≡◌, ◌⊎◌, ltb, eqb, length, take, drop}
use Rattle.wing_node.specs.Bool.{if}
use Rattle.wing_node.specs.Bytes.{joined}

-- one, or none
pub data Found (A : Type 0) : Type 0 where
  found : A → Found A
  nothing : Found A

-- the first n records of a buffer
unfoldable pub records : ℕ → ℕ → List ℕ → List (List ℕ)
records w zero buf = []
records w (suc n) buf = take w buf ∷ records w n (drop w buf)

-- the record of a number
abbrev pub row : ℕ → ℕ → List ℕ → List ℕ
row w number buf = take w (drop (w * number) buf)

-- records at the front of a buffer, whose bytes after them are as they were
unfoldable pub laid : ℕ → List (List ℕ) → List ℕ → List ℕ
laid w rs buf = joined rs ++ drop (w * length rs) buf

module _ {A : Type 0} (key : A → ℕ) where
  -- some element has the key k
  unfoldable pub holds : ℕ → List A → Bool
  holds k [] = false
  holds k (x ∷ xs) = if (eqb (key x) k) true (holds k xs)

  -- how many elements stand before the first whose key is k or more
  unfoldable pub below : ℕ → List A → ℕ
  below k [] = 0
  below k (x ∷ xs) = if (ltb (key x) k) (suc (below k xs)) 0

  -- the first key is above k
  unfoldable pub over : ℕ → List A → Bool
  over k [] = true
  over k (x ∷ xs) = ltb k (key x)

  -- strictly rising keys
  unfoldable pub rising : List A → Bool
  rising [] = true
  rising (x ∷ xs) = if (over (key x) xs) (rising xs) false

  -- into its place, instead of the element with the same key if there is one
  unfoldable pub insert : A → List A → List A
  insert e [] = e ∷ []
  insert e (x ∷ xs) = if (ltb (key x) (key e)) (x ∷ insert e xs) (if (eqb (key x) (key e)) (e ∷ xs) (e ∷ (x ∷ xs)))

  -- an element by its key
  unfoldable pub lookup : ℕ → List A → Found A
  lookup k [] = nothing
  lookup k (x ∷ xs) = if (eqb (key x) k) (found x) (lookup k xs)

  -- the number of an element by its key
  unfoldable pub number_of : ℕ → List A → Found ℕ
  number_of k xs = if (holds k xs) (found (below k xs)) nothing

-- a table: a buffer, and how many records stand at its front
pub record Table : Type 0 where
  pub buffer : List ℕ
  pub count : ℕ

module _ (w : ℕ) where
  -- 01: places = buffer length div the width
  abbrev pub places : Table → ℕ
  places t = length t.buffer / w

  -- a table's records
  abbrev pub rows_of : Table → List (List ℕ)
  rows_of t = records w t.count t.buffer

  module _ (key : List ℕ → ℕ) where
    -- the record after that of a number, if there is one, has a higher key
    unfoldable pub next_above : List ℕ → ℕ → ℕ → Bool
    next_above buf count number = if (ltb (number + 1) count) (ltb (key (row w number buf)) (key (row w (number + 1) buf))) true

    -- its key has a record, or a place is free
    unfoldable pub takes : List ℕ → Table → Bool
    takes r t = if (holds key (key r) (rows_of t)) true (ltb t.count (places t))

    -- the record stored: in its place, or instead of the one with its key
    unfoldable pub store : List ℕ → Table → Table
    store r t = record { buffer = laid w (insert key r (rows_of t)) t.buffer; count = length (insert key r (rows_of t)) }

    -- what a put leaves: the records with the new one, in order; what lookup finds now; the bytes past the last record, and the buffer's length
    pub record StoreLaws (r : List ℕ) (t : Table) : Type 0 where
      pub rows : rows_of (store r t) ≡ insert key r (rows_of t)
      pub sorted : rising key (rows_of (store r t)) ≡ true
      pub finds : (k : ℕ) → lookup key k (rows_of (store r t)) ≡ if (eqb (key r) k) (found r) (lookup key k (rows_of t))
      pub counted : (store r t).count ≡ if (holds key (key r) (rows_of t)) t.count (suc t.count)
      pub room : (store r t).count ≤ places (store r t)
      pub rest : drop (w * (store r t).count) (store r t).buffer ≡ drop (w * (store r t).count) t.buffer
      pub size : length (store r t).buffer ≡ length t.buffer

-- each of the elements has it
abbrev pub All {ℓ} : {A : Type ℓ} → (A → Type 0) → List A → Type 0
All P [] = Unit {0}
All P (x ∷ xs) = P x × All P xs

-- x is one of the elements
abbrev pub In : {A : Type 0} → A → List A → Type 0
In x [] = ⊥
In x (y ∷ ys) = (x ≡ y) ⊎ In x ys
