-- Laws of a table of any width: search, put and what put leaves alone; and put as bytes that move, for the code.
use Prim.Native.Nat.{ℕ, zero, suc, ◌+◌, ◌-◌, ◌*◌, ◌≤◌, ◌<◌}
use mathlib.Core.Bool.{Bool, true, false}
use mathlib.Core.Path.{◌≡◌, refl, sym, ◌∙◌, ap}
use mathlib.Core.List.{List, [], ◌∷◌, ◌++◌, append_assoc}
use native.Mathlib.Omega.{arith}
use native.Mathlib.Nat.{mul-le-mul_left, mul-div-le, mul-suc, mul-zero, sub-zero, mul-sub}
use borrow.Author.Tests.{lt-ltb, le-ltb, eq-eqb, ne_eqb, ltb-true}
use lib.Dec.{ltb, eqb}
use lib.ListN.{length, take, drop, length-append, length-drop, length-take, take-append-drop}
use lib.Seq.{drop-drop}
use Rattle.wing_node.specs.Bool.{if}
use Rattle.wing_node.specs.Bytes.{joined}
use Rattle.wing_mirror.specs.Rows.{found, records, laid, holds, below, rising, insert, lookup, Table, places, rows_of, takes, store, StoreLaws}
use Rattle.wing_mirror.proofs.Tables.Ordered.{Cmp, cmp, low, same, high, insert-low, insert-same, insert-high, rising-head, rising-tail, rising-insert, over-holds, length-insert, all_insert}
use Rattle.wing_mirror.proofs.Tables.Chunks.{Wide, records-laid, length-laid, drop-laid, length-records, wide-records, joined-records}

module _ {A : Type 0} (key : A → ℕ) where
  pub lookup-insert : (k : ℕ) (e : A) (xs : List A) → lookup key k (insert key e xs) ≡ if (eqb (key e) k) (found e) (lookup key k xs)
  unfolding lookup insert
  lookup-insert k e [] = refl
  lookup-insert k e (x ∷ xs) = go (cmp (key x) (key e)) (lookup-insert k e xs)
    where
      other : {B : Type 0} (a b : ℕ) (x y z : B) → a < b → if (eqb a k) x (if (eqb b k) y z) ≡ if (eqb b k) y (if (eqb a k) x z)
      other a b x y z h = turn (cmp a k)
        where
          turn : Cmp a k → if (eqb a k) x (if (eqb b k) y z) ≡ if (eqb b k) y (if (eqb a k) x z)
          turn (low p) = rw (ne_eqb a k (omega arith))
          turn (same p) = rw (eq-eqb a k p, ne_eqb b k (omega arith))
          turn (high p) = rw (ne_eqb a k (omega arith))

      twice : {B : Type 0} (t : Bool) (x y z : B) → if t x z ≡ if t x (if t y z)
      twice true x y z = refl
      twice false x y z = refl

      go : Cmp (key x) (key e) → lookup key k (insert key e xs) ≡ if (eqb (key e) k) (found e) (lookup key k xs) →
          lookup key k (insert key e (x ∷ xs)) ≡ if (eqb (key e) k) (found e) (lookup key k (x ∷ xs))
      go (low p) ih = rw (insert-low key e x xs p, ih) (other (key x) (key e) (found x) (found e) (lookup key k xs) p)
      go (same p) ih = rw (insert-same key e x xs p, p) (twice (eqb (key e) k) (found e) (found x) (lookup key k xs))
      go (high p) ih = rw (insert-high key e x xs p)

  -- as the code does it: what is below stays, what is above moves up or, if the key was there, stays
  pub insert-split : (e : A) (xs : List A) → rising key xs ≡ true →
      insert key e xs ≡ take (below key (key e) xs) xs ++ (e ∷ drop (if (holds key (key e) xs) (suc (below key (key e) xs)) (below key (key e) xs)) xs)
  unfolding insert below holds
  insert-split e [] r = refl
  insert-split e (x ∷ xs) r = go (cmp (key x) (key e)) (insert-split e xs (rising-tail key x xs r))
    where
      pull : (t : Bool) (n : ℕ) → drop (if t (suc (suc n)) (suc n)) (x ∷ xs) ≡ drop (if t (suc n) n) xs
      pull true n = refl
      pull false n = refl

      go : Cmp (key x) (key e) → insert key e xs ≡ take (below key (key e) xs) xs ++ (e ∷ drop (if (holds key (key e) xs) (suc (below key (key e) xs)) (below key (key e) xs)) xs) →
          insert key e (x ∷ xs) ≡ take (below key (key e) (x ∷ xs)) (x ∷ xs) ++ (e ∷ drop (if (holds key (key e) (x ∷ xs)) (suc (below key (key e) (x ∷ xs))) (below key (key e) (x ∷ xs))) (x ∷ xs))
      go (low p) ih = rw (insert-low key e x xs p, lt-ltb (key x) (key e) p, ne_eqb (key x) (key e) (omega arith), pull (holds key (key e) xs) (below key (key e) xs), ih)
      go (same p) ih = rw (insert-same key e x xs p, le-ltb (key x) (key e) (omega arith), eq-eqb (key x) (key e) p)
      go (high p) ih =
          rw (
            insert-high key e x xs p,
            le-ltb (key x) (key e) (omega arith),
            ne_eqb (key x) (key e) (omega arith),
            over-holds key (key e) (key x) xs (rising-tail key x xs r) (rising-head key x xs r) (omega arith),
          )

-- put keeps a table a table
module _ (w : ℕ) (key : List ℕ → ℕ) where
  pub stored : (r : List ℕ) (t : Table) → length r ≡ w → t.count ≤ places w t → rising key (rows_of w t) ≡ true → takes w key r t ≡ true → StoreLaws w key r t
  unfolding takes store
  stored r t e few up fits =
      record {
        rows = at_rows;
        sorted = rw at_rows (rising-insert key r rs up);
        finds = λ k. rw at_rows (lookup-insert key k r rs);
        size = size;
        rest = drop-laid w ss t.buffer (w * length ss) wide (omega arith);
        room = rw size (room (holds key (key r) rs) refl fits);
        counted = rw (length-insert key r rs up, length-records w t.count t.buffer);
      }
    where
      rs : List (List ℕ)
      rs = rows_of w t

      ss : List (List ℕ)
      ss = insert key r rs

      wide : Wide w ss
      wide = all_insert key (λ (x : List ℕ). length x ≡ w) r rs e (wide-records w t.count t.buffer (omega (arith, mul-le-mul_left w few, mul-div-le (length t.buffer) w)))

      room : (b : Bool) → holds key (key r) rs ≡ b → if b true (ltb t.count (places w t)) ≡ true → length ss ≤ places w t
      room true q f = rw (length-insert key r rs up, q, length-records w t.count t.buffer) few
      room false q f = rw (length-insert key r rs up, q, length-records w t.count t.buffer) (ltb-true _ _ f)

      size : length (laid w ss t.buffer) ≡ length t.buffer
      size = length-laid w ss t.buffer wide (omega (arith, mul-le-mul_left w (room (holds key (key r) rs) refl fits), mul-div-le (length t.buffer) w))

      at_rows : records w (length ss) (laid w ss t.buffer) ≡ ss
      at_rows = unfold laid in records-laid w ss _ wide

-- put as the bytes that the code moves
module _ (w : ℕ) where
  take-records : (k n : ℕ) (buf : List ℕ) → k ≤ n → take k (records w n buf) ≡ records w k buf
  unfolding records
  take-records zero n buf h = refl
  take-records (suc k) zero buf h = absurd (omega arith)
  take-records (suc k) (suc n) buf h = ap (λ (l : List (List ℕ)). take w buf ∷ l) (take-records k n (drop w buf) (omega arith))

  pub drop-records : (k n : ℕ) (buf : List ℕ) → k ≤ n → drop k (records w n buf) ≡ records w (n - k) (drop (w * k) buf)
  unfolding records
  drop-records zero n buf h = rw (mul-zero w, sub-zero n)
  drop-records (suc k) zero buf h = absurd (omega arith)
  drop-records (suc k) (suc n) buf h =
      let z : suc n - suc k ≡ n - k = omega arith in
      let y : w * suc k ≡ w + w * k = omega (arith, mul-suc w k) in
      rw (z, y, ← drop-drop (w * k) w buf) (drop-records k n (drop w buf) (omega arith))

  joined-append : (xs ys : List (List ℕ)) → joined (xs ++ ys) ≡ joined xs ++ joined ys
  unfolding joined
  joined-append [] ys = refl
  joined-append (x ∷ xs) ys = rw (joined-append xs ys) (sym (append_assoc x (joined xs) (joined ys)))

  joined-between : (r : List ℕ) (k j n : ℕ) (buf : List ℕ) → k ≤ n → j ≤ n →
      joined (take k (records w n buf) ++ (r ∷ drop j (records w n buf))) ≡ take (w * k) buf ++ (r ++ take (w * (n - j)) (drop (w * j) buf))
  unfolding joined
  joined-between r k j n buf h i =
      joined-append (take k (records w n buf)) (r ∷ drop j (records w n buf))
      ∙ rw (take-records k n buf h, drop-records j n buf i, joined-records w k buf, joined-records w (n - j) (drop (w * j) buf))

  -- a new record: those above it go up by one place
  pub inserted : (r : List ℕ) (k n : ℕ) (buf : List ℕ) → k ≤ n →
      laid w (take k (records w n buf) ++ (r ∷ drop k (records w n buf))) buf ≡
      take (w * k) buf ++ (r ++ (take (w * n - w * k) (drop (w * k) buf) ++ drop (w * n + w) buf))
  unfolding laid
  inserted r k n buf h =
      let l : length (take k (records w n buf) ++ (r ∷ drop k (records w n buf))) ≡ suc n =
      rw (length-append (take k (records w n buf)) (r ∷ drop k (records w n buf)), length-drop k (records w n buf), length-take k (records w n buf), length-records w n buf) (omega arith) in
      let z : w * suc n ≡ w * n + w = omega (arith, mul-suc w n) in
      let y : w * (n - k) ≡ w * n - w * k = mul-sub w n k in
      rw (l, joined-between r k k n buf h h, z, y, append_assoc (take (w * k) buf), append_assoc r)

  -- a record replaced
  pub replaced : (r : List ℕ) (k n : ℕ) (buf : List ℕ) → k < n →
      laid w (take k (records w n buf) ++ (r ∷ drop (suc k) (records w n buf))) buf ≡ take (w * k) buf ++ (r ++ drop (w * k + w) buf)
  unfolding laid
  replaced r k n buf h =
      let l : length (take k (records w n buf) ++ (r ∷ drop (suc k) (records w n buf))) ≡ n =
      rw (length-append (take k (records w n buf)) (r ∷ drop (suc k) (records w n buf)), length-drop (suc k) (records w n buf), length-take k (records w n buf), length-records w n buf) (omega arith) in
      let z : w * suc k ≡ w * k + w = omega (arith, mul-suc w k) in
      let y : w * n ≡ w * suc k + w * (n - suc k) = omega (arith, mul-sub w n (suc k), mul-le-mul_left w h) in
      rw (l, joined-between r k (suc k) n buf (omega arith) h, append_assoc (take (w * k) buf), append_assoc r, y, ← drop-drop (w * (n - suc k)) (w * suc k) buf, take-append-drop (w * (n - suc k)) (drop (w * suc k) buf), z)

-- a new record and a replaced one, as the bytes of the buffer
module _ (w : ℕ) (key : List ℕ → ℕ) (r : List ℕ) (t : Table) (up : rising key (rows_of w t) ≡ true) where
  abbrev at : ℕ
  at = below key (key r) (rows_of w t)

  pub store-new : holds key (key r) (rows_of w t) ≡ false → at ≤ t.count →
      (store w key r t).buffer ≡ take (w * at) t.buffer ++ (r ++ (take (w * t.count - w * at) (drop (w * at) t.buffer) ++ drop (w * t.count + w) t.buffer))
  unfolding store
  store-new q h =
      ap (λ (rs : List (List ℕ)). laid w rs t.buffer) (insert-split key r (rows_of w t) up ∙ rw q) ∙ inserted w r at t.count t.buffer h

  pub store-over : holds key (key r) (rows_of w t) ≡ true → at < t.count →
      (store w key r t).buffer ≡ take (w * at) t.buffer ++ (r ++ drop (w * at + w) t.buffer)
  unfolding store
  store-over q h =
      ap (λ (rs : List (List ℕ)). laid w rs t.buffer) (insert-split key r (rows_of w t) up ∙ rw q) ∙ replaced w r at t.count t.buffer h
