-- Two tables are the same exactly if count and records are.
use Prim.Native.Nat.{ℕ, zero, suc, ◌+◌, ◌*◌, ◌≤◌}
use mathlib.Core.Bool.{Bool, true, false, false≢true, ◌&&◌}
use mathlib.Core.Path.{◌≡◌, refl, sym, ◌∙◌, ap, ap₂}
use mathlib.Core.List.{List, [], ◌∷◌, ◌++◌}
use native.Mathlib.Omega.{arith}
use native.Mathlib.Nat.{mul-suc, mul-zero}
use borrow.Author.Tests.{eq-eqb, eqb-true}
use lib.Dec.{eqb}
use lib.Pointwise.{pointwise}
use lib.ListN.{length, take, drop, length-drop}
use lib.Seq.{take-add, length-take-le}
use Rattle.wing_node.specs.Bool.{if}
use Rattle.wing_node.specs.Utf8.{Decides}
use Rattle.wing_node.proofs.Branches.{if-both}
use Rattle.wing_mirror.specs.Rows.{Table, records}
use Rattle.wing_mirror.specs.Layout.{Layout}
use Rattle.wing_mirror.specs.Table.{rows}
use Rattle.wing_mirror.specs.Query.{same_bytes, same_rows, same_tables}

-- as the library compares them
pub bytes-equal : (x y : List ℕ) → pointwise eqb x y ≡ same_bytes x y
unfolding same_bytes
bytes-equal [] [] = refl
bytes-equal [] (b ∷ y) = refl
bytes-equal (a ∷ x) [] = refl
bytes-equal (a ∷ x) (b ∷ y) = rw (bytes-equal x y) (go (eqb a b) (same_bytes x y))
  where
    go : (t s : Bool) → (t && s) ≡ if t s false
    go true s = refl
    go false s = refl

bytes-append : (x y p q : List ℕ) → length x ≡ length y → same_bytes (x ++ p) (y ++ q) ≡ if (same_bytes x y) (same_bytes p q) false
unfolding same_bytes
bytes-append [] [] p q e = refl
bytes-append [] (b ∷ y) p q e = absurd (omega arith)
bytes-append (a ∷ x) [] p q e = absurd (omega arith)
bytes-append (a ∷ x) (b ∷ y) p q e = go (eqb a b) (bytes-append x y p q (omega arith))
  where
    go : (t : Bool) → same_bytes (x ++ p) (y ++ q) ≡ if (same_bytes x y) (same_bytes p q) false →
        if t (same_bytes (x ++ p) (y ++ q)) false ≡ if (if t (same_bytes x y) false) (same_bytes p q) false
    go true ih = ih
    go false ih = refl

-- the bytes of the records, one after the other
pub rows-bytes : (w n : ℕ) (a b : List ℕ) → w * n ≤ length a → w * n ≤ length b → same_bytes (take (w * n) a) (take (w * n) b) ≡ same_rows (records w n a) (records w n b)
unfolding records same_rows same_bytes
rows-bytes w zero a b h k = rw (mul-zero w)
rows-bytes w (suc n) a b h k =
    let z : w * suc n ≡ w + w * n = omega (arith, mul-suc w n) in
    let la : length (take w a) ≡ w = length-take-le w a (omega arith) in
    let lb : length (take w b) ≡ w = length-take-le w b (omega arith) in
    rw (z, take-add w (w * n) a, take-add w (w * n) b)
    (bytes-append (take w a) (take w b) (take (w * n) (drop w a)) (take (w * n) (drop w b)) (la ∙ sym lb)
    ∙ ap (λ (t : Bool). if (same_bytes (take w a) (take w b)) t false) (rows-bytes w n (drop w a) (drop w b) (omega (arith, length-drop w a)) (omega (arith, length-drop w b))))

pub bytes-true : (x y : List ℕ) → same_bytes x y ≡ true → x ≡ y
unfolding same_bytes
bytes-true [] [] h = refl
bytes-true [] (b ∷ y) h = absurd (false≢true h)
bytes-true (a ∷ x) [] h = absurd (false≢true h)
bytes-true (a ∷ x) (b ∷ y) h =
    ap₂ {C = List ℕ} (λ p q. p ∷ q) (eqb-true a b (if-both (eqb a b) (same_bytes x y) h).0) (bytes-true x y (if-both (eqb a b) (same_bytes x y) h).1)

pub bytes-refl : (x : List ℕ) → same_bytes x x ≡ true
unfolding same_bytes
bytes-refl [] = refl
bytes-refl (a ∷ x) = rw (eq-eqb a a refl, bytes-refl x)

rows_true : (rs qs : List (List ℕ)) → same_rows rs qs ≡ true → rs ≡ qs
unfolding same_rows
rows_true [] [] h = refl
rows_true [] (q ∷ qs) h = absurd (false≢true h)
rows_true (r ∷ rs) [] h = absurd (false≢true h)
rows_true (r ∷ rs) (q ∷ qs) h =
    ap₂ {C = List (List ℕ)} (λ x y. x ∷ y) (bytes-true r q (if-both (same_bytes r q) (same_rows rs qs) h).0) (rows_true rs qs (if-both (same_bytes r q) (same_rows rs qs) h).1)

rows_refl : (rs : List (List ℕ)) → same_rows rs rs ≡ true
unfolding same_rows
rows_refl [] = refl
rows_refl (r ∷ rs) = rw (bytes-refl r, rows_refl rs)

-- 01: two are equal if count and records are
pub same-decides : (L : Layout) (s t : Table) → Decides (same_tables L s t) ((s.count ≡ t.count) × (rows L s ≡ rows L t))
unfolding same_tables
same-decides L s t =
    record {
      right = λ h. (eqb-true s.count t.count (if-both _ _ h).0, rows_true (rows L s) (rows L t) (if-both (eqb s.count t.count) _ h).1);
      whole = λ h. rw (eq-eqb s.count t.count h.0) (ap (same_rows (rows L s)) (sym h.1) ∙ rows_refl (rows L s));
    }
