-- Writes into an array, one element after the other, and into one of zeros.
use mathlib.Core.Path.{◌≡◌, ◌∙◌, ap, sym}
use mathlib.Core.List.{List, [], ◌∷◌, ◌++◌, append_assoc, append-nil}
use Prim.Native.Nat.{ℕ, zero, suc, ◌+◌, ◌-◌, ◌/◌, ◌%◌, ◌≤◌, ◌<◌, min}
use native.Mathlib.Omega.{arith}
use native.Mathlib.Nat.{suc-sub-suc}
use native.Mathlib.Numerals.{add-one}
use lib.ListN.{length, take, drop, set, replicate, length-drop, drop_of_length-le, take-append-drop}
use lib.Seq.{length-take-le, take-suc-set, take-set-le, drop-cons, drop-set-lt, get_or-set_same, lt-length-set}
use borrow.Rule.Slice.PartMut.{put_mid}
use Rattle.std.proofs.lemmas.List.{take_min, length-take}
use Rattle.wing_node.specs.Bytes.{placed}
use Rattle.wing_node.specs.Decimal.{ascii, last_digits}
use Rattle.wing_node.proofs.Numerals.Spelled.{length-last_digits, last_digits-suc, last_digits-zero}

drop-set-same : (d : List ℕ) (j a : ℕ) → j < length d → drop j (set d j a) ≡ a ∷ drop (suc j) d
drop-set-same d j a h =
    let g : j < length (set d j a) = lt-length-set d j a h in
    drop-cons (set d j a) j 0 g ∙ rw (get_or-set_same d j a 0 h, drop-set-lt (suc j) d j a (omega arith))

-- the last digit put leaves the others to do
pub placed-turn :
    (d : List ℕ) (from i n : ℕ) → 0 < i → from + i ≤ length d
    → placed (set d (from + (i - 1)) (ascii (n % 10))) from (last_digits (i - 1) (n / 10)) ≡ placed d from (last_digits i n)
unfolding placed
placed-turn d from zero n p h = absurd (omega arith)
placed-turn d from (suc i) n p h =
    let a = ascii (n % 10) in
    let s = last_digits i (n / 10) in
    let e : suc i - 1 ≡ i = omega arith in
    let f : from + suc i ≡ suc (from + i) = omega arith in
    rw (e, length-last_digits i (n / 10), length-last_digits (suc i) n, take-set-le from d (from + i) a (omega arith), drop-set-same d (from + i) a (omega arith), last_digits-suc i n, f)
    (ap (λ (l : List ℕ). take from d ++ l) (sym (append_assoc s (a ∷ []) (drop (suc (from + i)) d))))

pub placed_end : (d : List ℕ) (from n : ℕ) → placed d from (last_digits 0 n) ≡ d
unfolding placed
placed_end d from n =
    let e : from + 0 ≡ from = omega arith in
    rw (last_digits-zero n, e) (take-append-drop from d)

drop-replicate : (k m : ℕ) → ◌≡◌ {A = List ℕ} (drop k (replicate m 0)) (replicate (m - k) 0)
drop-replicate zero m = let e : m - 0 ≡ m = omega arith in rw e
drop-replicate (suc k) zero = let e : zero - suc k ≡ 0 = omega arith in rw e
drop-replicate (suc k) (suc m) = rw (suc-sub-suc m k) (drop-replicate k m)

-- a text at the start of zeros
pub placed-zeros : (m : ℕ) (s : List ℕ) → placed (replicate m 0) 0 s ≡ s ++ replicate (m - length s) 0
unfolding placed
placed-zeros m s = let e : 0 + length s ≡ length s = omega arith in rw (e, drop-replicate (length s) m)

-- a byte at a place, and a text after it
pub placed-cons : (d : List ℕ) (at a : ℕ) (s : List ℕ) → at < length d → placed (set d at a) (at + 1) s ≡ placed d at (a ∷ s)
unfolding placed
placed-cons d at a s h =
    let e : at + 1 + length s ≡ at + length (a ∷ s) = omega arith in
    rw (e, drop-set-lt (at + length (a ∷ s)) d at a (omega arith), add-one at, take-suc-set d at a h) (append_assoc (take at d) (a ∷ []) (s ++ drop (at + length (a ∷ s)) d))

-- m bytes after zeros have filled the place of those past the first n
pub zeros-past : (m n k : ℕ) (d z : List ℕ) → length d ≡ m → k ≡ min n m → z ≡ replicate (length (take (m - k) (drop k d))) 0 →
    put_mid k (m - k) d z ≡ take n d ++ replicate (m - length (take n d)) 0
zeros-past m n k d z e h f =
    let long : length (take n d) ≡ k = omega (arith, length-take n d) in
    let rest : length (take (m - k) (drop k d)) ≡ m - k = length-take-le (m - k) (drop k d) (omega (arith, length-drop k d)) in
    let front : take k d ≡ take n d = ap (λ j. take j d) (omega arith) ∙ take_min n d in
    rw (f, rest, front, long, drop_of_length-le (drop k d) {i = m - k} (omega (arith, length-drop k d)))
    (ap (λ l. take n d ++ l) (append-nil (replicate (m - k) 0)))
