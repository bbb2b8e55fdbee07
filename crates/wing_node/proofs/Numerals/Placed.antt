-- Fields at places: what reading and writing give, case by case, at any width.
use mathlib.Core.Path.{◌≡◌, refl, ◌∙◌, ap, sym}
use mathlib.Core.Bool.{Bool, true, false}
use mathlib.Core.List.{List, [], ◌∷◌, ◌++◌, append_assoc, append-nil}
use Prim.Native.Nat.{ℕ, suc, ◌+◌, ◌-◌, ◌^◌, ◌≤◌, ◌<◌}
use native.Mathlib.Omega.{arith}
use native.Mathlib.Nat.{add-zero}
use native.Mathlib.Numerals.{add-one}
use lib.Dec.{ltb}
use lib.ListN.{length, take, drop, get_or, set, length-append, length-drop, take-append-drop}
use lib.Seq.{take-suc, drop-cons, sets, sets-eq, drop_at, drop-drop, drop-length, length-take-le, take_all, take-append_seam}
use borrow.Author.Tests.{lt-ltb, le-ltb, ltb-false}
use borrow.Rule.Slice.PartMut.{put_mid}
use Rattle.wing_node.specs.Bytes.{placed}
use Rattle.wing_node.specs.Field.{big, bytes_of, field_at, put, put_at}
use Rattle.wing_node.proofs.Numerals.Numbers.{Digits, digits-take, digits-drop, digits_number, number_digits, length-digits_in}

module _ (w : ℕ) (s : List ℕ) (at : ℕ) where
  pub field-short : length s - at < w → field_at w s at ≡ 0
  unfolding field_at
  field-short h = simp (lt-ltb _ _ h)

  pub field-whole : w ≤ length s - at → field_at w s at ≡ big (take w (drop at s))
  unfolding field_at
  field-whole h = simp (le-ltb _ _ h)

module _ (bs : List ℕ) (at : ℕ) (s : List ℕ) where
  pub put-short : length s - at < length bs → put_at bs at s ≡ put false s
  unfolding put_at
  put-short h = simp (lt-ltb _ _ h)

  pub put_whole : 0 < length bs → length bs ≤ length s - at → put_at bs at s ≡ put true (sets s at bs)
  unfolding put_at placed
  put_whole some h = simp (le-ltb _ _ h, sets-eq bs s at (omega arith), append_assoc)

-- the first of some bytes
pub take_more : (n : ℕ) (s : List ℕ) (i : ℕ) → i < length s → take (suc n) (drop i s) ≡ get_or s i 0 ∷ take n (drop (i + 1) s)
take_more n s i h = rw (add-one i, drop-cons s i 0 h)

pub two_bytes : (s : List ℕ) (i : ℕ) → 2 ≤ length s - i → take 2 (drop i s) ≡ get_or s i 0 ∷ get_or s (i + 1) 0 ∷ []
two_bytes s i h = rw (take_more 1 s i (omega arith), take_more 0 s (i + 1) (omega arith))

pub four_bytes : (s : List ℕ) (i : ℕ) → 4 ≤ length s - i →
    take 4 (drop i s) ≡ get_or s i 0 ∷ get_or s (i + 1) 0 ∷ get_or s (i + 2) 0 ∷ get_or s (i + 3) 0 ∷ []
four_bytes s i h =
    let e : i + 1 + 1 ≡ i + 2 = omega arith in
    let e' : i + 2 + 1 ≡ i + 3 = omega arith in
    rw (take_more 3 s i (omega arith), take_more 2 s (i + 1) (omega arith), e, take_more 1 s (i + 2) (omega arith), e', take_more 0 s (i + 3) (omega arith))

-- bytes in the place of a part of the output that is as long
pub part-sets : (d s : List ℕ) (at n : ℕ) → n ≡ length s → at + n ≤ length d → put_mid at n d s ≡ sets d at s
part-sets d s at n e h = rw (drop-drop, e) (sym (sets-eq s d at (omega arith) ∙ append_assoc (take at d) s (drop (at + length s) d)))

-- a number in the part that it takes
pub field-there : (w at k : ℕ) (s : List ℕ) → k ≡ w → w ≤ length s - at → field_at w (take k (drop at s)) 0 ≡ field_at w s at
field-there w at k s e h =
    let l : length (take w (drop at s)) ≡ w = length-take-le w (drop at s) (omega (arith, length-drop at s)) in
    rw e (field-whole w (take w (drop at s)) 0 (omega (arith, l)) ∙ ap big (take_all w (take w (drop at s)) (omega (arith, l))) ∙ sym (field-whole w s at h))

-- a number laid over a part that is as long, and over the front of more
pub put-over : (bs s : List ℕ) → 0 < length bs → length s ≡ length bs → (put_at bs 0 s).bytes ≡ bs
put-over bs s some h =
    let z : 0 + length bs ≡ length s = omega (arith, h) in
    ap (λ p. p.bytes) (put_whole bs 0 s some (omega arith)) ∙ sets-eq bs s 0 (omega arith) ∙
    ap (λ r. bs ++ r) (ap (λ k. drop k s) z ∙ drop-length s) ∙ append-nil bs

pub put-front : (w n : ℕ) (s : List ℕ) → 0 < w → w ≤ length s → put_mid 0 w s (bytes_of w n) ≡ (put_at (bytes_of w n) 0 s).bytes
put-front w n s some h =
    let bs = bytes_of w n in
    let l : length bs ≡ w = length-digits_in 256 w n in
    part-sets s bs 0 w (sym l) (omega arith) ∙ sym (ap (λ p. p.bytes) (put_whole bs 0 s (omega (arith, l)) (omega (arith, l))))

-- the bytes written from a place on, read from there
placed-read : (s : List ℕ) (at : ℕ) (bs : List ℕ) → at ≤ length s → take (length bs) (drop at (placed s at bs)) ≡ bs
unfolding placed
placed-read s at bs h =
    rw (drop_at (take at s) (bs ++ drop (at + length bs) s) at (length-take-le at s h)) (take-append_seam bs (drop (at + length bs) s))

placed-length : (s : List ℕ) (at : ℕ) (bs : List ℕ) → at + length bs ≤ length s → length (placed s at bs) ≡ length s
unfolding placed
placed-length s at bs h = simp (length-append, length-take-le at s (omega arith), length-drop) (omega arith)

-- a field that was written reads as the number that was written, at any width
pub field_put : (w n at : ℕ) (s : List ℕ) → 0 < w → n < 256 ^ w → w ≤ length s - at → field_at w (put_at (bytes_of w n) at s).bytes at ≡ n
unfolding put_at
field_put w n at s some below room =
    let wide : length (bytes_of w n) ≡ w = length-digits_in 256 w n in
    let there : length s - at < length (bytes_of w n) → ⊥ = λ h. omega arith in
    let long : length (placed s at (bytes_of w n)) ≡ length s = placed-length s at (bytes_of w n) (omega arith) in
    rw (le-ltb (length s - at) (length (bytes_of w n)) (omega arith))
    (field-whole w (placed s at (bytes_of w n)) at (omega arith) ∙
    ap big (rw wide at (placed-read s at (bytes_of w n) (omega arith))) ∙ number_digits 256 w n (omega arith) below)

-- bytes that were read as a number are that number's: writing it anew leaves them as they were
pub put-field : (w at : ℕ) (s : List ℕ) → Digits 256 s → (put_at (bytes_of w (field_at w s at)) at s).bytes ≡ s
unfolding put_at placed
put-field w at s b = go (ltb (length s - at) w) refl
  where
    wide : (n : ℕ) → length (bytes_of w n) ≡ w
    wide n = length-digits_in 256 w n

    go : (q : Bool) → ltb (length s - at) w ≡ q → (put_at (bytes_of w (field_at w s at)) at s).bytes ≡ s
    go true e = rw (wide (field_at w s at), e)
    go false e =
        let room : w ≤ length s - at = ltb-false (length s - at) w e in
        let read : bytes_of w (field_at w s at) ≡ take w (drop at s) =
        ap (bytes_of w) (field-whole w s at room) ∙ digits_number 256 w (take w (drop at s)) (length-take-le w (drop at s) (omega (arith, length-drop at s))) (digits-take 256 w (drop at s) (digits-drop 256 at s b)) in
        rw (wide (field_at w s at), e, read, ← drop-drop w at s, take-append-drop w (drop at s), take-append-drop at s)

-- bytes laid, and more where they end
pub sets-append : (vs ws l : List ℕ) (i : ℕ) → sets (sets l i vs) (i + length vs) ws ≡ sets l i (vs ++ ws)
sets-append [] ws l i = rw (add-zero i)
sets-append (v ∷ vs) ws l i =
    let z : i + suc (length vs) ≡ suc i + length vs = omega arith in
    rw z (sets-append vs ws (set l i v) (suc i))

-- a turn of a loop that lays bytes
pub lay-more : (out src : List ℕ) (at i : ℕ) → i < length src → set (sets out at (take i src)) (at + i) (get_or src i 0) ≡ sets out at (take (i + 1) src)
lay-more out src at i h =
    let l : length (take i src) ≡ i = length-take-le i src (omega arith) in
    rw (add-one i, take-suc src i 0 h) ((rw l at (sets-append (take i src) (get_or src i 0 ∷ []) out at)))

-- what a writer of a field leaves, where there is room
put-sets : (bs : List ℕ) (at : ℕ) (s x : List ℕ) (r : Bool) → 0 < length bs → length bs ≤ length s - at → put r x ≡ put_at bs at s → x ≡ sets s at bs
put-sets bs at s x r some h e = ap (λ p. p.bytes) (e ∙ put_whole bs at s some h)

pub field-sets : (w n at : ℕ) (s x : List ℕ) (r : Bool) → 0 < w → w ≤ length s - at → put r x ≡ put_at (bytes_of w n) at s → x ≡ sets s at (bytes_of w n)
field-sets w n at s x r some h e =
    let l : length (bytes_of w n) ≡ w = length-digits_in 256 w n in
    put-sets (bytes_of w n) at s x r (omega arith) (omega arith) e
