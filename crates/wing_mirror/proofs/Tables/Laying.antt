-- Bytes laid at a place, one after the other, and a gap that is filled.
use Prim.Native.Nat.{ℕ, zero, suc, min, ◌+◌, ◌-◌, ◌≤◌}
use mathlib.Core.Bool.{Bool, true, false, not}
use mathlib.Core.Path.{◌≡◌, refl, sym, ap, ◌∙◌}
use mathlib.Core.List.{List, [], ◌∷◌, ◌++◌, append_assoc}
use native.Mathlib.Omega.{arith}
use native.Mathlib.Nat.{zero-min, min-zero, suc-min-suc}
use borrow.Author.Tests.{le-leb, leb-true}
use lib.Dec.{leb}
use lib.ListN.{length, replicate, set, take, drop, length-append, length-take}
use lib.Seq.{sets, sets-eq, length-take-le, take-append-le, take-take, drop_at}
use lib.IntN.{ℤ}
use Rattle.wing_node.specs.Digits.{digits_in}
use Rattle.wing_node.specs.Signed.{unsigned}
use Rattle.wing_node.specs.Value.{NodeValue, string}
use Rattle.wing_node.specs.Field.{bytes_of}
use Rattle.wing_wire.specs.Reader.{over, filled}
use Rattle.wing_mirror.specs.Origin.{origin_number}
use Rattle.wing_mirror.specs.Entry.{entry}
use Rattle.wing_mirror.specs.Call.{too_long}
use Rattle.wing_mirror.specs.Record.{kind_of, payload_of, record_of, head_from, laid_from}
use Rattle.wing_mirror.specs.declared.origin.Origin.{Origin}

-- the gap, filled
pub gap-laid : (b : List ℕ) (from end w : ℕ) (rec : List ℕ) → from ≤ end → end + w ≤ length b → length rec ≡ w →
    sets (take (from + w) b ++ (take (end - from) (drop from b) ++ drop (end + w) b)) from rec
    ≡ take from b ++ (rec ++ (take (end - from) (drop from b) ++ drop (end + w) b))
gap-laid b from end w rec h f e =
    let t = take (from + w) b in
    let u = take (end - from) (drop from b) ++ drop (end + w) b in
    let lt : length t ≡ from + w = length-take-le (from + w) b (omega arith) in
    sets-eq rec (t ++ u) from (omega (arith, length-append t u)) ∙
    rw (take-append-le from t u (omega arith), take-take from (from + w) b (omega arith), e, drop_at t u (from + w) lt, append_assoc (take from b) rec u)

sets-cons : (x : ℕ) (d vs : List ℕ) (i : ℕ) → sets (x ∷ d) (suc i) vs ≡ x ∷ sets d i vs
sets-cons x d [] i = refl
sets-cons x d (v ∷ vs) i = sets-cons x (set d i v) vs (suc i)

sets-nil : (vs : List ℕ) (i : ℕ) → sets [] i vs ≡ []
sets-nil [] i = refl
sets-nil (v ∷ vs) i = sets-nil vs (suc i)

pub sets_over : (vs d : List ℕ) → sets d 0 vs ≡ over vs d
sets_over [] d = refl
sets_over (v ∷ vs) [] = sets-nil vs 1
sets_over (v ∷ vs) (x ∷ d) = sets-cons v d vs 0 ∙ ap (λ (l : List ℕ). v ∷ l) (sets_over vs d)

sets-after : (front d vs : List ℕ) → sets (front ++ d) (length front) vs ≡ front ++ over vs d
sets-after [] d vs = sets_over vs d
sets-after (x ∷ front) d vs = sets-cons x (front ++ d) vs (length front) ∙ ap (λ (l : List ℕ). x ∷ l) (sets-after front d vs)

-- id, origin, kind, length and payload over zeros
laid-eight : (d : List ℕ) (u o kind n : ℕ) (p : List ℕ) →
    sets (sets (set (set (sets (0 ∷ 0 ∷ 0 ∷ 0 ∷ 0 ∷ 0 ∷ 0 ∷ 0 ∷ d) 0 (bytes_of 4 u)) 5 o) 4 kind) 6 (bytes_of 2 n)) 8 p
    ≡ bytes_of 4 u ++ (kind ∷ o ∷ (bytes_of 2 n ++ over p d))
unfolding digits_in
laid-eight d u o kind n p = sets-after (bytes_of 4 u ++ (kind ∷ o ∷ bytes_of 2 n)) d p

pub laid-whole : (u o kind : ℕ) (p : List ℕ) →
    laid_from (set (sets (replicate 264 0) 0 (bytes_of 4 u)) 5 o) kind p ≡ bytes_of 4 u ++ (kind ∷ o ∷ (bytes_of 2 (length p) ++ filled 256 p))
laid-whole u o kind p = laid-eight (replicate 256 0) u o kind (length p) p

-- a string's bytes, the first n of those lent
pub take-least : (n : ℕ) (s : List ℕ) → take (min n (length s)) s ≡ take n s
take-least zero s = rw zero-min
take-least (suc n) [] = rw min-zero
take-least (suc n) (a ∷ s) = rw suc-min-suc (ap (λ (l : List ℕ). a ∷ l) (take-least n s))

pub string-laid : (o mid last s : List ℕ) (n len : ℕ) → len ≡ min n (length s) → mid ≡ sets (set o 4 2) 6 (bytes_of 2 len) → last ≡ sets mid 8 (take len s) →
    last ≡ laid_from o 2 (take n s)
string-laid o mid last s n len l e f =
    let t : take len s ≡ take n s = ap (λ (m : ℕ). take m s) l ∙ take-least n s in
    let z : len ≡ length (take n s) = l ∙ sym (length-take n s) in
    f ∙ ap (λ (q : List ℕ). sets mid 8 q) t ∙ ap (λ (q : List ℕ). sets q 8 (take n s)) (e ∙ ap (λ (m : ℕ). sets (set o 4 2) 6 (bytes_of 2 m)) z)

-- the record of an entry, over zeros, id and origin first
pub record-laid : (id : ℤ) (v : NodeValue) (o : Origin) (a b last : List ℕ) → a ≡ replicate 264 0 → b ≡ head_from a id o →
    last ≡ laid_from b (kind_of v) (payload_of v) → last ≡ record_of (entry id v o)
unfolding record_of
record-laid id v o a b last ea eb el =
    el ∙ ap (λ (l : List ℕ). laid_from l (kind_of v) (payload_of v)) (eb ∙ ap (λ (l : List ℕ). head_from l id o) ea)
    ∙ laid-whole (unsigned 31 id) (origin_number o) (kind_of v) (payload_of v)

-- a string that is not too long has room in a record
pub short : (s : List ℕ) → too_long (string s) ≡ false → length s ≤ 256
unfolding too_long
short s h = leb-true (length s) 256 (opposite (leb (length s) 256) h)
  where
    opposite : (b : Bool) → not b ≡ false → b ≡ true
    opposite true h = refl
    opposite false h = sym h

-- the first 256 bytes or fewer are not too long
pub short-front : (n : ℕ) (s : List ℕ) → n ≤ 256 → too_long (string (take n s)) ≡ false
unfolding too_long
short-front n s h = rw (le-leb (length (take n s)) 256 (omega (arith, length-take n s)))
