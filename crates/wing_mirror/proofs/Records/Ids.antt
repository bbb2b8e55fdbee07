-- Ids of 32 bits stand in the order by their signed numbers, and are the same exactly if they stand at the same place.
use Prim.Native.Nat.{ℕ, suc, ◌+◌, ◌-◌, ◌^◌, ◌<◌, ◌≤◌}
use mathlib.Core.Bool.{Bool, true, false}
use mathlib.Core.Path.{◌≡◌, refl, sym, ◌∙◌, ap}
use mathlib.Core.List.{List, [], ◌∷◌}
use native.Mathlib.Omega.{arith}
use borrow.Author.Tests.{lt-ltb, le-ltb, eq-eqb, ne_eqb, eqb-true}
use lib.Dec.{eqb, ltb}
use lib.IntN.{ℤ, pos, negsuc}
use lib.Signed.{lt_z}
use Rattle.wing_node.specs.Signed.{InBits}
use Rattle.wing_mirror.specs.Rows.{All, over, rising}
use Rattle.wing_mirror.specs.Entry.{Entry, ids, rising_ids, flipped, rank_of}
use Rattle.wing_mirror.specs.Machine.{same_id}
use Rattle.wing_mirror.specs.History.{rank}
use Rattle.wing_mirror.proofs.Tables.Ordered.{Cmp, cmp, low, same, high}

-- two tests of equality that mean the same
eqb-iff : (a b c d : ℕ) → (a ≡ b → c ≡ d) → (c ≡ d → a ≡ b) → eqb a b ≡ eqb c d
eqb-iff a b c d f g = go (cmp a b)
  where
    differ : (a ≡ b → ⊥) → eqb a b ≡ eqb c d
    differ n = ne_eqb a b n ∙ sym (ne_eqb c d (λ e. n (g e)))

    go : Cmp a b → eqb a b ≡ eqb c d
    go (low h) = differ (omega arith)
    go (same h) = eq-eqb a b h ∙ sym (eq-eqb c d (f h))
    go (high h) = differ (omega arith)

-- the same id is one id
pub same_id_lem : (i j : ℤ) → same_id i j ≡ true → i ≡ j
same_id_lem (pos m) (pos n) e = ap pos (eqb-true m n e)
same_id_lem (pos m) (negsuc n) e = absurd (let z : ◌≡◌ {A = Bool} false true = e in let w : ◌≡◌ {A = ℕ} 0 1 = cc in omega arith)
same_id_lem (negsuc m) (pos n) e = absurd (let z : ◌≡◌ {A = Bool} false true = e in let w : ◌≡◌ {A = ℕ} 0 1 = cc in omega arith)
same_id_lem (negsuc m) (negsuc n) e = ap negsuc (eqb-true m n e)

-- bits below 2^31 go up
flip_low : (n : ℕ) → n < 0x80000000 → flipped n ≡ n + 0x80000000
flip_low n h = rw (lt-ltb n 0x80000000 h)

-- the others go down
flip_high : (n : ℕ) → 0x80000000 ≤ n → flipped n ≡ n - 0x80000000
flip_high n h = rw (le-ltb n 0x80000000 h)

-- 01's signed order tells ids of 32 bits apart
pub same_rank : (i j : ℤ) → InBits 31 i → InBits 31 j → same_id i j ≡ eqb (rank_of i) (rank_of j)
same_rank (pos m) (pos n) h k =
    let a = flip_low m h in
    let b = flip_low n k in
    eqb-iff m n (flipped m) (flipped n) (λ e. ap flipped e) (λ e. omega arith)
same_rank (pos m) (negsuc n) h k =
    let a = flip_low m h in
    let b = flip_high (2 ^ 32 - suc n) (omega arith) in
    sym (ne_eqb (flipped m) (flipped (2 ^ 32 - suc n)) (λ e. omega arith))
same_rank (negsuc m) (pos n) h k =
    let a = flip_high (2 ^ 32 - suc m) (omega arith) in
    let b = flip_low n k in
    sym (ne_eqb (flipped (2 ^ 32 - suc m)) (flipped n) (λ e. omega arith))
same_rank (negsuc m) (negsuc n) h k =
    let a = flip_high (2 ^ 32 - suc m) (omega arith) in
    let b = flip_high (2 ^ 32 - suc n) (omega arith) in
    eqb-iff m n (flipped (2 ^ 32 - suc m)) (flipped (2 ^ 32 - suc n)) (λ e. ap (λ (x : ℕ). flipped (2 ^ 32 - suc x)) e) (λ e. omega arith)

-- two tests of order that mean the same
ltb_iff : (a b c d : ℕ) → (a < b → c < d) → (b ≤ a → d ≤ c) → ltb a b ≡ ltb c d
ltb_iff a b c d f g = go (cmp a b)
  where
    go : Cmp a b → ltb a b ≡ ltb c d
    go (low h) = lt-ltb a b h ∙ sym (lt-ltb c d (f h))
    go (same h) = le-ltb a b (omega arith) ∙ sym (le-ltb c d (g (omega arith)))
    go (high h) = le-ltb a b (omega arith) ∙ sym (le-ltb c d (g (omega arith)))

-- 01: signed ids: one stands before another exactly if it is less
pub rank_less : (i j : ℤ) → InBits 31 i → InBits 31 j → ltb (rank_of i) (rank_of j) ≡ lt_z i j
rank_less (pos m) (pos n) h k =
    let a = flip_low m h in
    let b = flip_low n k in
    ltb_iff (flipped m) (flipped n) m n (λ e. omega arith) (λ e. omega arith)
rank_less (pos m) (negsuc n) h k =
    let a = flip_low m h in
    let b = flip_high (2 ^ 32 - suc n) (omega arith) in
    le-ltb (flipped m) (flipped (2 ^ 32 - suc n)) (omega arith)
rank_less (negsuc m) (pos n) h k =
    let a = flip_high (2 ^ 32 - suc m) (omega arith) in
    let b = flip_low n k in
    lt-ltb (flipped (2 ^ 32 - suc m)) (flipped n) (omega arith)
rank_less (negsuc m) (negsuc n) h k =
    let a = flip_high (2 ^ 32 - suc m) (omega arith) in
    let b = flip_high (2 ^ 32 - suc n) (omega arith) in
    ltb_iff (flipped (2 ^ 32 - suc m)) (flipped (2 ^ 32 - suc n)) n m (λ e. omega arith) (λ e. omega arith)

-- entries in rising order are those whose signed ids rise
pub rising-ids : (es : List Entry) → All (λ (e : Entry). InBits 31 e.id) es → rising rank es ≡ rising_ids (ids es)
unfolding rising over rising_ids
rising-ids [] a = refl
rising-ids (e ∷ []) a = refl
rising-ids (d ∷ e ∷ es) a = rw (rank_less d.id e.id a.0 a.1.0, rising-ids (e ∷ es) a.1)
