-- Levels added up and the greatest of them: lists joined, one level replaced, a ring turned, places not used.
use Prim.Native.Nat.{ℕ, zero, suc, ◌+◌, ◌-◌, ◌*◌, ◌≤◌, ◌<◌, max}
use mathlib.Core.Path.{◌≡◌, refl, ap, ◌∙◌}
use mathlib.Core.List.{List, [], ◌∷◌, ◌++◌}
use native.Mathlib.Omega.{arith}
use native.Mathlib.Nat.{mul-suc}
use native.Mathlib.Numerals.{add-one}
use lib.ListN.{length, take, drop, get_or, set, take-append-drop}
use lib.Seq.{set_split, split_at, drop-cons}
use Rattle.std.specs.List.{fold, sum_by}
use Rattle.std.proofs.lemmas.List.Recursion.{is_sum_by}
use Rattle.wing_meters.specs.Level.{added, greatest}
use Rattle.wing_meters.specs.Window.{in_order}
use Rattle.wing_meters.specs.Kept.{TopBefore}

pub added-append : (a b : List ℕ) → added (a ++ b) ≡ added a + added b
unfolding added
added-append [] b = omega arith
added-append (l ∷ a) b = let e = added-append a b in omega arith

pub greatest-append : (a b : List ℕ) → greatest (a ++ b) ≡ max (greatest a) (greatest b)
unfolding greatest
greatest-append [] b = omega arith
greatest-append (l ∷ a) b = let e = greatest-append a b in omega arith

pub added-cons : (l : ℕ) (ls : List ℕ) → added (l ∷ ls) ≡ l + added ls
unfolding added
added-cons l ls = refl

pub greatest-cons : (l : ℕ) (ls : List ℕ) → greatest (l ∷ ls) ≡ max l (greatest ls)
unfolding greatest
greatest-cons l ls = refl

-- ---- as the library has them

pub added-sum : (ls : List ℕ) → added ls ≡ sum_by (λ (x : ℕ). x) ls
unfolding added
added-sum = is_sum_by added (λ (x : ℕ). x) refl (λ _ _. refl)

pub greatest-fold : (top : ℕ) (ls : List ℕ) → fold (λ (t l : ℕ). max t l) top ls ≡ max top (greatest ls)
unfolding greatest
greatest-fold top [] = omega arith
greatest-fold top (l ∷ ls) = let e = greatest-fold (max top l) ls in omega arith

-- ---- from a place on

module _ (ls : List ℕ) (i : ℕ) where
  pub greatest-from : i < length ls → greatest (drop i ls) ≡ max (get_or ls i 0) (greatest (drop (i + 1) ls))
  greatest-from h = rw (add-one i) (ap greatest (drop-cons ls i 0 h) ∙ greatest-cons _ _)

-- ---- one level replaced

module _ (ls : List ℕ) (i v : ℕ) (h : i < length ls) where
  pub added-at : added ls ≡ added (take i ls) + (get_or ls i 0 + added (drop (suc i) ls))
  added-at = ap added (split_at ls i 0 h) ∙ (added-append (take i ls) (get_or ls i 0 ∷ drop (suc i) ls) ∙ ap (λ (n : ℕ). added (take i ls) + n) (added-cons _ _))

  pub added-set : added (set ls i v) ≡ added (take i ls) + (v + added (drop (suc i) ls))
  added-set = ap added (set_split ls i v h) ∙ (added-append (take i ls) (v ∷ drop (suc i) ls) ∙ ap (λ (n : ℕ). added (take i ls) + n) (added-cons _ _))

  pub greatest-at : greatest ls ≡ max (greatest (take i ls)) (max (get_or ls i 0) (greatest (drop (suc i) ls)))
  greatest-at = ap greatest (split_at ls i 0 h) ∙ (greatest-append (take i ls) (get_or ls i 0 ∷ drop (suc i) ls) ∙ ap (max (greatest (take i ls))) (greatest-cons _ _))

  pub greatest-set : greatest (set ls i v) ≡ max (greatest (take i ls)) (max v (greatest (drop (suc i) ls)))
  greatest-set = ap greatest (set_split ls i v h) ∙ (greatest-append (take i ls) (v ∷ drop (suc i) ls) ∙ ap (max (greatest (take i ls))) (greatest-cons _ _))

  -- the sum is kept up: one leaves it and one comes
  pub kept-up : added (set ls i v) ≡ added ls - get_or ls i 0 + v
  kept-up = omega (arith, added-at, added-set)

  pub leaving-in : get_or ls i 0 ≤ added ls
  leaving-in = omega (arith, added-at)

  -- the largest is kept up, unless it is the one that leaves
  pub top-before : TopBefore (greatest ls) (get_or ls i 0) v (set ls i v)
  top-before =
      record {
        above = λ a. omega (arith, greatest-at, greatest-set);
        stays = λ a d. omega (arith, greatest-at, greatest-set, d);
      }

-- ---- a ring turned

pub added-turned : (n : ℕ) (ring : List ℕ) → added (in_order n ring) ≡ added ring
unfolding in_order
added-turned n ring =
    let t = added-append (take n ring) (drop n ring) in
    let d = added-append (drop n ring) (take n ring) in
    let e = ap added (take-append-drop n ring) in
    omega arith

pub greatest-turned : (n : ℕ) (ring : List ℕ) → greatest (in_order n ring) ≡ greatest ring
unfolding in_order
greatest-turned n ring =
    let t = greatest-append (take n ring) (drop n ring) in
    let d = greatest-append (drop n ring) (take n ring) in
    let e = ap greatest (take-append-drop n ring) in
    omega arith

-- ---- places that are not used

pub none-added : (ls : List ℕ) → greatest ls ≡ 0 → added ls ≡ 0
unfolding greatest added
none-added [] h = refl
none-added (l ∷ ls) h = let e = none-added ls (omega arith) in omega arith

pub added-used : (n : ℕ) (ls : List ℕ) → greatest (drop n ls) ≡ 0 → added (take n ls) ≡ added ls
added-used n ls h =
    let t = added-append (take n ls) (drop n ls) in
    let e = ap added (take-append-drop n ls) in
    let z = none-added (drop n ls) h in
    omega arith

pub greatest-used : (n : ℕ) (ls : List ℕ) → greatest (drop n ls) ≡ 0 → greatest (take n ls) ≡ greatest ls
greatest-used n ls h =
    let t = greatest-append (take n ls) (drop n ls) in
    let e = ap greatest (take-append-drop n ls) in
    omega arith

-- ---- how large a sum can be

pub added-le : (ls : List ℕ) (m : ℕ) → ((k : ℕ) → k < length ls → get_or ls k 0 ≤ m) → added ls ≤ m * length ls
unfolding added
added-le [] m h = omega arith
added-le (l ∷ ls) m h =
    let e = added-le ls m (λ k b. h (suc k) (omega arith)) in
    let f = h 0 (omega arith) in
    omega (arith, mul-suc m (length ls))

-- one level replaced by one that is no larger than a bound
pub set-le : (ls : List ℕ) (i v m : ℕ) → ((k : ℕ) → k < length ls → get_or ls k 0 ≤ m) → v ≤ m → (k : ℕ) → k < length (set ls i v) → get_or (set ls i v) k 0 ≤ m
set-le [] i v m h b k l = omega arith
set-le (a ∷ ls) zero v m h b zero l = b
set-le (a ∷ ls) zero v m h b (suc k) l = h (suc k) l
set-le (a ∷ ls) (suc i) v m h b zero l = h 0 (omega arith)
set-le (a ∷ ls) (suc i) v m h b (suc k) l = set-le ls i v m (λ n t. h (suc n) (omega arith)) b k (omega arith)
