-- What is left of a text from a place on.
use Prim.Native.Nat.{ℕ, zero, suc, ◌+◌, ◌-◌, ◌≤◌, ◌<◌}
use mathlib.Core.Path.{◌≡◌, refl, ◌∙◌, ap}
use mathlib.Core.Bool.{Bool, true, false, ◌&&◌}
use mathlib.Core.List.{List, [], ◌∷◌}
use native.Mathlib.Omega.{arith}
use lib.ListN.{length, get_or, take, drop, length-drop}
use lib.Seq.{drop-cons, take_all}
use Rattle.std.specs.List.{list_all}
use Rattle.wing_node.specs.Bool.{if}
use Rattle.wing_node.proofs.Branches.{if-both}
use Rattle.wing_mirror.specs.Table.{every}

pub drop-next : (s : List ℕ) (i : ℕ) → i < length s → drop i s ≡ get_or s i 0 ∷ drop (i + 1) s
drop-next s i h = drop-cons s i 0 h ∙ ap (λ j. get_or s i 0 ∷ drop j s) (sym-one i)
  where
    sym-one : (j : ℕ) → suc j ≡ j + 1
    sym-one j = omega arith

pub drop-none : {A : Type 0} (s : List A) (i : ℕ) → length s ≤ i → drop i s ≡ []
drop-none [] zero h = refl
drop-none [] (suc i) h = refl
drop-none (a ∷ s) zero h = absurd (omega arith)
drop-none (a ∷ s) (suc i) h = drop-none s i (omega arith)

-- each of the elements passes, the one at a place too
pub every-at : (p : ℕ → Bool) (s : List ℕ) (i : ℕ) → i < length s → every p s ≡ true → p (get_or s i 0) ≡ true
unfolding every
every-at p [] i h e = absurd (omega arith)
every-at p (a ∷ s) zero h e = (if-both (p a) (every p s) e).0
every-at p (a ∷ s) (suc i) h e = every-at p s i (omega arith) (if-both (p a) (every p s) e).1

-- as the library has it
pub every-all : (p : ℕ → Bool) (s : List ℕ) → every p s ≡ list_all p s
unfolding every
every-all p [] = refl
every-all p (a ∷ s) = rw (every-all p s) (go (p a) (list_all p s))
  where
    go : (t e : Bool) → if t e false ≡ (t && e)
    go true e = refl
    go false e = refl

pub every-also : (p q : ℕ → Bool) (s : List ℕ) → ((a : ℕ) → p a ≡ true → q a ≡ true) → every p s ≡ true → every q s ≡ true
unfolding every
every-also p q [] f e = refl
every-also p q (a ∷ s) f e = let d = if-both (p a) (every p s) e in rw (f a d.0) (every-also p q s f d.1)

-- a slice from a place to the end
pub rest-whole : (s : List ℕ) (k : ℕ) → take (length s - k) (drop k s) ≡ drop k s
rest-whole s k = take_all (length s - k) (drop k s) (omega (arith, length-drop k s))
