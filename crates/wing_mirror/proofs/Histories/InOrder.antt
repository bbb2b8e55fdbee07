-- What is in a map is in its order, and the other way round.
use Prim.Native.Nat.{suc, ◌≤◌}
use mathlib.Core.Bool.{Bool, true, false}
use mathlib.Core.Path.{◌≡◌, refl, sym, ◌∙◌}
use mathlib.Core.Logic.{◌⊎◌, inl, inr}
use mathlib.Core.List.{List, [], ◌∷◌}
use native.Mathlib.Omega.{arith}
use lib.ListN.{length}
use Rattle.wing_node.specs.Bool.{if}
use Rattle.wing_mirror.specs.Rows.{holds, insert, In}
use Rattle.wing_mirror.specs.Entry.{Entry}
use Rattle.wing_mirror.specs.History.{rank, in_order}
use Rattle.wing_mirror.proofs.Tables.Ordered.{length-insert}
use Rattle.wing_mirror.proofs.Tables.Members.{in_insert, insert-in}
use Rattle.wing_mirror.proofs.Histories.Maps.{order-rising}

-- no entry more
length-order : (m : List Entry) → length (in_order m) ≤ length m
unfolding in_order
length-order [] = omega arith
length-order (x ∷ m) = rw (length-insert rank x (in_order m) (order-rising m)) (go (holds rank (rank x) (in_order m)) (length-order m))
  where
    go : (t : Bool) → length (in_order m) ≤ length m → (if t (length (in_order m)) (suc (length (in_order m)))) ≤ suc (length m)
    go true h = omega arith
    go false h = omega arith

-- what is in the order is in the map
pub order-in : (e : Entry) (m : List Entry) → In e (in_order m) → In e m
unfolding in_order
order-in e [] i = i
order-in e (x ∷ m) i = go (in_insert rank e x (in_order m) i) (order-in e m)
  where
    go : (e ≡ x) ⊎ In e (in_order m) → (In e (in_order m) → In e m) → In e (x ∷ m)
    go (inl p) ih = inl p
    go (inr p) ih = inr (ih p)

-- what is in a map with no node twice is in the order
pub in_order_lem : (e : Entry) (m : List Entry) → length (in_order m) ≡ length m → In e m → In e (in_order m)
unfolding in_order
in_order_lem e [] h i = i
in_order_lem e (x ∷ m) h i = go (holds rank (rank x) (in_order m)) refl (in_order_lem e m)
  where
    h' : (if (holds rank (rank x) (in_order m)) (length (in_order m)) (suc (length (in_order m)))) ≡ suc (length m)
    h' = sym (length-insert rank x (in_order m) (order-rising m)) ∙ h

    go : (t : Bool) → holds rank (rank x) (in_order m) ≡ t → (length (in_order m) ≡ length m → In e m → In e (in_order m)) → In e (insert rank x (in_order m))
    go true q ih = let a = rw q at h' in absurd (omega (arith, length-order m))
    go false q ih = insert-in rank e x (in_order m) q (turn i)
      where
        a : suc (length (in_order m)) ≡ suc (length m)
        a = rw q at h'

        turn : (e ≡ x) ⊎ In e m → (e ≡ x) ⊎ In e (in_order m)
        turn (inl p) = inl p
        turn (inr p) = inr (ih (omega (arith, a)) p)
