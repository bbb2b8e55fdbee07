-- The plain machine's map, and its entries in rising id order.
use Prim.Native.Nat.{ℕ, suc, ◌≤◌}
use mathlib.Core.Bool.{Bool, true, false}
use mathlib.Core.Path.{◌≡◌, refl, sym, ◌∙◌, ap}
use mathlib.Core.List.{List, [], ◌∷◌}
use native.Mathlib.Omega.{arith}
use borrow.Author.Tests.{ltb-true, eqb-true, eqb-false}
use lib.Dec.{ltb, eqb}
use lib.ListN.{length}
use Rattle.wing_node.specs.Bool.{if}
use Rattle.wing_mirror.specs.Rows.{holds, rising, insert, All}
use Rattle.wing_mirror.specs.Entry.{Entry}
use Rattle.wing_mirror.specs.Layout.{Layout, ValidEntry}
use Rattle.wing_mirror.specs.Machine.{same_id, has, put_in, room}
use Rattle.wing_mirror.specs.History.{rank, in_order}
use Rattle.wing_mirror.proofs.Tables.Ordered.{suc-if, all_insert, insert-again, insert-swap, rising-insert, holds-insert, length-insert}
use Rattle.wing_mirror.proofs.Records.Ids.{same_rank}

-- a node is in the map exactly if its rank is in the order
pub has-holds : {L : Layout} (e : Entry) (m : List Entry) → ValidEntry L e → All (ValidEntry L) m → has e.id m ≡ holds rank (rank e) (in_order m)
unfolding has in_order holds
has-holds e [] p a = refl
has-holds e (x ∷ m) p a =
    rw (same_rank x.id e.id a.0.node p.node, has-holds e m p a.1) (sym (holds-insert rank (rank e) x (in_order m)))

-- a put into the map is a put into the order
pub put_order : {L : Layout} (e : Entry) (m : List Entry) → ValidEntry L e → All (ValidEntry L) m → in_order (put_in e m) ≡ insert rank e (in_order m)
unfolding put_in in_order
put_order e [] p a = refl
put_order e (x ∷ m) p a = go (eqb (rank x) (rank e)) refl (put_order e m p a.1)
  where
    k : same_id x.id e.id ≡ eqb (rank x) (rank e)
    k = same_rank x.id e.id a.0.node p.node

    go : (t : Bool) → eqb (rank x) (rank e) ≡ t → in_order (put_in e m) ≡ insert rank e (in_order m) → in_order (put_in e (x ∷ m)) ≡ insert rank e (in_order (x ∷ m))
    go true q ih = rw (k, q) (sym (insert-again rank e x (in_order m) (eqb-true (rank x) (rank e) q)))
    go false q ih = rw (k, q) (ap (insert rank x) ih ∙ sym (insert-swap rank e x (in_order m) (eqb-false (rank x) (rank e) q)))

-- the order is strictly rising
pub order-rising : (m : List Entry) → rising rank (in_order m) ≡ true
unfolding in_order rising
order-rising [] = refl
order-rising (x ∷ m) = rising-insert rank x (in_order m) (order-rising m)

-- one entry more, unless the node was there
pub length-put : (e : Entry) (m : List Entry) → length (put_in e m) ≡ if (has e.id m) (length m) (suc (length m))
unfolding put_in has
length-put e [] = refl
length-put e (x ∷ m) = go (same_id x.id e.id) (length-put e m)
  where
    go : (t : Bool) → length (put_in e m) ≡ if (has e.id m) (length m) (suc (length m)) →
        length (if t (e ∷ m) (x ∷ put_in e m)) ≡ if (if t true (has e.id m)) (suc (length m)) (suc (suc (length m)))
    go true ih = refl
    go false ih = ap suc ih ∙ suc-if (has e.id m) (length m)

-- a put takes no entry away
pub put-grows : (e : Entry) (m : List Entry) → length m ≤ length (put_in e m)
put-grows e m = rw (length-put e m) (go (has e.id m))
  where
    go : (t : Bool) → length m ≤ if t (length m) (suc (length m))
    go true = omega arith
    go false = omega arith

-- what all entries share, in order
pub all-order : (P : Entry → Type 0) (m : List Entry) → All P m → All P (in_order m)
unfolding in_order
all-order P [] h = tt
all-order P (x ∷ m) h = all_insert rank P x (in_order m) h.0 (all-order P m h.1)

-- what all entries share, after a put
all-put : (P : Entry → Type 0) (e : Entry) (m : List Entry) → P e → All P m → All P (put_in e m)
unfolding put_in
all-put P e [] p h = (p, tt)
all-put P e (x ∷ m) p h = go (same_id x.id e.id) (all-put P e m p h.1)
  where
    go : (t : Bool) → All P (put_in e m) → All P (if t (e ∷ m) (x ∷ put_in e m))
    go true ih = (p, h.1)
    go false ih = (h.0, ih)

-- few enough, no node twice, each entry valid
pub record ValidMap (L : Layout) (places : ℕ) (m : List Entry) : Type 0 where
  pub few : length m ≤ places
  pub apart : length (in_order m) ≡ length m
  pub valid : All (ValidEntry L) m

-- the empty map is valid
pub valid-empty : {L : Layout} (places : ℕ) → ValidMap L places []
unfolding in_order
valid-empty places = record { few = omega arith; apart = refl; valid = tt }

-- a put leaves no node twice
pub apart-put : {L : Layout} (places : ℕ) (e : Entry) (m : List Entry) → ValidMap L places m → ValidEntry L e → length (in_order (put_in e m)) ≡ length (put_in e m)
apart-put places e m g p =
    rw (put_order e m p g.valid, length-insert rank e (in_order m) (order-rising m), g.apart, length-put e m, has-holds e m p g.valid)

-- a put that has room leaves a valid map valid
pub valid-put : {L : Layout} (places : ℕ) (e : Entry) (m : List Entry) → ValidMap L places m → ValidEntry L e → room places e.id m ≡ true → ValidMap L places (put_in e m)
unfolding room
valid-put {L} places e m g p q =
    record { few = rw (length-put e m) (go (has e.id m) q); apart = apart-put places e m g p; valid = all-put (ValidEntry L) e m p g.valid }
  where
    go : (t : Bool) → if t true (ltb (length m) places) ≡ true → (if t (length m) (suc (length m))) ≤ places
    go true r = g.few
    go false r = ltb-true (length m) places r
