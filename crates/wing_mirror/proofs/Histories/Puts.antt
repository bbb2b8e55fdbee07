-- What a put into the plain machine's map leaves there.
use Prim.Native.Nat.{ℕ, ◌<◌}
use mathlib.Core.Bool.{Bool, true, false}
use mathlib.Core.Path.{◌≡◌, refl, sym, ◌∙◌, ap}
use mathlib.Core.Logic.{◌⊎◌, inl, inr, ◌↔◌}
use mathlib.Core.List.{List, [], ◌∷◌}
use native.Mathlib.Omega.{arith}
use borrow.Author.Tests.{eq-eqb}
use lib.IntN.{ℤ, pos, negsuc}
use Rattle.wing_node.specs.Bool.{if}
use Rattle.wing_mirror.specs.Rows.{rising, In}
use Rattle.wing_mirror.specs.Entry.{Entry, entry}
use Rattle.wing_mirror.specs.Layout.{Layout}
use Rattle.wing_mirror.specs.Machine.{same_id, has, put_in}
use Rattle.wing_mirror.specs.History.{rank, in_order}
use Rattle.wing_mirror.proofs.Tables.Ordered.{rising-head, rising-tail}
use Rattle.wing_mirror.proofs.Tables.Members.{above}
use Rattle.wing_mirror.proofs.Records.Ids.{same_id_lem}
use Rattle.wing_mirror.proofs.Histories.Maps.{ValidMap, order-rising}
use Rattle.wing_mirror.proofs.Histories.InOrder.{in_order_lem}

pub id_same : (i : ℤ) → same_id i i ≡ true
id_same (pos n) = eq-eqb n n refl
id_same (negsuc n) = eq-eqb n n refl

-- what is put is there
pub put-in : (x : Entry) (m : List Entry) → In x (put_in x m)
unfolding put_in
put-in x [] = inl refl
put-in x (y ∷ m) = go (same_id y.id x.id) (put-in x m)
  where
    go : (t : Bool) → In x (put_in x m) → In x (if t (x ∷ m) (y ∷ put_in x m))
    go true i = inl refl
    go false i = inr i

-- and nothing else is new
in-put : (e x : Entry) (m : List Entry) → In e (put_in x m) → (e ≡ x) ⊎ In e m
unfolding put_in
in-put e x [] i = i
in-put e x (y ∷ m) i = go (same_id y.id x.id) i (in-put e x m)
  where
    go : (t : Bool) → In e (if t (x ∷ m) (y ∷ put_in x m)) → (In e (put_in x m) → (e ≡ x) ⊎ In e m) → (e ≡ x) ⊎ In e (y ∷ m)
    go true (inl p) ih = inl p
    go true (inr j) ih = inr (inr j)
    go false (inl p) ih = inr (inl p)
    go false (inr j) ih = deeper (ih j)
      where
        deeper : (e ≡ x) ⊎ In e m → (e ≡ x) ⊎ In e (y ∷ m)
        deeper (inl p) = inl p
        deeper (inr k) = inr (inr k)

-- the other nodes' entries stay
stays-in : (e x : Entry) (m : List Entry) → (e.id ≡ x.id → ⊥) → In e m → In e (put_in x m)
unfolding put_in
stays-in e x [] n i = absurd i
stays-in e x (y ∷ m) n i = go (same_id y.id x.id) refl i (stays-in e x m n)
  where
    go : (t : Bool) → same_id y.id x.id ≡ t → In e (y ∷ m) → (In e m → In e (put_in x m)) → In e (if t (x ∷ m) (y ∷ put_in x m))
    go true q (inl p) ih = absurd (n (ap (λ (z : Entry). z.id) p ∙ same_id_lem y.id x.id q))
    go true q (inr j) ih = inr j
    go false q (inl p) ih = inl p
    go false q (inr j) ih = inr (ih j)

pub put-others : (e x : Entry) (m : List Entry) → (e.id ≡ x.id → ⊥) → (In e (put_in x m) ↔ In e m)
put-others e x m n = (λ i. there (in-put e x m i), stays-in e x m n)
  where
    there : (e ≡ x) ⊎ In e m → In e m
    there (inl p) = absurd (n (ap (λ (z : Entry). z.id) p))
    there (inr j) = j

-- a node that the map has not has no entry there
pub has-none : (id : ℤ) (m : List Entry) → has id m ≡ false → (e : Entry) → In e m → e.id ≡ id → ⊥
unfolding has
has-none id [] h e i q = i
has-none id (y ∷ m) h e i q = go (same_id y.id id) refl h i (λ z j. has-none id m z e j q)
  where
    go : (t : Bool) → same_id y.id id ≡ t → if t true (has id m) ≡ false → In e (y ∷ m) → (has id m ≡ false → In e m → ⊥) → ⊥
    go true k z j ih = let w : ◌≡◌ {A = ℕ} 0 1 = cc in omega arith
    go false k z (inl p) ih =
        let s : same_id y.id id ≡ true = ap (λ (i : ℤ). same_id i id) (sym (ap (λ (x : Entry). x.id) p) ∙ q) ∙ id_same id in
        let z : ◌≡◌ {A = Bool} true false = sym s ∙ k in let w : ◌≡◌ {A = ℕ} 0 1 = cc in omega arith
    go false k z (inr j) ih = ih z j

-- in rising order there is one entry of a place
one-ranked : (xs : List Entry) → rising rank xs ≡ true → (e x : Entry) → In e xs → In x xs → rank e ≡ rank x → e ≡ x
one-ranked [] r e x i j q = absurd i
one-ranked (y ∷ ys) r e x (inl p) (inl o) q = p ∙ sym o
one-ranked (y ∷ ys) r e x (inl p) (inr j) q =
    let l : rank y < rank x = above rank (rank y) x ys (rising-head rank y ys r) (rising-tail rank y ys r) j in
    absurd (omega (arith, ap rank p))
one-ranked (y ∷ ys) r e x (inr i) (inl o) q =
    let l : rank y < rank e = above rank (rank y) e ys (rising-head rank y ys r) (rising-tail rank y ys r) i in
    absurd (omega (arith, ap rank o))
one-ranked (y ∷ ys) r e x (inr i) (inr j) q = one-ranked ys (rising-tail rank y ys r) e x i j q

-- and so in a valid map one entry of a node
pub one_entry : {L : Layout} (places : ℕ) (m : List Entry) → ValidMap L places m → (e x : Entry) → In e m → In x m → e.id ≡ x.id → e ≡ x
one_entry places m g e x i j q =
    one-ranked (in_order m) (order-rising m) e x (in_order_lem e m g.apart i) (in_order_lem x m g.apart j) (ap (λ (k : ℤ). rank (entry k e.value e.origin)) q)

-- a node that the map has stays there
pub put_has : (id : ℤ) (x : Entry) (m : List Entry) → has id m ≡ true → has id (put_in x m) ≡ true
unfolding put_in has
put_has id x [] h = absurd (let w : ◌≡◌ {A = ℕ} 0 1 = cc in omega arith)
put_has id x (y ∷ m) h = go (same_id y.id x.id) refl (same_id y.id id) refl h (put_has id x m)
  where
    all_true : (b : Bool) → if b true true ≡ true
    all_true true = refl
    all_true false = refl

    go : (t : Bool) → same_id y.id x.id ≡ t → (u : Bool) → same_id y.id id ≡ u → if u true (has id m) ≡ true → (has id m ≡ true → has id (put_in x m) ≡ true) → has id (if t (x ∷ m) (y ∷ put_in x m)) ≡ true
    go true q true k z ih = rw (← same_id_lem y.id x.id q, k)
    go true q false k z ih = rw z (all_true (same_id x.id id))
    go false q true k z ih = rw k
    go false q false k z ih = rw k (ih z)

-- an entry's node is one that the map has
pub in-has : (e : Entry) (m : List Entry) → In e m → has e.id m ≡ true
in-has e m i = go (has e.id m) refl
  where
    go : (t : Bool) → has e.id m ≡ t → t ≡ true
    go true q = refl
    go false q = absurd (has-none e.id m q e i refl)
