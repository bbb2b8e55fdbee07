-- A put leaves a usable table usable.
use Prim.Native.Nat.{ℕ}
use mathlib.Core.Bool.{Bool, true, false}
use mathlib.Core.Path.{◌≡◌, refl}
use mathlib.Core.List.{List, [], ◌∷◌}
use borrow.Author.Tests.{le-leb}
use lib.ListN.{length}
use Rattle.wing_node.specs.Bool.{if}
use Rattle.wing_node.proofs.Branches.{if-both}
use Rattle.wing_mirror.specs.Rows.{Table, StoreLaws, insert, places, takes, store}
use Rattle.wing_mirror.specs.Entry.{Entry, storable}
use Rattle.wing_mirror.specs.Layout.{Layout, Lawful, kept}
use Rattle.wing_mirror.specs.Table.{rows, every, checked_of, sound_of, usable_of, usable, put, fits}
use Rattle.wing_mirror.specs.Puts.{PutEffect, put_of}
use Rattle.wing_mirror.proofs.Tables.Ordered.{Cmp, cmp, low, same, high, insert-low, insert-same, insert-high}
use Rattle.wing_mirror.proofs.Tables.Stays.{stored}
use Rattle.wing_mirror.proofs.Records.Usables.{in-range, few, formed, up}

pub every-insert : {A : Type 0} (key : A → ℕ) (p : A → Bool) (e : A) (xs : List A) → p e ≡ true → every p xs ≡ true → every p (insert key e xs) ≡ true
unfolding insert every
every-insert key p e [] h a = rw h
every-insert key p e (x ∷ xs) h a = go (cmp (key x) (key e)) (every-insert key p e xs h b.1)
  where
    b : (p x ≡ true) × (every p xs ≡ true)
    b = if-both (p x) (every p xs) a

    go : Cmp (key x) (key e) → every p (insert key e xs) ≡ true → every p (insert key e (x ∷ xs)) ≡ true
    go (low q) ih = rw (insert-low key e x xs q, b.0, ih)
    go (same q) ih = rw (insert-same key e x xs q, h, b.1)
    go (high q) ih = rw (insert-high key e x xs q, h, b.0, b.1)

module _ (L : Layout) (r : List ℕ) (t : Table) (wide : length r ≡ L.width) (form : L.well_formed r ≡ true) (u : usable L t ≡ true) where
  open L use {width, key_of, well_formed}

  -- what a put leaves, in its parts
  pub put-stored : takes width key_of r t ≡ true → StoreLaws width key_of r t
  put-stored f = stored width key_of r t wide (few L t u) (up L t u) f

  pub store-usable : takes width key_of r t ≡ true → usable L (store width key_of r t) ≡ true
  unfolding usable_of sound_of checked_of
  store-usable f =
      let s = put-stored f in
      rw (
        s.size,
        in-range L t u,
      ) (rw (le-leb (store width key_of r t).count (places width t) (rw s.size at s.room), s.rows, every-insert key_of well_formed r (rows L t) form (formed L t u)) (rw s.rows at s.sorted))

  -- taken or not
  pub put-usable : usable L (put_of L r t).after ≡ true
  unfolding put_of
  put-usable = go (takes width key_of r t) refl
    where
      go : (b : Bool) → takes width key_of r t ≡ b → usable L (if {A = PutEffect} b (record { after = store width key_of r t; taken = true }) (record { after = t; taken = false })).after ≡ true
      go true q = store-usable q
      go false q = u

-- the same for an entry
pub entry-usable : {L : Layout} → Lawful L → (e : Entry) (t : Table) → storable e.value ≡ true → L.keeping e.value ≡ kept → usable L t ≡ true → fits L e t ≡ true → usable L (put L e t) ≡ true
unfolding put fits
entry-usable {L} laws e t h k u f = store-usable L (L.record_of e) t (laws.wide e) (laws.formed e h k) u f
