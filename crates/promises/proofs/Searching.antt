-- How many ids the search for a node's record reads, as specs/Mirror states it.
use Prim.Native.Nat.{ℕ, ◌+◌, ◌≤◌, ◌<◌}
use mathlib.Core.Bool.{Bool, true, false}
use mathlib.Core.Path.{◌≡◌, refl, sym, ◌∙◌, ap}
use mathlib.Core.List.{List, [], ◌∷◌, ◌++◌}
use native.Mathlib.Omega.{arith}
use borrow.Author.Tests.{lt-ltb, le-ltb, ltb-true, ne_eqb}
use lib.Dec.{ltb, eqb}
use lib.IntN.{ℤ}
use lib.ListN.{length}
use lib.Signed.{lt_z}
use Rattle.wing_node.specs.Bool.{if}
use Rattle.wing_mirror.specs.Rows.{Table, Found, found, nothing, holds, below, over, rising, number_of, All}
use Rattle.wing_mirror.specs.Entry.{rank_of}
use Rattle.wing_mirror.specs.Record.{full}
use Rattle.wing_mirror.specs.Table.{every, rows, usable, lookup_of}
use Rattle.wing_mirror.specs.Lists.{filter}
use Rattle.wing_mirror.specs.HighEnd.{above_and_one}
use Rattle.wing_mirror.proofs.Tables.Ordered.{Cmp, cmp, low, same, high, rising-head, rising-tail, over-holds}
use Rattle.wing_mirror.proofs.Tables.Chunks.{length-records}
use Rattle.wing_mirror.proofs.Tables.Images.{every-all}
use Rattle.wing_mirror.proofs.Tables.HighEnd.{reads-above}
use Rattle.wing_mirror.proofs.Lists.Filtered.{filter-append, filter-every, filter_none}
use Rattle.wing_mirror.proofs.Records.Usables.{up}
use Rattle.wing_mirror.proofs.Records.Full.{full-laws}
use Rattle.wing_mirror.proofs.Records.Searches.{search-reads}
use Rattle.promises.specs.Mirror.{ids_read, SearchCounts}

-- those above, after those that are not
above-parted : {A : Type 0} (above : A → Bool) (xs ys : List A) → All (λ (x : A). above x ≡ false) xs → All (λ (x : A). above x ≡ true) ys →
    above_and_one above (xs ++ ys) ≡ length ys + if (eqb (length xs) 0) 0 1
unfolding above_and_one every
above-parted {A} above xs ys n a =
    rw (filter-append above xs ys, filter_none above xs n, filter-every above ys (every-all above ys a)) (ap (λ (m : ℕ). length ys + m) (go xs n))
  where
    go : (xs : List A) → All (λ (x : A). above x ≡ false) xs → ◌≡◌ {A = ℕ} (if (every above (xs ++ ys)) 0 1) (if (eqb (length xs) 0) 0 1)
    go [] n = rw (every-all above ys a)
    go (x ∷ xs) n = rw (n.0, ne_eqb (length (x ∷ xs)) 0 (λ e. omega arith))

module _ {A : Type 0} (key : A → ℕ) (k : ℕ) where
  abbrev above : A → Bool
  above x = ltb k (key x)

  -- in a rising list those after one that is not below k are above it
  above-after : (x : A) (xs : List A) → rising key (x ∷ xs) ≡ true → k ≤ key x → every above xs ≡ true
  unfolding every
  above-after x [] r h = refl
  above-after x (y ∷ xs) r h =
      let l : key x < key y = ltb-true (key x) (key y) (unfold over in rising-head key x (y ∷ xs) r) in
      rw (lt-ltb k (key y) (omega arith)) (above-after y xs (rising-tail key x (y ∷ xs) r) (omega arith))

  -- those above k, the one of k, and those below it
  abbrev Parts : List A → Type 0
  Parts xs = (length (filter above xs) + 1 + below key k xs ≡ length xs) × (every above xs ≡ false)

  first : (x : A) (xs : List A) → rising key (x ∷ xs) ≡ true → (holds key k xs ≡ true → Parts xs) → Cmp (key x) k → holds key k (x ∷ xs) ≡ true → Parts (x ∷ xs)
  unfolding holds below filter every
  first x xs r later (low l) h =
      let m = later (rw (ne_eqb (key x) k (λ e. omega arith)) at h) in
      rw (lt-ltb (key x) k l, le-ltb k (key x) (omega arith)) (omega (arith, m.0), refl)
  first x xs r later (same e) h = rw (le-ltb (key x) k (omega arith), le-ltb k (key x) (omega arith), filter-every above xs (above-after x xs r (omega arith))) (omega arith, refl)
  first x xs r later (high l) h =
      let q : holds key k xs ≡ true = rw (ne_eqb (key x) k (λ e. omega arith)) at h in
      absurd (let z : true ≡ false = sym q ∙ over-holds key k (key x) xs (rising-tail key x xs r) (rising-head key x xs r) (omega arith) in let w : ◌≡◌ {A = ℕ} 0 1 = cc in omega arith)

  parts : (xs : List A) → rising key xs ≡ true → holds key k xs ≡ true → Parts xs
  unfolding holds
  parts [] r h = absurd (let w : ◌≡◌ {A = ℕ} 0 1 = cc in omega arith)
  parts (x ∷ xs) r h = first x xs r (parts xs (rising-tail key x xs r)) (cmp (key x) k) h

  -- the reads of a key that is there and those below it are all
  above_at : (xs : List A) → rising key xs ≡ true → holds key k xs ≡ true → above_and_one above xs + below key k xs ≡ length xs
  unfolding above_and_one
  above_at xs r h = let p = parts xs r h in rw p.1 p.0

reads_at : (t : Table) (id : ℤ) (number : ℕ) → usable full t ≡ true → lookup_of full id t ≡ found number → ids_read id t + number ≡ t.count
unfolding lookup_of number_of
reads_at t id number u = go (holds full.key_of (rank_of id) (rows full t)) refl
  where
    go : (h : Bool) → holds full.key_of (rank_of id) (rows full t) ≡ h → if h (found (below full.key_of (rank_of id) (rows full t))) nothing ≡ found number → ids_read id t + number ≡ t.count
    go true q e =
        let z : below full.key_of (rank_of id) (rows full t) ≡ number = cc in
        omega (arith, z, reads-above full.key_of (rank_of id) (rows full t) (up full t u), above_at full.key_of (rank_of id) (rows full t) (up full t u) q, length-records full.width t.count t.buffer)
    go false q e = absurd (let z : ◌≡◌ {A = Found ℕ} nothing (found number) = e in let w : ◌≡◌ {A = ℕ} 0 1 = cc in omega arith)

pub search-counts : SearchCounts
search-counts = record {
  counted = search-reads full-laws;
  parted = λ t id xs ys b i u e n a. search-reads full-laws t id b i u ∙ ap (above_and_one (λ (j : ℤ). lt_z id j)) e ∙ above-parted (λ (j : ℤ). lt_z id j) xs ys n a;
  at = λ t id number b i. reads_at t id number;
}
