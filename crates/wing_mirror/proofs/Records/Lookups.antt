-- Lookup and record reads tell of the same records, as specs/Lookups states it.
use Prim.Native.Nat.{ℕ, zero, suc, ◌<◌, ◌≤◌}
use mathlib.Core.Bool.{Bool, true, false}
use mathlib.Core.Path.{◌≡◌, refl, sym, ◌∙◌, ap}
use mathlib.Core.Logic.{◌↔◌}
use mathlib.Core.List.{List, [], ◌∷◌}
use native.Mathlib.Omega.{arith}
use borrow.Author.Tests.{lt-ltb, ltb-true, leb-true, eq-eqb}
use lib.Dec.{ltb, leb}
use lib.IntN.{ℤ}
use lib.ListN.{length, get_or, replicate, length-replicate}
use Rattle.wing_node.specs.declared.refusal.Refusal.{Refusal}
use Rattle.wing_node.specs.Bool.{if}
use Rattle.wing_node.specs.Result.{Result, ok, refused}
use Rattle.wing_node.specs.Signed.{InBits}
use Rattle.wing_node.specs.Utf8.{utf8}
use Rattle.wing_node.specs.Value.{NodeValue, integer, float, string, node_value}
use Rattle.wing_node.proofs.Branches.{if-both}
use Rattle.wing_wire.specs.Range.{AreBytes}
use Rattle.wing_mirror.specs.Rows.{Table, Found, found, nothing, holds, below, number_of, All}
use Rattle.wing_mirror.specs.Entry.{Entry, entry, rank_of, storable}
use Rattle.wing_mirror.specs.Layout.{Layout, Row, Lawful}
use Rattle.wing_mirror.specs.Table.{rows, usable, lookup_of}
use Rattle.wing_mirror.specs.Query.{answer_of, lookup_answer, value_of, bytes_beside, read_of, record_answer}
use Rattle.wing_mirror.specs.Answers.{lookup_result, record_result}
use Rattle.wing_mirror.specs.Lookups.{RecordOf, Lookups}
use Rattle.wing_mirror.specs.declared.origin.Origin.{Origin}
use Rattle.wing_mirror.proofs.Tables.Chunks.{length-records}
use Rattle.wing_mirror.proofs.Tables.Numbers.{placed, found_at}
use Rattle.wing_mirror.proofs.Records.Ids.{same_id_lem, same_rank}
use Rattle.wing_mirror.proofs.Records.Usables.{up}
use Rattle.wing_mirror.proofs.Records.Formed.{take-over}
use Rattle.wing_mirror.proofs.Records.Entries.{row-stands, each}
use Rattle.wing_node.specs.declared.refusal.Refusal.TheVariants.{NumberOver, TableUnsound}
use Rattle.std.specs.Prelude.{Ok}

-- ids that stand at one place are one
rank-one : (i j : ℤ) → InBits 31 i → InBits 31 j → rank_of i ≡ rank_of j → i ≡ j
rank-one i j h k e = same_id_lem i j (same_rank i j h k ∙ eq-eqb (rank_of i) (rank_of j) e)

-- what a read of an entry's record says is the entry
value_read : (id : ℤ) (v : NodeValue) (o : Origin) → storable v ≡ true → record_result (Ok (read_of (entry id v o))) ≡ Ok (entry id v o)
unfolding record_result read_of value_of bytes_beside node_value storable
value_read id (integer x) o h = refl
value_read id (float bits) o h = refl
value_read id (string s) o h =
    let l : length s ≤ 256 = leb-true (length s) 256 (if-both (leb (length s) 256) (utf8 s) h).0 in
    ap (λ (x : List ℕ). ok (entry id (string x) o)) (take-over s (replicate 256 0) (omega (arith, length-replicate {A = ℕ} 256 0)))

-- an element of a list all of which have it
all-at : {A : Type 0} (P : A → Type 0) (default : A) (xs : List A) (n : ℕ) → All P xs → n < length xs → P (get_or xs n default)
all-at P default [] n a l = absurd (omega arith)
all-at P default (x ∷ xs) zero a l = a.0
all-at P default (x ∷ xs) (suc n) a l = all-at P default xs n a.1 (omega arith)

-- a refusal is no value
no_value : {A : Type 0} (why : Refusal) (a : A) → refused why ≡ ok a → ⊥
no_value why a e = let z : ◌≡◌ {A = ℕ} 0 1 = cc in omega arith

module _ {L : Layout} (laws : Lawful L) where
  open L use {width, key_of, entry_in}

  lookup-refused : (t : Table) (id : ℤ) → usable L t ≡ false → lookup_result (lookup_answer L t id) ≡ refused TableUnsound
  unfolding lookup_answer lookup_result
  lookup-refused t id q = rw q

  record-refused : (t : Table) (n : ℕ) → usable L t ≡ false → record_result (record_answer L t n) ≡ refused TableUnsound
  unfolding record_answer record_result
  record-refused t n q = rw q

  module _ (t : Table) (b : AreBytes t.buffer) (u : usable L t ≡ true) where
    abbrev row : ℕ → List ℕ
    row n = get_or (rows L t) n []

    counted : length (rows L t) ≡ t.count
    counted = length-records width t.count t.buffer

    formed : (n : ℕ) → n < t.count → Row L (row n)
    formed n l = all-at (Row L) [] (rows L t) n (each laws t b u) (omega (arith, counted))

    -- a record that is there is read whole
    pub read-row : (n : ℕ) → n < t.count → record_result (record_answer L t n) ≡ ok (entry_in (row n))
    unfolding record_answer
    read-row n l =
        rw (u, lt-ltb n t.count l) (value_read (entry_in (row n)).id (entry_in (row n)).value (entry_in (row n)).origin (laws.valid (row n) (formed n l)).text)

    -- its key is its id's
    key_row : (n : ℕ) → n < t.count → key_of (row n) ≡ rank_of (entry_in (row n)).id
    key_row n l = sym (row-stands laws (row n) (formed n l))

    -- a number that is not below the count
    past : (n : ℕ) → ltb n t.count ≡ false → record_result (record_answer L t n) ≡ refused NumberOver
    unfolding record_answer record_result
    past n q = rw (u, q)

    module _ (id : ℤ) (i : InBits 31 id) where
      -- lookup by the list of rows
      looked : lookup_result (lookup_answer L t id) ≡ ok (if (holds key_of (rank_of id) (rows L t)) (found (below key_of (rank_of id) (rows L t))) nothing)
      unfolding lookup_answer lookup_of number_of answer_of lookup_result
      looked = rw u (go (holds key_of (rank_of id) (rows L t)))
        where
          go : (h : Bool) → lookup_result (answer_of (if h (found (below key_of (rank_of id) (rows L t))) nothing)) ≡ ok (if h (found (below key_of (rank_of id) (rows L t))) nothing)
          go true = refl
          go false = refl

      -- the record at the place that was found
      there : holds key_of (rank_of id) (rows L t) ≡ true → RecordOf L t (below key_of (rank_of id) (rows L t)) id
      there h =
          let n = below key_of (rank_of id) (rows L t) in
          let p = placed key_of [] (rank_of id) (rows L t) (up L t u) h in
          let l : n < t.count = omega (arith, p.0, counted) in
          let e = entry_in (row n) in
          let k : rank_of e.id ≡ rank_of id = sym (key_row n l) ∙ p.1 in
          record { value = e.value; origin = e.origin; read = read-row n l ∙ ap (λ (j : ℤ). ok (entry j e.value e.origin)) (rank-one e.id id (laws.valid (row n) (formed n l)).node i k) }

      -- a record of this id is found
      id-found : (n : ℕ) → RecordOf L t n id → (holds key_of (rank_of id) (rows L t) ≡ true) × (below key_of (rank_of id) (rows L t) ≡ n)
      id-found n r = go (ltb n t.count) refl
        where
          go : (x : Bool) → ltb n t.count ≡ x → (holds key_of (rank_of id) (rows L t) ≡ true) × (below key_of (rank_of id) (rows L t) ≡ n)
          go true q =
              let l : n < t.count = ltb-true n t.count q in
              let same : ◌≡◌ {A = Result Entry} (ok (entry_in (row n))) (ok (entry id r.value r.origin)) = sym (read-row n l) ∙ r.read in
              let w : ◌≡◌ {A = Entry} (entry_in (row n)) (entry id r.value r.origin) = cc in
              let e : (entry_in (row n)).id ≡ id = ap (λ (x : Entry). x.id) w in
              found_at key_of [] (rank_of id) n (rows L t) (up L t u) (omega (arith, l, counted)) (key_row n l ∙ ap rank_of e)
          go false q = absurd (no_value NumberOver (entry id r.value r.origin) (sym (past n q) ∙ r.read))

      -- lookup and record read, both ways
      pub at_row : (n : ℕ) → (lookup_result (lookup_answer L t id) ≡ ok (found n) ↔ RecordOf L t n id)
      at_row n = (λ e. from (holds key_of (rank_of id) (rows L t)) refl (sym looked ∙ e), λ r. looked ∙ rw ((id-found n r).0, (id-found n r).1))
        where
          from : (h : Bool) → holds key_of (rank_of id) (rows L t) ≡ h → ◌≡◌ {A = Result (Found ℕ)} (ok (if h (found (below key_of (rank_of id) (rows L t))) nothing)) (ok (found n)) → RecordOf L t n id
          from true q e = let z : below key_of (rank_of id) (rows L t) ≡ n = cc in rw z at (there q)
          from false q e = absurd (let z : nothing ≡ found n = cc in let w : ◌≡◌ {A = ℕ} 0 1 = cc in omega arith)

      pub none_row : lookup_result (lookup_answer L t id) ≡ ok nothing ↔ ((n : ℕ) → RecordOf L t n id → ⊥)
      none_row = (λ e. from (holds key_of (rank_of id) (rows L t)) refl (sym looked ∙ e), λ f. looked ∙ back (holds key_of (rank_of id) (rows L t)) refl f)
        where
          from : (h : Bool) → holds key_of (rank_of id) (rows L t) ≡ h → ◌≡◌ {A = Result (Found ℕ)} (ok (if h (found (below key_of (rank_of id) (rows L t))) nothing)) (ok nothing) → (n : ℕ) → RecordOf L t n id → ⊥
          from true q e n r = let z : found (below key_of (rank_of id) (rows L t)) ≡ nothing = cc in let w : ◌≡◌ {A = ℕ} 0 1 = cc in omega arith
          from false q e n r = let z : ◌≡◌ {A = Bool} true false = sym (id-found n r).0 ∙ q in let w : ◌≡◌ {A = ℕ} 0 1 = cc in omega arith

          back : (h : Bool) → holds key_of (rank_of id) (rows L t) ≡ h → ((n : ℕ) → RecordOf L t n id → ⊥) → ◌≡◌ {A = Result (Found ℕ)} (ok (if h (found (below key_of (rank_of id) (rows L t))) nothing)) (ok nothing)
          back true q f = absurd (f (below key_of (rank_of id) (rows L t)) (there q))
          back false q f = refl

  -- a table that is not usable is refused by both
  unusable : (t : Table) (id : ℤ) (n : ℕ) → usable L t ≡ false → (lookup_result (lookup_answer L t id) ≡ ok (found n) ↔ RecordOf L t n id)
  unusable t id n q = (λ e. absurd (no_value TableUnsound (found n) (sym looks ∙ e)), λ r. absurd (no_value TableUnsound (entry id r.value r.origin) (sym reads ∙ r.read)))
    where
      looks : lookup_result (lookup_answer L t id) ≡ refused TableUnsound
      looks = lookup-refused t id q

      reads : record_result (record_answer L t n) ≡ refused TableUnsound
      reads = record-refused t n q

  pub lookups : Lookups L
  lookups = record { at = λ t id n b i. go t id n b i (usable L t) refl; none = λ t id b i u. none_row t b u id i }
    where
      go : (t : Table) (id : ℤ) (n : ℕ) → AreBytes t.buffer → InBits 31 id → (u : Bool) → usable L t ≡ u → (lookup_result (lookup_answer L t id) ≡ ok (found n) ↔ RecordOf L t n id)
      go t id n b i true q = at_row t b q id i n
      go t id n b i false q = unusable t id n q
