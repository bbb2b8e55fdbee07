-- Records from before 02's origin, as specs/OlderTables has them: which of them are sound now, and what else of the form there is.
use Prim.Native.Nat.{ℕ, ◌/◌, ◌≤◌}
use mathlib.Core.Bool.{true, false}
use mathlib.Core.Path.{◌≡◌, refl}
use mathlib.Core.List.{List, [], ◌∷◌, map}
use native.Mathlib.Omega.{arith}
use borrow.Author.Tests.{leb-true, eqb-true, le-leb}
use lib.Dec.{leb, eqb}
use lib.ListN.{length, take, drop, get_or, set}
use Rattle.wing_node.specs.Bool.{if}
use Rattle.wing_node.specs.Field.{big}
use Rattle.wing_node.proofs.Branches.{if-both}
use Rattle.wing_mirror.specs.Rows.{Table, rising, places, All}
use Rattle.wing_mirror.specs.Origin.{origin_of}
use Rattle.wing_mirror.specs.Entry.{Entry}
use Rattle.wing_mirror.specs.Record.{key_of, entry_in, string_kept, well_kept, well_formed, full}
use Rattle.wing_mirror.specs.Table.{rows, every, places_allowed, checked_of, sound_of, sound_table, usable_of, usable}
use Rattle.wing_mirror.specs.Origins.{entries_of}
use Rattle.wing_mirror.specs.OlderTables.{payload_before, form_before, key_before, OriginForms}
use Rattle.wing_mirror.specs.declared.origin.Origin.TheVariants.{Console}
use Rattle.wing_mirror.proofs.Records.Usables.{formed}

-- 01's payload is today's
same-payload : (k n : ℕ) (p : List ℕ) → payload_before k n p ≡ well_kept k n p
unfolding payload_before well_kept string_kept
same-payload k n p = refl

-- a record of the form before has today's, and its origin is the console
form-older : (r : List ℕ) → form_before r ≡ true → (well_formed r ≡ true) × ((entry_in r).origin ≡ Console)
unfolding form_before well_formed entry_in origin_of
form-older r h =
    let b = if-both (eqb (get_or r 5 0) 0) (payload_before (get_or r 4 0) (big (take 2 (drop 6 r))) (drop 8 r)) h in
    let z = eqb-true (get_or r 5 0) 0 b.0 in
    (rw (le-leb (get_or r 5 0) 1 (omega (arith, z)), ← same-payload (get_or r 4 0) (big (take 2 (drop 6 r))) (drop 8 r)) b.1, rw b.0)

rows-older : (rs : List (List ℕ)) → every form_before rs ≡ true → (every well_formed rs ≡ true) × All (λ (e : Entry). e.origin ≡ Console) (map entry_in rs)
unfolding every
rows-older [] h = (refl, tt)
rows-older (r ∷ rs) h =
    let b = if-both (form_before r) (every form_before rs) h in
    let f = form-older r b.0 in
    let ih = rows-older rs b.1 in
    (rw f.0 ih.0, (f.1, ih.1))

both : (t : Table) → sound_of 264 key_before form_before t ≡ true → (sound_table full t ≡ true) × All (λ (e : Entry). e.origin ≡ Console) (entries_of full t)
unfolding sound_of checked_of key_of
both t h =
    let b = if-both (leb t.count (places 264 t)) (if (every form_before (rows full t)) (rising key_before (rows full t)) false) h in
    let d = if-both (every form_before (rows full t)) (rising key_before (rows full t)) b.1 in
    let f = rows-older (rows full t) d.0 in
    (rw (b.0, f.0) d.1, f.1)

taken : (t : Table) → usable_of 264 key_before form_before t ≡ true → usable full t ≡ true
unfolding usable_of
taken t h =
    let b = if-both (places_allowed (length t.buffer / 264)) (sound_of 264 key_before form_before t) h in
    rw b.0 (both t b.1).0

rows-known : (rs : List (List ℕ)) → every well_formed rs ≡ true → All (λ (r : List ℕ). get_or r 5 0 ≤ 1) rs
unfolding every well_formed
rows-known [] h = tt
rows-known (r ∷ rs) h =
    let b = if-both (if (leb (get_or r 5 0) 1) (well_kept (get_or r 4 0) (big (take 2 (drop 6 r))) (drop 8 r)) false) (every well_formed rs) h in
    (leb-true (get_or r 5 0) 1 (if-both (leb (get_or r 5 0) 1) (well_kept (get_or r 4 0) (big (take 2 (drop 6 r))) (drop 8 r)) b.0).0, rows-known rs b.1)

known : (t : Table) → usable full t ≡ true → All (λ (r : List ℕ). get_or r 5 0 ≤ 1) (rows full t)
known t u = rows-known (rows full t) (formed full t u)

rest : (r : List ℕ) → length r ≡ 264 → well_formed r ≡ if (leb (get_or r 5 0) 1) (form_before (set r 5 0)) false
unfolding well_formed form_before payload_before well_kept string_kept
rest (a ∷ b ∷ c ∷ d ∷ e ∷ f ∷ r) h = refl
rest [] h = absurd (omega arith)
rest (a ∷ []) h = absurd (omega arith)
rest (a ∷ b ∷ []) h = absurd (omega arith)
rest (a ∷ b ∷ c ∷ []) h = absurd (omega arith)
rest (a ∷ b ∷ c ∷ d ∷ []) h = absurd (omega arith)
rest (a ∷ b ∷ c ∷ d ∷ e ∷ []) h = absurd (omega arith)

pub origin-forms : OriginForms
origin-forms = record { sound = λ t h. (both t h).0; taken = taken; older = λ t h. (both t h).1; known = known; rest = rest }
