-- What the bytes of a table mean, as specs/TableBytes states it.
use Prim.Native.Nat.{ℕ, zero, suc, ◌+◌, ◌-◌, ◌<◌, ◌≤◌}
use mathlib.Core.Bool.{Bool, true, false, true≢false}
use mathlib.Core.Path.{◌≡◌, refl, sym, ◌∙◌, ap}
use mathlib.Core.Logic.{◌↔◌}
use mathlib.Core.List.{List, [], ◌∷◌, map}
use native.Mathlib.Omega.{arith}
use native.Mathlib.Numerals.{add-one}
use borrow.Author.Tests.{ltb-false, leb-true, leb-false, eqb-true, le-ltb, le-leb, eq-eqb}
use lib.Dec.{ltb, leb, eqb}
use lib.IntN.{ℤ}
use lib.Signed.{lt_z}
use lib.ListN.{length, take, drop, get_or}
use lib.Seq.{get_or-drop}
use Rattle.wing_node.specs.Bool.{if}
use Rattle.wing_node.specs.Signed.{InBits}
use Rattle.wing_node.specs.Utf8.{utf8}
use Rattle.wing_node.proofs.Branches.{and_left, and_right, if-both}
use Rattle.wing_wire.specs.Range.{AreBytes}
use Rattle.wing_wire.specs.State.{zeros}
use Rattle.wing_mirror.specs.Rows.{Table, holds, below, rising, takes, All}
use Rattle.wing_mirror.specs.Origin.{origin_of}
use Rattle.wing_mirror.specs.Entry.{entry, rank_of, rising_ids, ids}
use Rattle.wing_mirror.specs.Layout.{Row}
use Rattle.wing_mirror.specs.Record.{key_of, value_in, entry_in, string_kept, well_kept, well_formed, full}
use Rattle.wing_mirror.specs.Table.{rows, every, places_allowed, checked_of, sound_of, sound_table, usable_of, usable, fits}
use Rattle.wing_mirror.proofs.Tables.Chunks.{length-records}
use Rattle.wing_mirror.proofs.Tables.Numbers.{placed, found_at}
use Rattle.wing_mirror.proofs.Records.Ids.{same_id_lem, same_rank}
use Rattle.wing_mirror.proofs.Records.Usables.{up}
use Rattle.wing_mirror.proofs.Records.Said.{row_of}
use Rattle.wing_mirror.proofs.Records.Full.{full-laws}
use Rattle.wing_mirror.proofs.Records.Entries.{row-stands, each, rows-signed}
use Rattle.promises.specs.TableBytes.{place_at, places_in, id_at, kind_at, origin_byte_at, length_at, RecordBytes, SoundBytes, UsableBytes, TableBytes, NoPlaceLeft, NoPlace}

-- ---- bytes that are all 0

zeros-at : (s : List ℕ) → zeros s ≡ true → (i : ℕ) → get_or s i 0 ≡ 0
unfolding zeros
zeros-at [] h i = refl
zeros-at (b ∷ s) h zero = eqb-true b 0 (and_left (eqb b 0) (zeros s) h)
zeros-at (b ∷ s) h (suc i) = zeros-at s (and_right (eqb b 0) (zeros s) h) i

at-zeros : (s : List ℕ) → ((i : ℕ) → get_or s i 0 ≡ 0) → zeros s ≡ true
unfolding zeros
at-zeros [] h = refl
at-zeros (b ∷ s) h = rw (eq-eqb b 0 (h 0)) (at-zeros s (λ i. h (suc i)))

-- the bytes of a place after the first n of its payload
after-payload : (n : ℕ) (p : List ℕ) (i : ℕ) → get_or (drop n (drop 8 p)) i 0 ≡ get_or p (8 + (n + i)) 0
after-payload n p i = get_or-drop n (drop 8 p) i 0 ∙ get_or-drop 8 p (n + i) 0

zeros-filled : (n : ℕ) (p : List ℕ) → zeros (drop n (drop 8 p)) ≡ true → (m : ℕ) → n ≤ m → get_or p (8 + m) 0 ≡ 0
zeros-filled n p h m l =
    let z : n + (m - n) ≡ m = omega arith in
    rw (← z) (sym (after-payload n p (m - n)) ∙ zeros-at (drop n (drop 8 p)) h (m - n))

filled-zeros : (n : ℕ) (p : List ℕ) → ((m : ℕ) → n ≤ m → get_or p (8 + m) 0 ≡ 0) → zeros (drop n (drop 8 p)) ≡ true
filled-zeros n p h = at-zeros (drop n (drop 8 p)) (λ i. after-payload n p i ∙ h (n + i) (omega arith))

-- ---- the form of a record

-- kind, length and payload, in figures
record Kept (k n : ℕ) (q : List ℕ) : Type 0 where
  pub known : k ≤ 2
  pub four : k ≤ 1 → n ≡ 4
  pub text : k ≡ 2 → (n ≤ 256) × (utf8 (take n q) ≡ true)
  pub zero_filled : zeros (drop n q) ≡ true

kept-says : (k n : ℕ) (q : List ℕ) → well_kept k n q ≡ true → Kept k n q
unfolding well_kept string_kept
kept-says k n q = go (leb k 1) refl
  where
    go : (a : Bool) → leb k 1 ≡ a → if a (if (eqb n 4) (zeros (drop 4 q)) false) (if (eqb k 2) (if (leb n 256) (if (zeros (drop n q)) (utf8 (take n q)) false) false) false) ≡ true → Kept k n q
    go true e h =
        let b = if-both (eqb n 4) (zeros (drop 4 q)) h in
        let l = eqb-true n 4 b.0 in
        let s = leb-true k 1 e in
        record { known = omega arith; four = λ _. l; text = λ x. absurd (omega arith); zero_filled = rw l b.1 }
    go false e h =
        let b = if-both (eqb k 2) (if (leb n 256) (if (zeros (drop n q)) (utf8 (take n q)) false) false) h in
        let z = eqb-true k 2 b.0 in
        let d = if-both (leb n 256) (if (zeros (drop n q)) (utf8 (take n q)) false) b.1 in
        let f = if-both (zeros (drop n q)) (utf8 (take n q)) d.1 in
        record { known = omega arith; four = λ x. absurd (omega arith); text = λ _. (leb-true n 256 d.0, f.1); zero_filled = f.0 }

says-kept : (k n : ℕ) (q : List ℕ) → Kept k n q → well_kept k n q ≡ true
unfolding well_kept string_kept
says-kept k n q h = go (leb k 1) refl
  where
    go : (a : Bool) → leb k 1 ≡ a → if a (if (eqb n 4) (zeros (drop 4 q)) false) (if (eqb k 2) (if (leb n 256) (if (zeros (drop n q)) (utf8 (take n q)) false) false) false) ≡ true
    go true e =
        let l : n ≡ 4 = h.four (leb-true k 1 e) in
        rw (eq-eqb n 4 l) (rw l at h.zero_filled)
    go false e =
        let z : k ≡ 2 = omega (arith, leb-false k 1 e, h.known) in
        let t = h.text z in
        rw (eq-eqb k 2 z, le-leb n 256 t.0, h.zero_filled) t.1

form-says : (p : List ℕ) → well_formed p ≡ true → RecordBytes p
unfolding well_formed
form-says p h =
    let b = if-both (leb (origin_byte_at p) 1) (well_kept (kind_at p) (length_at p) (drop 8 p)) h in
    let k = kept-says (kind_at p) (length_at p) (drop 8 p) b.1 in
    record { kind = k.known; origin = leb-true (origin_byte_at p) 1 b.0; number = k.four; string = k.text; filled = zeros-filled (length_at p) p k.zero_filled }

says-form : (p : List ℕ) → RecordBytes p → well_formed p ≡ true
unfolding well_formed
says-form p h =
    rw (le-leb (origin_byte_at p) 1 h.origin)
    (says-kept (kind_at p) (length_at p) (drop 8 p) (record { known = h.kind; four = h.number; text = h.string; zero_filled = filled-zeros (length_at p) p h.filled }))

-- ---- lists by number

every-at : (p : List ℕ → Bool) (rs : List (List ℕ)) → every p rs ≡ true → (n : ℕ) → n < length rs → p (get_or rs n []) ≡ true
unfolding every
every-at p [] h n l = absurd (omega arith)
every-at p (r ∷ rs) h zero l = (if-both (p r) (every p rs) h).0
every-at p (r ∷ rs) h (suc n) l = every-at p rs (if-both (p r) (every p rs) h).1 n (omega arith)

at_every : (p : List ℕ → Bool) (rs : List (List ℕ)) → ((n : ℕ) → n < length rs → p (get_or rs n []) ≡ true) → every p rs ≡ true
unfolding every
at_every p [] h = refl
at_every p (r ∷ rs) h = rw (h 0 (omega arith)) (at_every p rs (λ n l. h (suc n) (omega arith)))

all-at : (P : List ℕ → Type 0) (rs : List (List ℕ)) → All P rs → (n : ℕ) → n < length rs → P (get_or rs n [])
all-at P [] a n l = absurd (omega arith)
all-at P (r ∷ rs) a zero l = a.0
all-at P (r ∷ rs) a (suc n) l = all-at P rs a.1 n (omega arith)

-- the id of a number
abbrev pub id_of : List (List ℕ) → ℕ → ℤ
id_of rs n = (entry_in (get_or rs n [])).id

rise-at : (rs : List (List ℕ)) → rising_ids (ids (map entry_in rs)) ≡ true → (n : ℕ) → suc n < length rs → lt_z (id_of rs n) (id_of rs (suc n)) ≡ true
unfolding rising_ids
rise-at [] h n l = absurd (omega arith)
rise-at (q ∷ []) h n l = absurd (omega arith)
rise-at (q ∷ r ∷ rs) h zero l = (if-both (lt_z (entry_in q).id (entry_in r).id) (rising_ids (ids (map entry_in (r ∷ rs)))) h).0
rise-at (q ∷ r ∷ rs) h (suc n) l = rise-at (r ∷ rs) (if-both (lt_z (entry_in q).id (entry_in r).id) (rising_ids (ids (map entry_in (r ∷ rs)))) h).1 n (omega arith)

at-rise : (rs : List (List ℕ)) → ((n : ℕ) → suc n < length rs → lt_z (id_of rs n) (id_of rs (suc n)) ≡ true) → rising_ids (ids (map entry_in rs)) ≡ true
unfolding rising_ids
at-rise [] h = refl
at-rise (q ∷ []) h = refl
at-rise (q ∷ r ∷ rs) h = rw (h 0 (omega arith)) (at-rise (r ∷ rs) (λ n l. h (suc n) (omega arith)))

-- ---- a table's records

module _ (t : Table) where
  counted : length (rows full t) ≡ t.count
  counted = length-records 264 t.count t.buffer

  -- the record of a number stands in the place of that number
  place : (n : ℕ) → n < t.count → get_or (rows full t) n [] ≡ place_at n t.buffer
  place n l = row_of 264 t.count n t.buffer l

  pub id-there : (n : ℕ) → n < t.count → id_of (rows full t) n ≡ id_at (place_at n t.buffer)
  unfolding entry_in
  id-there n l = ap id_at (place n l)

  module _ (b : AreBytes t.buffer) where
    sound-says : sound_table full t ≡ true → SoundBytes t
    sound-says h = record {
      room = few-records;
      form = λ n l. form-says (place_at n t.buffer) (rw (← place n l) (every-at well_formed (rows full t) forms n (omega (arith, counted))));
      order = λ n l.
          let s : suc n < t.count = omega arith in
          rw (add-one n, ← id-there n (omega arith), ← id-there (suc n) s) (rise-at (rows full t) rise n (omega (arith, counted)));
    }
      where
        both : (leb t.count (places_in t.buffer) ≡ true) × (checked_of key_of well_formed (rows full t) ≡ true)
        both = if-both _ _ (unfold sound_of in h)

        few-records : t.count ≤ places_in t.buffer
        few-records = leb-true _ _ both.0

        forms : every well_formed (rows full t) ≡ true
        forms = (if-both (every well_formed (rows full t)) (rising key_of (rows full t)) (unfold checked_of in both.1)).0

        rise : rising_ids (ids (map entry_in (rows full t))) ≡ true
        rise = sym (rows-signed full-laws t b few-records forms) ∙ h

    says-sound : SoundBytes t → sound_table full t ≡ true
    says-sound h = rows-signed full-laws t b h.room forms ∙ at-rise (rows full t) rise
      where
        forms : every well_formed (rows full t) ≡ true
        forms = at_every well_formed (rows full t) (λ n l. let m : n < t.count = omega (arith, counted) in rw (place n m) (says-form (place_at n t.buffer) (h.form n m)))

        rise : (n : ℕ) → suc n < length (rows full t) → lt_z (id_of (rows full t) n) (id_of (rows full t) (suc n)) ≡ true
        rise n l =
            let m : suc n < t.count = omega (arith, counted) in
            rw (id-there n (omega arith), id-there (suc n) m, ← add-one n) (h.order n (omega (arith, add-one n)))

-- 1 to 1,024
pub allowed : (n : ℕ) → (places_allowed n ≡ true ↔ ((1 ≤ n) × (n ≤ 1024)))
unfolding places_allowed
allowed n = (λ h. let b = if-both (leb 1 n) (leb n 1024) h in (leb-true 1 n b.0, leb-true n 1024 b.1), λ h. rw (le-leb 1 n h.0) (le-leb n 1024 h.1))

usable-says : (t : Table) → AreBytes t.buffer → (usable full t ≡ true ↔ UsableBytes t)
unfolding usable_of
usable-says t b = (to, λ h. rw ((allowed (places_in t.buffer)).1 (h.least, h.most)) (says-sound t b h.sound))
  where
    to : if (places_allowed (places_in t.buffer)) (sound_table full t) false ≡ true → UsableBytes t
    to h =
        let c = if-both (places_allowed (places_in t.buffer)) (sound_table full t) h in
        let a = (allowed (places_in t.buffer)).0 c.0 in
        record { least = a.0; most = a.1; sound = sound-says t b c.1 }

pub table-bytes : TableBytes
unfolding entry_in value_in origin_of
table-bytes = record {
  count = counted;
  place = place;
  id = λ p. refl;
  integers = λ p e. rw e;
  floats = λ p e. rw e;
  strings = λ p e. rw e;
  console = λ p e. rw e;
  set_order = λ p e. rw e;
  stored = λ e h. (full-laws.wide e, form-says (full.record_of e) (full-laws.formed e h.text h.is_kept), full-laws.said e h);
  allowed = allowed;
  sound = λ t b. (sound-says t b, says-sound t b);
  taken = usable-says;
}

-- ---- no place

module _ (t : Table) (b : AreBytes t.buffer) (u : usable full t ≡ true) where
  -- the record of a number has the form
  pub formed : (n : ℕ) → n < t.count → Row full (get_or (rows full t) n [])
  formed n l = all-at (Row full) (rows full t) (each full-laws t b u) n (omega (arith, counted t))

  -- a record stands where its id does
  key-there : (n : ℕ) → n < t.count → key_of (get_or (rows full t) n []) ≡ rank_of (id_of (rows full t) n)
  key-there n l = sym (row-stands full-laws (get_or (rows full t) n []) (formed n l))

  module _ (id : ℤ) (i : InBits 31 id) where
    -- some record has the id, if its place in the order is taken
    held : holds key_of (rank_of id) (rows full t) ≡ true → NoPlaceLeft id t → ⊥
    held h x =
        let n = below key_of (rank_of id) (rows full t) in
        let p = placed key_of [] (rank_of id) (rows full t) (up full t u) h in
        let l : n < t.count = omega (arith, p.0, counted t) in
        let j : ℤ = id_of (rows full t) n in
        let k : rank_of j ≡ rank_of id = sym (key-there n l) ∙ p.1 in
        let e : j ≡ id = same_id_lem j id (same_rank j id (full-laws.valid (get_or (rows full t) n []) (formed n l)).node i ∙ eq-eqb (rank_of j) (rank_of id) k) in
        x.new n l (sym (id-there t n l) ∙ e)

    -- and it is taken, if some record has the id
    holding : (n : ℕ) → n < t.count → id_at (place_at n t.buffer) ≡ id → holds key_of (rank_of id) (rows full t) ≡ true
    holding n l e = (found_at key_of [] (rank_of id) n (rows full t) (up full t u) (omega (arith, counted t)) (key-there n l ∙ ap rank_of (id-there t n l ∙ e))).0

    no-place-by : (k : ℕ) → k ≡ rank_of id → (if (holds key_of k (rows full t)) true (ltb t.count (places_in t.buffer)) ≡ false ↔ NoPlaceLeft id t)
    no-place-by k z = rw z (go (holds key_of (rank_of id) (rows full t)) refl)
      where
        go : (h : Bool) → holds key_of (rank_of id) (rows full t) ≡ h → (if h true (ltb t.count (places_in t.buffer)) ≡ false ↔ NoPlaceLeft id t)
        go true q = (λ e. absurd (true≢false e), λ x. absurd (held q x))
        go false q = (λ e. record { new = λ n l f. true≢false (sym (holding n l f) ∙ q); none_left = ltb-false _ _ e }, λ x. le-ltb _ _ x.none_left)

pub no_place_lem : NoPlace
unfolding fits takes
no_place_lem t id v o b i u = no-place-by t b u id i (key_of (full.record_of (entry id v o))) (full-laws.placed (entry id v o) i)
