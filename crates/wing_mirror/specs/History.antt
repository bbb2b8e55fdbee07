-- Demand 3: a mirror and the plain machine over a whole history, for records of any layout; 01's is `full` (specs/Record.antt).
use Rattle.std.specs.Prelude.{ℕ, ◌+◌, ◌*◌, ◌/◌, ◌≤◌, true, ◌≡◌, ◌↔◌, List, [], ◌∷◌, map, length, take, drop, Ok, Err}
use Rattle.wing_wire.specs.State.{fresh_state}
use Rattle.wing_wire.specs.Range.{AreBytes}
use Rattle.wing_wire.specs.Write.{write_of}
use Rattle.wing_wire.specs.declared.state.State.{State}
use Rattle.wing_node.specs.Bytes.{joined}
use Rattle.wing_mirror.specs.Rows.{Table, All, places, insert, In}
use Rattle.wing_mirror.specs.Entry.{Entry, rising_ids, ids, rank_of}
use Rattle.wing_mirror.specs.Layout.{Layout, origin_cleared}
use Rattle.wing_mirror.specs.Table.{table, rows, every, sound_table, places_allowed}
use Rattle.wing_mirror.specs.Recall.{recall_bytes, recall_of}
use Rattle.wing_mirror.specs.Query.{same_answer}
use Rattle.wing_mirror.specs.Counts.{total}
use Rattle.wing_mirror.specs.Call.{Call, feed, set, Outcome, fed, sent, refused, Step, History, run_all, TypedCall}
use Rattle.wing_mirror.specs.Mirror.{mirror_feed, mirror_set}
use Rattle.wing_mirror.specs.Machine.{Machine, new_machine, machine_step}
use Rattle.wing_mirror.specs.declared.answer.Counts.{Counts}
use Rattle.wing_node.specs.Result.{Result}

-- 01: a mirror is a decoder state, a table buffer and its count
pub record Mirror : Type 0 where
  pub decoder : State
  pub table : Table

-- 01: fresh state, 0, whatever bytes its table buffer holds
abbrev pub new_mirror : List ℕ → Mirror
new_mirror buffer = record { decoder = fresh_state; table = table buffer 0 }

-- how a feed came out, by its answer
abbrev pub feed_outcome : Result Counts → Outcome
feed_outcome (Ok c) = fed c
feed_outcome (Err why) = refused why

-- how a set came out, by its answer and the bytes written
abbrev pub set_outcome : Result ℕ → List ℕ → Outcome
set_outcome (Ok n) out = sent (take n out)
set_outcome (Err why) out = refused why

-- an entry's place in the order of signed ids
abbrev pub rank : Entry → ℕ
rank e = rank_of e.id

-- 01: its nodes in rising id order
unfoldable pub in_order : List Entry → List Entry
in_order [] = []
in_order (e ∷ m) = insert rank e (in_order m)

-- two maps hold the same nodes with the same values and, by 02, the same origins
abbrev pub SameMap : List Entry → List Entry → Type 0
SameMap m n = (e : Entry) → (In e m ↔ In e n)

-- a feed's counts sum to at most its bytes plus 1; what a set sends fits its output
abbrev pub Bounded : Call → Outcome → Type 0
Bounded (feed bytes) (fed c) = total c ≤ length bytes + 1
Bounded (feed bytes) (sent out) = ⊥
Bounded (feed bytes) (refused why) = Unit {0}
Bounded (set id v out) (fed c) = ⊥
Bounded (set id v out) (sent bytes) = length bytes ≤ length out
Bounded (set id v out) (refused why) = Unit {0}

-- each call with its outcome
abbrev pub Each : (Call → Outcome → Type 0) → List Call → List Outcome → Type 0
Each P [] [] = Unit {0}
Each P [] (o ∷ os) = ⊥
Each P (c ∷ cs) [] = ⊥
Each P (c ∷ cs) (o ∷ os) = P c o × Each P cs os

module _ (L : Layout) where
  open L use {width, record_of, entry_in, well_formed, keeping}

  -- ---- the mirror's run, by the definitions that the contracts of feed and set equate the code with

  -- 01: each call gets what the one before returned or left; a set leaves the decoder alone
  unfoldable pub mirror_step : Mirror → Call → Step Mirror
  mirror_step m (feed bytes) =
      let x = mirror_feed L m.decoder m.table bytes in
      record { state = record { decoder = x.state; table = x.table }; outcome = feed_outcome x.answer }
  mirror_step m (set id v out) =
      let x = mirror_set L id v m.table out in
      record { state = record { decoder = m.decoder; table = x.table }; outcome = set_outcome x.answer x.out }

  -- a history of a fresh mirror over this buffer
  abbrev pub mirror_run : List ℕ → List Call → History Mirror
  mirror_run buffer calls = run_all mirror_step (new_mirror buffer) calls

  -- the same history of the plain machine with so many places
  abbrev pub machine_run : ℕ → List Call → History Machine
  machine_run places calls = run_all (machine_step keeping places) new_machine calls

  -- 01: places = buffer length div the width
  abbrev pub places_in : List ℕ → ℕ
  places_in buffer = length buffer / width

  -- ---- what is said of it

  -- the same outcomes in order (acceptance, numbers, counts, written bytes); the machine's nodes in rising id order with their last values and origins
  -- as records; and all bytes after the last record as they were at first
  pub record Agree (buffer : List ℕ) (x : History Mirror) (y : History Machine) : Type 0 where
    pub outcomes : x.outcomes ≡ y.outcomes
    pub decoders : x.state.decoder ≡ y.state.decoder
    pub counts : x.state.table.count ≡ length y.state.map
    pub records : rows L x.state.table ≡ map record_of (in_order y.state.map)
    pub entries : map entry_in (rows L x.state.table) ≡ in_order y.state.map
    pub rest : drop (width * length y.state.map) x.state.table.buffer ≡ drop (width * length y.state.map) buffer
    pub size : length x.state.table.buffer ≡ length buffer

  -- 01: two mirrors are equal if count and records are; 02: origins included
  pub record Equal (t u : Table) : Type 0 where
    pub counts : t.count ≡ u.count
    pub records : rows L t ≡ rows L u

  -- 02: the origin is set aside: t's origins are 0, and all other bytes of its records are u's
  pub record EqualButOrigins (t u : Table) : Type 0 where
    pub counts : t.count ≡ u.count
    pub records : rows L t ≡ map (origin_cleared L) (rows L u)

  -- ---- demand 3

  -- a fresh mirror over any buffer, and the plain machine with as many places, agree after any history
  abbrev pub Agreement : Type 0
  Agreement = (buffer : List ℕ) (calls : List Call) → All TypedCall calls → Agree buffer (mirror_run buffer calls) (machine_run (places_in buffer) calls)

  -- 'in rising id order' means that: signed ids, strictly rising, and exactly the entries of the map
  abbrev pub RisingOrder : Type 0
  RisingOrder = (places : ℕ) (calls : List Call) → All TypedCall calls →
      let m = (machine_run places calls).state.map in
      (rising_ids (ids (in_order m)) ≡ true) × SameMap (in_order m) m

  -- of any table: where its records are there and have 01's form, it is sound exactly if their signed ids rise
  abbrev pub SignedOrder : Type 0
  SignedOrder = (t : Table) → AreBytes t.buffer → t.count ≤ places width t → every well_formed (rows L t) ≡ true →
      sound_table L t ≡ rising_ids (ids (map entry_in (rows L t)))

  -- two mirrors are equal exactly when their machines' maps are the same
  abbrev pub Equality : Type 0
  Equality = (b c : List ℕ) (xs ys : List Call) → All TypedCall xs → All TypedCall ys →
      (Equal (mirror_run b xs).state.table (mirror_run c ys).state.table
      ↔ SameMap (machine_run (places_in b) xs).state.map (machine_run (places_in c) ys).state.map)

  -- and the call that compares them says so
  abbrev pub Comparing : Type 0
  Comparing = (b c : List ℕ) (xs ys : List Call) → All TypedCall xs → All TypedCall ys → places_allowed (places_in b) ≡ true → places_allowed (places_in c) ≡ true →
      ((same_answer L (mirror_run b xs).state.table (mirror_run c ys).state.table ≡ (Ok true))
      ↔ SameMap (machine_run (places_in b) xs).state.map (machine_run (places_in c) ys).state.map)

  -- recall of a mirror with 1 to 1,024 places, after any history: its bytes, or 9 where the output is too short for them
  abbrev pub Recalling : Type 0
  Recalling = (b : List ℕ) (calls : List Call) → All TypedCall calls → places_allowed (places_in b) ≡ true → (out : List ℕ) →
      let t = (mirror_run b calls).state.table in
      recall_of L t out ≡ write_of (recall_bytes L t) out

  -- feeds of at most 65,536 bytes each, to a fresh mirror with 1 to 1,024 places and at least as many as t has records, whose bytes join
  -- to these, make it equal to t, the origin set aside
  abbrev pub RebuiltBy : List ℕ → Table → Type 0
  RebuiltBy bytes t = (buffer : List ℕ) → places_allowed (places_in buffer) ≡ true → t.count ≤ places_in buffer →
      (pieces : List (List ℕ)) → All TypedCall (map feed pieces) → All (λ (p : List ℕ). length p ≤ 65536) pieces → joined pieces ≡ bytes →
      EqualButOrigins (mirror_run buffer (map feed pieces)).state.table t

  -- an answer that n bytes were written, and the output after it: these n bytes do that
  abbrev pub Rebuilt : Result ℕ → List ℕ → Table → Type 0
  Rebuilt answer out t = (n : ℕ) → answer ≡ Ok n → RebuiltBy (take n out) t

  -- what recall writes of any mirror after any history does
  abbrev pub Rebuilding : Type 0
  Rebuilding = (b : List ℕ) (calls : List Call) → All TypedCall calls → (out : List ℕ) →
      let t = (mirror_run b calls).state.table in
      Rebuilt (recall_of L t out).answer (recall_of L t out).out t

  -- and so does what it writes of any table
  abbrev pub RebuildingTables : Type 0
  RebuildingTables = (t : Table) → AreBytes t.buffer → (out : List ℕ) → Rebuilt (recall_of L t out).answer (recall_of L t out).out t

  -- each accepted feed's counts and each accepted set's bytes are bounded
  abbrev pub Bounds : Type 0
  Bounds = (buffer : List ℕ) (calls : List Call) → All TypedCall calls → Each Bounded calls (mirror_run buffer calls).outcomes

  -- in one piece
  pub record Histories : Type 0 where
    pub agreement : Agreement
    pub order : RisingOrder
    pub signed : SignedOrder
    pub equality : Equality
    pub comparing : Comparing
    pub recalling : Recalling
    pub rebuilding : Rebuilding
    pub tables : RebuildingTables
    pub bounds : Bounds
