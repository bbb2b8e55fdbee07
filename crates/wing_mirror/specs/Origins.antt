-- 02: who set it. What each call makes of a node's value and origin; that two mirrors compare with origins; and where the origin is set aside.
use Rattle.std.specs.Prelude.{ℕ, ◌<◌, true, ◌≡◌, ◌↔◌, List, [], ◌∷◌, map, ℤ, length, get_or, Ok, is_ok}
use Rattle.wing_node.specs.Bool.{if}
use Rattle.wing_node.specs.Value.{NodeValue}
use Rattle.wing_wire.specs.Range.{AreBytes, InRange}
use Rattle.wing_wire.specs.Reader.{Event, more, value, body, end, refused}
use Rattle.wing_wire.specs.declared.state.State.{State}
use Rattle.wing_mirror.specs.Rows.{Table, Found, found, nothing, places, All, In}
use Rattle.wing_mirror.specs.Origin.{origin_number}
use Rattle.wing_mirror.specs.Entry.{Entry, entry}
use Rattle.wing_mirror.specs.Layout.{Keeping, unless_kept, Layout, origin_cleared}
use Rattle.wing_mirror.specs.Table.{rows, usable}
use Rattle.wing_mirror.specs.Lists.{or_else}
use Rattle.wing_mirror.specs.Query.{same_answer}
use Rattle.wing_mirror.specs.Recall.{recall_bytes}
use Rattle.wing_mirror.specs.Call.{feed, set, TypedCall}
use Rattle.wing_mirror.specs.Mirror.{mirror_feed, mirror_set}
use Rattle.wing_mirror.specs.Machine.{StreamEvent, same_id, events}
use Rattle.wing_mirror.specs.History.{Equal, EqualButOrigins}
use Rattle.wing_mirror.specs.declared.origin.Origin.TheVariants.{Console, SetOrder}

-- the value that an event gives, if it is one that is kept
unfoldable pub value_given : (NodeValue → Keeping) → Event → Found NodeValue
value_given keeping more = nothing
value_given keeping (value v) = unless_kept (keeping v) (λ mark why. nothing) (found v)
value_given keeping (body b) = nothing
value_given keeping end = nothing
value_given keeping (refused why) = nothing

-- the last value that events give a node, if any
unfoldable pub last_given : (NodeValue → Keeping) → ℤ → List StreamEvent → Found NodeValue
last_given keeping id [] = nothing
last_given keeping id (r ∷ rs) = or_else (last_given keeping id rs) (if (same_id r.node id) (value_given keeping r.event) nothing)

module _ (L : Layout) where
  open L use {width, entry_in, origin_at, keeping}

  -- what the records of a table say
  abbrev pub entries_of : Table → List Entry
  entries_of t = map entry_in (rows L t)

  -- 02: 1 when a set order gave it. What the records say before and after an accepted set of v at id
  pub record GivenBySet (before after : List Entry) (id : ℤ) (v : NodeValue) : Type 0 where
    -- its node has that value and origin 1, whatever it had
    pub given : In (entry id v SetOrder) after
    pub only : (e : Entry) → In e after → e.id ≡ id → e ≡ entry id v SetOrder
    -- the other nodes are as they were
    pub others : (e : Entry) → (e.id ≡ id → ⊥) → (In e after ↔ In e before)

  -- 02: 0 when the last value came from the console. What they say before and after an accepted feed whose bytes hold these events
  pub record GivenByFeed (places : ℕ) (rs : List StreamEvent) (before after : List Entry) : Type 0 where
    -- a node that is given values has the last of them and origin 0, whatever it had
    pub given : (e : Entry) (v : NodeValue) → In e after → last_given keeping e.id rs ≡ found v → e ≡ entry e.id v Console
    -- it is there if it was before, or if a place is free after them
    pub there : (e : Entry) (v : NodeValue) → In e before → last_given keeping e.id rs ≡ found v → In (entry e.id v Console) after
    pub placed : (id : ℤ) (v : NodeValue) → last_given keeping id rs ≡ found v → length after < places → In (entry id v Console) after
    -- the other nodes are as they were
    pub others : (e : Entry) → last_given keeping e.id rs ≡ nothing → (In e after ↔ In e before)

  -- two tables that differ in their origins alone
  abbrev pub SameButOrigins : Table → Table → Type 0
  SameButOrigins t u = map (origin_cleared L) (rows L t) ≡ map (origin_cleared L) (rows L u)

  -- a table that a call takes, of bytes below 256, as their type says
  abbrev pub Taken : Table → Type 0
  Taken t = AreBytes t.buffer × (usable L t ≡ true)

  pub record WhoSetIt : Type 0 where
    -- an accepted set, of any table; ids, numbers and bytes are in the range of their types
    pub by_set : (t : Table) (id : ℤ) (v : NodeValue) (out : List ℕ) (n : ℕ) → AreBytes t.buffer → TypedCall (set id v out) →
        (mirror_set L id v t out).answer ≡ Ok n → GivenBySet (entries_of t) (entries_of (mirror_set L id v t out).table) id v
    -- and an accepted feed, of any table and state
    pub by_feed : (s : State) (t : Table) (bytes : List ℕ) → AreBytes t.buffer → InRange s.control s.store → TypedCall (feed bytes) →
        is_ok (mirror_feed L s t bytes).answer ≡ true → GivenByFeed (places width t) (events s bytes) (entries_of t) (entries_of (mirror_feed L s t bytes).table)
    -- a byte of each record is its origin's number
    pub bytes : (t : Table) → Taken t → map (λ (r : List ℕ). get_or r origin_at 0) (rows L t) ≡ map (λ (e : Entry). origin_number e.origin) (entries_of t)
    -- 02: two mirrors compare with origins included
    pub compared : (t u : Table) → Taken t → Taken u → (same_answer L t u ≡ (Ok true) ↔ entries_of t ≡ entries_of u)
    -- recall carries no origin
    pub recalled : (t u : Table) → Taken t → Taken u → SameButOrigins t u → recall_bytes L t ≡ recall_bytes L u
    -- a table that equals another but for origins is equal to it, origins included, exactly if the other's origins are all 0
    pub aside : (t u : Table) → Taken u → EqualButOrigins L t u → (Equal L t u ↔ All (λ (e : Entry). e.origin ≡ Console) (entries_of u))
