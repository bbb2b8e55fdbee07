-- A layout: how an entry stands as a record in a place of the table, and which values are kept. And the laws that a layout owes.
use Rattle.std.specs.Prelude.{ℕ, Bool, true, ◌≡◌, List, length, get_or, set}
use Rattle.wing_node.specs.Signed.{InBits}
use Rattle.wing_node.specs.Value.{NodeValue}
use Rattle.wing_wire.specs.Range.{AreBytes}
use Rattle.wing_mirror.specs.Origin.{origin_number}
use Rattle.wing_mirror.specs.Entry.{Entry, from_console, storable, Typed, rank_of}
use Rattle.wing_mirror.specs.declared.counts.Mark.{Mark}
use Rattle.wing_node.specs.declared.refusal.Refusal.{Refusal}

-- a value is kept; or it is not, and then a feed counts it by a mark and a set of it is refused by a number
pub data Keeping : Type 0 where
  kept : Keeping
  unkept : Mark → Refusal → Keeping

-- one thing by the mark and the number of a value that is not kept, another for one that is
abbrev pub unless_kept : {A : Type 0} → Keeping → (Mark → Refusal → A) → A → A
unless_kept kept f a = a
unless_kept (unkept mark why) f a = f mark why

pub record Layout : Type 0 where
  -- the bytes of a place
  pub width : ℕ
  -- where a record stands in the order
  pub key_of : List ℕ → ℕ
  -- the record of an entry, and what a record says
  pub record_of : Entry → List ℕ
  pub entry_in : List ℕ → Entry
  -- 02: which byte of a record is its origin
  pub origin_at : ℕ
  -- a record has the form
  pub well_formed : List ℕ → Bool
  -- which values are kept
  pub keeping : NodeValue → Keeping

module _ (L : Layout) where
  open L use {width, key_of, record_of, entry_in, origin_at, well_formed, keeping}

  -- 02: a record with its origin 0, and all other bytes the same
  abbrev pub origin_cleared : List ℕ → List ℕ
  origin_cleared r = set r origin_at 0

  -- an entry that a table takes: its value is kept; a string has at most 256 bytes and is UTF-8; id and numbers have 32 bits, as the types
  -- of the code have them
  pub record ValidEntry (e : Entry) : Type 0 where
    pub node : InBits 31 e.id
    pub typed : Typed e.value
    pub text : storable e.value ≡ true
    pub is_kept : keeping e.value ≡ kept

  -- bytes that have the width and the form of a record
  pub record Row (r : List ℕ) : Type 0 where
    pub wide : length r ≡ width
    pub bytes : AreBytes r
    pub form : well_formed r ≡ true

  -- what a layout owes
  pub record Lawful : Type 0 where
    -- every record has the width
    pub wide : (e : Entry) → length (record_of e) ≡ width
    -- and stands where its id does
    pub placed : (e : Entry) → InBits 31 e.id → key_of (record_of e) ≡ rank_of e.id
    -- that of a value that the table takes has the form
    pub formed : (e : Entry) → storable e.value ≡ true → keeping e.value ≡ kept → well_formed (record_of e) ≡ true
    -- and says the entry
    pub said : (e : Entry) → ValidEntry e → entry_in (record_of e) ≡ e
    -- a record that has the form says an entry that the table takes
    pub valid : (r : List ℕ) → Row r → ValidEntry (entry_in r)
    -- and is the record of it
    pub back : (r : List ℕ) → Row r → record_of (entry_in r) ≡ r
    -- its origin is a byte of the record
    pub origin : (e : Entry) → get_or (record_of e) origin_at 0 ≡ origin_number e.origin
    -- and with that byte 0 the record is that of the same node and value, from the console
    pub cleared : (e : Entry) → origin_cleared (record_of e) ≡ record_of (from_console e)
