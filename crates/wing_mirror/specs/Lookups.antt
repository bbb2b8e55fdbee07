-- 01: lookup gives an id's record number or none; a record is read by number. The two tell of the same records.
use Rattle.std.specs.Prelude.{ℕ, true, ◌≡◌, ◌↔◌, ℤ}
use Rattle.wing_node.specs.Result.{ok}
use Rattle.wing_node.specs.Signed.{InBits}
use Rattle.wing_node.specs.Value.{NodeValue}
use Rattle.wing_wire.specs.Range.{AreBytes}
use Rattle.wing_mirror.specs.Rows.{Table, found, nothing}
use Rattle.wing_mirror.specs.Entry.{entry}
use Rattle.wing_mirror.specs.Layout.{Layout}
use Rattle.wing_mirror.specs.Table.{usable}
use Rattle.wing_mirror.specs.Query.{lookup_answer, record_answer}
use Rattle.wing_mirror.specs.Answers.{lookup_result, record_result}
use Rattle.wing_mirror.specs.declared.origin.Origin.{Origin}

module _ (L : Layout) where
  -- the record of this number is there and has this id
  pub record RecordOf (t : Table) (number : ℕ) (id : ℤ) : Type 0 where
    pub value : NodeValue
    pub origin : Origin
    pub read : record_result (record_answer L t number) ≡ ok (entry id value origin)

  -- of any table, sound or not; bytes are below 256 and ids have 32 bits, as their types say
  pub record Lookups : Type 0 where
    -- a number exactly if the record of that number is there and has that id
    pub at : (t : Table) (id : ℤ) (number : ℕ) → AreBytes t.buffer → InBits 31 id →
        (lookup_result (lookup_answer L t id) ≡ ok (found number) ↔ RecordOf t number id)
    -- none exactly if no record has it
    pub none : (t : Table) (id : ℤ) → AreBytes t.buffer → InBits 31 id → usable L t ≡ true →
        (lookup_result (lookup_answer L t id) ≡ ok nothing ↔ ((number : ℕ) → RecordOf t number id → ⊥))
