-- 02: older tables. 01's record as it was, with 00 where the origin stands now, told by itself; and which tables are sound now.
use Rattle.std.specs.Prelude.{ℕ, ◌≤◌, Bool, true, false, ◌≡◌, List, leb, eqb, length, take, drop, get_or, set}
use Rattle.wing_node.specs.Bool.{if}
use Rattle.wing_node.specs.Field.{big}
use Rattle.wing_node.specs.Utf8.{utf8}
use Rattle.wing_wire.specs.State.{zeros}
use Rattle.wing_mirror.specs.Rows.{Table, All}
use Rattle.wing_mirror.specs.Entry.{Entry, flipped}
use Rattle.wing_mirror.specs.Record.{well_formed, full}
use Rattle.wing_mirror.specs.Table.{rows, sound_of, sound_table, usable_of, usable}
use Rattle.wing_mirror.specs.Origins.{entries_of}
use Rattle.wing_mirror.specs.declared.origin.Origin.TheVariants.{Console}

-- 01: length and payload by the kind: 0 integer and 1 float, 4 bytes; 2 string, 0 to 256 bytes of UTF-8; then zeros
unfoldable pub payload_before : ℕ → ℕ → List ℕ → Bool
payload_before kind n payload =
    if (leb kind 1) (if (eqb n 4) (zeros (drop 4 payload)) false)
    (if (eqb kind 2) (if (leb n 256) (if (zeros (drop n payload)) (utf8 (take n payload)) false) false) false)

-- 01: id (4), kind (1), 00, length (2), payload (256)
unfoldable pub form_before : List ℕ → Bool
form_before r = if (eqb (get_or r 5 0) 0) (payload_before (get_or r 4 0) (big (take 2 (drop 6 r))) (drop 8 r)) false

-- 01: where a record stands: by its id, the first four bytes
abbrev pub key_before : List ℕ → ℕ
key_before r = flipped (big (take 4 r))

pub record OriginForms : Type 0 where
  -- 02: older tables are still sound, and taken by the calls, and read as console values
  pub sound : (t : Table) → sound_of 264 key_before form_before t ≡ true → sound_table full t ≡ true
  pub taken : (t : Table) → usable_of 264 key_before form_before t ≡ true → usable full t ≡ true
  pub older : (t : Table) → sound_of 264 key_before form_before t ≡ true → All (λ (e : Entry). e.origin ≡ Console) (entries_of full t)
  -- 02: a table with an origin over 1 gets 7
  pub known : (t : Table) → usable full t ≡ true → All (λ (r : List ℕ). get_or r 5 0 ≤ 1) (rows full t)
  -- and nothing else of the form has altered
  pub rest : (r : List ℕ) → length r ≡ 264 → well_formed r ≡ if (leb (get_or r 5 0) 1) (form_before (set r 5 0)) false
