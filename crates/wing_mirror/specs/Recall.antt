-- 01: recall writes df d1, then the set bytes of each record in order.
use Rattle.std.specs.Prelude.{ℕ, List, ◌∷◌, map, Err}
use Rattle.wing_node.specs.Bool.{if}
use Rattle.wing_wire.specs.Write.{WriteEffect, write_effect, write_of}
use Rattle.wing_wire.specs.Command.{set_bytes}
use Rattle.wing_node.specs.Bytes.{joined}
use Rattle.wing_mirror.specs.Rows.{Table}
use Rattle.wing_mirror.specs.Entry.{Entry}
use Rattle.wing_mirror.specs.Layout.{Layout}
use Rattle.wing_mirror.specs.Table.{rows, usable}
use Rattle.wing_node.specs.declared.refusal.Refusal.TheVariants.{TableUnsound}

-- the set order of an entry
abbrev pub set_of : Entry → List ℕ
set_of e = set_bytes e.id e.value

module _ (L : Layout) where
  open L use {entry_in}

  -- 01: df d1, then the set bytes of each record in order
  unfoldable pub recall_bytes : Table → List ℕ
  recall_bytes t = 0xdf ∷ 0xd1 ∷ joined (map set_of (map entry_in (rows L t)))

  -- 01: 7, then 9 with the output as it was; output bytes past what is written are not altered
  unfoldable pub recall_of : Table → List ℕ → WriteEffect
  recall_of t out = if (usable L t) (write_of (recall_bytes t) out) (write_effect (Err TableUnsound) out)
