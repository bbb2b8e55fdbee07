-- 02: who gave a record its value, as a byte of the record.
use Rattle.std.specs.Prelude.{ℕ, eqb}
use Rattle.wing_node.specs.Bool.{if}
use Rattle.wing_mirror.specs.declared.origin.Origin.{Origin}
use Rattle.wing_mirror.specs.declared.origin.Origin.TheVariants.{Console, SetOrder}

-- 02: 0 when the last value came from the console, 1 when a set order gave it
unfoldable pub origin_number : Origin → ℕ
origin_number Console = 0
origin_number SetOrder = 1

-- the origin that a byte says; a byte over 1 is no record's
unfoldable pub origin_of : ℕ → Origin
origin_of n = if (eqb n 0) Console SetOrder
