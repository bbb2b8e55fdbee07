use Prim.Native.Nat.{ℕ, ◌<◌}
use mathlib.Core.Path.{◌≡◌}
use lib.ListN.{length, get_or}
use Rattle.wing_wire.specs.declared.meter.Meter.TheVariants.{Rta}
use Rattle.wing_c.specs.Meters.{meter_at}
use Rattle.wing_c.proofs.commands.meters_of.Given as goal

abbrev pub invariant-loop-i : goal.invariant-loop-i
invariant-loop-i l = (length l.meters ≡ 64) × ((k : ℕ) → k < l.i → get_or l.meters k Rta ≡ meter_at l.pairs k)
