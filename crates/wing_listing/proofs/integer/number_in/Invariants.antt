use Prim.Native.Nat.{◌≤◌}
use mathlib.Core.Path.{◌≡◌}
use lib.ListN.{drop}
use Rattle.wing_listing.specs.Steps.{number_up_to}
use Rattle.wing_listing.proofs.Texts.Numbers.{up_from}
use Rattle.wing_listing.proofs.integer.number_in.Given as goal

abbrev pub invariant-loop-a : goal.invariant-loop-a
invariant-loop-a l = (l.n ≤ 0x100000000) × (up_from l.n (drop l.a-index l.s) ≡ number_up_to l.s)
