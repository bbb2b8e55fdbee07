use Prim.Native.Nat.{◌+◌, ◌*◌}
use mathlib.Core.Path.{◌≡◌}
use lib.ListN.{length, drop}
use lib.Seq.{sets}
use Rattle.wing_listing.specs.Hex.{pairs_of}
use Rattle.wing_listing.proofs.hex.lay_pairs.Given as goal

abbrev pub invariant-loop-i : goal.invariant-loop-i
invariant-loop-i l =
    (length l.out ≡ length l.initial.out) × (sets l.out (l.at + 2 * l.i) (pairs_of (drop l.i l.s)) ≡ sets l.initial.out l.at (pairs_of l.s))
