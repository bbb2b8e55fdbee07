-- The records of a count that is at most the places stand in the buffer.
use Prim.Native.Nat.{◌/◌, ◌≤◌}
use native.Mathlib.Omega.{arith}
use native.Mathlib.Nat.{mul-le-mul_left, mul-div-le}
use lib.ListN.{length}
use Rattle.wing_mirror.proofs.table.is_sound.Goals as goal

pub all_pass-requires : goal.all_pass-requires
all_pass-requires c =
    let few : c.args.count ≤ length c.args.table.now / 264 = rw c.places.ensures at c.if-count-places.true in
    omega (arith, mul-le-mul_left 264 few, mul-div-le (length c.args.table.now) 264)
