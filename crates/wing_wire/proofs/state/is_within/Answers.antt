-- A number of 32 bits is below 256 to any four units or more (`below_power`), and 256 to fewer has 32 bits.
use Prim.Native.Nat.{◌≤◌, ◌^◌}
use native.Mathlib.Omega.{arith}
use native.Mathlib.Nat.{pow-le-pow_right}
use borrow.Author.Tests.{lt-ltb, le-leb}
use Rattle.wing_wire.proofs.Reading.Powers.{below_power}
use Rattle.wing_wire.proofs.state.is_within.Goals as goal

pub pow-requires : goal.pow-requires
pow-requires c =
    let n = c.from.result in
    let h : n ≤ 3 = omega (arith, c.from.ensures) in
    let g : 256 ^ n ≤ 256 ^ 3 = pow-le-pow_right (omega arith) h in
    omega arith

pub returns-then-units-ge4 : goal.returns-then-units-ge4
returns-then-units-ge4 c =
    simp (le-leb _ _ c.if-units-ge4.true, lt-ltb _ _ (below_power c.args.value c.args.units c.ranges.value.fits c.if-units-ge4.true))
