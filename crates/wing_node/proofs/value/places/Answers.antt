-- The logarithm in base 10 is one below the number of digits (`length-between`), and 0 has one digit.
use native.Mathlib.Omega.{arith}
use Rattle.wing_node.proofs.Numerals.Spelled.{length-between, length-small}
use Rattle.wing_node.proofs.value.places.Goals as goal

pub returns-in-Some : goal.returns-in-Some
returns-in-Some c = let e = c.in-Some.ensures in omega (arith, length-between c.in-Some.k c.args.n e.power_le e.next_power_gt)

pub returns-in-None : goal.returns-in-None
returns-in-None c = let e = c.in-None.ensures in omega (arith, length-small c.args.n (omega (arith, e.none)))
