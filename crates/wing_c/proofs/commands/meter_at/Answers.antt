-- Within the pairs the contract of `meter_of` gives the meter; past them it is rta.
use borrow.Author.Tests.{le-ltb, lt-ltb}
use Rattle.wing_c.proofs.commands.meter_at.Goals as goal

pub returns-then-number-pairs : goal.returns-then-number-pairs
returns-then-number-pairs c = simp (lt-ltb _ _ c.if-number-pairs.true, c.meter_of.ensures)

pub returns : goal.returns
returns c = simp (le-ltb _ _ c.if-number-pairs.false)
