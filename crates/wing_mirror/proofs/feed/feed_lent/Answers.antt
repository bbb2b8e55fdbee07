-- By the contract of `feed_fault` the feed is taken where nothing is at fault, and `feed_on` makes it; else it is refused for that reason.
use Rattle.wing_mirror.proofs.feed.feed_lent.Goals as goal

pub feed_on-requires : goal.feed_on-requires
feed_on-requires c = let k = rw c.in-Ok.is at c.feed_fault.ensures in (k.1, k.2, k.3, k.4)

pub returns-in-Ok : goal.returns-in-Ok
returns-in-Ok c = rw ((rw c.in-Ok.is at c.feed_fault.ensures).0) c.feed_on.ensures

pub returns-in-Err : goal.returns-in-Err
returns-in-Err c = rw (rw c.in-Err.is at c.feed_fault.ensures)
