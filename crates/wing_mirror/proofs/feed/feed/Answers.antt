-- The contract of `feed_lent` on the state's own store, which has a state's size.
use mathlib.Core.Path.{◌≡◌}
use borrow.Author.Tests.{eq-eqb}
use lib.ListN.{length}
use Rattle.wing_mirror.specs.Mirror.{lent_feed}
use borrow.Author.Rules.{rules}
use Rattle.wing_mirror.proofs.feed.feed.Goals as goal

pub returns : goal.returns
unfolding lent_feed
returns c =
    let whole : length c.args.state.store ≡ 4096 = search rules in
    rw (eq-eqb _ _ whole) at c.feed_lent-r.ensures
