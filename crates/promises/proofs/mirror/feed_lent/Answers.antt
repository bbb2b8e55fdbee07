-- By the contract of the mirror's `feed_lent` the reply, the store and the table are those of `lent_feed`, of which `lent-feed-call` says what is promised.
use mathlib.Core.Path.{sym, subst}
use Rattle.wing_wire.specs.State.{state_of}
use Rattle.wing_mirror.specs.Table.{table}
use Rattle.wing_mirror.specs.Mirror.{FeedEffect}
use Rattle.promises.specs.Mirror.{mirror, LentFeedCall}
use Rattle.promises.proofs.Calls.{lent-feed-call}
use Rattle.promises.proofs.mirror.feed_lent.Goals as goal

pub returns : goal.returns
returns c =
    let s = state_of c.args.c c.args.store.now in
    let t = table c.args.table.now c.args.count in
    subst (λ (x : FeedEffect). LentFeedCall (mirror s t) c.args.bytes.now x.answer (mirror x.state x.table))
    (sym c.feed_lent.ensures) (lent-feed-call s t c.args.bytes.now)
