-- By the contract of the mirror's `feed` the reply and the table are those of `mirror_feed`, of which `feed-call` says what is promised.
use mathlib.Core.Path.{sym, subst}
use Rattle.wing_mirror.specs.Table.{table}
use Rattle.wing_mirror.specs.Mirror.{FeedEffect}
use Rattle.promises.specs.Mirror.{mirror, FeedCall}
use Rattle.promises.proofs.Calls.{feed-call}
use Rattle.promises.proofs.mirror.feed.Goals as goal

pub returns : goal.returns
returns c =
    let t = table c.args.table.now c.args.count in
    subst (λ (x : FeedEffect). FeedCall (mirror c.args.state t) c.args.bytes.now x.answer (mirror x.state x.table))
    (sym c.feed.ensures) (feed-call c.args.state t c.args.bytes.now)
