-- What `head` answers says whether the bytes begin with a control (`head_of`, `headless`); then the feed is that of `feed_in`.
use mathlib.Core.Path.{ap, sym, ◌∙◌}
use Rattle.wing_saved.proofs.Saving.Trips.{head_of, headless}
use Rattle.wing_c.specs.Kept.{feed_with, kept_feed, state_fed}
use Rattle.wing_c.specs.declared.answers.WingFed.{WingFed}
use Rattle.wing_c.proofs.mirror.wing_feed.Goals as goal

pub feed_in-requires : goal.feed_in-requires
feed_in-requires c =
    head_of c.args.state.now _ (sym c.head.ensures ∙ c.in-Ok.is)

pub returns-in-Err : goal.returns-in-Err
unfolding feed_with state_fed
returns-in-Err c =
    let no = headless c.args.state.now _ (sym c.head.ensures ∙ c.in-Err.is) in
    record { table_after = rw no (ap (λ (r : WingFed). kept_feed r c.args.state.now c.args.table.now) c.fed.ensures); state_after = rw no }
