-- What `head` answers says whether the bytes begin with a control (`head_of`, `headless`); then the call is that of `next_in`.
use mathlib.Core.Path.{ap, sym, ◌∙◌}
use Rattle.wing_saved.proofs.Saving.Trips.{head_of, headless}
use Rattle.wing_c.specs.Kept.{next_with, kept_next, state_next}
use Rattle.wing_c.specs.declared.answers.WingEvent.{WingEvent}
use Rattle.wing_c.proofs.state.wing_next.Goals as goal

pub next_in-requires : goal.next_in-requires
next_in-requires c =
    head_of c.args.state.now _ (sym c.head.ensures ∙ c.in-Ok.is)

pub returns-in-Err : goal.returns-in-Err
unfolding next_with state_next
returns-in-Err c =
    let no = headless c.args.state.now _ (sym c.head.ensures ∙ c.in-Err.is) in
    record { out_after = rw no (ap (λ (r : WingEvent). kept_next r c.args.state.now c.args.out.now) c.event.ensures); state_after = rw no }
