-- The contract of `save` on the fresh state, with its answer by numbers (`command-as`); the bytes read as that state (`fresh-reads`).
use Rattle.wing_saved.specs.Saved.{save_of}
use Rattle.wing_wire.specs.declared.state.State.{State}
use mathlib.Core.Path.{◌∙◌, ap}
use Rattle.wing_c.proofs.Effects.{command-as}
use Rattle.wing_c.proofs.Keeps.{fresh-reads}
use Rattle.wing_c.proofs.state.wing_state_fresh.Goals as goal

pub returns : goal.returns
returns c =
    let out = c.args.state.now in
    let saved = c.save.ensures ∙ ap (λ (s : State). save_of s out) c.fresh.ensures in
    record { state_after = command-as c.save.result c.written.ensures saved; state_after_2 = fresh-reads out saved }
