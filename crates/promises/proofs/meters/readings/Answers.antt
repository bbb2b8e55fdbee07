-- By the contract of wing_meters' `readings` the answer, the window and the output are those of `readings_of`, of which `readings_call` says what is promised, as
-- the window is in the range of its types.
use mathlib.Core.Path.{sym, subst}
use Rattle.wing_meters.specs.Calls.{RowsEffect}
use Rattle.wing_meters.proofs.Types.{window-typed}
use Rattle.promises.specs.Meters.{ReadingsCall}
use Rattle.promises.proofs.Windows.{readings_call}
use Rattle.promises.proofs.meters.readings.Goals as goal

pub returns : goal.returns
returns c =
    let xs = c.args.xs.now in
    let out = c.args.out.now in
    subst (λ (x : RowsEffect). ReadingsCall c.args.w xs out x.reply.answer x.reply.window x.out) (sym c.readings.ensures)
    (readings_call c.args.w xs out (window-typed c.args.w _ c.well_formed.0))
