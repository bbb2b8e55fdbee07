-- By the contract of wing_meters' `figures` the answer is `figures_answer`, of which `figures_call` says what is promised, as the window is in the range of its
-- types (`window-typed`).
use Rattle.wing_meters.proofs.Types.{window-typed}
use Rattle.promises.proofs.Windows.{figures_call}
use Rattle.promises.proofs.meters.figures.Goals as goal

pub returns : goal.returns
returns c = rw c.figures.ensures (figures_call c.args.w (window-typed c.args.w _ c.well_formed.0))
