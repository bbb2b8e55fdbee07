-- By the contract of wing_saved's `save` the answer and the output are those of `save_of`, of which `save-call` says what is promised, as the state is in the
-- range of its types (`state-typed`).
use mathlib.Core.Path.{sym, subst}
use Rattle.wing_wire.specs.Write.{WriteEffect}
use Rattle.wing_saved.proofs.Saving.Types.{state-typed}
use Rattle.promises.specs.Saved.{SaveCall}
use Rattle.promises.proofs.Savers.{save-call}
use Rattle.promises.proofs.saved.save.Goals as goal

pub returns : goal.returns
returns c =
    let s = c.args.s in
    let out = c.args.out.now in
    subst (λ (x : WriteEffect). SaveCall s out x.answer x.out) (sym c.save.ensures) (save-call s out (state-typed s _ c.well_formed.1.0))
