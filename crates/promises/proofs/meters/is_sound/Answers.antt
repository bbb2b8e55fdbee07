-- By the contract of wing_meters' `is_sound` the answer is `sound_window`, which holds exactly of the windows that readings leave (`moving`).
use Rattle.wing_meters.proofs.Types.{window-typed}
use Rattle.wing_meters.proofs.Moves.{moving}
use Rattle.promises.proofs.meters.is_sound.Goals as goal

pub returns : goal.returns
returns c = let w = c.args.w in rw c.is_sound.ensures (moving.taken w (window-typed w _ c.well_formed.0), moving.left w)
