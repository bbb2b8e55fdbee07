-- The bytes copied over a part of out are laid there (`copied`).
use Rattle.wing_mirror.proofs.Tables.Moves.{copied}
use Rattle.wing_mirror.proofs.bytes.lay.Goals as goal

pub returns : goal.returns
returns c = copied c.args.out.now c.args.src.now c.args.at _ c.copy_from_slice.ensures.after c.requires
