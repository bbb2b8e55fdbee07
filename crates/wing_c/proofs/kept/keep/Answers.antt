-- The fields are laid before the store (`head-laid`); both are in the range of their types (`kept-typed`).
use Rattle.wing_saved.proofs.Saving.Types.{are-bytes}
use Rattle.wing_c.proofs.Keeps.{kept-typed, head-laid}
use Rattle.wing_c.proofs.kept.keep.Goals as goal

pub returns : goal.returns
returns c =
    let are = are-bytes c.args.state.now (λ i. (c.slice_known-1.given i).fits) in
    record {
      typed = kept-typed c.args.after _ c.well_formed.1.0 c.args.state.now are c.requires.1;
      sound = c.requires.0;
      laid = head-laid c.args.after c.args.state.now c.requires.1 c.lay_head.ensures;
    }
