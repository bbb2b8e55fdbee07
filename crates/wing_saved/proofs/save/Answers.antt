-- Both returns are the branches of `save_of` by what `is_sound` tells, and the contract of `lay_state` gives the first.
use Rattle.wing_saved.specs.Saved.{save_of}
use Rattle.wing_saved.proofs.save.Goals as goal

pub returns-then-is_sound : goal.returns-then-is_sound
unfolding save_of
returns-then-is_sound c = simp (← c.is_sound.ensures, c.if-is_sound.true, c.lay_state.ensures)

pub returns : goal.returns
unfolding save_of
returns c = simp (← c.is_sound.ensures, c.if-is_sound.false)
