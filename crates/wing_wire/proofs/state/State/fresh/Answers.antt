-- The contract of `Control::fresh`, beside a store of zeros.
use Rattle.wing_wire.specs.State.{fresh_state}
use Rattle.wing_wire.proofs.state.State.fresh.Goals as goal

pub returns : goal.returns
unfolding fresh_state
returns c = simp c.fresh.ensures
