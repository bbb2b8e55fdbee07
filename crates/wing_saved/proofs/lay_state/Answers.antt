-- An output that is too short stays as it was (the wire's law `short`); else the fields and the store are laid one after the other, which writes the whole
-- (law `parts-written`).
use native.Mathlib.Omega.{arith}
use borrow.Author.Rules.{rules}
use Rattle.wing_wire.proofs.Laws.{writer-laws}
use Rattle.wing_saved.specs.Saved.{version, head_bytes, state_bytes}
use Rattle.wing_saved.proofs.Saving.Fronts.{parts-written}
use Rattle.wing_saved.proofs.Saving.Heads.{head-size}
use Rattle.wing_saved.proofs.Saving.Trips.{state-size}
use Rattle.wing_saved.proofs.lay_state.Goals as goal

pub returns-then-out-lt-SIZE : goal.returns-then-out-lt-SIZE
returns-then-out-lt-SIZE c =
    let a = c.args in
    writer-laws.short (state_bytes a.s) a.out.now (omega (arith, state-size a.s (search rules)))

pub returns : goal.returns
unfolding state_bytes
returns c =
    let a = c.args in
    rw (c.lay-2.ensures, c.lay.ensures, c.head_of-head.ensures)
    (parts-written (head_bytes a.s.control) a.s.store a.out.now (head-size version a.s.control) (state-size a.s (search rules)) (omega arith))
