-- Both returns are the branches of `string_done` by what `string_fault` tells (`string-right`, `string-wrong`), and the contract of `clear` gives the
-- store of a refused string.
use mir.Facts.{to_z-of_z}
use mathlib.Core.Path.{sym, ◌∙◌}
use lib.ListN.{take}
use Rattle.wing_node.proofs.Refusals.{string-right, string-wrong}
use Rattle.wing_wire.specs.Unit.{string_done}
use Rattle.wing_wire.proofs.unit.string_done.Goals as goal

pub returns-in-Ok : goal.returns-in-Ok
unfolding string_done
returns-in-Ok c =
    let args = c.args in
    let u = string-right (take args.want args.store.now) (sym c.string_fault-fault.ensures ∙ c.in-Ok.is) in
    simp (u, c.taken_of.ensures) (rw (to_z-of_z c.ranges.node))

pub returns-in-Err : goal.returns-in-Err
unfolding string_done
returns-in-Err c =
    let args = c.args in
    let w = string-wrong (take args.want args.store.now) _ (sym c.string_fault-fault.ensures ∙ c.in-Err.is) in
    simp (w.0, ← w.1, c.clear.ensures, c.refuse.ensures) (rw (to_z-of_z c.ranges.node))
