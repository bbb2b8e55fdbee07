-- By the contract of the mirror's `set_int` the reply, the table and the output are those of `mirror_set`, of which `set-call` says what is promised.
use mathlib.Core.Path.{sym, subst}
use mir.Facts.{to_z-of_z}
use Rattle.wing_node.specs.Value.{integer}
use Rattle.wing_mirror.specs.Table.{table}
use Rattle.wing_mirror.specs.Mirror.{SetEffect}
use Rattle.promises.specs.Mirror.{SetCall}
use Rattle.promises.proofs.Calls.{set-call}
use Rattle.promises.proofs.mirror.set_int.Goals as goal

pub returns : goal.returns
returns c =
    let t = table c.args.table.now c.args.count in
    let out = c.args.out.now in
    subst (λ (x : SetEffect). SetCall c.args.id (integer c.args.value) t out x.answer x.table x.out)
    (sym (rw (to_z-of_z c.ranges.id, to_z-of_z c.ranges.value) at c.set_int.ensures))
    (set-call c.args.id (integer c.args.value) t out c.ranges.id.sfits c.ranges.value.sfits)
