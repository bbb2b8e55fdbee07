-- Each return is the line of `sound_pending` with that variant, and of a pending byte the branch with that test.
use mathlib.Core.Path.{◌≡◌}
use mir.Val.{to_z, of_z}
use mir.Syntax.{w8}
use borrow.Author.Rules.{rules}
use Rattle.wing_wire.specs.State.{sound_pending}
use Rattle.wing_wire.proofs.state.sound_pending.Goals as goal

pub returns-then-e : goal.returns-then-e
unfolding sound_pending
returns-then-e c = simp (c.in-Some.is, c.if-e.true)

pub returns-in-None : goal.returns-in-None
unfolding sound_pending
returns-in-None c = simp c.in-None.is

pub returns-else-e : goal.returns-else-e
unfolding sound_pending
returns-else-e c =
    let x = c.args.e.channel in
    let k : to_z w8 (of_z w8 x) ≡ x = search rules in
    rw k (simp (c.in-Some.is, c.if-e.false))
