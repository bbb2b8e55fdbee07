-- The invariant: the total and the length of the keep-alives left are the length of all; a turn lays one into the scratch byte to count it
-- (`one-alive`).
use borrow.Author.Rules.{rules}
use Prim.Native.Nat.{◌-◌}
use mathlib.Core.Path.{◌≡◌, ap, ◌∙◌}
use native.Mathlib.Omega.{arith}
use lib.ListN.{length, length-append}
use Rattle.wing_wire.specs.Meter.{keep_alive, keep_alives}
use Rattle.wing_wire.proofs.Writing.Requests.{one-alive}
use Rattle.wing_wire.proofs.meter.keep_alives_len.Goals as goal

pub loop-id-preserved : goal.loop-id-preserved
loop-id-preserved c =
    let a = c.args in
    let e = one-alive a.port c.loop-id.id (omega arith) in
    let l = ap length e ∙ length-append (keep_alive a.port c.loop-id.id) (keep_alives a.port (c.loop-id.id - 1)) in
    (search rules, omega arith, omega arith, omega (arith, c.lay_keep_alive-total.ensures.laid.next))

pub returns : goal.returns
unfolding keep_alives
returns c =
    let e : c.loop-id.id ≡ 0 = omega arith in
    let z = rw e at c.loop-id.invariant.3 in
    omega arith
