-- The invariant: the meters so far are laid, in at most three bytes each; a turn lays one more (`meters-more`), and the law `then` joins it on.
use borrow.Author.Rules.{rules}
use mathlib.Core.Path.{◌≡◌}
use native.Mathlib.Omega.{arith}
use lib.ListN.{length, take, length-take}
use lib.Seq.{take_all}
use Rattle.wing_wire.specs.Meter.{meters_bytes}
use Rattle.wing_wire.proofs.Writing.Lays.{then, nothing}
use Rattle.wing_wire.proofs.Writing.Requests.{meters-more}
use Rattle.wing_wire.proofs.meter.lay_meters.Goals as goal

pub loop-m-init : goal.loop-m-init
unfolding meters_bytes
loop-m-init c = (search rules, search rules, nothing _ _)

pub loop-m-preserved : goal.loop-m-preserved
loop-m-preserved c =
    let ms = take c.args.count c.args.meters in
    (omega arith, search rules, rw (meters-more ms c.loop-m.m-index c.loop-m-test.true) (then c.loop-m.invariant.2 c.lay_meter-next.ensures.laid))

pub returns : goal.returns
returns c =
    let ms = take c.args.count c.args.meters in
    let l : length c.args.meters ≡ 64 = search rules in
    let n : length ms ≡ c.args.count = omega (arith, length-take c.args.count c.args.meters) in
    let e = take_all c.loop-m.m-index ms c.loop-m-test.false in
    record { laid = rw e at c.loop-m.invariant.2; upper_bound = omega (arith, n) }
