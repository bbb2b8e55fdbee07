-- The invariant: laying the keep-alives left from the place reached on gives what laying all from the front on gives; a turn lays one into the part
-- of out from there on (`in-part`, `goes_on`).
use Prim.Native.Nat.{◌-◌}
use mathlib.Core.Path.{◌≡◌, sym, ap, ◌∙◌}
use native.Mathlib.Omega.{arith}
use lib.ListN.{length, length-append}
use lib.Seq.{sets, length-sets}
use Rattle.wing_wire.specs.Meter.{keep_alive, keep_alives}
use Rattle.wing_wire.proofs.Writing.Lays.{goes_on, in-part}
use Rattle.wing_wire.proofs.Writing.Requests.{one-alive}
use Rattle.wing_wire.proofs.meter.lay_keep_alives.Goals as goal

pub loop-id-preserved : goal.loop-id-preserved
loop-id-preserved c =
    let e = one-alive c.args.port c.loop-id.id (omega arith) in
    let l = ap length e ∙ length-append (keep_alive c.args.port c.loop-id.id) (keep_alives c.args.port (c.loop-id.id - 1)) in
    let p = in-part c.loop-id.at c.lay_keep_alive-at.ensures.laid in (
      ap length p.bytes ∙ length-sets c.loop-id.out c.loop-id.at (keep_alive c.args.port c.loop-id.id) ∙ c.loop-id.invariant.0,
      omega (arith, c.lay_keep_alive-at.ensures.laid.next),
      goes_on p (keep_alives c.args.port (c.loop-id.id - 1)) ∙ ap (sets c.loop-id.out c.loop-id.at) (sym e) ∙ c.loop-id.invariant.2,
    )

pub returns : goal.returns
unfolding keep_alives
returns c =
    let e : c.loop-id.id ≡ 0 = omega arith in
    let z = rw e at c.loop-id.invariant.1 in
    record { bytes = rw e at c.loop-id.invariant.2; next = omega arith }
