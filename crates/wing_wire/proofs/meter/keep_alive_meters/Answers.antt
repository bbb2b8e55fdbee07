-- Where out is shorter than what `keep_alives_len` counts nothing is written (law `short`); else it has room, by that count or by 13 bytes an id
-- (`keep-alives-le`), and `lay_keep_alives` writes all (law `written`).
use native.Mathlib.Omega.{arith}
use Rattle.wing_wire.proofs.Writing.Lays.{written, short}
use Rattle.wing_wire.proofs.Writing.Sizes.{keep-alives-le}
use Prim.Native.Nat.{◌<◌}
use lib.ListN.{length}
use Rattle.wing_wire.specs.Meter.{keep_alives}
use Rattle.wing_wire.proofs.meter.keep_alive_meters.Goals as goal
use Rattle.wing_wire.proofs.meter.keep_alive_meters.Goals.{then-out-last_id+else-out-keep_alives_len, else-out-last_id}

pub returns-then-out-keep_alives_len : goal.returns-then-out-keep_alives_len
returns-then-out-keep_alives_len c =
    let m : length c.args.out.now < length (keep_alives c.args.port c.args.last_id) = omega (arith, c.keep_alives_len.ensures) in
    short (keep_alives c.args.port c.args.last_id) c.args.out.now m

pub lay_keep_alives-requires : goal.lay_keep_alives-requires
lay_keep_alives-requires c =
    elim c.if-out-last_id.branch [ then-out-last_id+else-out-keep_alives_len w ↦ omega arith | else-out-last_id w ↦ omega (arith, keep-alives-le c.args.port c.args.last_id) ]

pub returns : goal.returns
returns c =
    written c.lay_keep_alives.ensures (elim c.if-out-last_id.branch [ then-out-last_id+else-out-keep_alives_len w ↦ omega arith | else-out-last_id w ↦ omega (arith, keep-alives-le c.args.port c.args.last_id) ])
