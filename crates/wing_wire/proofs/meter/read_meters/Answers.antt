-- Each return is a case of `packet_of` (`too_short`, `too_long`, `no_room`, `packet-whole`), and the contracts of `fill_readings` and `number_at` give
-- the readings and the id.
use native.Mathlib.Omega.{arith}
use Rattle.wing_wire.proofs.Writing.Packets.{too_short, too_long, no_room, packet-whole}
use Rattle.wing_wire.proofs.meter.read_meters.Goals as goal

pub returns-then-packet-lt4 : goal.returns-then-packet-lt4
returns-then-packet-lt4 c =
    too_short c.args.packet.now c.args.out.now c.if-packet-lt4.true

pub returns-then-packet-gt8192 : goal.returns-then-packet-gt8192
returns-then-packet-gt8192 c =
    too_long c.args.packet.now c.args.out.now (omega arith) c.if-packet-gt8192.true

pub returns-then-out-count : goal.returns-then-out-count
returns-then-out-count c =
    no_room c.args.packet.now c.args.out.now (omega arith) (omega arith) c.if-out-count.true

pub returns : goal.returns
returns c =
    rw c.fill_readings.ensures (packet-whole c.args.packet.now c.args.out.now c.number_at.result c.number_at.ensures (omega arith) (omega arith) (omega arith))
