-- By the contract of the wire's `read_meters` the answer and the readings are those of `packet_of`, of which `packet-reads` says what is promised.
use mathlib.Core.Path.{sym, subst}
use Rattle.wing_wire.specs.Meter.{PacketEffect}
use Rattle.promises.specs.Wire.{PacketCall}
use Rattle.promises.proofs.Writers.{packet-reads}
use Rattle.promises.proofs.wire.read_meters.Goals as goal

pub returns : goal.returns
returns c =
    let p = c.args.packet.now in
    let out = c.args.out.now in
    subst (λ (x : PacketEffect). PacketCall p out x.answer x.out) (sym c.read_meters.ensures) (packet-reads p out)
