-- The wire's law `round-trip-pieces`, which joins the pieces and reads the set order, for the handler that lists the events.
use Rattle.wing_wire.proofs.BothWays.RoundTrip.{round-trip-pieces}
use Rattle.promises.specs.Wire.{with_event}
use Rattle.promises.proofs.demand_2_in_pieces.Goals as goal

pub returns : goal.returns
returns c = round-trip-pieces with_event
