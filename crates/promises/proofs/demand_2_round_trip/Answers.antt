-- The wire's law `round_trip`: each unit of a set order is taken as it is, and the last one gives the value.
use Rattle.wing_wire.proofs.BothWays.RoundTrip.{round_trip}
use Rattle.promises.proofs.demand_2_round_trip.Goals as goal

pub returns : goal.returns
returns c = round_trip
