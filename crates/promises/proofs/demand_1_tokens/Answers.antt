-- The wire's law `tokens`, that units are cut into tokens of the table and give what these give, for the handler that lists the events.
use Rattle.wing_wire.proofs.Reading.Cuts.{tokens}
use Rattle.promises.specs.Wire.{with_event}
use Rattle.promises.proofs.demand_1_tokens.Goals as goal

pub returns : goal.returns
returns c = tokens with_event
