-- The wire's law `until-more`, that next calls repeated leave and hand on what the feed does, for the handler that lists the events.
use Rattle.wing_wire.proofs.Reading.Repeats.{until-more}
use Rattle.promises.specs.Wire.{with_event}
use Rattle.promises.proofs.demand_3_until_more.Goals as goal

pub returns : goal.returns
returns c = until-more with_event
