-- The wire's law `carries_over`, for the handler that lists the events.
use Rattle.wing_wire.proofs.Reading.CarriedOver.{carries_over}
use Rattle.promises.specs.Wire.{listed}
use Rattle.promises.proofs.carried_over.Goals as goal

pub returns : goal.returns
returns c = carries_over listed
