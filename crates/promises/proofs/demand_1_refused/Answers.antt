-- `keep_event` of each event, opened, with one more in one of the six counts.
use Rattle.promises.proofs.Feeding.{events-counted}
use Rattle.promises.proofs.demand_1_refused.Goals as goal

pub returns : goal.returns
returns c = events-counted
