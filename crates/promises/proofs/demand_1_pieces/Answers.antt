-- The decoder's law `pieces`, that a feed of joined bytes is the one feed after the other, for the handler that lists the events.
use Rattle.wing_wire.specs.Reader.{event_of}
use Rattle.wing_wire.proofs.Laws.{decoder-laws}
use Rattle.promises.specs.Wire.{with_event}
use Rattle.promises.proofs.demand_1_pieces.Goals as goal

pub returns : goal.returns
returns c = λ x a b. decoder-laws.feed.pieces (λ node answer s m. with_event node (event_of answer s s) m) x a b
