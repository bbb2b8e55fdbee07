-- The wire's law `until-more`, for the handler by which the machine's decoder lists its events.
use Rattle.promises.proofs.Feeding.{machine-reads}
use Rattle.promises.proofs.demand_3_machine_reads.Goals as goal

pub returns : goal.returns
returns c = machine-reads
