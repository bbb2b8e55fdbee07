-- The mirror's law `search-reads`.
use Rattle.wing_mirror.proofs.Records.Full.{full-laws}
use Rattle.wing_mirror.proofs.Records.Searches.{search-reads}
use Rattle.promises.proofs.search_reads.Goals as goal

pub returns : goal.returns
returns c = search-reads full-laws
