-- The mirror's law `search-reads`, and what it comes to where the ids part and where lookup finds.
use Rattle.promises.proofs.Searching.{search-counts}
use Rattle.promises.proofs.search_counts.Goals as goal

pub returns : goal.returns
returns c = search-counts
