-- The law `ends-worked` of wing_listing.
use Rattle.wing_listing.proofs.Worked.{ends-worked}
use Rattle.promises.proofs.listing_ends.Goals as goal

pub returns : goal.returns
returns c = ends-worked
