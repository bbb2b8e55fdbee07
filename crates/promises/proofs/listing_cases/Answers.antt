-- The law `worked` of wing_listing.
use Rattle.wing_listing.proofs.Worked.{worked}
use Rattle.promises.proofs.listing_cases.Goals as goal

pub returns : goal.returns
returns c = worked
