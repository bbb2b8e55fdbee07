-- The law `both_ways` of wing_listing.
use Rattle.wing_listing.proofs.Texts.Rounds.{both_ways}
use Rattle.promises.proofs.listing_both_ways.Goals as goal

pub returns : goal.returns
returns c = both_ways
