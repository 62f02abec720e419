use Rattle.orc_image.proofs.OneListing.{one_listing}
use Rattle.orc_image.proofs.listing.one_listing.Goals as goal

pub returns : goal.returns
returns c = one_listing
