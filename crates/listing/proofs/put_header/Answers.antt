-- `listing::put_header` meets its contract.
use Rattle.listing.specs.Listing.{header}
use Rattle.listing.proofs.put_header.Goals as goal

pub put-requires : goal.put-requires
unfolding header
put-requires c = c.requires

pub returns : goal.returns
unfolding header
returns c = c.put.ensures
