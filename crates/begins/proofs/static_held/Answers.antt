-- `begins::static_held` meets its contract.
use Rattle.lists.proofs.Bools.{same}
use Rattle.begins.proofs.static_held.Goals as goal

pub returns : goal.returns
returns c = search same
