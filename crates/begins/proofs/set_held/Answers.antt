-- `begins::set_held` meets its contract.
use Rattle.lists.proofs.Bools.{same}
use Rattle.begins.proofs.set_held.Goals as goal

pub returns : goal.returns
returns c = search same
