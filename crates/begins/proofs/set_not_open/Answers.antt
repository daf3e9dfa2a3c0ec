-- `begins::set_not_open` meets its contract.
use Rattle.lists.proofs.Bools.{same}
use Rattle.begins.proofs.set_not_open.Goals as goal

pub returns : goal.returns
returns c = search same
