-- `table::static_allowed` meets its contract.
use Rattle.lists.proofs.Bools.{same}
use Rattle.table.proofs.static_allowed.Goals as goal

pub returns : goal.returns
returns c = search same
