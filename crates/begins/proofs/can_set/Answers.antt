-- `begins::can_set` meets its contract.
use Rattle.lists.proofs.Bools.{same}
use Rattle.begins.specs.Begins.{can_set}
use Rattle.begins.proofs.can_set.Goals as goal

pub returns : goal.returns
unfolding can_set
returns c = search same
