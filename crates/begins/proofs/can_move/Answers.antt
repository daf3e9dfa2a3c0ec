-- `begins::can_move` meets its contract.
use Rattle.lists.proofs.Bools.{same}
use Rattle.begins.specs.Begins.{can_move}
use Rattle.begins.proofs.can_move.Goals as goal

pub returns : goal.returns
unfolding can_move
returns c = search same
