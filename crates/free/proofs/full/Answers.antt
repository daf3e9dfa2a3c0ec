-- `free::full` meets its contract.
use Rattle.lists.proofs.Bools.{same}
use Rattle.free.specs.Free.{full}
use Rattle.free.proofs.full.Goals as goal

pub returns : goal.returns
unfolding full
returns c = search same
