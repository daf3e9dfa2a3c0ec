-- `begins::asked_right` meets its contract.
use Rattle.lists.proofs.Bools.{chain}
use Rattle.begins.specs.Begins.{asked_right}
use Rattle.begins.proofs.asked_right.Goals as goal

pub returns-in-0 : goal.returns-in-0
unfolding asked_right
returns-in-0 c = rw (c.in-0.is, c.can_assign.ensures)

pub returns-in-2 : goal.returns-in-2
unfolding asked_right
returns-in-2 c = rw (c.in-2.is, c.can_set.ensures)

pub returns-in-3 : goal.returns-in-3
unfolding asked_right
returns-in-3 c = rw (c.in-3.is, c.can_move.ensures)

pub returns-in_default : goal.returns-in_default
unfolding asked_right
returns-in_default c = search chain
