-- `reader::place::Place::command` meets its contract.
use Rattle.lists.proofs.Bools.{via_not}
use Rattle.reader.proofs.Laws.{broken_off, stuck, onward, to_ending, said, unsaid, leads}
use Rattle.reader.proofs.place.Place.command.Goals as goal

pub returns-in_err-cell : goal.returns-in_err-cell
returns-in_err-cell c = broken_off _ _ _ _ _ c.from_residual.ensures.1 c.in_err-cell.ensures

pub returns-then-not-may_follow : goal.returns-then-not-may_follow
returns-then-not-may_follow c = let step = c.in_ok-cell.ensures in search (stuck, unsaid, via_not)

pub returns-in-None : goal.returns-in-None
returns-in-None c = let step = c.in_ok-cell.ensures in search (stuck, said, leads, via_not)

pub returns-in-Assign : goal.returns-in-Assign
returns-in-Assign c = let step = c.in_ok-cell.ensures in search (onward, said, leads, via_not)

pub returns-in-ResetAll : goal.returns-in-ResetAll
returns-in-ResetAll c = let step = c.in_ok-cell.ensures in search (to_ending, said, leads, via_not)

pub returns-in-SetFromStatic : goal.returns-in-SetFromStatic
returns-in-SetFromStatic c = let step = c.in_ok-cell.ensures in search (onward, said, leads, via_not)

pub returns-in-Silence : goal.returns-in-Silence
returns-in-Silence c = let step = c.in_ok-cell.ensures in search (onward, said, leads, via_not)
