-- `machine::Machine::declined` meets its contract.
use Rattle.machine.specs.Steps.{declined}
use Rattle.machine.proofs.Machine.declined.Goals as goal

pub returns : goal.returns
unfolding declined
returns c = rw (c.onward_machine.ensures, c.onward_cell.ensures, c.answer_cell-cell.ensures, c.offered_byte.ensures) at c.did.ensures
