-- `machine::Machine::opened_answer` meets its contract.
use Rattle.machine.specs.Steps.{opened_answer}
use Rattle.machine.proofs.Machine.opened_answer.Goals as goal

pub returns-then-heard : goal.returns-then-heard
unfolding opened_answer
returns-then-heard c = rw c.if-heard.true c.commanded.ensures

pub returns-else-heard : goal.returns-else-heard
unfolding opened_answer
returns-else-heard c = rw c.if-heard.false (rw c.idle.ensures at c.did.ensures)
