-- `machine::Machine::round_answer` meets its contract.
use Rattle.machine.specs.Steps.{round_answer}
use Rattle.machine.proofs.Machine.round_answer.Goals as goal

pub returns-then-heard : goal.returns-then-heard
unfolding round_answer
returns-then-heard c = rw c.if-heard.true (rw c.listening-next.ensures at c.did.ensures)

pub returns-else-heard : goal.returns-else-heard
unfolding round_answer
returns-else-heard c = rw c.if-heard.false (rw c.idle.ensures at c.did-else-heard.ensures)
