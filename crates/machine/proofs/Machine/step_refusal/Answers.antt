-- `machine::Machine::step_refusal` meets its contract.
use Rattle.lists.proofs.Bools.{chain}
use Rattle.machine.specs.Refusals.{step_refusal}
use Rattle.machine.proofs.Machine.step_refusal.Goals as goal

pub returns-then-not-is_right : goal.returns-then-not-is_right
unfolding step_refusal
returns-then-not-is_right c = search chain

pub returns : goal.returns
unfolding step_refusal
returns c = search chain
