-- `machine::Machine::ask_refusal` meets its contract.
use Rattle.lists.proofs.Bools.{chain}
use Rattle.machine.specs.Refusals.{ask_refusal}
use Rattle.machine.proofs.Machine.ask_refusal.Goals as goal

pub returns-then-not-is_right : goal.returns-then-not-is_right
unfolding ask_refusal
returns-then-not-is_right c = search chain

pub returns : goal.returns
unfolding ask_refusal
returns c = search chain
