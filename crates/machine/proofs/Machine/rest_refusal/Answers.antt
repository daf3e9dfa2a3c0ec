-- `machine::Machine::rest_refusal` meets its contract.
use Rattle.machine.proofs.Laws.{rest_broken, rest_moving, rest_resting}
use Rattle.machine.proofs.Machine.rest_refusal.Goals as goal

pub returns-then-not-is_right : goal.returns-then-not-is_right
returns-then-not-is_right c = search rest_broken

pub returns-then-not-is_idle : goal.returns-then-not-is_idle
returns-then-not-is_idle c = search rest_moving

pub returns : goal.returns
returns c = search rest_resting
