-- `machine::Machine::is_right` meets its contract.
use Rattle.machine.proofs.Laws.{right_sound, right_unsound}
use Rattle.machine.proofs.Machine.is_right.Goals as goal

pub returns-then-is_sound : goal.returns-then-is_sound
returns-then-is_sound c = search right_sound

pub returns-else-is_sound : goal.returns-else-is_sound
returns-else-is_sound c = search right_unsound
