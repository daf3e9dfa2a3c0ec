-- `machine::Machine::retire` meets its contract.
use Rattle.machine.proofs.Laws.{retire_refused, retire_passed}
use Rattle.machine.specs.Calls.{retired}
use Rattle.machine.proofs.Machine.retire.Goals as goal

pub returns-in-Ok : goal.returns-in-Ok
unfolding retired
returns-in-Ok c = retire_passed _ _ c.in-Ok.ensures (rw (c.done.ensures, c.idle.ensures, c.without-rows.ensures))

pub returns-in-Err : goal.returns-in-Err
unfolding retired
returns-in-Err c = retire_refused _ _ _ c.in-Err.ensures c.refused.ensures
