-- `machine::Machine::beginning` meets its contract.
use Rattle.machine.specs.Steps.{beginning}
use Rattle.machine.proofs.Machine.beginning.Goals as goal

pub returns : goal.returns
unfolding beginning
returns c = rw (c.opened-next.ensures, c.address_wanted.ensures, c.address_asked-asked.ensures) at c.did.ensures
