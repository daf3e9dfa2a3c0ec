-- `machine::Machine::listened` meets its contract.
use Rattle.machine.specs.Steps.{listened}
use Rattle.machine.proofs.Machine.listened.Goals as goal

pub returns : goal.returns
unfolding listened
returns c = rw (c.offering-next.ensures, c.address_for-address.ensures, c.number-identity.ensures, c.cells.ensures) at c.did.ensures
