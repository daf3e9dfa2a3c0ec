-- `machine::Machine::about_joining` meets its contract.
use lib.Count.{ones_in}
use Rattle.parity.specs.Parity.{odd_bit, parity}
use Rattle.machine.proofs.Machine.about_joining.Goals as goal

pub returns : goal.returns
unfolding odd_bit parity ones_in
returns c = rw c.idle.ensures at c.did.ensures
