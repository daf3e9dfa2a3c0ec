-- `machine::steps::address_of` meets its contract.
use Rattle.machine.proofs.Laws.{address_there, address_none}
use Rattle.machine.proofs.steps.address_of.Goals as goal

pub returns-in-Some : goal.returns-in-Some
returns-in-Some c = address_there c.args.rows.now c.args.ticket c.in-Some.ensures

pub returns-in-None : goal.returns-in-None
returns-in-None c = address_none c.args.rows.now c.args.ticket c.in-None.ensures
