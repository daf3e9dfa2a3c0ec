-- `machine::steps::accepted_rows` meets its contract.
use Rattle.machine.proofs.Laws.{accepted_known, accepted_new}
use Rattle.machine.proofs.steps.accepted_rows.Goals as goal

pub returns-in-Some : goal.returns-in-Some
returns-in-Some c = accepted_known _ _ _ _ c.in-Some.ensures c.renewed.ensures

pub returns-in-None : goal.returns-in-None
returns-in-None c = accepted_new _ _ _ _ c.in-None.ensures c.with_row.ensures
