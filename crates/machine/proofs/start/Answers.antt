-- `machine::start` meets its contract.
use Rattle.machine.proofs.Laws.{start_told}
use Rattle.machine.proofs.start.Goals as goal

pub returns-in-Ok : goal.returns-in-Ok
returns-in-Ok c = rw c.done.ensures (start_told _ c.in-Ok.ensures.value c.without_rows.ensures c.in-Ok.ensures.refusal)

pub returns-in-Err : goal.returns-in-Err
returns-in-Err c =
    rw c.refused.ensures
    (start_told _ c.in-Err.ensures.value (rw c.refused_facts.ensures at c.without_rows-in-Err.ensures) c.in-Err.ensures.refusal)
