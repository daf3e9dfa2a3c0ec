-- `machine::Machine::join` meets its contract.
use Rattle.machine.proofs.Emits.{few_lent, call_refused, call_passed, joining_short}
use Rattle.machine.specs.Calls.{joined}
use Rattle.machine.specs.Refusals.{join_refusal}
use Rattle.machine.proofs.Machine.join.Goals as goal

pub returns-in_default : goal.returns-in_default
unfolding joined join_refusal
returns-in_default c =
    let d = few_lent _ _ _ c.args.cells.now c.in_default.ensures.cases c.refused.ensures in record { value = d.0; cells_after = d.1 }

pub returns-in-Ok : goal.returns-in-Ok
unfolding joined join_refusal
returns-in-Ok c =
    let d = call_passed _ _ _ _ c.in-Some.ensures.cases c.in-Ok.ensures (joining_short _ _) c.joining.ensures in
    record { value = d.0; cells_after = d.1 }

pub returns-in-Err : goal.returns-in-Err
unfolding joined join_refusal
returns-in-Err c =
    let d = call_refused _ _ _ _ c.in-Some.ensures.cases _ c.in-Err.ensures c.refused-in-Err.ensures in
    record { value = d.0; cells_after = d.1 }
