-- `machine::Machine::give_up` meets its contract.
use Rattle.std.proofs.Common.{lit≤}
use Rattle.machine.proofs.Emits.{few_lent, call_refused, call_passed}
use Rattle.machine.specs.Calls.{given_up}
use Rattle.machine.specs.Refusals.{give_up_refusal}
use Rattle.machine.proofs.Machine.give_up.Goals as goal

pub returns-in_default : goal.returns-in_default
unfolding given_up give_up_refusal
returns-in_default c =
    let d = few_lent _ _ _ c.args.cells.now c.in_default.ensures.cases c.refused.ensures in record { value = d.0; cells_after = d.1 }

pub returns-in-Ok : goal.returns-in-Ok
unfolding given_up give_up_refusal
returns-in-Ok c =
    let d = call_passed _ _ _ _ c.in-Some.ensures.cases c.in-Ok.ensures (lit≤ tt) (rw c.idle.ensures at c.did.ensures) in
    record { value = d.0; cells_after = d.1 }

pub returns-in-Err : goal.returns-in-Err
unfolding given_up give_up_refusal
returns-in-Err c =
    let d = call_refused _ _ _ _ c.in-Some.ensures.cases _ c.in-Err.ensures c.refused-in-Err.ensures in
    record { value = d.0; cells_after = d.1 }
