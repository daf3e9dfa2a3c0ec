-- `machine::Machine::identity` meets its contract.
use Rattle.machine.proofs.Laws.{eight_heard}
use Rattle.machine.proofs.Emits.{few_lent, call_refused, call_passed, listened_short}
use Rattle.machine.specs.Calls.{identified}
use Rattle.machine.specs.Refusals.{identity_refusal}
use Rattle.machine.proofs.Machine.identity.Goals as goal

pub returns-in_default : goal.returns-in_default
unfolding identified identity_refusal
returns-in_default c =
    let d = few_lent _ _ _ c.args.cells.now c.in_default.ensures.cases c.refused.ensures in record { value = d.0; cells_after = d.1 }

pub eight-requires : goal.eight-requires
eight-requires c = eight_heard _ _ _ c.in-Ok.ensures

pub returns-in-Ok : goal.returns-in-Ok
unfolding identified identity_refusal
returns-in-Ok c =
    let short = listened_short _ c.args.bytes.now (eight_heard _ _ _ c.in-Ok.ensures) in
    let d = call_passed _ _ _ _ c.in-Some.ensures.cases c.in-Ok.ensures short (rw c.eight.ensures at c.listened.ensures) in
    record { value = d.0; cells_after = d.1 }

pub returns-in-Err : goal.returns-in-Err
unfolding identified identity_refusal
returns-in-Err c =
    let d = call_refused _ _ _ _ c.in-Some.ensures.cases _ c.in-Err.ensures c.refused-in-Err.ensures in
    record { value = d.0; cells_after = d.1 }
