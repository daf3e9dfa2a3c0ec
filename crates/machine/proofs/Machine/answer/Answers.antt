-- `machine::Machine::answer` meets its contract: one way for each moment.
use Rattle.machine.proofs.Laws.{answer_at_lem, answer_refused, step_right, offered_ticket, direct_ticket}
use Rattle.machine.specs.declared.Moment.TheVariants.{Opened, Round, Offered, Direct}
use Rattle.machine.proofs.Emits.{few_lent, call_refused, call_passed, answer_short}
use Rattle.machine.specs.Calls.{answered}
use Rattle.machine.proofs.Machine.answer.Goals as goal

pub returns-in_default : goal.returns-in_default
unfolding answered
returns-in_default c =
    let d = few_lent _ _ _ c.args.cells.now c.in_default.ensures.cases c.refused.ensures in record { value = d.0; cells_after = d.1 }

pub offered_answer-requires : goal.offered_answer-requires
offered_answer-requires c = let e = c.in-Ok.ensures in search (offered_ticket, step_right)

pub direct_answer-requires : goal.direct_answer-requires
direct_answer-requires c = let e = c.in-Ok.ensures in search (direct_ticket, step_right)

pub returns-in-Opened : goal.returns-in-Opened
unfolding answered
returns-in-Opened c =
    let here = answer_at_lem _ _ Opened _ c.in-Opened.is c.opened_answer.ensures in
    let d = call_passed _ _ _ _ c.in-Some.ensures.cases c.in-Ok.ensures (answer_short _ _ _) here in
    record { value = d.0; cells_after = d.1 }

pub returns-in-Round : goal.returns-in-Round
unfolding answered
returns-in-Round c =
    let here = answer_at_lem _ _ Round _ c.in-Round.is c.round_answer.ensures in
    let d = call_passed _ _ _ _ c.in-Some.ensures.cases c.in-Ok.ensures (answer_short _ _ _) here in
    record { value = d.0; cells_after = d.1 }

pub returns-in-Offered : goal.returns-in-Offered
unfolding answered
returns-in-Offered c =
    let here = answer_at_lem _ _ Offered _ c.in-Offered.is c.offered_answer.ensures in
    let d = call_passed _ _ _ _ c.in-Some.ensures.cases c.in-Ok.ensures (answer_short _ _ _) here in
    record { value = d.0; cells_after = d.1 }

pub returns-in-Direct : goal.returns-in-Direct
unfolding answered
returns-in-Direct c =
    let here = answer_at_lem _ _ Direct _ c.in-Direct.is c.direct_answer.ensures in
    let d = call_passed _ _ _ _ c.in-Some.ensures.cases c.in-Ok.ensures (answer_short _ _ _) here in
    record { value = d.0; cells_after = d.1 }

pub returns-in-Idle : goal.returns-in-Idle
unfolding answered
returns-in-Idle c =
    let here = answer_refused _ _ _ c.in-Idle.is c.refused-in-Idle.ensures in
    let d = call_passed _ _ _ _ c.in-Some.ensures.cases c.in-Ok.ensures (answer_short _ _ _) here in
    record { value = d.0; cells_after = d.1 }

pub returns-in-Err : goal.returns-in-Err
unfolding answered
returns-in-Err c =
    let d = call_refused _ _ _ _ c.in-Some.ensures.cases _ c.in-Err.ensures c.refused-in-Err.ensures in
    record { value = d.0; cells_after = d.1 }
