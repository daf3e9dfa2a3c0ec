-- `machine::Machine::ask` meets its contract.
use Rattle.std.proofs.lemmas.Result.{err_from_is_err_and}
use Rattle.machine.proofs.Laws.{ask_refused, ask_told}
use Rattle.machine.proofs.Machine.ask.Goals as goal

pub returns-in_err-ask_refusal : goal.returns-in_err-ask_refusal
returns-in_err-ask_refusal c =
    let p = err_from_is_err_and c.from_residual.result c.from_residual.ensures.1 in
    rw (p.1, p.2) (ask_refused _ _ _ c.in_err-ask_refusal.ensures)

pub returns : goal.returns
returns c = ask_told _ _ c.in_ok-ask_refusal.ensures c.address_of.ensures
