-- `machine::Machine::give_up_refusal` meets its contract.
use Rattle.lists.proofs.Bools.{chain}
use Rattle.refusals.proofs.Laws.{number_not_zero}
use Rattle.machine.specs.Refusals.{give_up_refusal}
use Rattle.machine.proofs.Laws.{passed_on, step_refused, step_passed}
use Rattle.machine.proofs.Machine.give_up_refusal.Goals as goal

pub returns-in_err-step_refusal : goal.returns-in_err-step_refusal
unfolding give_up_refusal
returns-in_err-step_refusal c =
    let e = c.in_err-step_refusal.ensures in passed_on _ _ c.from_residual.ensures.1 (search (step_refused, number_not_zero))

pub returns-then-is_idle : goal.returns-then-is_idle
unfolding give_up_refusal
returns-then-is_idle c = let e = c.in_ok-step_refusal.ensures in search (step_passed, chain)

pub returns : goal.returns
unfolding give_up_refusal
returns c = let e = c.in_ok-step_refusal.ensures in search (step_passed, chain)
