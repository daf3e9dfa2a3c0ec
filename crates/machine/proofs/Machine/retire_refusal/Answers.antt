-- `machine::Machine::retire_refusal` meets its contract.
use Rattle.lists.proofs.Bools.{chain}
use Rattle.refusals.proofs.Laws.{number_not_zero}
use Rattle.machine.specs.Refusals.{retire_refusal}
use Rattle.machine.proofs.Laws.{passed_on, rest_refused, rest_passed}
use Rattle.machine.proofs.Machine.retire_refusal.Goals as goal

pub returns-in_err-rest_refusal : goal.returns-in_err-rest_refusal
unfolding retire_refusal
returns-in_err-rest_refusal c =
    let e = c.in_err-rest_refusal.ensures in passed_on _ _ c.from_residual.ensures.1 (search (rest_refused, number_not_zero))

pub returns : goal.returns
unfolding retire_refusal
returns c = let e = c.in_ok-rest_refusal.ensures in search (rest_passed, chain)
