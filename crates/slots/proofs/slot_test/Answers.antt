-- `slots::slot_test` meets its contract: one law for each of its three ways.
use Rattle.std.proofs.lemmas.Result.{err_from_is_err_and}
use Rattle.slots.proofs.Laws.{slot_wrong_facts, slot_too_high, slot_told}
use Rattle.slots.proofs.slot_test.Goals as goal

pub returns-in_err-facts : goal.returns-in_err-facts
returns-in_err-facts c =
    let p = err_from_is_err_and c.from_residual.result c.from_residual.ensures.1 in
    rw (p.1, p.2) (slot_wrong_facts _ _ c.in_err-facts.ensures.value c.in_err-facts.ensures.refusal)

pub returns-then-address-gt127 : goal.returns-then-address-gt127
returns-then-address-gt127 c = let e = c.in_ok-facts.ensures.value in search slot_too_high

pub returns : goal.returns
returns c = let e = c.in_ok-facts.ensures.value in search slot_told
