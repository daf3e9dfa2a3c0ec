-- `slots::checked_facts` meets its contract: a set of another length is not right, and one of 16 bytes is judged as it came.
use Rattle.std.proofs.Common.{◌≡◌, sym, ◌∙◌}
use Rattle.slots.proofs.Laws.{checked_yes, checked_no, legacy_length}
use Rattle.slots.proofs.checked_facts.Goals as goal

pub returns-in_default-clause-value : goal.returns-in_default-clause-value
returns-in_default-clause-value c =
    let a = c.args in checked_no _ (legacy_length a.flags a.legacy.now a.last c.in_default.ensures.1)

pub returns-in_default-clause-refusal : goal.returns-in_default-clause-refusal
returns-in_default-clause-refusal c =
    let a = c.args in rw (legacy_length a.flags a.legacy.now a.last c.in_default.ensures.1)

pub returns-then-are_right-clause-value : goal.returns-then-are_right-clause-value
returns-then-are_right-clause-value c =
    let bytes : c.in-Ok.legacy ≡ c.args.legacy.now = c.in-Ok.ensures.1.same in
    rw bytes (checked_yes _ (rw bytes at (sym c.are_right.ensures ∙ c.if-are_right.true)))

pub returns-else-are_right-clause-value : goal.returns-else-are_right-clause-value
returns-else-are_right-clause-value c =
    let bytes : c.in-Ok.legacy ≡ c.args.legacy.now = c.in-Ok.ensures.1.same in
    checked_no _ (rw bytes at (sym c.are_right.ensures ∙ c.if-are_right.false))
