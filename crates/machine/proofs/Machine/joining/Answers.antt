-- `machine::Machine::joining` meets its contract.
use borrow.Author.Tests.{eq-eqb, ne_eqb}
use Rattle.machine.specs.Steps.{joining}
use Rattle.machine.proofs.Machine.joining.Goals as goal

pub returns-then-choice-eq-JOIN_REFUSED : goal.returns-then-choice-eq-JOIN_REFUSED
unfolding joining
returns-then-choice-eq-JOIN_REFUSED c = rw (eq-eqb _ _ c.if-choice-eq-JOIN_REFUSED.true) (rw c.idle.ensures at c.did.ensures)

pub returns-else-choice-eq-JOIN_REFUSED : goal.returns-else-choice-eq-JOIN_REFUSED
unfolding joining
returns-else-choice-eq-JOIN_REFUSED c =
    rw (ne_eqb _ _ c.if-choice-eq-JOIN_REFUSED.false)
    (rw (c.opened-next.ensures, c.joined_for.ensures) at c.did-else-choice-eq-JOIN_REFUSED.ensures)
