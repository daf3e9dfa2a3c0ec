-- `machine::Machine::directed` meets its contract.
use borrow.Author.Tests.{eq-eqb, ne_eqb}
use Rattle.machine.specs.Steps.{directed}
use Rattle.machine.proofs.Machine.directed.Goals as goal

pub returns-then-self-eq-SET_FROM_STATIC : goal.returns-then-self-eq-SET_FROM_STATIC
unfolding directed
returns-then-self-eq-SET_FROM_STATIC c =
    rw (eq-eqb _ _ c.if-self-eq-SET_FROM_STATIC.true, c.idle.ensures, c.with_row-rows.ensures, c.ticketed-facts.ensures)

pub returns-else-self-eq-SET_FROM_STATIC : goal.returns-else-self-eq-SET_FROM_STATIC
unfolding directed
returns-else-self-eq-SET_FROM_STATIC c =
    rw (ne_eqb _ _ c.if-self-eq-SET_FROM_STATIC.false, c.idle-else-self-eq-SET_FROM_STATIC.ensures, c.moved-rows.ensures)
