-- `machine::Machine::direct_answer` meets its contract.
use Rattle.machine.specs.Steps.{direct_answer}
use Rattle.machine.proofs.Machine.direct_answer.Goals as goal

pub returns-then-heard : goal.returns-then-heard
unfolding direct_answer
returns-then-heard c =
    rw c.if-heard.true (rw (
      c.directed.ensures,
      c.data_cell-data.ensures,
      c.write_byte-then-heard.ensures,
      c.answer_cell-header.ensures,
      c.write_byte.ensures,
      c.if-heard.true,
    ) at c.did.ensures)

pub returns-else-heard : goal.returns-else-heard
unfolding direct_answer
returns-else-heard c =
    rw c.if-heard.false (rw (c.idle.ensures, c.answer_cell-header.ensures, c.write_byte.ensures, c.if-heard.false) at c.did-else-heard.ensures)
