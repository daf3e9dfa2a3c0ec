-- `machine::Machine::accepted` meets its contract.
use Rattle.machine.specs.Steps.{accepted, round_rule}
use Rattle.machine.proofs.Machine.accepted.Goals as goal

pub returns : goal.returns
unfolding accepted round_rule
returns c =
    rw (
      c.onward_cell.ensures,
      c.onward_machine.ensures,
      c.answer_cell-cell.ensures,
      c.offered_byte.ensures,
      c.can_assign-on.ensures,
      c.accepted_rows-rows.ensures,
      c.ticketed-facts.ensures,
    ) at c.did.ensures
