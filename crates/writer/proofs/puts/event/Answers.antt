-- `writer::puts::event` meets its contract: the cells by their numbers.
use lib.Count.{ones_in}
use Rattle.parity.specs.Parity.{parity, odd_bit}
use Rattle.writer.proofs.puts.event.Goals as goal

pub returns-clause-cells_after : goal.returns-clause-cells_after
unfolding odd_bit parity ones_in
returns-clause-cells_after c = c.put.ensures.cells_after
