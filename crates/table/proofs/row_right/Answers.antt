-- `table::row_right` meets its contract.
use Rattle.lists.proofs.Bools.{via}
use Rattle.table.proofs.row_right.Goals as goal

pub returns-then-in_use : goal.returns-then-in_use
returns-then-in_use c = rw (via c.in_use.ensures c.if-in_use.true) c.used_right.ensures

pub returns-else-in_use : goal.returns-else-in_use
returns-else-in_use c = rw (via c.in_use.ensures c.if-in_use.false)
