use Rattle.lists.proofs.Edits.{Shifting}
use Rattle.rows.specs.Rows.{no_row}
use Rattle.changes.specs.Changes.{comes_behind}
use Rattle.changes.proofs.with_row.Given as goal

abbrev pub invariant-loop-i : goal.invariant-loop-i
invariant-loop-i l = Shifting (comes_behind l.initial.held.address) l.initial.held l.rows l.out l.held no_row 32 l.i
