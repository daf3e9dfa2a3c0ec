use Rattle.lists.proofs.Edits.{Closing}
use Rattle.rows.specs.Rows.{no_row}
use Rattle.changes.proofs.without.Given as goal

abbrev pub invariant-loop-i : goal.invariant-loop-i
invariant-loop-i l = Closing l.place no_row l.rows l.out 32 l.i
