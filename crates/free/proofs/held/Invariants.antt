use Rattle.free.proofs.Laws.{Marked}
use Rattle.free.proofs.held.Given as goal

abbrev pub invariant-loop-r : goal.invariant-loop-r
invariant-loop-r l = Marked l.rows l.marks l.r-index
