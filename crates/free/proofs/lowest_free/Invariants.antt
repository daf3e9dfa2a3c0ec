use Rattle.lists.proofs.Numbers.{First}
use Rattle.free.proofs.Laws.{open_unmarked}
use Rattle.free.proofs.lowest_free.Given as goal

abbrev pub invariant-loop-address : goal.invariant-loop-address
invariant-loop-address l = First (open_unmarked l.t.facts l.marks) 128 l.address
