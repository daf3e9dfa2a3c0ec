use Rattle.boards.proofs.Turns.{Settled}
use Rattle.boards.proofs.stay_in.Given as goal

abbrev pub invariant-loop-i : goal.invariant-loop-i
invariant-loop-i l = Settled l.k l.sent l.initial.kept l.kept l.i
