use Rattle.bench.proofs.Playing.{Playing}
use Rattle.bench.proofs.play.play.Given as goal

abbrev pub invariant-loop-i : goal.invariant-loop-i
invariant-loop-i l = Playing l.count l.flips l.initial.cells l.initial.run l.cells l.run l.i
