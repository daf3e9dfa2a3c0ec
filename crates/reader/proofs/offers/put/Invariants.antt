use Rattle.reader.proofs.Bytes.{Tens}
use Rattle.reader.proofs.offers.put.Given as goal

abbrev pub invariant-loop-i : goal.invariant-loop-i
invariant-loop-i l = Tens l.cells l.from l.initial.buffer l.buffer l.i
