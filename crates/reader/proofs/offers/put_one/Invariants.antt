use Rattle.reader.proofs.Bytes.{Ten}
use Rattle.reader.proofs.offers.put_one.Given as goal

abbrev pub invariant-loop-k : goal.invariant-loop-k
invariant-loop-k l = Ten l.cells l.from l.at l.initial.buffer l.buffer l.k
