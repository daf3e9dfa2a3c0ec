use Rattle.writer.proofs.Offers.{Identity}
use Rattle.writer.proofs.puts.offer.Given as goal

abbrev pub invariant-loop-k : goal.invariant-loop-k
invariant-loop-k l = Identity l.bytes l.initial.cells l.cells l.k
