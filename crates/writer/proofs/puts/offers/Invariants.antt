use Rattle.writer.proofs.Offers.{Offered}
use Rattle.writer.proofs.puts.offers.Given as goal

abbrev pub invariant-loop-i : goal.invariant-loop-i
invariant-loop-i l = Offered l.bytes l.initial.cells l.cells l.i
