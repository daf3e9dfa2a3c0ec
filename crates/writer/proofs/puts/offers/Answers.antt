-- `writer::puts::offers` meets its contract: a loop over the offers.
use native.Mathlib.Omega.{arith}
use Rattle.writer.proofs.Offers.{offered_start, offered_turn, offered_ended}
use Rattle.writer.proofs.puts.offers.Goals as goal

pub loop-i-init : goal.loop-i-init
loop-i-init c = search offered_start

pub loop-i-preserved : goal.loop-i-preserved
loop-i-preserved c = search offered_turn

pub returns : goal.returns
returns c =
    let a = c.args in
    let both = offered_ended a.bytes.now a.cells.now a.count (omega arith) c.loop-i.invariant (omega arith) (omega arith) in
    record { value = both.0; cells_after = both.1 }
