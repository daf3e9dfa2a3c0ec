-- `reader::offers::put_one` meets its contract: a loop over the identity, and the two bytes behind it.
use Rattle.reader.proofs.Bytes.{ten_start, ten_turn, ten_ended}
use Rattle.reader.proofs.offers.put_one.Goals as goal

pub loop-k-init : goal.loop-k-init
loop-k-init c = search ten_start

pub loop-k-preserved : goal.loop-k-preserved
loop-k-preserved c = search ten_turn

pub returns : goal.returns
returns c = search ten_ended
