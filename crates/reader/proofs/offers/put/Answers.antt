-- `reader::offers::put` meets its contract: a loop over the offers.
use Rattle.reader.proofs.Bytes.{tens_start, tens_turn, tens_ended}
use borrow.Author.Rules.{rules}
use Rattle.reader.proofs.offers.put.Goals as goal

pub loop-i-init : goal.loop-i-init
loop-i-init c = search tens_start

pub loop-i-preserved : goal.loop-i-preserved
loop-i-preserved c = search tens_turn

pub returns : goal.returns
returns c = search (tens_ended, rules)
