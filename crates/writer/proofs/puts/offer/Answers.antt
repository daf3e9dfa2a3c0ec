-- `writer::puts::offer` meets its contract: a loop over the identity bytes, between the header and the address byte.
use borrow.Author.Rules.{rules}
use Rattle.writer.proofs.Offers.{identity_turn, offer_ended}
use Rattle.writer.proofs.puts.offer.Goals as goal

pub loop-k-preserved : goal.loop-k-preserved
loop-k-preserved c = search (identity_turn, rules)

pub returns : goal.returns
returns c = search offer_ended
