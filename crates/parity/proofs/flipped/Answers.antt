-- `parity::flipped` meets its contract: a flip below 8 is the exclusive or with what its bit is worth, any other none.
use borrow.Author.Tests.{lt-ltb}
use Rattle.parity.proofs.Laws.{flip_xor, worth}
use Rattle.parity.proofs.flipped.Goals as goal

pub returns-then-k-lt8 : goal.returns-then-k-lt8
returns-then-k-lt8 c = rw (lt-ltb _ _ c.if-k-lt8.true, flip_xor, worth c.args.k c.if-k-lt8.true)
