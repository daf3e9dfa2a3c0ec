-- `parity::odd_ones` meets its contract: the ninth bit is 0 just where the ones are odd already.
use Rattle.parity.proofs.Laws.{odd_bit_zero}
use Rattle.parity.proofs.odd_ones.Goals as goal

pub returns : goal.returns
returns c = rw c.ninth_bit.ensures.value (odd_bit_zero 8 c.args.byte)
