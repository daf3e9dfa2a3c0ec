-- `parity::offered_byte` meets its contract: the ninth bit of the address above a 0 is the offered byte's own bit.
use native.Mathlib.Nat.{add-zero}
use Rattle.parity.proofs.Laws.{own_bit}
use Rattle.parity.proofs.offered_byte.Goals as goal

pub returns : goal.returns
returns c = rw (c.ninth_bit.ensures.value, c.write_byte-byte.ensures, own_bit, add-zero)
