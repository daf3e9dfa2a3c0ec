-- `parity::ninth_bit` meets its contract: the rule is one test at each of the 256 entries, which antt computes.
use mathlib.Core.Path.{◌≡◌}
use Prim.Native.Nat.{ℕ, ◌<◌}
use lib.Count.{ones_in}
use Rattle.lists.proofs.Tables.{tabled}
use Rattle.parity.specs.Parity.{parity, odd_bit}
use Rattle.parity.proofs.Laws.{odd_bit_lt}
use Rattle.parity.proofs.ninth_bit.Goals as goal

-- what is an odd bit is 0 or 1
small : (n x b : ℕ) → b ≡ odd_bit n x → b < 2
small n x b e = rw e (odd_bit_lt n x)

pub returns-clause-small : goal.returns-clause-small
unfolding odd_bit parity ones_in
returns-clause-small c = small 8 c.args.byte _ (search (tabled (odd_bit 8), tt))

pub returns-clause-value : goal.returns-clause-value
unfolding odd_bit parity ones_in
returns-clause-value c = search (tabled (odd_bit 8), tt)
