-- `boards::offer` meets its contract.
use native.Mathlib.Omega.{arith}
use Rattle.std.proofs.Common.{rules}
use Rattle.boards.specs.Wire.{after_byte}
use Rattle.boards.proofs.Turns.{made, zipped}
use Rattle.lists.proofs.Zips.{zip_long}
use Rattle.boards.proofs.offer.Goals as goal

pub returns : goal.returns
unfolding after_byte
returns c = made _ _ _ _ 32 c.from_fn.ensures.items (search (arith, zip_long)) (λ i h y q k. (search rules, λ d. search (rules, zipped)))
