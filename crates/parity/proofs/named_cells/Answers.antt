-- `parity::named_cells` meets its contract: the definition computes to the constants.
use mathlib.Core.Path.{sym}
use Rattle.parity.proofs.Numbers.{named_cells_lem}
use Rattle.parity.proofs.named_cells.Goals as goal

pub returns : goal.returns
returns c = sym named_cells_lem
