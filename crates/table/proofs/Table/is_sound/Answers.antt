-- `table::is_sound` meets its contract.
use mathlib.Core.Path.{◌≡◌}
use mathlib.Core.Bool.{and-true}
use lib.ListN.{length}
use borrow.Author.Tests.{eq-eqb}
use Rattle.lists.proofs.Bools.{same}
use Rattle.table.specs.Sound.{sound}
use borrow.Author.Rules.{rules}
use Rattle.table.proofs.Table.is_sound.Goals as goal

pub returns : goal.returns
unfolding sound
returns c = let long : length c.args.self.now.rows ≡ 32 = search rules in rw (eq-eqb _ _ long, and-true) (search same)
