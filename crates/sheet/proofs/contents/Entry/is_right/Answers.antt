-- `sheet::contents::Entry::is_right` meets its contract.
use Rattle.lists.proofs.Bools.{same}
use Rattle.sheet.specs.Sheet.{entry_right}
use Rattle.sheet.proofs.contents.Entry.is_right.Goals as goal

pub returns : goal.returns
unfolding entry_right
returns c = search same
