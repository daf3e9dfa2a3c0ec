-- `slots::Facts::is_open` meets its contract.
use Rattle.slots.specs.Slots.{is_open}
use Rattle.slots.proofs.Facts.is_open.Goals as goal

pub returns : goal.returns
unfolding is_open
returns c = rw (c.allows.ensures, c.is_legacy.ensures, c.class_of.ensures)
