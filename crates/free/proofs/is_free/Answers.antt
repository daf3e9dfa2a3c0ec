-- `free::is_free` meets its contract.
use mathlib.Core.Path.{sym, ◌∙◌}
use Rattle.free.specs.Free.{is_free}
use Rattle.free.proofs.is_free.Goals as goal

pub returns-then-is_open : goal.returns-then-is_open
unfolding is_free
returns-then-is_open c = rw (sym c.is_open.ensures ∙ c.if-is_open.true, c.holds_address.ensures)

pub returns-else-is_open : goal.returns-else-is_open
unfolding is_free
returns-else-is_open c = rw (sym c.is_open.ensures ∙ c.if-is_open.false)
