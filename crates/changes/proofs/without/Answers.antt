-- `changes::without` meets its contract: a loop that closes up, then the last place.
use mathlib.Core.Path.{sym, refl}
use Rattle.lists.proofs.Edits.{close_start, close_turn, close_ended, remove_none}
use Rattle.rows.specs.Rows.{no_row}
use Rattle.changes.specs.Changes.{without}
use native.Mathlib.Omega.{arith}
use Rattle.changes.proofs.without.Goals as goal

pub returns-then-place-ge32 : goal.returns-then-place-ge32
unfolding without
returns-then-place-ge32 c = sym (remove_none _ no_row _ (omega arith))

pub loop-i-init : goal.loop-i-init
loop-i-init c = close_start (omega arith) (omega arith)

pub loop-i-preserved : goal.loop-i-preserved
loop-i-preserved c = close_turn c.loop-i.invariant (omega arith) no_row

pub returns : goal.returns
unfolding without
returns c = close_ended c.loop-i.invariant 31 refl (omega arith)
