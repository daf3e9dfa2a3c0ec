-- `changes::with_row` meets its contract: a loop that puts the row in and moves the rest up by one.
use Rattle.std.proofs.Common.{◌∙◌}
use Rattle.lists.proofs.Library.{position-find}
use Rattle.lists.proofs.Edits.{shift_start, shift_turn, shift_ended}
use Rattle.changes.specs.Changes.{with_row}
use native.Mathlib.Omega.{arith}
use Rattle.changes.proofs.with_row.Goals as goal

pub loop-i-init : goal.loop-i-init
loop-i-init c = shift_start (omega arith) (c.unwrap_or-place.ensures ∙ position-find _ _ c.told-rows c.place_for.ensures)

pub loop-i-preserved : goal.loop-i-preserved
loop-i-preserved c = search shift_turn

pub returns : goal.returns
unfolding with_row
returns c = search shift_ended
