-- `sheet::right::Sheet::boards` meets its contract: a loop over the boards.
use mathlib.Core.Path.{◌∙◌}
use native.Mathlib.Omega.{arith}
use lib.ListN.{length-take, length-drop}
use Rattle.sheet.proofs.Tables.{boards_few}
use Rattle.sheet.proofs.Bodies.{bodies_long}
use Rattle.sheet.proofs.Placing.{placed_turn, placed_all, board_there}
use Rattle.sheet.proofs.right.Sheet.boards.Goals as goal

pub slice_bounds-bodies-count : goal.slice_bounds-bodies-count
slice_bounds-bodies-count c = omega (arith, bodies_long _ c.args.self.right c.bodies.ensures)

pub slice_bounds-bodies-start : goal.slice_bounds-bodies-start
slice_bounds-bodies-start c = omega (arith, bodies_long _ c.args.self.right c.bodies.ensures)

pub overflow_mul-i : goal.overflow_mul-i
overflow_mul-i c = omega (arith, boards_few _ c.args.self.right)

pub bytes_at-requires : goal.bytes_at-requires
bytes_at-requires c = (omega arith, simp (length-take, length-drop) (omega (arith, bodies_long _ c.args.self.right c.bodies.ensures)))

pub bounds-boards-i : goal.bounds-boards-i
bounds-boards-i c = omega (arith, boards_few _ c.args.self.right)

pub loop-i-preserved : goal.loop-i-preserved
loop-i-preserved c =
    let right = c.args.self.right in
    rw c.loop-i.invariant
    (placed_turn _ c.loop-i.i _ (omega arith) (omega (arith, boards_few _ right))
    (board_there _ c.loop-i.i right (omega arith) c.bodies.ensures c.bytes_at.ensures (omega (arith, c.from_be_bytes.ensures))))

pub returns : goal.returns
returns c = c.loop-i.invariant ∙ placed_all _ c.loop-i.i (omega arith)
