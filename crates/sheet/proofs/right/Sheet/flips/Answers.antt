-- `sheet::right::Sheet::flips` meets its contract: they lie behind the boards.
use native.Mathlib.Omega.{arith}
use Rattle.sheet.proofs.Tables.{boards_few}
use Rattle.sheet.proofs.Bodies.{bodies_long, flips_behind_boards}
use Rattle.sheet.proofs.right.Sheet.flips.Goals as goal

pub overflow_mul-result : goal.overflow_mul-result
overflow_mul-result c = omega (arith, boards_few _ c.args.self.right)

pub overflow_add-result : goal.overflow_add-result
overflow_add-result c = omega (arith, boards_few _ c.args.self.right)

pub slice_bounds-result-count : goal.slice_bounds-result-count
slice_bounds-result-count c = omega (arith, bodies_long _ c.args.self.right c.bodies.ensures)

pub slice_bounds-result-start : goal.slice_bounds-result-start
slice_bounds-result-start c = omega (arith, bodies_long _ c.args.self.right c.bodies.ensures)

pub returns : goal.returns
returns c = rw (c.bodies.ensures, c.count-count.ensures) (flips_behind_boards _ c.args.self.right)
