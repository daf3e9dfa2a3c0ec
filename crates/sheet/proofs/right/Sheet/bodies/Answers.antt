-- `sheet::right::Sheet::bodies` meets its contract: the table lies within the sheet.
use native.Mathlib.Omega.{arith}
use Rattle.sheet.proofs.Tables.{right_parts}
use Rattle.sheet.proofs.right.Sheet.bodies.Goals as goal

pub bounds-self-0 : goal.bounds-self-0
bounds-self-0 c = omega (arith, right_parts _ c.args.self.right)

pub slice_bounds-result-count : goal.slice_bounds-result-count
slice_bounds-result-count c = omega (arith, right_parts _ c.args.self.right)

pub slice_bounds-result-start : goal.slice_bounds-result-start
slice_bounds-result-start c = omega (arith, right_parts _ c.args.self.right)
