-- `sheet::right::Sheet::count` meets its contract.
use native.Mathlib.Omega.{arith}
use Rattle.sheet.proofs.Tables.{right_parts, flips_behind, boards_with_flips, boards_alone}
use Rattle.sheet.proofs.right.Sheet.count.Goals as goal

pub bounds-self-0 : goal.bounds-self-0
bounds-self-0 c = omega (arith, right_parts _ c.args.self.right)

pub overflow_sub-count : goal.overflow_sub-count
overflow_sub-count c = (right_parts _ c.args.self.right).some

pub entry_at-last-requires : goal.entry_at-last-requires
entry_at-last-requires c = omega (arith, right_parts _ c.args.self.right)

pub overflow_sub-result : goal.overflow_sub-result
overflow_sub-result c = flips_behind _ c.args.self.right c.entry_at-last.ensures c.if-last-eq-FLIPS.true

pub overflow_sub-result-else-last-eq-FLIPS : goal.overflow_sub-result-else-last-eq-FLIPS
overflow_sub-result-else-last-eq-FLIPS c = (right_parts _ c.args.self.right).some

pub returns-then-last-eq-FLIPS : goal.returns-then-last-eq-FLIPS
returns-then-last-eq-FLIPS c = boards_with_flips _ c.args.self.right c.entry_at-last.ensures c.if-last-eq-FLIPS.true

pub returns-else-last-eq-FLIPS : goal.returns-else-last-eq-FLIPS
returns-else-last-eq-FLIPS c = boards_alone _ c.args.self.right c.entry_at-last.ensures c.if-last-eq-FLIPS.false
