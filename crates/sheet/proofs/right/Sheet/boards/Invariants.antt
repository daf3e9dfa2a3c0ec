use mathlib.Core.Path.{◌≡◌}
use Rattle.sheet.specs.Sheet.{boards_in}
use Rattle.sheet.proofs.Placing.{placed}
use Rattle.sheet.proofs.right.Sheet.boards.Given as goal

abbrev pub invariant-loop-i : goal.invariant-loop-i
invariant-loop-i l = l.boards ≡ placed (boards_in l.self.bytes.now) l.i
