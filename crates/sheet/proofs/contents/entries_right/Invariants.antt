use Rattle.sheet.proofs.Tables.{Walking}
use Rattle.sheet.proofs.contents.entries_right.Given as goal

abbrev pub invariant-loop-i : goal.invariant-loop-i
invariant-loop-i l = Walking l.sheet l.count l.due l.i
