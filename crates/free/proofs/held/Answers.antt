-- `free::held` meets its contract: the marks tell of the rows up to the one looked at.
use Rattle.free.proofs.Laws.{marks_start}
use Rattle.free.proofs.held.Goals as goal

pub loop-r-init : goal.loop-r-init
loop-r-init c = marks_start c.told-rows
