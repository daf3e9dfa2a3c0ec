use mathlib.Core.List.{map}
use Rattle.boards.specs.Wire.{board_of}
use Rattle.boards.proofs.Turns.{Hearing}
use Rattle.boards.proofs.listen.Given as goal

abbrev pub invariant-loop-k : goal.invariant-loop-k
invariant-loop-k l = Hearing 64 (map board_of l.sent) l.still l.kept l.identity l.k
