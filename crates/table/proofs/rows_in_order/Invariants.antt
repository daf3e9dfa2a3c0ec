use Prim.Native.Nat.{◌+◌}
use lib.ListN.{drop, get_or}
use Rattle.lists.specs.Lists.{all}
use Rattle.rows.specs.Rows.{no_row}
use Rattle.lists.proofs.Loops.{All, Pairs}
use Rattle.table.specs.Sound.{in_order}
use Rattle.table.proofs.rows_in_order.Given as goal

abbrev pub invariant-loop-j : goal.invariant-loop-j
invariant-loop-j l = All (in_order (get_or l.rows l.i no_row)) l.rows no_row (all (in_order (get_or l.rows l.i no_row)) (drop (l.i + 1) l.rows)) 32 l.j

abbrev pub invariant-loop-i : goal.invariant-loop-i
invariant-loop-i l = Pairs in_order l.rows no_row 32 l.i
