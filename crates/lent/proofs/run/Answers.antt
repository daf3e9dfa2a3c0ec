-- `lent::run` meets its contract: the bench's run over the copy is the list's.
use Prim.Native.Nat.{ℕ}
use mathlib.Core.Path.{ap}
use mathlib.Core.List.{List}
use lib.ListN.{length}
use Rattle.lists.specs.Buffers.{lay}
use Rattle.lent.proofs.Runs.{same_report, same_boards, same_cells}
use Rattle.lent.proofs.run.Goals as goal

pub returns-clause-value : goal.returns-clause-value
returns-clause-value c =
    let a = c.args in
    rw (c.from.ensures, c.run-ran.ensures.value, c.load-places.ensures, c.min-copied.ensures)
    (same_report a.machine a.boards.now a.flips.now (length a.cells.now))

pub returns-clause-boards_after : goal.returns-clause-boards_after
returns-clause-boards_after c =
    let a = c.args in
    rw (c.save.ensures, c.run-ran.ensures.value, c.load-places.ensures, c.min-copied.ensures)
    (same_boards a.machine a.boards.now a.flips.now (length a.cells.now))

pub returns-clause-cells_after : goal.returns-clause-cells_after
returns-clause-cells_after c =
    let a = c.args in
    rw (c.run-ran.ensures.cells_after, c.load-places.ensures, c.min-copied.ensures)
    (ap (λ (l : List ℕ). lay l a.cells.now) (same_cells a.machine a.boards.now a.flips.now (length a.cells.now)))
