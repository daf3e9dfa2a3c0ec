-- `writer::puts::record` meets its contract: each joining puts its parts one behind the other.
use mathlib.Core.List.{[], ◌∷◌}
use mathlib.Core.Path.{refl}
use native.Mathlib.Omega.{arith}
use Rattle.readings.specs.Layouts.{command_cells}
use Rattle.writer.proofs.Laws.{puts_on, puts_joined}
use Rattle.writer.proofs.puts.record.Goals as goal

pub returns-in-None : goal.returns-in-None
returns-in-None c =
    let a = c.args in
    let r = a.r.now in
    let parts = puts_on (512 ∷ []) (command_cells r.command r a.bytes.now) a.cells.now (omega arith)
    (c.put-n.ensures.value, c.put-n.ensures.cells_after) c.command.ensures.value c.command.ensures.cells_after in
    let both = puts_joined r a.bytes.now c.in-None.is refl a.cells.now parts in
    record { value = both.0; cells_after = both.1 }

pub returns-in-Refused : goal.returns-in-Refused
returns-in-Refused c =
    let a = c.args in
    let both = puts_joined a.r.now a.bytes.now c.in-Refused.is refl a.cells.now (c.put.ensures.value, c.put.ensures.cells_after) in
    record { value = both.0; cells_after = both.1 }

pub returns-in-Answered : goal.returns-in-Answered
returns-in-Answered c =
    let a = c.args in
    let r = a.r.now in
    let parts = puts_on (512 ∷ 8 ∷ 513 ∷ []) (command_cells r.command r a.bytes.now) a.cells.now (omega arith)
    (c.put-n-in-Answered.ensures.value, c.put-n-in-Answered.ensures.cells_after)
    c.command-in-Answered.ensures.value c.command-in-Answered.ensures.cells_after in
    let both = puts_joined r a.bytes.now c.in-Answered.is refl a.cells.now parts in
    record { value = both.0; cells_after = both.1 }
