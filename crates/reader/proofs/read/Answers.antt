-- `reader::read` meets its contract: a record that is too long, one that breaks, offers that have no room, and a record that is read.
use mathlib.Core.Path.{ap}
use Rattle.reader.specs.Read.{fault_answer}
use Rattle.reader.proofs.Bytes.{too_long, broken, no_room, well_read}
use Rattle.reader.proofs.read.Goals as goal

pub returns-then-cells-gt-MOST_CELLS : goal.returns-then-cells-gt-MOST_CELLS
returns-then-cells-gt-MOST_CELLS c =
    let a = c.args in
    let both = too_long a.cells.now a.buffer.now c.if-cells-gt-MOST_CELLS.true (ap fault_answer c.from.ensures) in
    record { value = both.0; buffer_after = both.1 }

pub returns-in_err-reading : goal.returns-in_err-reading
returns-in_err-reading c =
    let a = c.args in
    let both = broken a.cells.now a.buffer.now c.if-cells-gt-MOST_CELLS.false _ _ c.from_residual.ensures.1 c.in_err-reading.ensures in
    record { value = both.0; buffer_after = both.1 }

pub returns-then-buffer-reading : goal.returns-then-buffer-reading
returns-then-buffer-reading c =
    let a = c.args in
    let both = no_room a.cells.now a.buffer.now c.if-cells-gt-MOST_CELLS.false _ c.in_ok-reading.ensures c.if-buffer-reading.true (ap fault_answer c.from-then-buffer-reading.ensures) in
    record { value = both.0; buffer_after = both.1 }

pub returns : goal.returns
returns c =
    let a = c.args in
    let both = well_read a.cells.now a.buffer.now c.if-cells-gt-MOST_CELLS.false _ c.in_ok-reading.ensures c.if-buffer-reading.false _ c.put.ensures in
    record { value = both.0; buffer_after = both.1 }
