-- `writer::write` meets its contract: refused by the first test that fails, else the whole record is put.
use mathlib.Core.Bool.{true, false}
use mathlib.Core.Path.{◌≡◌, refl}
use native.Mathlib.Omega.{arith}
use borrow.Author.Tests.{not-true, not-false}
use Rattle.lists.proofs.Bools.{via}
use Rattle.writer.specs.Write.{writable}
use Rattle.writer.proofs.Writable.{writable_room, too_few, no_layout, not_written, all-written}
use Rattle.writer.proofs.write.Goals as goal

pub returns-then-cells-lt-MOST_CELLS : goal.returns-then-cells-lt-MOST_CELLS
returns-then-cells-lt-MOST_CELLS c =
    let a = c.args in
    let k = too_few a.reading.now a.offers.now a.cells.now (omega arith) in
    let both = not_written a.reading.now a.offers.now a.cells.now k refl refl in
    record { value = both.0; cells_after = both.1 }

pub returns-then-not-writable : goal.returns-then-not-writable
returns-then-not-writable c =
    let a = c.args in
    let e : writable a.reading.now a.offers.now ≡ false = search (via, not-true) in
    let k = no_layout a.reading.now a.offers.now a.cells.now (omega arith) e in
    let both = not_written a.reading.now a.offers.now a.cells.now k refl refl in
    record { value = both.0; cells_after = both.1 }

pub record-requires : goal.record-requires
record-requires c =
    let a = c.args in
    let e : writable a.reading.now a.offers.now ≡ true = search (via, not-false) in
    omega (arith, writable_room a.reading.now a.offers.now e)

pub returns : goal.returns
returns c =
    let a = c.args in
    let e : writable a.reading.now a.offers.now ≡ true = search (via, not-false) in
    let both = all-written a.reading.now a.offers.now a.cells.now (omega arith) e (c.record.ensures.value, c.record.ensures.cells_after) in
    record { value = both.0; cells_after = both.1 }
