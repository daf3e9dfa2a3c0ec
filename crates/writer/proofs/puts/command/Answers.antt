-- `writer::puts::command` meets its contract: each command puts its parts one behind the other.
use mathlib.Core.List.{[], ◌∷◌}
use mathlib.Core.Path.{refl}
use native.Mathlib.Omega.{arith}
use lib.Count.{ones_in}
use Rattle.parity.specs.Parity.{parity, odd_bit}
use Rattle.readings.specs.Layouts.{offers_cells, rounds_end}
use Rattle.writer.proofs.Laws.{puts_on, puts_room, puts_for}
use Rattle.writer.proofs.Offers.{offers_length}
use Rattle.writer.proofs.puts.command.Goals as goal

pub rounds_end-requires : goal.rounds_end-requires
rounds_end-requires c =
    let a = c.args in
    let offers = offers_cells a.r.now.offers a.bytes.now in
    let long = offers_length a.r.now.offers a.bytes.now (omega arith) in
    let front = puts_on (504 ∷ 14 ∷ []) offers a.cells.now (omega arith)
    (c.put-n.ensures.value, c.put-n.ensures.cells_after) c.offers.ensures.value c.offers.ensures.cells_after in
    puts_room 3 (504 ∷ 14 ∷ offers) a.cells.now (omega arith) front

pub returns-in-Assign-clause-cells_after : goal.returns-in-Assign-clause-cells_after
unfolding odd_bit parity ones_in
returns-in-Assign-clause-cells_after c =
    let a = c.args in
    let r = a.r.now in
    let long = offers_length r.offers a.bytes.now (omega arith) in
    let front = puts_on (504 ∷ 14 ∷ []) (offers_cells r.offers a.bytes.now) a.cells.now (omega arith)
    (c.put-n.ensures.value, c.put-n.ensures.cells_after) c.offers.ensures.value c.offers.ensures.cells_after in
    let whole = puts_on (504 ∷ 14 ∷ offers_cells r.offers a.bytes.now) (rounds_end r.last) a.cells.now (omega arith)
    front c.rounds_end.ensures.value c.rounds_end.ensures.cells_after in
    puts_for r a.bytes.now c.in-Assign.is refl a.cells.now whole.1

pub returns-in-ResetAll-clause-cells_after : goal.returns-in-ResetAll-clause-cells_after
unfolding odd_bit parity ones_in
returns-in-ResetAll-clause-cells_after c = search puts_for

pub returns-in-SetFromStatic-clause-cells_after : goal.returns-in-SetFromStatic-clause-cells_after
unfolding odd_bit parity ones_in
returns-in-SetFromStatic-clause-cells_after c = search puts_for

pub returns-in-Move-clause-cells_after : goal.returns-in-Move-clause-cells_after
unfolding odd_bit parity ones_in
returns-in-Move-clause-cells_after c = search puts_for

pub returns-in-Silence-clause-cells_after : goal.returns-in-Silence-clause-cells_after
unfolding odd_bit parity ones_in
returns-in-Silence-clause-cells_after c = search puts_for

pub returns-in-Allow-clause-cells_after : goal.returns-in-Allow-clause-cells_after
unfolding odd_bit parity ones_in
returns-in-Allow-clause-cells_after c = search puts_for
