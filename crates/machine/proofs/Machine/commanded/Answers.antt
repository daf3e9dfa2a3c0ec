-- `machine::Machine::commanded` meets its contract.
use lib.Count.{ones_in}
use Rattle.parity.specs.Parity.{odd_bit, parity}
use mathlib.Core.Path.{◌≡◌, subst}
use Rattle.lists.proofs.Bools.{chain}
use Rattle.parity.specs.Cells.{allow_cell}
use Rattle.machine.specs.Calls.{ComesTo}
use Rattle.machine.specs.Steps.{Step, round_rule, about_joining, commanded}
use Rattle.machine.proofs.Machine.commanded.Goals as goal

pub returns-in-0 : goal.returns-in-0
unfolding commanded round_rule odd_bit parity ones_in
returns-in-0 c = rw c.in-0.is (rw (c.onward_machine.ensures, c.onward_cell.ensures, c.can_assign-on.ensures) at c.did.ensures)

pub returns-in-1 : goal.returns-in-1
unfolding commanded round_rule odd_bit parity ones_in
returns-in-1 c = rw c.in-1.is (rw (c.idle.ensures, c.emptied.ensures) at c.did-in-1.ensures)

pub returns-in-2 : goal.returns-in-2
unfolding commanded round_rule odd_bit parity ones_in
returns-in-2 c = rw c.in-2.is (rw c.in-2.is at c.on_to_direct.ensures)

pub returns-in-3 : goal.returns-in-3
unfolding commanded round_rule odd_bit parity ones_in
returns-in-3 c = rw c.in-3.is (rw c.in-3.is at c.on_to_direct-in-3.ensures)

pub returns-in-4 : goal.returns-in-4
unfolding commanded round_rule odd_bit parity ones_in
returns-in-4 c = rw c.in-4.is c.about_joining.ensures

pub returns-in_default : goal.returns-in_default
unfolding commanded round_rule odd_bit parity ones_in
returns-in_default c =
    let last : about_joining c.args.self.now allow_cell ≡ commanded c.args.self.now = search chain in
    subst (λ (s : Step). ComesTo s c.args.cells.now c.about_joining-in_default.result c.about_joining-in_default.new.cells) last
    c.about_joining-in_default.ensures
