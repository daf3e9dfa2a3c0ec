-- `reader::place::Place::header` meets its contract.
use mathlib.Core.Path.{refl}
use borrow.Author.Tests.{not-true}
use Rattle.lists.proofs.Bools.{chain, via, via_not}
use Rattle.reader.specs.Points.{next}
use Rattle.reader.proofs.Laws.{unmet, broken_off, stuck, again_on, header-answered, header_silent}
use Rattle.reader.proofs.place.Place.header.Goals as goal

pub returns-in_err-header : goal.returns-in_err-header
unfolding next
returns-in_err-header c = unmet _ _ _ _ _ c.from_residual.ensures.1 _ c.in_err-header.ensures _ (λ x. refl)

pub returns-in_err-cell : goal.returns-in_err-cell
returns-in_err-cell c = let met = c.in_ok-header.ensures in again_on _ _ met (broken_off _ _ _ _ _ c.from_residual-in_err-cell.ensures.1 c.in_err-cell.ensures)

pub returns-then-not-is_write_byte : goal.returns-then-not-is_write_byte
unfolding next
returns-then-not-is_write_byte c = let met = c.in_ok-header.ensures in let step = c.in_ok-cell.ensures in search (again_on, stuck, chain, not-true)

pub returns-then-answered_in : goal.returns-then-answered_in
returns-then-answered_in c = let met = c.in_ok-header.ensures in let step = c.in_ok-cell.ensures in search (again_on, header-answered, via, via_not)

pub returns-else-answered_in : goal.returns-else-answered_in
returns-else-answered_in c = let met = c.in_ok-header.ensures in let step = c.in_ok-cell.ensures in search (again_on, header_silent, via, via_not)
