-- `reader::place::Place::record` meets its contract.
use mathlib.Core.Path.{refl}
use Rattle.lists.proofs.Bools.{chain}
use Rattle.reader.specs.Points.{next}
use Rattle.reader.proofs.Laws.{unmet, broken_off, stuck, onward_at, ending_at, started}
use Rattle.reader.proofs.place.Place.record.Goals as goal

pub returns-in_err-header : goal.returns-in_err-header
unfolding next
returns-in_err-header c = unmet _ _ _ _ _ c.from_residual.ensures.1 _ c.in_err-header.ensures _ (λ x. refl)

pub returns-in_err-cell : goal.returns-in_err-cell
returns-in_err-cell c = let met = c.in_ok-header.ensures in started _ met (broken_off _ _ _ _ _ c.from_residual-in_err-cell.ensures.1 c.in_err-cell.ensures)

pub returns-in-504 : goal.returns-in-504
unfolding next
returns-in-504 c = let met = c.in_ok-header.ensures in let step = c.in_ok-cell.ensures in search (started, onward_at)

pub returns-in-505 : goal.returns-in-505
unfolding next
returns-in-505 c = let met = c.in_ok-header.ensures in let step = c.in_ok-cell.ensures in search (started, ending_at)

pub returns-in-8 : goal.returns-in-8
unfolding next
returns-in-8 c = let met = c.in_ok-header.ensures in let step = c.in_ok-cell.ensures in search (started, onward_at)

pub returns-in-9 : goal.returns-in-9
unfolding next
returns-in-9 c = let met = c.in_ok-header.ensures in let step = c.in_ok-cell.ensures in search (started, ending_at)

pub returns-in_default : goal.returns-in_default
unfolding next
returns-in_default c = let met = c.in_ok-header.ensures in let step = c.in_ok-cell.ensures in search (started, stuck, chain)
