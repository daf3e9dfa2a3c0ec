-- `reader::place::Place::new_address` meets its contract.
use borrow.Author.Tests.{not-true}
use Rattle.lists.proofs.Bools.{chain, via_not}
use Rattle.reader.specs.Points.{next}
use Rattle.reader.proofs.Laws.{broken_off, stuck, renamed}
use Rattle.reader.proofs.place.Place.new_address.Goals as goal

pub returns-in_err-cell : goal.returns-in_err-cell
returns-in_err-cell c = broken_off _ _ _ _ _ c.from_residual.ensures.1 c.in_err-cell.ensures

pub returns-then-not-is_new_address : goal.returns-then-not-is_new_address
unfolding next
returns-then-not-is_new_address c = let step = c.in_ok-cell.ensures in search (stuck, chain, not-true)

pub returns : goal.returns
returns c = let step = c.in_ok-cell.ensures in search (renamed, via_not)
