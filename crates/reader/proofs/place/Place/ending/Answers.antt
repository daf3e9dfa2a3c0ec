-- `reader::place::Place::ending` meets its contract.
use mathlib.Core.Path.{refl}
use Rattle.reader.specs.Points.{next}
use Rattle.reader.proofs.Laws.{unmet, stop_early, stop_last}
use Rattle.reader.proofs.place.Place.ending.Goals as goal

pub returns-in_err-end : goal.returns-in_err-end
unfolding next
returns-in_err-end c = unmet _ _ _ _ _ c.from_residual.ensures.1 _ c.in_err-end.ensures _ (λ x. refl)

pub returns-then-end : goal.returns-then-end
returns-then-end c = let step = c.in_ok-end.ensures in search stop_early

pub returns : goal.returns
returns c = let step = c.in_ok-end.ensures in search stop_last
