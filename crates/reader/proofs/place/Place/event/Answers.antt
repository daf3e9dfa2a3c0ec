-- `reader::place::Place::event` meets its contract.
use mathlib.Core.Path.{refl}
use lib.Count.{ones_in}
use Rattle.parity.specs.Parity.{odd_bit, parity}
use Rattle.reader.specs.Points.{next}
use Rattle.reader.proofs.Laws.{unmet, to_ending}
use Rattle.reader.proofs.place.Place.event.Goals as goal

pub returns-in_err-next : goal.returns-in_err-next
unfolding next odd_bit parity ones_in
returns-in_err-next c = unmet _ _ _ _ _ c.from_residual.ensures.1 _ c.in_err-next.ensures _ (λ x. refl)

pub returns : goal.returns
unfolding next odd_bit parity ones_in
returns c = let step = c.in_ok-next.ensures in search to_ending
