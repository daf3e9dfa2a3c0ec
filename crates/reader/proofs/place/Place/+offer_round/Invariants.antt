-- The measure of both functions of the cycle is how many cells are left.
use Rattle.std.proofs.Common.{length}
use Rattle.reader.specs.Read.{rest}
use Rattle.reader.proofs.Rounds.{Heard}
use Rattle.reader.proofs.place.Place.+offer_round.Given as goal

abbrev pub decreases-offer : goal.decreases-offer
decreases-offer l = length (rest l.self)

abbrev pub decreases-round : goal.decreases-round
decreases-round l = length (rest l.self)

abbrev pub invariant-offer-loop-heard : goal.invariant-offer-loop-heard
invariant-offer-loop-heard l = Heard l.joining l.offers (rest l.initial.place) l.initial.place.at (rest l.place) l.place.at l._heard
