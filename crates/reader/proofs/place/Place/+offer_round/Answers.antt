-- The cycle of `reader::place::Place::offer` and `reader::place::Place::round` meets their contracts.
use mathlib.Core.Path.{refl}
use Rattle.lists.proofs.Bools.{chain, via_not}
use Prim.Native.Nat.{◌+◌}
use Rattle.reader.specs.Points.{next, behind}
use Rattle.reader.proofs.Laws.{unmet, broken_off, stuck, onward_at, ending_at, again_on}
use Rattle.reader.proofs.Rounds.{heard_none, heard_other, heard_turn, heard_all, not_offered, offered, offered_last, offered_again}
use Rattle.reader.proofs.place.Place.+offer_round.Goals as goal

pub offer-returns-in_err-cell : goal.offer-returns-in_err-cell
offer-returns-in_err-cell t c =
    heard_none _ _ _ _ c.loop-heard.invariant c.loop-heard-test.true _ _ c.from_residual.ensures.1 c.in_err-cell.ensures

pub offer-returns-then-not-is_identity : goal.offer-returns-then-not-is_identity
offer-returns-then-not-is_identity t c = let step = c.in_ok-cell.ensures in search (heard_other, via_not)

pub offer-loop-heard-preserved : goal.offer-loop-heard-preserved
offer-loop-heard-preserved t c = let step = c.in_ok-cell.ensures in search (heard_turn, via_not)

pub offer-returns-in_err-cell-2 : goal.offer-returns-in_err-cell-2
offer-returns-in_err-cell-2 t c =
    let off = broken_off _ _ _ _ _ c.from_residual-in_err-cell-2.ensures.1 c.in_err-cell-2.ensures in
    heard_all _ _ _ _ c.loop-heard.invariant c.loop-heard-test.false c.loop-heard.auto._heard-end off

pub offer-returns-then-not-is_offered : goal.offer-returns-then-not-is_offered
offer-returns-then-not-is_offered t c = let step = c.in_ok-cell-2.ensures in search (heard_all, not_offered, via_not)

pub offer-returns-in_err-cell-3 : goal.offer-returns-in_err-cell-3
offer-returns-in_err-cell-3 t c =
    let step = c.in_ok-cell-2.ensures in
    let off = broken_off (behind c.args.joining (c.args.offers + 1)) _ _ _ _ c.from_residual-in_err-cell-3.ensures.1 c.in_err-cell-3.ensures in
    search (heard_all, offered, via_not)

pub offer-returns-then-cell-eq-STOP : goal.offer-returns-then-cell-eq-STOP
offer-returns-then-cell-eq-STOP t c = let step = c.in_ok-cell-2.ensures in let last = c.in_ok-cell-3.ensures in search (heard_all, offered_last, via_not)

pub offer-returns : goal.offer-returns
offer-returns t c = let step = c.in_ok-cell-2.ensures in let last = c.in_ok-cell-3.ensures in search (heard_all, offered_again, via_not)

pub round-returns-in_err-header : goal.round-returns-in_err-header
unfolding next
round-returns-in_err-header t c = unmet _ _ _ _ _ c.from_residual.ensures.1 _ c.in_err-header.ensures _ (λ x. refl)

pub round-returns-in_err-cell : goal.round-returns-in_err-cell
round-returns-in_err-cell t c = let met = c.in_ok-header.ensures in again_on _ _ met (broken_off _ _ _ _ _ c.from_residual-in_err-cell.ensures.1 c.in_err-cell.ensures)

pub round-returns-in-506 : goal.round-returns-in-506
unfolding next
round-returns-in-506 t c = let met = c.in_ok-header.ensures in let step = c.in_ok-cell.ensures in search (again_on, onward_at)

pub round-returns-in-507 : goal.round-returns-in-507
unfolding next
round-returns-in-507 t c = let met = c.in_ok-header.ensures in let step = c.in_ok-cell.ensures in search (again_on, ending_at)

pub round-returns-in_default : goal.round-returns-in_default
unfolding next
round-returns-in_default t c = let met = c.in_ok-header.ensures in let step = c.in_ok-cell.ensures in search (again_on, stuck, chain)
