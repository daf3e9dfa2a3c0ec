-- `free::lowest_free` meets its contract: a search loop over the addresses, by the marks.
use mathlib.Core.Path.{◌≡◌, ◌∙◌}
use mathlib.Core.Bool.{true}
use native.Mathlib.Omega.{arith}
use Rattle.lists.proofs.Numbers.{first_start, first_turn, first_found, first_ended}
use Rattle.free.proofs.Laws.{open_unmarked, lowest_by_marks, open_free, some_free, none_free}
use Rattle.free.proofs.lowest_free.Goals as goal

pub loop-address-init : goal.loop-address-init
loop-address-init c = first_start

pub returns-then-is_open-marks-clause-value : goal.returns-then-is_open-marks-clause-value
returns-then-is_open-marks-clause-value c =
    let h = c.held-marks in
    let unheld : open_unmarked c.args.t.now.facts h.result c.loop-address.address ≡ true = rw (← c.is_open.ensures) c.if-is_open-marks.true in
    first_found c.loop-address.invariant (omega arith) unheld ∙ lowest_by_marks _ _ h.result h.ensures

pub returns-then-is_open-marks-clause-none : goal.returns-then-is_open-marks-clause-none
returns-then-is_open-marks-clause-none c =
    let h = c.held-marks in
    let unheld : open_unmarked c.args.t.now.facts h.result c.loop-address.address ≡ true = rw (← c.is_open.ensures) c.if-is_open-marks.true in
    some_free _ _ c.loop-address.address (first_found c.loop-address.invariant (omega arith) unheld ∙ lowest_by_marks _ _ h.result h.ensures)
    (open_free _ _ h.result h.ensures c.loop-address.address (omega arith) unheld)

pub loop-address-preserved : goal.loop-address-preserved
loop-address-preserved c = first_turn c.loop-address.invariant (omega arith) (rw (← c.is_open.ensures) c.if-is_open-marks.false)

pub returns-clause-value : goal.returns-clause-value
returns-clause-value c = let h = c.held-marks in first_ended c.loop-address.invariant (omega arith) ∙ lowest_by_marks _ _ h.result h.ensures

pub returns-clause-none : goal.returns-clause-none
returns-clause-none c =
    let h = c.held-marks in none_free _ _ (first_ended c.loop-address.invariant (omega arith) ∙ lowest_by_marks _ _ h.result h.ensures)
