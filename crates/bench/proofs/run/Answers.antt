-- `bench::run` meets its contract: a run on the wire is kept by the plain rule.
use mathlib.Core.Path.{refl}
use Rattle.refusals.proofs.Laws.{number_not_zero}
use Rattle.bench.proofs.Given.{first_wide}
use Rattle.bench.proofs.Benched.{allowed, run_refused, run_short, run_played}
use Rattle.bench.proofs.Keeping.{kept_inside}
use Rattle.bench.proofs.run.Goals as goal

pub returns-in-Err : goal.returns-in-Err
returns-in-Err c =
    let a = c.args in
    let t = run_refused a.machine a.boards a.count a.flips.now a.cells.now c.in-Err.ensures (number_not_zero c.in-Err.refusal) in
    rw c.number.ensures (record { value = t.0; cells_after = t.1 })

pub play-at-requires : goal.play-at-requires
play-at-requires c = let a = c.args in (allowed a.machine _ a.count a.flips.now _ c.in_default.ensures refl).few

pub slice_bounds-clocks-end : goal.slice_bounds-clocks-end
slice_bounds-clocks-end c = kept_inside c.play-at.ensures

pub clocks-clocks-requires : goal.clocks-clocks-requires
clocks-clocks-requires c =
    let a = c.args in
    let wide = first_wide a.count a.boards _ c.well_formed.1.0.1.1 in
    run_short a.machine a.boards a.count a.flips.now a.cells.now c.in_default.ensures refl wide c.play-at.ensures

pub returns : goal.returns
returns c =
    let a = c.args in
    let wide = first_wide a.count a.boards _ c.well_formed.1.0.1.1 in
    let t = run_played a.machine a.boards a.count a.flips.now a.cells.now c.in_default.ensures refl wide c.play-at.ensures c.clocks-clocks.ensures in
    record { value = t.0; cells_after = t.1 }
