-- `table::rows_in_order` meets its contract: a search loop in a search loop, up to the first unused place.
use mathlib.Core.Path.{◌∙◌, sym}
use Rattle.std.specs.Prelude.{◌≤◌}
use Rattle.lists.proofs.Bools.{via}
use borrow.Author.Tests.{not-true, not-false}
use Rattle.lists.proofs.Library.{position-find, position-le}
use Rattle.lists.proofs.Loops.{all_start_at, all_turn, all_found, pairs_start, pairs_found}
use Rattle.table.proofs.Laws.{unused, row_behind_unused, pairs_turn_unused, pairs_ended_unused}
use native.Mathlib.Omega.{arith}
use Rattle.table.proofs.rows_in_order.Goals as goal

pub unused_from-requires : goal.unused_from-requires
unused_from-requires c = rw c.unwrap_or-n.ensures (position-le unused c.args.rows.now c.told-rows c.first_unused.ensures)

pub returns-then-not-unused_from : goal.returns-then-not-unused_from
returns-then-not-unused_from c =
    row_behind_unused c.args.rows.now c.unwrap_or-n.result (c.unwrap_or-n.ensures ∙ position-find unused c.args.rows.now c.told-rows c.first_unused.ensures)
    (search (via, not-true))

pub loop-i-init : goal.loop-i-init
loop-i-init c = pairs_start (omega arith)

pub loop-j-init : goal.loop-j-init
loop-j-init c =
    let small : c.unwrap_or-n.result ≤ 32 = rw c.unwrap_or-n.ensures (position-le unused c.args.rows.now c.told-rows c.first_unused.ensures) in
    all_start_at _ (omega arith) (omega arith)

pub returns-then-not-in_order : goal.returns-then-not-in_order
returns-then-not-in_order c =
    let small : c.unwrap_or-n.result ≤ 32 = rw c.unwrap_or-n.ensures (position-le unused c.args.rows.now c.told-rows c.first_unused.ensures) in
    pairs_found c.loop-i.invariant (omega arith)
    (sym (all_found c.loop-j.invariant (omega arith) (search (via, not-true))))

pub loop-j-preserved : goal.loop-j-preserved
loop-j-preserved c =
    let small : c.unwrap_or-n.result ≤ 32 = rw c.unwrap_or-n.ensures (position-le unused c.args.rows.now c.told-rows c.first_unused.ensures) in
    all_turn c.loop-j.invariant (omega arith) (search (via, not-false))

pub loop-i-preserved : goal.loop-i-preserved
loop-i-preserved c =
    let small : c.unwrap_or-n.result ≤ 32 = rw c.unwrap_or-n.ensures (position-le unused c.args.rows.now c.told-rows c.first_unused.ensures) in
    pairs_turn_unused {n = c.unwrap_or-n.result} c.loop-i.invariant (omega arith)
    c.loop-j.invariant (omega arith) (search (via, not-false))

pub returns : goal.returns
returns c = pairs_ended_unused {n = c.unwrap_or-n.result} c.loop-i.invariant (omega arith) (search (via, not-false))
