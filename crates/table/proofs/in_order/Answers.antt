-- `table::in_order` meets its contract: one law for each of its four ways.
use Rattle.table.proofs.Laws.{unused_behind, behind_unused, not_higher, higher}
use borrow.Author.Rules.{rules}
use Rattle.table.proofs.in_order.Goals as goal

pub returns-then-y-eq0 : goal.returns-then-y-eq0
returns-then-y-eq0 c = search (unused_behind, rules)

pub returns-then-x-eq0 : goal.returns-then-x-eq0
returns-then-x-eq0 c = search (behind_unused, rules)

pub returns-then-y-x : goal.returns-then-y-x
returns-then-y-x c = search (not_higher, rules)

pub returns : goal.returns
returns c = search (higher, rules)
