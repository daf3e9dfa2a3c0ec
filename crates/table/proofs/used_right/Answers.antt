-- `table::used_right` meets its contract: one law for each of its five ways.
use borrow.Author.Tests.{not-true, not-false}
use Rattle.lists.proofs.Bools.{via_not}
use Rattle.table.proofs.Laws.{address_wrong, ticket_wrong, mark_wrong, set_from_none, set_from_one}
use borrow.Author.Rules.{rules}
use Rattle.table.proofs.used_right.Goals as goal

pub returns-then-not-is_open : goal.returns-then-not-is_open
returns-then-not-is_open c = search (address_wrong, via_not, not-true, rules)

pub returns-then-not-r-f : goal.returns-then-not-r-f
returns-then-not-r-f c = search (ticket_wrong, via_not, not-true, not-false, rules)

pub returns-then-r : goal.returns-then-r
returns-then-r c = search (mark_wrong, via_not, not-false, rules)

pub returns-then-r-eq0 : goal.returns-then-r-eq0
returns-then-r-eq0 c = search (set_from_none, via_not, not-false, rules)

pub returns-else-r-eq0 : goal.returns-else-r-eq0
returns-else-r-eq0 c = search (set_from_one, via_not, not-false, rules)
