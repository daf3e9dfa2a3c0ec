-- `sheet::contents::is_right` meets its contract.
use native.Mathlib.Omega.{arith}
use mathlib.Core.Path.{◌≡◌, sym, ◌∙◌}
use borrow.Author.Rules.{rules}
use lib.ListN.{length}
use Rattle.sheet.specs.Sheet.{entry_count}
use Rattle.sheet.proofs.Tables.{not_right, right_rest, none_or_more, some_not_more, longer, not_longer, none_there}
use Rattle.sheet.proofs.contents.is_right.Goals as goal

pub returns-in_default : goal.returns-in_default
returns-in_default c = not_right _ (λ r. omega (arith, r.table, none_there c.args.sheet.now (search rules)))

pub returns-then-count : goal.returns-then-count
returns-then-count c =
    let is : c.in-Some.first.now ≡ entry_count c.args.sheet.now = search rules in
    not_right _ (λ r. none_or_more 34 _ (rw is at c.if-count.true) r.some r.few)

pub returns-then-sheet-count : goal.returns-then-sheet-count
returns-then-sheet-count c =
    let is : c.in-Some.first.now ≡ entry_count c.args.sheet.now = search rules in
    not_right _ (λ r. longer (length c.args.sheet.now) _ (rw is at c.if-sheet-count.true) r.small r.table)

pub returns : goal.returns
returns c =
    let is : c.in-Some.first.now ≡ entry_count c.args.sheet.now = search rules in
    let size = not_longer (length c.args.sheet.now) _ c.if-sheet-count.false in
    let count = some_not_more 34 _ (rw is at c.if-count.false) in
    c.entries_right.ensures ∙ rw is (sym (right_rest _ size count.0 count.1))
