-- `sheet::contents::entries_right` meets its contract: a loop over the entries.
use borrow.Author.Tests.{not-true, not-false}
use Rattle.lists.proofs.Bools.{via}
use Rattle.sheet.proofs.Tables.{walking_start, walking_small, walking_turn, walking_stopped, walking_ended}
use Rattle.sheet.proofs.contents.entries_right.Goals as goal

pub loop-i-init : goal.loop-i-init
loop-i-init c = walking_start c.requires.0 (c.shared_slice_known-1.given 0).fits

pub returns-then-not-is_right : goal.returns-then-not-is_right
returns-then-not-is_right c = search (walking_stopped, via, not-true)

pub overflow_add-due-in-loop-i : goal.overflow_add-due-in-loop-i
overflow_add-due-in-loop-i c = record { fits = search (walking_small, via, not-false) }

pub loop-i-preserved : goal.loop-i-preserved
loop-i-preserved c = search (walking_turn, via, not-false)

pub returns : goal.returns
returns c = search walking_ended
