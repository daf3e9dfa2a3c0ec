-- `writer::fits::writable` meets its contract: each command has its test.
use borrow.Author.Tests.{not-true, not-false}
use Rattle.lists.proofs.Bools.{via}
use Rattle.writer.proofs.Writable.{writable_never, writable_bare, writable_directed, writable_assign}
use Rattle.writer.proofs.fits.writable.Goals as goal

pub returns-then-not-may_follow : goal.returns-then-not-may_follow
returns-then-not-may_follow c = search (writable_never, via, not-true)

pub returns-in-None : goal.returns-in-None
returns-in-None c = search (writable_bare, via, not-false)

pub returns-in-Assign : goal.returns-in-Assign
returns-in-Assign c = search (writable_assign, via, not-false)

pub returns-in-SetFromStatic : goal.returns-in-SetFromStatic
returns-in-SetFromStatic c = search (writable_directed, via, not-false)
