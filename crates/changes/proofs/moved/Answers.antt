-- `changes::moved` meets its contract.
use borrow.Author.Tests.{lt-ltb, le-ltb}
use Rattle.changes.specs.Changes.{moved}
use Rattle.changes.proofs.moved.Goals as goal

pub returns-then-place-ge32 : goal.returns-then-place-ge32
unfolding moved
returns-then-place-ge32 c = rw (le-ltb _ _ c.if-place-ge32.true)

pub returns : goal.returns
unfolding moved
returns c = rw (lt-ltb _ _ c.if-place-ge32.false, c.with_row.ensures, c.without.ensures)
