-- `writer::fits::is_assigned` meets its contract: where the other tests pass, the offers' is left.
use Rattle.writer.proofs.Writable.{assigned_right}
use Rattle.writer.proofs.fits.is_assigned.Goals as goal

pub returns-then-quiet-r : goal.returns-then-quiet-r
returns-then-quiet-r c = search assigned_right
