-- `rackplay::script::play` is safe, and ends with the script, of which each call takes a part.
use Rattle.std.proofs.Common.{◌≤◌, length}
use Rattle.rackplay.proofs.script.play.Given as goal

abbrev pub invariant-loop-given : goal.invariant-loop-given
invariant-loop-given g l = length l.given.rest.now ≤ length l.script

abbrev pub decreases-loop-given : goal.decreases-loop-given
decreases-loop-given g l = length l.given.rest.now
