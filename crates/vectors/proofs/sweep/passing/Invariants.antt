-- `vectors::sweep::passing` is safe: no more bytes are counted than were passed.
use Rattle.std.proofs.Common.{◌≤◌}
use Rattle.vectors.proofs.sweep.passing.Given as goal

abbrev pub invariant-loop-byte : goal.invariant-loop-byte
invariant-loop-byte g l = l.count ≤ l.byte
