-- `tells::line::digits` is text: each digit is.
use Rattle.std.specs.Str.{IsAscii}
use Rattle.tells.proofs.line.digits.Given as goal

abbrev pub invariant-loop-i : goal.invariant-loop-i
invariant-loop-i l = IsAscii l.digits
