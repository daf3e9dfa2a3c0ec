use Rattle.std.proofs.Common.{rules}
use Rattle.std.proofs.lemmas.Str.Ascii.{IsAscii-set}
use Rattle.tells.proofs.line.digits.Goals as goal

pub loop-i-init : goal.loop-i-init
loop-i-init c = search rules

pub loop-i-preserved : goal.loop-i-preserved
loop-i-preserved c = IsAscii-set _ _ _ (IsAscii-set _ _ _ c.loop-i.invariant c.digit.ensures) c.digit-in-loop-i.ensures

pub returns : goal.returns
returns c = c.loop-i.invariant
