-- `slots::Facts::are_right` meets its contract: a last ticket of 32 bits is right.
use mathlib.Core.Bool.{and-true}
use native.Mathlib.Omega.{arith}
use mir.Syntax.{w32}
use mir.Val.{Fits}
use borrow.Author.Rules.{rules}
use borrow.Author.Tests.{le-leb}
use Rattle.slots.specs.Slots.{facts_right}
use Rattle.slots.proofs.Facts.are_right.Goals as goal

pub returns : goal.returns
unfolding facts_right
returns c =
    let last = c.args.self.last in
    let fits : Fits w32 last = search rules in
    rw (c.legacy_right.ensures, le-leb last 4294967295 (omega (arith, fits.fits)), and-true)
