-- `slots::Facts::legacy_right` meets its contract: bytes 0 and 15 hold the addresses outside 08h to 77h.
use mathlib.Core.Path.{◌≡◌}
use mir.Val.{Fits}
use mir.Syntax.{w8}
use lib.ListN.{length, get_or}
use borrow.Author.Rules.{rules}
use Rattle.slots.proofs.Laws.{legacy_bytes}
use Rattle.slots.proofs.Facts.legacy_right.Goals as goal

pub returns : goal.returns
returns c =
    let long : length c.args.self.legacy ≡ 16 = search rules in
    let first : Fits w8 (get_or c.args.self.legacy 0 0) = search rules in
    let last : Fits w8 (get_or c.args.self.legacy 15 0) = search rules in
    legacy_bytes c.args.self.legacy long first.fits last.fits
