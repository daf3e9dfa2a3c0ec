-- `slots::is_legacy` meets its contract: the byte's bit, or none above 7Fh.
use mathlib.Core.Path.{◌≡◌, refl, sym}
use lib.ListN.{length}
use borrow.Author.Rules.{rules}
use Rattle.lists.specs.Bits.{bit}
use Rattle.slots.specs.Slots.{is_legacy}
use Rattle.slots.proofs.Laws.{legacy_above}
use Rattle.slots.proofs.is_legacy.Goals as goal

pub returns-then-address-lt128 : goal.returns-then-address-lt128
unfolding is_legacy bit
returns-then-address-lt128 c = refl

pub returns-else-address-lt128 : goal.returns-else-address-lt128
returns-else-address-lt128 c =
    let long : length c.args.legacy.now ≡ 16 = search rules in
    sym (legacy_above c.args.legacy.now c.args.address long c.if-address-lt128.false)
