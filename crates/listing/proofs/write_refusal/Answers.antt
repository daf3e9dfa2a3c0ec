-- `listing::write_refusal` meets its contract: its parts are put one behind the other, where enough is lent.
use mathlib.Core.Path.{◌≡◌, ◌∙◌}
use native.Mathlib.Omega.{arith}
use borrow.Author.Rules.{rules}
use Rattle.listing.specs.Listing.{refusal_line}
use Rattle.listing.proofs.Lines.{refusal_short, lent_enough}
use Rattle.listing.proofs.Puts.{puts_both}
use Rattle.listing.proofs.write_refusal.Goals as goal

pub returns : goal.returns
unfolding refusal_line
returns c =
    let t =
    lent_enough c.args.out.now (refusal_line c.args.refusal) c.if-out-lt-MOST_BYTES.false c.new-text.ensures.none c.new-text.ensures.same
    (puts_both c.put.ensures (puts_both c.put_decimal.ensures c.put-2.ensures)) (omega (arith, refusal_short c.args.refusal)) in
    let back : _ ≡ c.put-2.new.self.out.now = search rules in
    record { value = t.0; out_after = back ∙ t.1 }
