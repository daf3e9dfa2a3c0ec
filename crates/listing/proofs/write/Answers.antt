-- `listing::write` meets its contract: the header, the rows and the end are put one behind the other, where enough is lent.
use mathlib.Core.Path.{◌≡◌, ◌∙◌}
use native.Mathlib.Omega.{arith}
use borrow.Author.Rules.{rules}
use Rattle.listing.specs.Listing.{listing}
use Rattle.listing.proofs.Lines.{fits, lent_enough}
use Rattle.listing.proofs.Puts.{puts_both}
use Rattle.listing.proofs.write.Goals as goal

pub returns : goal.returns
unfolding listing
returns c =
    let a = c.args in
    let t =
    lent_enough a.out.now (listing a.rows.now a.ending a.rounds a.clocks) c.if-out-lt-MOST_BYTES.false c.new-text.ensures.none c.new-text.ensures.same
    (puts_both c.put_header.ensures (puts_both c.put_rows.ensures c.put_end.ensures)) (fits a.rows.now a.ending a.rounds a.clocks (omega arith)) in
    let back : _ ≡ c.put_end.new.text.out.now = search rules in
    record { value = t.0; out_after = back ∙ t.1 }
