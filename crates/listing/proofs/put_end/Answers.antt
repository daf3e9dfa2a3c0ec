-- `listing::put_end` meets its contract: its parts are put one behind the other.
use Rattle.listing.specs.Listing.{end_line}
use Rattle.listing.proofs.Puts.{puts_both}
use Rattle.listing.proofs.put_end.Goals as goal

pub returns : goal.returns
unfolding end_line
returns c =
    puts_both c.put.ensures
    (puts_both c.put_decimal.ensures
    (puts_both c.put-2.ensures
    (puts_both c.put_decimal-2.ensures (puts_both c.put-3.ensures (puts_both c.put_decimal-3.ensures c.put-4.ensures)))))
