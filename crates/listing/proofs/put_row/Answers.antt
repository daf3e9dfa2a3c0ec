-- `listing::put_row` meets its contract: its parts are put one behind the other.
use borrow.Author.Rules.{rules}
use Rattle.listing.specs.Listing.{row_line}
use Rattle.listing.proofs.Digits.{ticket_digits}
use Rattle.listing.proofs.Puts.{puts_both}
use Rattle.listing.proofs.put_row.Goals as goal

pub returns : goal.returns
unfolding row_line
returns c =
    let ticket = rw (ticket_digits c.args.row.now.ticket (search rules)) at c.put_decimal.ensures in
    puts_both c.put_hex.ensures
    (puts_both c.put.ensures (puts_both ticket (puts_both c.put-2.ensures (puts_both c.put_hex-2.ensures c.put-3.ensures))))
