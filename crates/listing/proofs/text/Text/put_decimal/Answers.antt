-- `listing::text::Text::put_decimal` meets its contract: the library's digits are ours.
use Rattle.listing.proofs.Digits.{printed}
use borrow.Author.Rules.{rules}
use Rattle.listing.proofs.text.Text.put_decimal.Goals as goal

pub put-requires : goal.put-requires
put-requires c = rw (c.as_bytes.ensures.value, c.format.ensures.text, printed c.args.n (search rules)) c.requires

pub returns : goal.returns
returns c = rw (c.as_bytes.ensures.value, c.format.ensures.text, printed c.args.n (search rules)) at c.put.ensures
