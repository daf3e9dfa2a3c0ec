-- The measure is how many digits are asked for.
use Rattle.listing.proofs.text.Text.+put_hex.Given as goal

abbrev pub decreases-put_hex : goal.decreases-put_hex
decreases-put_hex l = l.digits
