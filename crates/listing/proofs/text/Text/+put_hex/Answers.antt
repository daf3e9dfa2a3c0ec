-- `listing::text::Text::put_hex` meets its contract.
use native.Mathlib.Omega.{arith}
use Rattle.listing.proofs.Digits.{hex_long, hex_none, hex_last}
use Rattle.listing.proofs.Puts.{puts_none, puts_both}
use Rattle.listing.proofs.text.Text.+put_hex.Goals as goal

pub returns-then-digits-eq0 : goal.returns-then-digits-eq0
returns-then-digits-eq0 t c = rw (hex_none c.args.digits c.args.n c.if-digits-eq0.true) (puts_none c.args.self.now (omega arith))

pub put_hex-requires : goal.put_hex-requires
put_hex-requires t c = (omega arith, omega (arith, hex_long))

pub put-requires : goal.put-requires
put-requires t c = omega (arith, hex_long)

pub returns : goal.returns
returns t c = rw (hex_last c.args.digits c.args.n c.if-digits-eq0.false) (puts_both c.put_hex.ensures (rw c.digit.ensures at c.put.ensures))
