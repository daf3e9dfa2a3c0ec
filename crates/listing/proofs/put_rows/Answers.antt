-- `listing::put_rows` meets its contract: a loop over the places.
use native.Mathlib.Omega.{arith}
use Rattle.listing.specs.Listing.{row_lines}
use Rattle.listing.proofs.Lines.{lines_more, lines_within}
use Rattle.listing.proofs.Puts.{puts_none, puts_both}
use Rattle.listing.proofs.put_rows.Goals as goal

pub loop-row-init : goal.loop-row-init
unfolding row_lines
loop-row-init c = puts_none c.args.text.now (omega arith)

pub put_place-requires : goal.put_place-requires
put_place-requires c = omega (arith, lines_within c.args.rows.now c.loop-row.row-index (omega arith))

pub loop-row-preserved : goal.loop-row-preserved
loop-row-preserved c =
    rw (lines_more c.args.rows.now c.loop-row.row-index (omega arith)) (puts_both c.loop-row.invariant c.put_place.ensures)
