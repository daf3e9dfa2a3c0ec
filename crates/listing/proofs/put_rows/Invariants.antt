use lib.ListN.{take}
use Rattle.listing.specs.Listing.{row_lines}
use Rattle.listing.specs.Puts.{Puts}
use Rattle.listing.proofs.put_rows.Given as goal

-- the lines of the places so far are put
abbrev pub invariant-loop-row : goal.invariant-loop-row
invariant-loop-row l = Puts l.initial.text l.text (row_lines (take l.row-index l.rows))
