-- The sheet run: refused with the first number that applies, else one run by the plain rule, and its listing.
use Rattle.std.specs.Prelude.{ℕ, cond, not, List, [], eqb, ltb, length, replicate, Result, Ok, Err}
use Rattle.lists.specs.Lists.{any}
use Rattle.slots.specs.Slots.{facts_right}
use Rattle.rows.specs.declared.Row.{Row}
use Rattle.rows.specs.Rows.{no_row}
use Rattle.free.specs.Free.{no_free_address, no_ticket_left}
use Rattle.machine.specs.declared.Machine.{Machine}
use Rattle.machine.specs.Calls.{started}
use Rattle.bench.specs.Play.{Play, clocks_in, rounds_in}
use Rattle.bench.specs.Plain.{plain}
use Rattle.listing.specs.Listing.{listing}
use Rattle.refusals.specs.declared.Refusal.{Refusal}
use Rattle.refusals.specs.Refusals.{number}
use Rattle.sheet.specs.Sheet.{sheet_right, facts_in, boards_in, flips_in}

-- ---- refusals

-- a machine that was just started has no rows
abbrev pub no_rows : List Row
no_rows = replicate 32 no_row

-- 11 fewer than 1,100 bytes lent; 18 a sheet that breaks its rules; 1 facts that break theirs; 16 over 32 boards; 17 a flip over 8, used or not; 6 no free
-- address; 7 no ticket left
unfoldable pub sheet_refusal : List ℕ → ℕ → ℕ
sheet_refusal sheet room =
    cond (ltb room 1100) 11
    (cond (not (sheet_right sheet)) 18
    (cond (not (facts_right (facts_in sheet))) 1
    (cond (ltb 32 (length (boards_in sheet))) 16
    (cond (any (ltb 8) (flips_in sheet)) 17
    (cond (no_free_address (facts_in sheet) no_rows) 6
    (cond (no_ticket_left (facts_in sheet)) 7
    0))))))

-- ---- the run

-- a machine is started on the sheet's facts
abbrev pub machine_for : List ℕ → Machine
machine_for sheet = (started (facts_in sheet)).machine

-- and one run is played, with its boards and its flips
unfoldable pub run_of : List ℕ → Play
run_of sheet = plain (machine_for sheet) (boards_in sheet) (flips_in sheet)

-- the listing of a run: its rows, its ending, its answered rounds and the clocks of its record
abbrev pub listing_of : Play → List ℕ
listing_of p = listing p.machine.table.rows p.ending (rounds_in p.cells) (clocks_in p.cells)

-- what is written: the listing, and nothing after a refusal
unfoldable pub sheet_text : List ℕ → ℕ → List ℕ
sheet_text sheet room = cond (eqb (sheet_refusal sheet room) 0) (listing_of (run_of sheet)) []

-- what the caller is handed: its length, 0 after a refusal
pub record SheetRan : Type 0 where
  pub length : ℕ
  pub refusal : ℕ

unfoldable pub sheet_ran : List ℕ → ℕ → SheetRan
sheet_ran sheet room = record { length = length (sheet_text sheet room); refusal = sheet_refusal sheet room }

-- what an answer says of it: 0 for no refusal, and no length with one
abbrev pub sheet_answer : Result ℕ Refusal → SheetRan
sheet_answer (Ok long) = record { length = long; refusal = 0 }
sheet_answer (Err refusal) = record { length = 0; refusal = number refusal }
