-- What is printed for a sheet: its listing, or the line `refused N`.
use Rattle.std.specs.Prelude.{ℕ, cond, List, eqb}
use Rattle.listing.specs.Listing.{refusal_line}
use Rattle.sheet.specs.Runs.{sheet_refusal, sheet_text}

-- with the 1,100 bytes that a sheet run must be lent
unfoldable pub answer : List ℕ → List ℕ
answer sheet = cond (eqb (sheet_refusal sheet 1100) 0) (sheet_text sheet 1100) (refusal_line (sheet_refusal sheet 1100))
