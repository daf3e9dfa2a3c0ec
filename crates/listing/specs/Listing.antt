-- The listing of a run: a fixed header line, the rows, and how the run ended. Each line ends in one line feed.
use Rattle.std.specs.Prelude.{ℕ, cond, List, [], ◌∷◌, ◌++◌, ltb}
use Rattle.rows.specs.declared.Row.{Row}
use Rattle.rows.specs.Rows.{in_use}
use Rattle.listing.specs.Text.{text, hex, decimal}

-- every listing opens with the same line
unfoldable pub header : List ℕ
header = text "addr ticket identity\n"

-- a row: its address in two hex digits, its ticket (32 bits, so at most 10 digits) in decimal, its identity in sixteen hex digits
unfoldable pub row_line : Row → List ℕ
row_line r = hex 2 r.address ++ (text " " ++ (decimal 10 r.ticket ++ (text " " ++ (hex 16 r.identity ++ text "\n"))))

-- the rows as they stand, which is by address; an unused place has no line
unfoldable pub row_lines : List Row → List ℕ
row_lines [] = []
row_lines (r ∷ rs) = cond (in_use r) (row_line r) [] ++ row_lines rs

-- then ending, answered rounds, clocks: 64 bits, so at most 20 digits
unfoldable pub end_line : ℕ → ℕ → ℕ → List ℕ
end_line ending rounds clocks =
    text "end " ++ (decimal 20 ending ++ (text " rounds " ++ (decimal 20 rounds ++ (text " clocks " ++ (decimal 20 clocks ++ text "\n")))))

unfoldable pub listing : List Row → ℕ → ℕ → ℕ → List ℕ
listing rows ending rounds clocks = header ++ (row_lines rows ++ end_line ending rounds clocks)

-- what is printed in the place of a listing after a refusal
unfoldable pub refusal_line : ℕ → List ℕ
refusal_line refusal = text "refused " ++ (decimal 20 refusal ++ text "\n")

-- either is written where the 1,100 bytes of a sheet run are lent, else nothing is
abbrev pub lent : ℕ → List ℕ → List ℕ
lent room written = cond (ltb room 1100) [] written
