-- The rows of the table: 32 places, the rows in order of dynamic address, and behind them the unused places.
use Rattle.std.specs.Prelude.{ℕ, Bool, false, not, ◌&&◌, List, eqb, get_or}
use Rattle.lists.specs.Lists.{any, count, find}
use Rattle.rows.specs.declared.Row.{Row}

-- ---- a row

-- an unused place: all zero
abbrev pub no_row : Row
no_row = record { address = 0; ticket = 0; unknown = false; identity = 0; from_static = 0 }

-- a place is in use when its address is not 0, which is never an open address
abbrev pub in_use : Row → Bool
in_use r = not (eqb r.address 0)

-- its dynamic address is a
abbrev pub has_address : ℕ → Row → Bool
has_address a r = in_use r && eqb r.address a

-- its ticket is t
abbrev pub has_ticket : ℕ → Row → Bool
has_ticket t r = in_use r && eqb r.ticket t

-- its identity is known, and is this one: a row marked unknown has number 0 and no identity, and a board's own 0 is another thing
abbrev pub has_identity : ℕ → Row → Bool
has_identity id r = in_use r && not r.unknown && eqb r.identity id

-- its static address is s; 0 says that it was set from none
abbrev pub has_static : ℕ → Row → Bool
has_static s r = in_use r && eqb r.from_static s

-- ---- asked of the rows

-- how many there are
abbrev pub used : List Row → ℕ
used rows = count in_use rows

-- whether one has the dynamic address, the ticket, the known identity, the static address (0: one that was set from none)
abbrev pub holds_address : ℕ → List Row → Bool
holds_address a rows = any (has_address a) rows

abbrev pub holds_ticket : ℕ → List Row → Bool
holds_ticket t rows = any (has_ticket t) rows

abbrev pub holds_identity : ℕ → List Row → Bool
holds_identity id rows = any (has_identity id) rows

abbrev pub holds_static : ℕ → List Row → Bool
holds_static s rows = any (has_static s) rows

-- the place of the one with the dynamic address, the ticket, the known identity, counted from 0; the number of places, 32, if there is none
abbrev pub place_of_address : ℕ → List Row → ℕ
place_of_address a rows = find (has_address a) rows

abbrev pub place_of_ticket : ℕ → List Row → ℕ
place_of_ticket t rows = find (has_ticket t) rows

abbrev pub place_of_identity : ℕ → List Row → ℕ
place_of_identity id rows = find (has_identity id) rows

-- the row at a place
abbrev pub row_at : List Row → ℕ → Row
row_at rows place = get_or rows place no_row
