-- The rows changed: one more, one less, one renewed, one moved.
use Rattle.std.specs.Prelude.{ℕ, Bool, cond, not, ◌||◌, List, ltb, take, set}
use Rattle.lists.specs.Lists.{insert_by, remove_at}
use Rattle.rows.specs.Rows.{no_row, in_use, row_at}
use Rattle.rows.specs.declared.Row.{Row}

-- whether a place comes behind a row of address a: it is unused, or its address is higher
abbrev pub comes_behind : ℕ → Row → Bool
comes_behind a r = not (in_use r) || ltb a r.address

-- one row more, in its place by address; of the 33 places the last falls away, which is an unused one as long as there are fewer than 32 rows
unfoldable pub with_row : Row → List Row → List Row
with_row r rows = take 32 (insert_by (comes_behind r.address) r rows)

-- the row at a place removed, and an unused place at the end; as they were if there is no such place
unfoldable pub without : ℕ → List Row → List Row
without place rows = remove_at place no_row rows

-- the row at a place with a new ticket and static address 0; address and identity stay
abbrev pub renewed_row : ℕ → Row → Row
renewed_row t r = record { address = r.address; ticket = t; unknown = r.unknown; identity = r.identity; from_static = 0 }

unfoldable pub renewed : ℕ → ℕ → List Row → List Row
renewed place t rows = set rows place (renewed_row t (row_at rows place))

-- the row at a place with another address, in its place by it; ticket, identity and static address stay; as they were if there is no such place
abbrev pub moved_row : ℕ → Row → Row
moved_row a r = record { address = a; ticket = r.ticket; unknown = r.unknown; identity = r.identity; from_static = r.from_static }

unfoldable pub moved : ℕ → ℕ → List Row → List Row
moved place a rows = cond (ltb place 32) (with_row (moved_row a (row_at rows place)) (without place rows)) rows
