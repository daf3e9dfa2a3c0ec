-- The tickets of a table.
use Rattle.std.specs.Prelude.{ℕ, ◌+◌, Bool, cond, not, ◌&&◌, ◌||◌, List, eqb, ltb}
use Rattle.slots.specs.declared.Facts.{Facts}
use Rattle.rows.specs.Rows.{holds_ticket}
use Rattle.rows.specs.declared.Row.{Row}

-- a new ticket is the last plus 1
abbrev pub new_ticket : Facts → ℕ
new_ticket f = f.last + 1

-- the facts once it is given
abbrev pub ticketed : Facts → Facts
ticketed f = record { flags = f.flags; legacy = f.legacy; last = new_ticket f }

-- unknown: 0 or above the last
abbrev pub ticket_unknown : Facts → ℕ → Bool
ticket_unknown f t = eqb t 0 || ltb f.last t

-- retired: from 1 to the last, with no row
abbrev pub ticket_retired : Facts → List Row → ℕ → Bool
ticket_retired f rows t = not (ticket_unknown f t) && not (holds_ticket t rows)

-- refusals 8 and 9, 0 for neither
unfoldable pub ticket_refusal : Facts → List Row → ℕ → ℕ
ticket_refusal f rows t =
    cond (ticket_unknown f t) 8
    (cond (ticket_retired f rows t) 9
    0)
