-- What a table has left to give: a place, a free address, a ticket; and which address an identity is offered.
use Rattle.std.specs.Prelude.{ℕ, Bool, cond, not, ◌&&◌, List, eqb, ltb}
use Rattle.lists.specs.Lists.{any}
use Rattle.lists.specs.Numbers.{numbers, first}
use Rattle.slots.specs.Slots.{is_open}
use Rattle.slots.specs.declared.Facts.{Facts}
use Rattle.rows.specs.Rows.{used, holds_address, holds_identity, place_of_identity, row_at}
use Rattle.rows.specs.declared.Row.{Row}

-- ---- addresses

-- free: open, and no row holds it as dynamic address
unfoldable pub is_free : Facts → List Row → ℕ → Bool
is_free f rows a = is_open f a && not (holds_address a rows)

-- the lowest free address, 0 if there is none: 0 itself is never open
unfoldable pub lowest_free : Facts → List Row → ℕ
lowest_free f rows = first (is_free f rows) 0x00 128

-- an identity that a row holds is offered that row's address; any other the lowest free address
unfoldable pub address_for : Facts → List Row → ℕ → ℕ
address_for f rows id = cond (holds_identity id rows) (row_at rows (place_of_identity id rows)).address (lowest_free f rows)

-- ---- room for one more

-- refusal 5: 32 rows
unfoldable pub full : List Row → Bool
full rows = not (ltb (used rows) 32)

-- refusal 6: no free address
unfoldable pub no_free_address : Facts → List Row → Bool
no_free_address f rows = not (any (is_free f rows) (numbers 0x00 128))

-- refusal 7: the last ticket is 4,294,967,295
abbrev pub no_ticket_left : Facts → Bool
no_ticket_left f = eqb f.last 4294967295

-- fewer than 32 rows, a free address and a ticket left
unfoldable pub can_assign : Facts → List Row → Bool
can_assign f rows = not (full rows) && not (no_free_address f rows) && not (no_ticket_left f)
