-- A table's life: the calls as data, the machine after any of them, and the tickets that they give.
use Rattle.std.specs.Prelude.{ℕ, ◌≡◌, Bool, true, false, cond, not, ◌&&◌, List, [], ◌∷◌, ◌++◌, eqb}
use Rattle.slots.specs.declared.Facts.{Facts}
use Rattle.rows.specs.Rows.{in_use, has_identity, holds_ticket, place_of_ticket, row_at}
use Rattle.rows.specs.declared.Row.{Row}
use Rattle.table.specs.Tickets.{ticket_retired}
use Rattle.machine.specs.declared.Machine.{Machine}
use Rattle.machine.specs.Steps.{Step, address_of}
use Rattle.machine.specs.Calls.{begun, answered, identified, given_up, joined, retired, asked}

-- ---- calls

-- a call with its arguments; a call that writes, with how many cells it is lent
pub data Call : Type 0 where
  begin : (choice static new ticket room : ℕ) → Call
  answer : (heard : Bool) (room : ℕ) → Call
  identity : (bytes : List ℕ) (room : ℕ) → Call
  give_up : (room : ℕ) → Call
  join : (choice room : ℕ) → Call
  retire : (ticket : ℕ) → Call
  ask : (ticket : ℕ) → Call

-- what it comes to; asking leaves the machine as it is
abbrev pub step_of : Call → Machine → Step
step_of (begin choice static new ticket room) m = begun m choice static new ticket room
step_of (answer heard room) m = answered m heard room
step_of (identity bytes room) m = identified m bytes room
step_of (give_up room) m = given_up m room
step_of (join choice room) m = joined m choice room
step_of (retire ticket) m = retired m ticket
step_of (ask ticket) m = record { machine = m; cells = []; refusal = (asked m ticket).refusal }

-- the machine after a call, and after a list of calls
abbrev pub after : Call → Machine → Machine
after c m = (step_of c m).machine

abbrev pub after_all : List Call → Machine → Machine
after_all [] m = m
after_all (c ∷ cs) m = after_all cs (after c m)

-- whether a call names the ticket: a move, a retiring, a question
abbrev pub names : ℕ → Call → Bool
names t (begin choice static new ticket room) = eqb choice 3 && eqb ticket t
names t (answer heard room) = false
names t (identity bytes room) = false
names t (give_up room) = false
names t (join choice room) = false
names t (retire ticket) = eqb ticket t
names t (ask ticket) = eqb ticket t

-- ---- rows and boards

-- y is the row of the board that x is the row of: ticket, mark, identity and static address agree; the address may differ
abbrev pub same_board : Row → Row → Bool
same_board x y =
    in_use y && eqb x.ticket y.ticket && cond x.unknown y.unknown (not y.unknown) && eqb x.identity y.identity
    && eqb x.from_static y.from_static

-- a board came back: in place of its old row there is one with a new ticket. The old ticket is retired, the new one has the old address, and its row
-- has the identity
pub record Returned (old : Row) (new id : ℕ) (f : Facts) (rows : List Row) : Type 0 where
  pub old_retired : ticket_retired f rows old.ticket ≡ true
  pub same_address : address_of rows new ≡ old.address
  pub same_identity : has_identity id (row_at rows (place_of_ticket new rows)) ≡ true

-- ---- tickets given

-- the tickets of these rows that none of those others has
abbrev pub new_in : List Row → List Row → List ℕ
new_in others [] = []
new_in others (r ∷ rows) = cond (in_use r && not (holds_ticket r.ticket others)) (r.ticket ∷ new_in others rows) (new_in others rows)

-- the tickets that a call gives: those of the rows after it that no row had before; and those that a list of calls gives, in order
abbrev pub given : Call → Machine → List ℕ
given c m = new_in m.table.rows (after c m).table.rows

abbrev pub given_over : List Call → Machine → List ℕ
given_over [] m = []
given_over (c ∷ cs) m = given c m ++ given_over cs (after c m)
