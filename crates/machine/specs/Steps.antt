-- What the machine does at each moment.
use Rattle.std.specs.Prelude.{ℕ, ◌+◌, ◌*◌, Bool, true, false, cond, List, [], ◌∷◌, ◌++◌, map, eqb, replicate}
use Rattle.parity.specs.Cells.{data_cell, answer_cell, identity_cell, write_byte, offered_byte, start_cell, repeated_start_cell, stop_cell, broadcast_write, broadcast_read, hot_join, assign_cell, reset_all_cell, set_from_static_cell, move_cell, silence_cell, allow_cell, joining_cell}
use Rattle.slots.specs.declared.Facts.{Facts}
use Rattle.rows.specs.Rows.{no_row, holds_identity, place_of_address, place_of_ticket, place_of_identity, row_at}
use Rattle.rows.specs.declared.Row.{Row}
use Rattle.changes.specs.Changes.{with_row, renewed, moved}
use Rattle.free.specs.Free.{address_for, can_assign}
use Rattle.table.specs.Tickets.{new_ticket, ticketed}
use Rattle.machine.specs.declared.Machine.{Machine}
use Rattle.machine.specs.declared.Moment.{Moment}
use Rattle.machine.specs.declared.Moment.TheVariants.{Idle, Opened, Round, Listening, Offered, Direct}
use Rattle.machine.specs.Moments.{idle, opened, direct, round, listening, offering, goes_direct}

-- ---- what a call comes to

-- the machine after it, the cells that it writes, and its refusal, 0 for none
pub record Step : Type 0 where
  pub machine : Machine
  pub cells : List ℕ
  pub refusal : ℕ

abbrev pub did : Machine → List ℕ → Step
did m cells = record { machine = m; cells = cells; refusal = 0 }

-- a refusal hands back the machine as given, and no cells
abbrev pub refuse : Machine → ℕ → Step
refuse m k = record { machine = m; cells = []; refusal = k }

-- ---- Begin and Join

-- the present address of a ticket's row, 0 if it has none
abbrev pub address_of : List Row → ℕ → ℕ
address_of rows ticket = (row_at rows (place_of_ticket ticket rows)).address

-- the address that a choice asks: the static one for a set, the present one of the ticket's row for a move, none for the others
abbrev pub address_asked : List Row → ℕ → ℕ → ℕ → ℕ
address_asked rows choice static ticket = cond (eqb choice 2) static (cond (eqb choice 3) (address_of rows ticket) 0)

-- the new address that a choice wants
abbrev pub address_wanted : ℕ → ℕ → ℕ
address_wanted choice new = cond (goes_direct choice) new 0

-- START; opened
unfoldable pub beginning : Machine → ℕ → ℕ → ℕ → ℕ → Step
beginning m choice static new ticket =
    did (opened m.table.facts m.table.rows choice (address_asked m.table.rows choice static ticket) (address_wanted choice new)) (start_cell ∷ [])

-- the choice of Begin that a joining is opened for: silence, 4, for Join's choice 1, assign, 0, for 2
abbrev pub joins_for : ℕ → ℕ
joins_for choice = cond (eqb choice 1) 4 0

-- choice 0: 512, 9, 514; choice 1: 512, 8, 513, then opened for silence; choice 2 the same for assign
unfoldable pub joining : Machine → ℕ → Step
joining m choice =
    cond (eqb choice 0) (did (idle m.table.facts m.table.rows) (start_cell ∷ hot_join false ∷ stop_cell ∷ []))
    (did (opened m.table.facts m.table.rows (joins_for choice) 0 0) (start_cell ∷ hot_join true ∷ repeated_start_cell ∷ []))

-- ---- the round rule

-- behind these cells: 513 and round, with so many refusals in succession; or 514 and idle
abbrev pub onward_machine : Bool → Facts → List Row → ℕ → Machine
onward_machine on f rows refusals = cond on (round f rows refusals) (idle f rows)

abbrev pub onward_cell : Bool → ℕ
onward_cell on = cond on repeated_start_cell stop_cell

abbrev pub onward : Bool → Facts → List Row → ℕ → List ℕ → Step
onward on f rows refusals cells = did (onward_machine on f rows refusals) (cells ++ (onward_cell on ∷ []))

-- with fewer than 32 rows, a free address and a ticket left: 513, round; else 514, idle. No refusals in succession: it stands where a run
-- begins and where an offer was accepted, which clears them
unfoldable pub round_rule : Facts → List Row → List ℕ → Step
round_rule f rows cells = onward (can_assign f rows) f rows 0 cells

-- ---- opened

-- a set's or a move's command, and on to direct; a command about joining, and back to idle
abbrev pub on_to_direct : Machine → ℕ → Step
on_to_direct m command =
    did (direct m.table.facts m.table.rows m.choice m.asked m.wanted) (broadcast_write true ∷ command ∷ repeated_start_cell ∷ [])

abbrev pub about_joining : Machine → ℕ → Step
about_joining m command = did (idle m.table.facts m.table.rows) (broadcast_write true ∷ command ∷ joining_cell ∷ stop_cell ∷ [])

-- answer: 504, then by command: 0 assign 14 and the round rule; 1 reset all 13, 514, all rows go; 2 set from static 271, 513, direct; 3 move 273, 513,
-- direct; 4 silence 2, 16, 514; 5 allow 1, 16, 514
unfoldable pub commanded : Machine → Step
commanded m =
    cond (eqb m.choice 0) (round_rule m.table.facts m.table.rows (broadcast_write true ∷ assign_cell ∷ []))
    (cond (eqb m.choice 1) (did (idle m.table.facts (replicate 32 no_row)) (broadcast_write true ∷ reset_all_cell ∷ stop_cell ∷ []))
    (cond (eqb m.choice 2) (on_to_direct m set_from_static_cell)
    (cond (eqb m.choice 3) (on_to_direct m move_cell)
    (cond (eqb m.choice 4) (about_joining m silence_cell)
    (about_joining m allow_cell)))))

-- no answer: 505, 514; idle, nothing changed
unfoldable pub opened_answer : Machine → Bool → Step
opened_answer m heard = cond heard (commanded m) (did (idle m.table.facts m.table.rows) (broadcast_write false ∷ stop_cell ∷ []))

-- ---- round

-- answer: 506, listening; no answer: 507, 514, idle
unfoldable pub round_answer : Machine → Bool → Step
round_answer m heard =
    cond heard
    (did (listening m.table.facts m.table.rows m.refusals) (broadcast_read true ∷ []))
    (did (idle m.table.facts m.table.rows) (broadcast_read false ∷ stop_cell ∷ []))

-- ---- listening

-- the number that bytes make, highest first, behind the number so far
abbrev pub digits : ℕ → List ℕ → ℕ
digits n [] = n
digits n (byte ∷ bytes) = digits (n * 256 + byte) bytes

-- an identity's bytes: six of the Provisioned ID, BCR, DCR
abbrev pub identity_of : List ℕ → ℕ
identity_of bytes = digits 0 bytes

-- eight identity bytes: their cells; offered, with the address for the identity
unfoldable pub listened : Machine → List ℕ → Step
listened m bytes =
    did (offering m.table.facts m.table.rows (identity_of bytes) (address_for m.table.facts m.table.rows (identity_of bytes)) m.refusals)
    (map identity_cell bytes)

-- ---- offered

-- the row of a board that took an address it was offered
abbrev pub assigned_row : ℕ → ℕ → ℕ → Row
assigned_row address ticket identity = record { address = address; ticket = ticket; unknown = false; identity = identity; from_static = 0 }

-- a known identity's row gets a new ticket and static address 0 and keeps its address; else a new row
unfoldable pub accepted_rows : List Row → ℕ → ℕ → ℕ → List Row
accepted_rows rows identity address ticket =
    cond (holds_identity identity rows)
    (renewed (place_of_identity identity rows) ticket rows)
    (with_row (assigned_row address ticket identity) rows)

-- answer: the address cell, the row with its new ticket, then the round rule
unfoldable pub accepted : Machine → Step
accepted m =
    round_rule (ticketed m.table.facts) (accepted_rows m.table.rows m.identity m.offered (new_ticket m.table.facts))
    (answer_cell (offered_byte m.offered) true ∷ [])

-- no answer: the address cell; 513 and round, which remembers the first refusal, but after two in succession 514 and idle
unfoldable pub declined : Machine → Step
declined m = onward (eqb m.refusals 0) m.table.facts m.table.rows 1 (answer_cell (offered_byte m.offered) false ∷ [])

abbrev pub offered_answer : Machine → Bool → Step
offered_answer m heard = cond heard (accepted m) (declined m)

-- ---- direct

-- the row of a board that was set from its static address, with identity unknown
abbrev pub set_row : ℕ → ℕ → ℕ → Row
set_row address ticket static = record { address = address; ticket = ticket; unknown = true; identity = 0; from_static = static }

-- choice 2 makes a row with a new ticket; choice 3 changes the row's address and keeps its ticket
unfoldable pub directed : Machine → Machine
directed m =
    cond (eqb m.choice 2)
    (idle (ticketed m.table.facts) (with_row (set_row m.wanted (new_ticket m.table.facts) m.asked) m.table.rows))
    (idle m.table.facts (moved (place_of_address m.asked m.table.rows) m.wanted m.table.rows))

-- answer: the cell of the header, the cell of the new address as data, 514; no answer: the header's cell, 514, nothing changed
unfoldable pub direct_answer : Machine → Bool → Step
direct_answer m heard =
    cond heard
    (did (directed m) (answer_cell (write_byte m.asked) true ∷ data_cell (write_byte m.wanted) ∷ stop_cell ∷ []))
    (did (idle m.table.facts m.table.rows) (answer_cell (write_byte m.asked) false ∷ stop_cell ∷ []))

-- ---- an answer, or none, at each moment; at idle and at listening it is not of the moment

abbrev pub answer_at : Moment → Machine → Bool → Step
answer_at Idle m heard = refuse m 10
answer_at Opened m heard = opened_answer m heard
answer_at Round m heard = round_answer m heard
answer_at Listening m heard = refuse m 10
answer_at Offered m heard = offered_answer m heard
answer_at Direct m heard = direct_answer m heard
