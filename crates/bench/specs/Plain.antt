-- The plain rule: the same run told without identity bits and without the machine's calls.
use Rattle.std.specs.Prelude.{ℕ, zero, suc, ◌+◌, Bool, true, false, cond, List, [], ◌∷◌, ◌++◌, map, ltb}
use Rattle.lists.specs.Lists.{any}
use Rattle.lists.specs.Bits.{bytes_of}
use Rattle.parity.specs.Parity.{odd_ones, flipped}
use Rattle.parity.specs.Cells.{answer_cell, identity_cell, offered_byte, start_cell, repeated_start_cell, stop_cell, broadcast_write, broadcast_read, assign_cell}
use Rattle.slots.specs.declared.Facts.{Facts}
use Rattle.rows.specs.declared.Row.{Row}
use Rattle.free.specs.Free.{address_for, can_assign}
use Rattle.table.specs.Tickets.{new_ticket, ticketed}
use Rattle.boards.specs.declared.Board.{Board}
use Rattle.boards.specs.Wire.{waits}
use Rattle.boards.specs.Plain.{smallest, given}
use Rattle.machine.specs.declared.Machine.{Machine}
use Rattle.machine.specs.Moments.{idle, round}
use Rattle.machine.specs.Steps.{accepted_rows}
use Rattle.bench.specs.Play.{Play, flip_now, flips_then, offer_ending}

-- ---- between two rounds

-- the table (facts and rows), the refusals in succession, and the boards
pub record Scene : Type 0 where
  pub facts : Facts
  pub rows : List Row
  pub refusals : ℕ
  pub boards : List Board

-- the next round goes to the smallest identity among the boards without an address
abbrev pub winner : Scene → ℕ
winner s = smallest s.boards

-- it is offered what Listening says: the address of the row that holds the identity, or the lowest free one
abbrev pub offer_for : Scene → ℕ
offer_for s = address_for s.facts s.rows (winner s)

-- it is accepted by the byte as flipped
abbrev pub accepts : ℕ → Scene → Bool
accepts flip s = odd_ones (flipped flip (offered_byte (offer_for s)))

-- ---- an offer

-- accepted: all bearers of the identity have the address, and the table has its row, with a new ticket; that clears the succession
abbrev pub accepting : Scene → Scene
accepting s =
    record {
      facts = ticketed s.facts;
      rows = accepted_rows s.rows (winner s) (offer_for s) (new_ticket s.facts);
      refusals = 0;
      boards = given (offer_for s) (winner s) s.boards;
    }

-- refused: table and boards are as they were, and it is one refusal more
abbrev pub refusing : Scene → Scene
refusing s = record { facts = s.facts; rows = s.rows; refusals = s.refusals + 1; boards = s.boards }

-- one or the other
abbrev pub scene_after : Bool → Scene → Scene
scene_after accepted s = cond accepted (accepting s) (refusing s)

-- another round follows: with fewer than 32 rows, a free address and a ticket left; behind a refusal, if it is not the second in succession
abbrev pub round_follows : Bool → Scene → Bool
round_follows accepted s = cond accepted (can_assign s.facts s.rows) (ltb s.refusals 2)

-- ---- the run from here on

-- the run is over here, with this ending and these last cells
abbrev pub over : ℕ → List ℕ → Scene → Play
over ending cells s = record { machine = idle s.facts s.rows; boards = s.boards; cells = cells; rounds = []; ending = ending }

-- the run is not played on: no ending yet, so 0 stands there; a run that may begin never comes to this
abbrev pub unfinished : Scene → Play
unfinished s = record { machine = round s.facts s.rows s.refusals; boards = s.boards; cells = []; rounds = []; ending = 0 }

-- a run that is opened by these cells
abbrev pub opened_by : List ℕ → Play → Play
opened_by cells p = record { machine = p.machine; boards = p.boards; cells = cells ++ p.cells; rounds = p.rounds; ending = p.ending }

-- the cells of a round: header, identity, address byte as it was sent, and what becomes of it: 513 if another follows, else 514
abbrev pub round_cells : ℕ → ℕ → Bool → Bool → List ℕ
round_cells id address accepted follows =
    broadcast_read true
    ∷ (map identity_cell (bytes_of 8 id) ++ (answer_cell (offered_byte address) accepted ∷ cond follows repeated_start_cell stop_cell ∷ []))

-- an answered round of this scene, and then the rest of the run
abbrev pub answered_round : Bool → Bool → Scene → Play → Play
answered_round accepted follows s p =
    record {
      machine = p.machine;
      boards = p.boards;
      cells = round_cells (winner s) (offer_for s) accepted follows ++ p.cells;
      rounds =
          record { before = s.boards; identity = winner s; address = offer_for s; accepted = accepted; after = (scene_after accepted s).boards }
          ∷ p.rounds;
      ending = p.ending;
    }

-- behind an offer: another round, or the end
abbrev pub after_offer : Bool → Scene → Play → Play
after_offer accepted s more = cond (round_follows accepted s) more (over (offer_ending accepted s.facts s.rows) [] s)

-- at most n rounds more: as long as a board has no address
unfoldable pub plain_rounds : ℕ → List ℕ → Scene → Play
plain_rounds zero ks s = unfinished s
plain_rounds (suc n) ks s =
    let accepted = accepts (flip_now ks) s in
    let s' = scene_after accepted s in
    cond (any waits s.boards)
    (answered_round accepted (round_follows accepted s') s (after_offer accepted s' (plain_rounds n (flips_then ks) s')))
    (over 0 (broadcast_read false ∷ stop_cell ∷ []) s)

-- ---- the run

-- before the first round nothing was refused
abbrev pub at_first : Machine → List Board → Scene
at_first m bs = record { facts = m.table.facts; rows = m.table.rows; refusals = 0; boards = bs }

-- without boards the first header is silent; else the command for assign goes out, and rounds follow, for which 65 are enough
unfoldable pub plain : Machine → List Board → List ℕ → Play
plain m [] ks = over 5 (start_cell ∷ broadcast_write false ∷ stop_cell ∷ []) (at_first m [])
plain m (b ∷ bs) ks =
    opened_by (start_cell ∷ broadcast_write true ∷ assign_cell ∷ repeated_start_cell ∷ []) (plain_rounds 65 ks (at_first m (b ∷ bs)))
