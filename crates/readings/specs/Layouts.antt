-- The layouts: every record, from START to STOP. That the reader, which goes cell by cell, accepts exactly these is a theorem of the crate records.
--
--   S  START    Sr  repeated START    P  STOP    /W /R  a header's write and read bit    A  answered    N  not answered
use Rattle.std.specs.Prelude.{ℕ, zero, suc, ◌*◌, Bool, true, false, cond, not, ◌&&◌, List, [], ◌∷◌, ◌++◌, map, eqb, leb, length, get_or, take, drop}
use Rattle.parity.specs.Parity.{odd_ones}
use Rattle.parity.specs.Cells.{data_cell, answer_cell, identity_cell, write_byte, start_cell, repeated_start_cell, stop_cell, broadcast_write, broadcast_read, hot_join, assign_cell, reset_all_cell, set_from_static_cell, move_cell, silence_cell, allow_cell, joining_cell}
use Rattle.readings.specs.declared.Joining.{Joining}
use Rattle.readings.specs.declared.Joining.TheVariants.{Refused, Answered}
use Rattle.readings.specs.declared.Joining.TheVariants as joinings
use Rattle.readings.specs.declared.Command.{Command}
use Rattle.readings.specs.declared.Command.TheVariants.{Assign, ResetAll, SetFromStatic, Move, Silence, Allow}
use Rattle.readings.specs.declared.Command.TheVariants as commands
use Rattle.readings.specs.declared.Reading.{Reading}
use Rattle.readings.specs.Readings.{may_follow}

-- ---- the cells

-- an offer, from the first ten of these bytes (identity, address byte, 0 accepted or 1 refused):
--   Sr  7Eh/R A  eight identity bytes  address byte A or N
unfoldable pub offer_cells : List ℕ → List ℕ
offer_cells bytes =
    repeated_start_cell ∷ broadcast_read true ∷ map identity_cell (take 8 bytes) ++ (answer_cell (get_or bytes 8 0) (eqb (get_or bytes 9 0) 0) ∷ [])

-- so many offers, ten bytes each
unfoldable pub offers_cells : ℕ → List ℕ → List ℕ
offers_cells zero bytes = []
offers_cells (suc n) bytes = offer_cells bytes ++ offers_cells n (drop 10 bytes)

-- the end of the rounds: STOP if the last round header answered (its offer stands before), else that silent header and STOP
--   P    or    Sr  7Eh/R N  P
abbrev pub rounds_end : Bool → List ℕ
rounds_end last = cond last (stop_cell ∷ []) (repeated_start_cell ∷ broadcast_read false ∷ stop_cell ∷ [])

-- a set's or a move's own part
--   Sr  address/W A  new address  P    or    Sr  address/W N  P
abbrev pub direct_cells : ℕ → ℕ → Bool → List ℕ
direct_cells header new answered =
    repeated_start_cell ∷ answer_cell (write_byte header) answered ∷ cond answered (data_cell (write_byte new) ∷ stop_cell ∷ []) (stop_cell ∷ [])

-- from 7Eh/W on, by command
--   none      7Eh/W N  P
--   assign    7Eh/W A  07h  offers and the end of the rounds
--   reset all 7Eh/W A  06h  P
--   set       7Eh/W A  87h  its own part
--   move      7Eh/W A  88h  its own part
--   silence   7Eh/W A  01h  08h  P
--   allow     7Eh/W A  00h  08h  P
abbrev pub command_cells : Command → Reading → List ℕ → List ℕ
command_cells commands.None r bytes = broadcast_write false ∷ stop_cell ∷ []
command_cells Assign r bytes = broadcast_write true ∷ assign_cell ∷ offers_cells r.offers bytes ++ rounds_end r.last
command_cells ResetAll r bytes = broadcast_write true ∷ reset_all_cell ∷ stop_cell ∷ []
command_cells SetFromStatic r bytes = broadcast_write true ∷ set_from_static_cell ∷ direct_cells r.header r.new r.direct
command_cells Move r bytes = broadcast_write true ∷ move_cell ∷ direct_cells r.header r.new r.direct
command_cells Silence r bytes = broadcast_write true ∷ silence_cell ∷ joining_cell ∷ stop_cell ∷ []
command_cells Allow r bytes = broadcast_write true ∷ allow_cell ∷ joining_cell ∷ stop_cell ∷ []

-- the whole record, by joining, with what stands from 7Eh/W on
--   none      S  from 7Eh/W on
--   refused   S  02h/W N  P
--   answered  S  02h/W A  Sr  from 7Eh/W on
abbrev pub joining_cells : Joining → List ℕ → List ℕ
joining_cells joinings.None rest = start_cell ∷ rest
joining_cells Refused rest = start_cell ∷ hot_join false ∷ stop_cell ∷ []
joining_cells Answered rest = start_cell ∷ hot_join true ∷ repeated_start_cell ∷ rest

-- the record that says this reading with these bytes
unfoldable pub cells_of : Reading → List ℕ → List ℕ
cells_of r bytes = joining_cells r.joining (command_cells r.command r bytes)

-- ---- which readings have a layout

-- nothing but joining and command
unfoldable pub is_bare : Reading → Bool
is_bare r = eqb r.header 0 && eqb r.new 0 && not r.direct && not r.last && eqb r.offers 0

-- addresses are 0 to 127; no new address behind a silent header; no rounds
unfoldable pub is_directed : Reading → Bool
is_directed r = leb r.header 127 && cond r.direct (leb r.new 127) (eqb r.new 0) && not r.last && eqb r.offers 0

-- in each of so many offers the address byte's own ones are odd, and the tenth byte is 0 or 1
unfoldable pub offers_right : ℕ → List ℕ → Bool
offers_right zero bytes = true
offers_right (suc n) bytes = odd_ones (get_or bytes 8 0) && leb (get_or bytes 9 0) 1 && offers_right n (drop 10 bytes)

-- ten bytes for each offer, and they are right; a last header that answered has its offer behind it; no addresses, no direct header
unfoldable pub is_assigned : Reading → List ℕ → Bool
is_assigned r bytes =
    eqb r.header 0 && eqb r.new 0 && not r.direct && not (r.last && eqb r.offers 0)
    && leb (10 * r.offers) (length bytes) && offers_right r.offers bytes

-- the fields are as the command allows; what it doesn't use is 0
abbrev pub says_right : Command → Reading → List ℕ → Bool
says_right commands.None r bytes = is_bare r
says_right Assign r bytes = is_assigned r bytes
says_right ResetAll r bytes = is_bare r
says_right SetFromStatic r bytes = is_directed r
says_right Move r bytes = is_directed r
says_right Silence r bytes = is_bare r
says_right Allow r bytes = is_bare r

-- some record, however long, says this reading with these bytes (0 to 255 each); bytes behind the last offer are not looked at
unfoldable pub has_layout : Reading → List ℕ → Bool
has_layout r bytes = may_follow r.joining r.command && says_right r.command r bytes
