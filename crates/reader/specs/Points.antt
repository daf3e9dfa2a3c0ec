-- The layouts cell by cell: at each point of a record, which cell may stand next, and where it leads. That this accepts exactly the layouts of the
-- crate readings is a theorem of the crate records.
use Rattle.std.specs.Prelude.{ℕ, zero, suc, ◌+◌, ◌/◌, ◌%◌, Bool, true, false, cond, ◌&&◌, eqb}
use Rattle.parity.specs.Parity.{odd_ones}
use Rattle.parity.specs.Cells.{is_byte, is_identity, data_cell, start_cell, repeated_start_cell, stop_cell, broadcast_write, broadcast_read, hot_join, assign_cell, reset_all_cell, set_from_static_cell, move_cell, silence_cell, allow_cell, joining_cell}
use Rattle.readings.specs.declared.Joining.{Joining}
use Rattle.readings.specs.declared.Joining.TheVariants.{Refused, Answered}
use Rattle.readings.specs.declared.Joining.TheVariants as joinings
use Rattle.readings.specs.declared.Command.{Command}
use Rattle.readings.specs.declared.Command.TheVariants.{Assign, ResetAll, SetFromStatic, Move, Silence, Allow}
use Rattle.readings.specs.declared.Command.TheVariants as commands
use Rattle.readings.specs.declared.Reading.{Reading}
use Rattle.readings.specs.Readings.{may_follow, bare, directed, assigned}

-- ---- kinds of cells

-- the ninth bit of a cell of nine clocks
abbrev pub ninth_of : ℕ → ℕ
ninth_of x = x % 2

-- its byte: the eight bits above the ninth
abbrev pub byte_of : ℕ → ℕ
byte_of x = x / 2 % 256

-- the address in that byte: its seven higher bits
abbrev pub address_in : ℕ → ℕ
address_in x = byte_of x / 2

-- after a header the ninth bit is 0 for an answer
abbrev pub answered_in : ℕ → Bool
answered_in x = eqb (ninth_of x) 0

-- a byte with a 0 as its lowest bit: a header that writes, or a new address
unfoldable pub is_write_byte : ℕ → Bool
is_write_byte x = is_byte x && eqb (byte_of x % 2) 0

-- a new address: a 0 below it, and the right ninth bit
unfoldable pub is_new_address : ℕ → Bool
is_new_address x = is_write_byte x && eqb (data_cell (byte_of x)) x

-- an offered address byte: its own ones are odd
unfoldable pub is_offered : ℕ → Bool
is_offered x = is_byte x && odd_ones (byte_of x)

-- the command of a cell with its right ninth bit; None for any other cell, which leads nowhere
unfoldable pub command_of : ℕ → Command
command_of x =
    cond (eqb x assign_cell) Assign
    (cond (eqb x reset_all_cell) ResetAll
    (cond (eqb x set_from_static_cell) SetFromStatic
    (cond (eqb x move_cell) Move
    (cond (eqb x silence_cell) Silence
    (cond (eqb x allow_cell) Allow commands.None)))))

-- ---- points

-- a point of a record, named by what must stand next, with what the cells before it have said
pub data Point : Type 0 where
  start : Point
  -- 7Eh/W, or a board's 02h/W
  opening : Point
  -- a repeated START, and then this
  again : Point → Point
  -- 7Eh/W behind an answered joining
  reopening : Point
  -- a command, behind this joining
  command : Joining → Point
  -- the data byte of silence and allow
  event : Joining → Command → Point
  -- the header of a set or a move, to any address, 0 to 127
  header : Command → Point
  -- any new address, 0 to 127, behind the header to this address
  new_address : Command → ℕ → Point
  -- behind so many offers: a round header
  round : Joining → ℕ → Point
  -- behind so many offers: so many identity bytes more, and then the address byte
  offer : Joining → ℕ → ℕ → Point
  -- behind so many offers, accepted or refused (two in succession are not judged): a repeated START or STOP
  behind : Joining → ℕ → Point
  -- STOP, and the record says this
  ending : Reading → Point

-- where a cell leads: nowhere, to a point, or to the end of a record that says this
pub data Next : Type 0 where
  nowhere : Next
  to : Point → Next
  over : Reading → Next

-- where a command that may follow the joining leads: after 14, 271 and 273 a 513 must stand
abbrev pub commanded : Joining → Command → Next
commanded j commands.None = nowhere
commanded j Assign = to (again (round j 0))
commanded j ResetAll = to (ending (bare j ResetAll))
commanded j SetFromStatic = to (again (header SetFromStatic))
commanded j Move = to (again (header Move))
commanded j Silence = to (event j Silence)
commanded j Allow = to (event j Allow)

-- where the cell x leads from a point
unfoldable pub next : Point → ℕ → Next
next start x = cond (eqb x start_cell) (to opening) nowhere
next opening x =
    cond (eqb x (broadcast_write true)) (to (command joinings.None))
    (cond (eqb x (broadcast_write false)) (to (ending (bare joinings.None commands.None)))
    (cond (eqb x (hot_join true)) (to (again reopening))
    (cond (eqb x (hot_join false)) (to (ending (bare Refused commands.None))) nowhere)))
next (again p) x = cond (eqb x repeated_start_cell) (to p) nowhere
next reopening x =
    cond (eqb x (broadcast_write true)) (to (command Answered))
    (cond (eqb x (broadcast_write false)) (to (ending (bare Answered commands.None))) nowhere)
next (command j) x = cond (may_follow j (command_of x)) (commanded j (command_of x)) nowhere
next (event j c) x = cond (eqb x joining_cell) (to (ending (bare j c))) nowhere
next (header c) x =
    cond (is_write_byte x) (cond (answered_in x) (to (new_address c (address_in x))) (to (ending (directed c (address_in x) 0 false)))) nowhere
next (new_address c a) x = cond (is_new_address x) (to (ending (directed c a (address_in x) true))) nowhere
next (round j n) x =
    cond (eqb x (broadcast_read true)) (to (offer j n 8))
    (cond (eqb x (broadcast_read false)) (to (ending (assigned j n false))) nowhere)
next (offer j n (suc k)) x = cond (is_identity x) (to (offer j n k)) nowhere
next (offer j n zero) x = cond (is_offered x) (to (behind j (n + 1))) nowhere
next (behind j n) x = cond (eqb x repeated_start_cell) (to (round j n)) (cond (eqb x stop_cell) (over (assigned j n true)) nowhere)
next (ending r) x = cond (eqb x stop_cell) (over r) nowhere
