-- Cells of the record: 16-bit numbers, one for each byte on the bus, for START, repeated START and STOP.
use Rattle.std.specs.Prelude.{Bool, true, false, cond, List, [], ◌∷◌, ℕ, ◌+◌, ◌*◌, ◌%◌, ltb}
use Rattle.lists.specs.Numbers.{within}
use Rattle.parity.specs.Parity.{odd_bit}

-- ---- a byte and its ninth bit

-- byte times 2 plus the ninth bit
abbrev pub cell : ℕ → ℕ → ℕ
cell byte ninth = byte * 2 + ninth

-- after a command or data byte the ninth bit makes the count of ones in all nine bits odd
abbrev pub data_cell : ℕ → ℕ
data_cell byte = cell byte (odd_bit 8 byte)

-- after a header or an offered address the ninth bit is 0 for an answer, 1 for none
abbrev pub answer_cell : ℕ → Bool → ℕ
answer_cell byte answered = cell byte (cond answered 0 1)

-- an identity byte: 1024 plus the byte, no ninth bit
abbrev pub identity_cell : ℕ → ℕ
identity_cell byte = 1024 + byte

-- which cells are a byte and its ninth bit, and which an identity byte
abbrev pub is_byte : ℕ → Bool
is_byte c = ltb c 512

unfoldable pub is_identity : ℕ → Bool
is_identity c = within 1024 1279 c

-- nine clocks for a byte and its ninth bit, eight for an identity byte, none for START, repeated START, STOP and numbers that are no cell
abbrev pub clocks : ℕ → ℕ
clocks c = cond (is_byte c) 9 (cond (is_identity c) 8 0)

-- ---- an address in a byte

-- address times 2 plus the bit below it; an address is seven bits, and of a number over 127 only the lowest seven count
abbrev pub address_byte : ℕ → ℕ → ℕ
address_byte address below = (address % 128) * 2 + below

-- a 0 below: the header that writes to an address, and a new address as data
abbrev pub write_byte : ℕ → ℕ
write_byte address = address_byte address 0

-- a 1 below: the header that reads
abbrev pub read_byte : ℕ → ℕ
read_byte address = address_byte address 1

-- an offered address byte: address times 2 plus the bit that makes its own count of ones, that of the seven bits and this one, odd
abbrev pub offered_byte : ℕ → ℕ
offered_byte address = address_byte address (odd_bit 7 address)

-- ---- cells with a name

-- START, repeated START, STOP
abbrev pub start_cell : ℕ
start_cell = 512

abbrev pub repeated_start_cell : ℕ
repeated_start_cell = 513

abbrev pub stop_cell : ℕ
stop_cell = 514

-- 7Eh/W, which any board answers
abbrev pub broadcast_write : Bool → ℕ
broadcast_write answered = answer_cell (write_byte 0x7E) answered

-- 7Eh/R, which boards without an address answer
abbrev pub broadcast_read : Bool → ℕ
broadcast_read answered = answer_cell (read_byte 0x7E) answered

-- a board's request to join, 02h/W, which the controller answers
abbrev pub hot_join : Bool → ℕ
hot_join answered = answer_cell (write_byte 0x02) answered

-- assign, ENTDAA 07h
abbrev pub assign_cell : ℕ
assign_cell = data_cell 0x07

-- reset all, RSTDAA 06h
abbrev pub reset_all_cell : ℕ
reset_all_cell = data_cell 0x06

-- set from static, SETDASA 87h
abbrev pub set_from_static_cell : ℕ
set_from_static_cell = data_cell 0x87

-- move, SETNEWDA 88h
abbrev pub move_cell : ℕ
move_cell = data_cell 0x88

-- silence joining, DISEC 01h
abbrev pub silence_cell : ℕ
silence_cell = data_cell 0x01

-- allow joining, ENEC 00h
abbrev pub allow_cell : ℕ
allow_cell = data_cell 0x00

-- the joining event, 08h, data of both
abbrev pub joining_cell : ℕ
joining_cell = data_cell 0x08

-- all of them: 512, 513, 514; 504, 505; 506, 507; 8, 9; 14, 13, 271, 273; 2, 1, 16
unfoldable pub named_cells : List ℕ
named_cells =
    start_cell ∷ repeated_start_cell ∷ stop_cell
    ∷ broadcast_write true ∷ broadcast_write false
    ∷ broadcast_read true ∷ broadcast_read false
    ∷ hot_join true ∷ hot_join false
    ∷ assign_cell ∷ reset_all_cell ∷ set_from_static_cell ∷ move_cell
    ∷ silence_cell ∷ allow_cell ∷ joining_cell
    ∷ []
