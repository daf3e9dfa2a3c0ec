-- The boards on the wire, bit by bit. A flag beside each board says whether it is still in the round.
use Rattle.std.specs.Prelude.{ℕ, zero, suc, ◌+◌, ◌-◌, ◌*◌, ◌/◌, ◌%◌, ◌^◌, Bool, false, cond, ◌&&◌, eqb, leb, take, replicate}
use mathlib.Core.List.{List, ◌++◌, map, zip_with}
use Rattle.lists.specs.Lists.{any}
use Rattle.parity.specs.Parity.{odd_ones}
use Rattle.boards.specs.declared.Board.{Board}
use Rattle.boards.specs.declared.Heard.{Heard}

-- ---- who answers

-- a board without an address: only those answer 7Eh/R, and are in the round
abbrev pub waits : Board → Bool
waits b = eqb b.address 0

-- so of each board
abbrev pub waiting : List Board → List Bool
waiting bs = map waits bs

-- whether any is in
abbrev pub anyone : List Bool → Bool
anyone fs = any (λ still. still) fs

-- ---- identities, highest bit first

-- what a board sends as bit k
abbrev pub sent : ℕ → Board → ℕ
sent k b = b.identity / 2 ^ k % 2

-- a board that is still in and sends 0
abbrev pub sends_zero : ℕ → Board → Bool → Bool
sends_zero k b still = still && eqb (sent k b) 0

-- a bit is 0 if any board still in sends 0
abbrev pub wire_bit : ℕ → List Board → List Bool → ℕ
wire_bit k bs fs = cond (anyone (zip_with (sends_zero k) bs fs)) 0 1

-- a board that sent 1 and sees 0 leaves the round
abbrev pub keeps_in : ℕ → ℕ → Board → Bool → Bool
keeps_in k seen b still = still && leb (sent k b) seen

-- who is in behind bit k
abbrev pub stay_in : ℕ → ℕ → List Board → List Bool → List Bool
stay_in k seen bs fs = zip_with (keeps_in k seen) bs fs

-- a board by its identity alone: no bit asks for its address
abbrev pub board_of : ℕ → Board
board_of id = record { identity = id; address = 0 }

-- k bits to come, behind what was heard so far: what is heard in the end, and who is still in then
unfoldable pub hear : ℕ → List Board → List Bool → ℕ → Heard
hear zero bs fs heard = record { identity = heard; still = fs }
hear (suc k) bs fs heard = hear k bs (stay_in k (wire_bit k bs fs) bs fs) (heard * 2 + wire_bit k bs fs)

-- ---- the address byte, which all see alike

-- a board with an address
abbrev pub with_address : ℕ → Board → Board
with_address a b = record { identity = b.identity; address = a }

-- a board that is still in takes the address when the byte's ones are odd; the address stands above the byte's lowest bit
abbrev pub takes : ℕ → Bool → Board → Board
takes byte still b = cond (still && odd_ones byte) (with_address (byte / 2) b) b

-- the boards behind the byte
unfoldable pub after_byte : ℕ → List Bool → List Board → List Board
after_byte byte fs bs = zip_with (takes byte) fs bs

-- ---- boards by value: of 32 places the first so many hold a board

-- nobody is in behind them
abbrev pub waiting_first : ℕ → List Board → List Bool
waiting_first n bs = waiting (take n bs) ++ replicate (32 - n) false
