-- What a run is: its record, its rounds, and how it ended.
use Rattle.std.specs.Prelude.{ℕ, Bool, true, cond, List, [], ◌∷◌, eqb, sum_by}
use Rattle.lists.specs.Lists.{count}
use Rattle.parity.specs.Cells.{clocks, broadcast_read}
use Rattle.slots.specs.declared.Facts.{Facts}
use Rattle.rows.specs.declared.Row.{Row}
use Rattle.free.specs.Free.{full, no_free_address}
use Rattle.boards.specs.declared.Board.{Board}
use Rattle.machine.specs.declared.Machine.{Machine}

-- ---- rounds

-- an answered round: the boards before it, the identity heard, the address that it was offered, whether it was accepted, and the boards after it
pub record Round : Type 0 where
  pub before : List Board
  pub identity : ℕ
  pub address : ℕ
  pub accepted : Bool
  pub after : List Board

-- ---- a run as far as it is played

-- the machine, the boards, the cells written, the answered rounds in order, and the ending, 0 as long as there is none
pub record Play : Type 0 where
  pub machine : Machine
  pub boards : List Board
  pub cells : List ℕ
  pub rounds : List Round
  pub ending : ℕ

-- ---- flips

-- each offer uses the next flip; 8, for none, at the end of the list
abbrev pub flip_now : List ℕ → ℕ
flip_now [] = 8
flip_now (k ∷ ks) = k

-- and those behind it are for the next
abbrev pub flips_then : List ℕ → List ℕ
flips_then [] = []
flips_then (k ∷ ks) = ks

-- ---- endings: 0 a round header silent, 1 two refusals, 2 rows full, 3 no free address, 4 no ticket, 5 first header silent

-- behind an accepted offer, where the round rule stops for one of them: the first of 2, 3, 4 that applies
abbrev pub table_ending : Facts → List Row → ℕ
table_ending f rows = cond (full rows) 2 (cond (no_free_address f rows) 3 4)

-- behind an offer, by whether it was accepted
abbrev pub offer_ending : Bool → Facts → List Row → ℕ
offer_ending accepted f rows = cond accepted (table_ending f rows) 1

-- ---- counters, over the cells of a record

-- clocks: the sum over the cells
abbrev pub clocks_in : List ℕ → ℕ
clocks_in cells = sum_by clocks cells

-- answered rounds: the round headers, 7Eh/R, that were answered
abbrev pub rounds_in : List ℕ → ℕ
rounds_in cells = count (eqb (broadcast_read true)) cells
