-- What the writer writes, and what it answers.
use Rattle.std.specs.Prelude.{ℕ, Bool, cond, ◌&&◌, List, [], eqb, leb, ltb, length, get_or, Result, Ok, Err}
use Rattle.parity.specs.Parity.{odd_ones}
use Rattle.readings.specs.declared.Reading.{Reading}
use Rattle.readings.specs.Layouts.{cells_of, has_layout}
use Rattle.refusals.specs.declared.Refusal.{Refusal}
use Rattle.refusals.specs.Refusals.{number}

-- the ten bytes of an offer: its address byte's own ones are odd, and the tenth byte is 0 or 1
abbrev pub right : List ℕ → Bool
right offer = odd_ones (get_or offer 8 0) && leb (get_or offer 9 0) 1

-- some record of at most 1,024 cells reads as this reading with these bytes (0 to 255 each)
unfoldable pub writable : Reading → List ℕ → Bool
writable r bytes = has_layout r bytes && leb (length (cells_of r bytes)) 1024

-- 11, then 14
unfoldable pub write_refusal : Reading → List ℕ → ℕ → ℕ
write_refusal r bytes room = cond (ltb room 1024) 11 (cond (writable r bytes) 0 14)

-- the cells that are written: after a refusal none
unfoldable pub to_write : Reading → List ℕ → ℕ → List ℕ
to_write r bytes room = cond (eqb (write_refusal r bytes room) 0) (cells_of r bytes) []

-- how many cells were written, the refusal (0 for none), and its place
pub record Written : Type 0 where
  pub count : ℕ
  pub refusal : ℕ
  pub place : ℕ

-- what the writer gives, as that: no two results are the same one; a refusal writes nothing, and has the place 0
abbrev pub written : Result ℕ Refusal → Written
written (Ok n) = record { count = n; refusal = 0; place = 0 }
written (Err r) = record { count = 0; refusal = number r; place = 0 }

-- the answer: how many cells were written, the refusal, and its place, 0
abbrev pub write_answer : Reading → List ℕ → ℕ → Written
write_answer r bytes room = record { count = length (to_write r bytes room); refusal = write_refusal r bytes room; place = 0 }
