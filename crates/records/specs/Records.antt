-- What is shown of reader and writer: which cells are a record, what it reads as, and where cells that are none break.
use Rattle.std.specs.Prelude.{ℕ, suc, ◌*◌, ◌≤◌, ◌<◌, ◌≡◌, true, List, ◌++◌, length, take}
use Rattle.lists.specs.Bits.{are_bytes}
use Rattle.readings.specs.declared.Reading.{Reading}
use Rattle.readings.specs.Layouts.{cells_of, has_layout}
use Rattle.reader.specs.Points.{start}
use Rattle.reader.specs.Read.{says, from, offers_of}

-- the cells are a record: one of the layouts gives them
pub record Laid (cells : List ℕ) : Type 0 where
  pub reading : Reading
  pub bytes : List ℕ
  pub eight_bits : are_bytes bytes ≡ true
  pub layout : has_layout reading bytes ≡ true
  pub gives : cells ≡ cells_of reading bytes

-- the cells read as this reading with the first ten of these bytes for each offer
pub record ReadsAs (r : Reading) (bytes cells : List ℕ) : Type 0 where
  pub reads : from start cells 0 ≡ says r
  pub tells : offers_of r cells ≡ take (10 * r.offers) bytes

-- the cells are no record, and this is the place of the first one that no layout can continue, or their length: what stands before it can be
-- continued to a record, and what ends with the cell there can't
pub record FirstBad (cells : List ℕ) (place : ℕ) : Type 0 where
  pub none : Laid cells → ⊥
  pub within : place ≤ length cells
  pub rest : List ℕ
  pub before : Laid (take place cells ++ rest)
  pub stuck : place < length cells → (more : List ℕ) → Laid (take (suc place) cells ++ more) → ⊥
