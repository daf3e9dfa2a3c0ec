-- What C is handed: one number for a refusal and a value.
use Rattle.std.specs.Prelude.{ℕ, ◌+◌, ◌*◌, cond}
use Rattle.slots.specs.Slots.{SlotAnswer}
use Rattle.sheet.specs.Runs.{SheetRan}

-- the refusal times 65,536 plus the value
abbrev pub packed : ℕ → ℕ → ℕ
packed refusal value = refusal * 65536 + value

-- of a slot test the value is 1 for open, 0 for not
abbrev pub slot_number : SlotAnswer → ℕ
slot_number answer = packed answer.refusal (cond answer.«open» 1 0)

-- of a sheet run it is the length of the listing
abbrev pub sheet_number : SheetRan → ℕ
sheet_number ran = packed ran.refusal ran.length
