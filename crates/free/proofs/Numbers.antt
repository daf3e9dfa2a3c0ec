-- The paper's numbers of the table.
use mathlib.Core.Path.{◌≡◌, refl}
use mathlib.Core.List.{[], ◌∷◌, map}
use lib.ListN.{replicate}
use Rattle.lists.specs.Numbers.{first}
use Rattle.lists.specs.Bits.{bit}
use Rattle.slots.specs.Slots.{class_of, allows, facts_of, is_legacy, is_open}
use Rattle.rows.specs.Rows.{no_row}
use Rattle.free.specs.Free.{is_free, lowest_free}

-- the lowest free address of an empty table without legacy: 08h with flags 1, 04h with flags 0, 03h with flags 2
pub lowest_free_starred : map (λ flags. lowest_free (facts_of flags (replicate 16 0) 0) (replicate 32 no_row)) (1 ∷ 0 ∷ 2 ∷ []) ≡ (0x08 ∷ 0x04 ∷ 0x03 ∷ [])
unfolding lowest_free first is_free is_open allows class_of is_legacy bit
lowest_free_starred = refl
