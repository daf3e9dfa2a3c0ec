-- The paper's numbers, each list as one statement.
use mathlib.Core.Path.{◌≡◌, refl}
use mathlib.Core.List.{[], ◌∷◌, map}
use lib.Count.{ones_in}
use Rattle.parity.specs.Parity.{parity, odd_bit}
use Rattle.parity.specs.Cells.{data_cell, offered_byte, named_cells}

pub offered_bytes : map offered_byte (0x08 ∷ 0x09 ∷ 0x0B ∷ 0x77 ∷ []) ≡ (0x10 ∷ 0x13 ∷ 0x16 ∷ 0xEF ∷ [])
unfolding odd_bit parity ones_in
offered_bytes = refl

pub ninth_bit_cells : map data_cell (0x07 ∷ 0x06 ∷ 0x87 ∷ 0x88 ∷ []) ≡ (14 ∷ 13 ∷ 271 ∷ 273 ∷ [])
unfolding odd_bit parity ones_in
ninth_bit_cells = refl

pub named_cells_lem : named_cells ≡ (512 ∷ 513 ∷ 514 ∷ 504 ∷ 505 ∷ 506 ∷ 507 ∷ 8 ∷ 9 ∷ 14 ∷ 13 ∷ 271 ∷ 273 ∷ 2 ∷ 1 ∷ 16 ∷ [])
unfolding named_cells odd_bit parity ones_in
named_cells_lem = refl
