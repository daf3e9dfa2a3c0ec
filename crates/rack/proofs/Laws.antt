-- Laws of the numbers that C is handed.
use Prim.Native.Nat.{ℕ, ◌/◌, ◌%◌, ◌<◌, ◌≤◌}
use mathlib.Core.Path.{◌≡◌, refl}
use mathlib.Core.Bool.{Bool, true, false, cond}
use mathlib.Core.List.{List}
use mir.Val.{bool_byte}
use native.Mathlib.Omega.{arith}
use Rattle.sheet.specs.Runs.{SheetRan, sheet_ran}
use Rattle.sheet.proofs.Theorems.{at_most}
use Rattle.rack.specs.Packed.{packed, sheet_number}

-- the two numbers that C takes out of one are the two that were put in
pub unpacked : (refusal value : ℕ) → value < 65536 → (packed refusal value / 65536 ≡ refusal) × (packed refusal value % 65536 ≡ value)
unpacked refusal value h = (omega arith, omega arith)

-- a bool cast to a number
pub as_number : (t : Bool) → bool_byte t ≡ cond t 1 0
as_number true = refl
as_number false = refl

pub one_bit : (t : Bool) → bool_byte t < 2
one_bit true = omega arith
one_bit false = omega arith

-- a listing is at most 1,100 bytes
pub listing_short : (sheet : List ℕ) (room : ℕ) {ran : SheetRan} → ran ≡ sheet_ran sheet room → ran.length ≤ 1100
unfolding sheet_ran
listing_short sheet room e = rw e (at_most sheet room)

-- so refusal and length come out of a sheet run's number again
pub sheet_unpacked : (sheet : List ℕ) (room : ℕ) → let ran = sheet_ran sheet room in
    (sheet_number ran / 65536 ≡ ran.refusal) × (sheet_number ran % 65536 ≡ ran.length)
sheet_unpacked sheet room =
    let ran = sheet_ran sheet room in
    unpacked ran.refusal ran.length (omega (arith, listing_short sheet room {ran = ran} refl))
