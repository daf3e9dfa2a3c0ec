-- Odd parity over a number of bits. The library's `ones_in n x` is the count of ones among the lowest n bits of x.
-- proofs/Laws has parity's fact over the number of bits, proofs/Numbers the paper's numbers.
use Rattle.std.specs.Prelude.{Bool, cond, ℕ, ◌+◌, ◌-◌, ◌%◌, ◌^◌, eqb, ltb}
use Rattle.std.specs.Int.Count.{ones_in}
use Rattle.lists.specs.Bits.{bit}

-- 1 where the count of ones among n bits is odd, 0 where it is even
unfoldable pub parity : ℕ → ℕ → ℕ
parity n x = ones_in n x % 2

-- the bit that makes the count of ones, its own included, odd: 0 where it is odd already, else 1
unfoldable pub odd_bit : ℕ → ℕ → ℕ
odd_bit n x = 1 - parity n x

-- whether a byte's ones are odd
abbrev pub odd_ones : ℕ → Bool
odd_ones byte = eqb (parity 8 byte) 1

-- x with its bit k the other way: what the bit is worth less where it was 1, more where it was 0
unfoldable pub flip : ℕ → ℕ → ℕ
flip k x = cond (bit k x) (x - 2 ^ k) (x + 2 ^ k)

-- a byte after a flip: 0 to 7 for the bit of value 2 to that power, 8 (and any number above) for none
abbrev pub flipped : ℕ → ℕ → ℕ
flipped k byte = cond (ltb k 8) (flip k byte) byte
