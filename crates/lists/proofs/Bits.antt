-- Laws of a number's bits: one bit lower is the bit of the half, and a number whose bits are all 0 is 0; and of its bytes.
use Prim.Native.Nat.{ℕ, zero, suc, ◌/◌, ◌%◌, ◌^◌, ◌≤◌, ◌<◌}
use mathlib.Core.Path.{◌≡◌, refl, sym, ◌∙◌}
use mathlib.Core.Bool.{true, false}
use mathlib.Core.List.{[], ◌∷◌}
use native.Mathlib.Nat.{pow-suc, mul_comm, div-div-eq-div-mul, div-one, zero-div, le-div_iff_mul-le}
use native.Mathlib.Omega.{arith}
use lib.Dec.{eqb, leb}
use lib.ListN.{length, length-append}
use lib.Pow.{pow_pos}
use borrow.Author.Tests.{eqb-true, eqb-false, le-leb}
use Rattle.lists.specs.Bits.{bit, are_bytes, bytes_of}
use Rattle.lists.proofs.Keeps.{all_snoc}

-- ---- bits

pub bit_zero : (x : ℕ) → bit 0 x ≡ eqb (x % 2) 1
unfolding bit
bit_zero x = let e : x / 1 ≡ x = div-one x in rw e

pub bit-suc : (k x : ℕ) → bit (suc k) x ≡ bit k (x / 2)
unfolding bit
bit-suc k x = rw (pow-suc 2 k, mul_comm (2 ^ k) 2, div-div-eq-div-mul x 2 (2 ^ k))

pub bit_of_zero : (k : ℕ) → bit k 0 ≡ false
unfolding bit
bit_of_zero k = rw zero-div

-- a bit that is 1 is worth its value
pub bit_there : (k x : ℕ) → bit k x ≡ true → 2 ^ k ≤ x
unfolding bit
bit_there k x h =
    let one : 1 ≤ x / 2 ^ k = omega (arith, eqb-true (x / 2 ^ k % 2) 1 h) in
    omega (arith, (le-div_iff_mul-le {x = 1} {y = x} (pow_pos k)).0 one)

pub bits_none : (n x : ℕ) → x < 2 ^ n → ((k : ℕ) → k < n → bit k x ≡ false) → x ≡ 0
bits_none zero x l h = omega arith
bits_none (suc n) x l h =
    let low : (x % 2 ≡ 1 → ⊥) = eqb-false (x % 2) 1 (sym (bit_zero x) ∙ h 0 (omega arith)) in
    let half : x / 2 ≡ 0 = bits_none n (x / 2) (omega (arith, pow-suc 2 n)) (λ k b. sym (bit-suc k x) ∙ h (suc k) (omega arith)) in
    omega (arith, low)

-- ---- bytes

-- so many bytes are so many
pub bytes_long : (k n : ℕ) → length (bytes_of k n) ≡ k
unfolding bytes_of
bytes_long zero n = refl
bytes_long (suc k) n = rw (length-append, bytes_long k (n / 256)) (omega arith)

-- each is of eight bits
pub bytes_small : (k n : ℕ) → are_bytes (bytes_of k n) ≡ true
unfolding bytes_of
bytes_small zero n = refl
bytes_small (suc k) n = all_snoc (λ b. leb b 255) (n % 256) (le-leb (n % 256) 255 (omega arith)) (bytes_of k (n / 256)) (bytes_small k (n / 256))

-- eight of them, each by its own division
pub bytes_eight : (n : ℕ)
    → n / 0x100000000000000 % 256 ∷ n / 0x1000000000000 % 256 ∷ n / 0x10000000000 % 256 ∷ n / 0x100000000 % 256
    ∷ n / 0x1000000 % 256 ∷ n / 0x10000 % 256 ∷ n / 0x100 % 256 ∷ n % 256 ∷ []
    ≡ bytes_of 8 n
unfolding bytes_of
bytes_eight n =
    rw (
      div-div-eq-div-mul n 0x100 256,
      div-div-eq-div-mul n 0x10000 256,
      div-div-eq-div-mul n 0x1000000 256,
      div-div-eq-div-mul n 0x100000000 256,
      div-div-eq-div-mul n 0x10000000000 256,
      div-div-eq-div-mul n 0x1000000000000 256,
    )
