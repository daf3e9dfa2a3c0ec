-- Parity's fact, once over the number of bits: one flipped bit of n turns the parity; the odd bit makes the count odd, and no other bit does.
use mathlib.Core.Path.{◌≡◌, refl, ◌∙◌}
use mathlib.Core.Bool.{Bool, true, false, cond}
use Prim.Native.Nat.{ℕ, zero, suc, ◌+◌, ◌-◌, ◌*◌, ◌/◌, ◌%◌, ◌^◌, ◌≤◌, ◌<◌}
use native.Mathlib.Nat.{pow-suc, le_of_suc-le-suc, not-suc-le-zero, one-mul, zero-mul, mod-eq_of_lt}
use native.Mathlib.Numerals.{add-one}
use native.Mathlib.Omega.{arith}
use lib.Count.{ones_in}
use lib.Dec.{eqb, lit<}
use Rattle.std.specs.Int.{bit_at}
use Rattle.std.specs.Int.Bits.{bit_xor, bit_and, xor_add_and}
use Rattle.std.proofs.lemmas.Nat.Bits.{and_pow, bit_at-lt}
use lib.Pow.{shl_exact, field, mod-mod-pow}
use borrow.Author.Tests.{eqb-true, eqb-false, eq-eqb, ne_eqb}
use Rattle.lists.specs.Bits.{bit}
use Rattle.lists.proofs.Bits.{bit_zero, bit-suc, bit_there}
use Rattle.parity.specs.Parity.{parity, odd_bit, odd_ones, flip}
use Rattle.parity.specs.Cells.{write_byte, offered_byte}

-- ---- 0 or 1

pub parity_lt : (n x : ℕ) → parity n x < 2
unfolding parity
parity_lt n x = omega arith

pub odd_bit_lt : (n x : ℕ) → odd_bit n x < 2
unfolding odd_bit
odd_bit_lt n x = omega arith

-- the odd bit is 0 just where the count is odd already
pub odd_bit_zero : (n x : ℕ) → eqb (odd_bit n x) 0 ≡ eqb (parity n x) 1
unfolding odd_bit
odd_bit_zero n x = go (parity n x) (parity_lt n x)
  where
    go : (o : ℕ) → o < 2 → eqb (1 - o) 0 ≡ eqb o 1
    go zero h = refl
    go (suc zero) h = refl
    go (suc (suc o)) h = absurd (omega arith)

-- ---- the odd bit

-- a number above its own odd bit has an odd count of ones
pub odd_with_bit : (n x : ℕ) → parity (suc n) (x * 2 + odd_bit n x) ≡ 1
unfolding parity odd_bit ones_in
odd_with_bit n x = let half : (x * 2 + (1 - ones_in n x % 2)) / 2 ≡ x = omega arith in rw half (omega arith)

-- and above no other bit
pub odd_bit_only : (n x b : ℕ) → b < 2 → parity (suc n) (x * 2 + b) ≡ 1 → b ≡ odd_bit n x
unfolding parity odd_bit ones_in
odd_bit_only n x b h e = let half : (x * 2 + b) / 2 ≡ x = omega arith in omega (arith, rw half at e)

-- ---- one flipped bit

-- the lowest bit: it changes, and the half stays
flip_low : (x : ℕ) → (flip 0 x % 2 + x % 2 ≡ 1) × (flip 0 x / 2 ≡ x / 2)
unfolding flip
flip_low x = rw bit_zero (go (eqb (x % 2) 1) refl)
  where
    go : (b : Bool) → eqb (x % 2) 1 ≡ b → (cond b (x - 1) (x + 1) % 2 + x % 2 ≡ 1) × (cond b (x - 1) (x + 1) / 2 ≡ x / 2)
    go true e = omega (arith, eqb-true (x % 2) 1 e)
    go false e = omega (arith, eqb-false (x % 2) 1 e)

-- a higher bit: the lowest stays, and the half has it flipped one place lower
pub flip-suc : (k x : ℕ) → (flip (suc k) x % 2 ≡ x % 2) × (flip (suc k) x / 2 ≡ flip k (x / 2))
unfolding flip
flip-suc k x = rw (bit-suc, pow-suc 2 k) (go (bit k (x / 2)) (bit_there k (x / 2)))
  where
    go : (b : Bool) → (b ≡ true → 2 ^ k ≤ x / 2) → (cond b (x - 2 ^ k * 2) (x + 2 ^ k * 2) % 2 ≡ x % 2) × (cond b (x - 2 ^ k * 2) (x + 2 ^ k * 2) / 2 ≡ cond b (x / 2 - 2 ^ k) (x / 2 + 2 ^ k))
    go true h = omega (arith, h refl)
    go false h = omega arith

-- PARITY'S FACT: to flip one bit of n turns the parity of the n
pub flip_turns : (n k x : ℕ) → k < n → parity n (flip k x) + parity n x ≡ 1
unfolding parity ones_in
flip_turns zero k x h = absurd (not-suc-le-zero h)
flip_turns (suc n) zero x h = rw (flip_low x).1 (omega (arith, (flip_low x).0))
flip_turns (suc n) (suc k) x h = rw ((flip-suc k x).0, (flip-suc k x).1) (omega (arith, flip_turns n k (x / 2) (le_of_suc-le-suc h)))

-- a flip by hand: the exclusive or with what the bit is worth
pub flip_xor : (k x : ℕ) → flip k x ≡ bit_xor x (2 ^ k)
unfolding flip bit
flip_xor k x = go (eqb (bit_at x k) 1) refl
  where
    go : (b : Bool) → eqb (bit_at x k) 1 ≡ b → cond b (x - 2 ^ k) (x + 2 ^ k) ≡ bit_xor x (2 ^ k)
    go true e =
        let one : bit_at x k ≡ 1 = eqb-true _ _ e in
        let both : bit_and x (2 ^ k) ≡ 2 ^ k = and_pow x k ∙ rw one (one-mul (2 ^ k)) in
        omega (arith, xor_add_and x (2 ^ k))
    go false e =
        let none : bit_at x k ≡ 0 = omega (arith, eqb-false (bit_at x k) 1 e, bit_at-lt x k) in
        let neither : bit_and x (2 ^ k) ≡ 0 = and_pow x k ∙ rw none (zero-mul (2 ^ k)) in
        omega (arith, xor_add_and x (2 ^ k))

-- `1 << k` in a byte
pub worth : (k : ℕ) → k < 8 → (1 * 2 ^ k) % 2 ^ 8 ≡ 2 ^ k
worth k h = shl_exact {a = 1} 1 k 8 (lit< tt) (omega arith) ∙ one-mul (2 ^ k)

-- ---- an offer

-- only the lowest n bits are counted
ones_low : (n x : ℕ) → ones_in n (x % 2 ^ n) ≡ ones_in n x
unfolding ones_in
ones_low zero x = refl
ones_low (suc n) x =
    let low : x % 2 ^ suc n % 2 ≡ x % 2 = rw (← add-one n) (mod-mod-pow x n 1) in
    let half : x % 2 ^ suc n / 2 ≡ x / 2 % 2 ^ n = rw (← add-one n) (field x n 1) in
    rw (low, half, ones_low n (x / 2))

odd_bit_low : (n x : ℕ) → odd_bit n (x % 2 ^ n) ≡ odd_bit n x
unfolding odd_bit parity
odd_bit_low n x = rw ones_low

-- a 0 below counts for nothing
odd_bit_above : (n x : ℕ) → odd_bit (suc n) (x * 2 + 0) ≡ odd_bit n x
unfolding odd_bit parity ones_in
odd_bit_above n x =
    let low : (x * 2 + 0) % 2 ≡ 0 = omega arith in
    let half : (x * 2 + 0) / 2 ≡ x = omega arith in
    rw (low, half) (omega arith)

-- so an offered byte's own bit is the ninth bit of the header that writes to the address
pub own_bit : (a : ℕ) → odd_bit 8 (write_byte a) ≡ odd_bit 7 a
own_bit a = odd_bit_above 7 (a % 128) ∙ odd_bit_low 7 a

offer_odd : (a : ℕ) → parity 8 (offered_byte a) ≡ 1
offer_odd a = rw (odd_bit_low 7 a) at (odd_with_bit 7 (a % 128))

-- an offered byte is taken as it was sent
pub offer_taken : (a : ℕ) → odd_ones (offered_byte a) ≡ true
offer_taken a = eq-eqb _ _ (offer_odd a)

-- and refused with any one bit flipped
pub offer_refused : (k a : ℕ) → k < 8 → odd_ones (flip k (offered_byte a)) ≡ false
offer_refused k a h = ne_eqb _ _ (λ (e : parity 8 (flip k (offered_byte a)) ≡ 1). omega (arith, flip_turns 8 k (offered_byte a) h, offer_odd a))

-- the address that it offers
pub offered_address : (a : ℕ) → a < 128 → offered_byte a / 2 ≡ a
offered_address a h = let e : a % 128 ≡ a = mod-eq_of_lt h in rw e (omega (arith, odd_bit_lt 7 a))
