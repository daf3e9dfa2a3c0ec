-- Cells that are made are taken by the reader, and what was put into them is found again.
use Prim.Native.Nat.{ℕ, ◌+◌, ◌%◌, ◌≤◌}
use mathlib.Core.Path.{◌≡◌, ap}
use mathlib.Core.Bool.{true}
use native.Mathlib.Omega.{arith}
use lib.Dec.{leb}
use borrow.Author.Tests.{leb-true, le-leb, eq-eqb, lt-ltb}
use Rattle.lists.proofs.Bools.{and}
use Rattle.parity.specs.Parity.{odd_bit}
use Rattle.parity.specs.Cells.{cell, is_byte, is_identity, identity_cell, data_cell, write_byte}
use Rattle.parity.proofs.Laws.{odd_bit_lt}
use Rattle.reader.specs.Points.{byte_of, ninth_of, address_in, is_write_byte, is_new_address}
use Rattle.reader.specs.Read.{identity_byte}

-- a byte and its ninth bit, taken apart again
module _ (byte ninth : ℕ) (b : byte ≤ 255) (n : ninth ≤ 1) where
  pub pair_byte : byte_of (cell byte ninth) ≡ byte
  pair_byte = omega arith

  pub pair_ninth : ninth_of (cell byte ninth) ≡ ninth
  pair_ninth = omega arith

  pub pair_is_byte : is_byte (cell byte ninth) ≡ true
  pair_is_byte = lt-ltb (cell byte ninth) 512 (omega arith)

-- an identity byte
pub identity_taken : (byte : ℕ) → leb byte 255 ≡ true → is_identity (identity_cell byte) ≡ true
unfolding is_identity
identity_taken byte h = and (le-leb 1024 (1024 + byte) (omega arith)) (le-leb (1024 + byte) 1279 (omega (arith, leb-true byte 255 h)))

pub identity_back : (byte : ℕ) → leb byte 255 ≡ true → identity_byte (identity_cell byte) ≡ byte
identity_back byte h = omega (arith, leb-true byte 255 h)

-- an address with a 0 below, and any ninth bit
module _ (address ninth : ℕ) (a : address ≤ 127) (n : ninth ≤ 1) where
  write_byte_lem : byte_of (cell (write_byte address) ninth) ≡ write_byte address
  write_byte_lem = pair_byte (write_byte address) ninth (omega arith) n

  pub write_ninth : ninth_of (cell (write_byte address) ninth) ≡ ninth
  write_ninth = pair_ninth (write_byte address) ninth (omega arith) n

  pub write_taken : is_write_byte (cell (write_byte address) ninth) ≡ true
  unfolding is_write_byte
  write_taken =
      let even : write_byte address % 2 ≡ 0 = omega arith in
      rw write_byte_lem (and (pair_is_byte (write_byte address) ninth (omega arith) n) (eq-eqb (write_byte address % 2) 0 even))

  pub write_address : address_in (cell (write_byte address) ninth) ≡ address
  write_address = rw write_byte_lem (omega arith)

-- a new address
pub new_taken : (address : ℕ) → address ≤ 127 → is_new_address (data_cell (write_byte address)) ≡ true
unfolding is_new_address
new_taken address a =
    let ninth : ℕ = odd_bit 8 (write_byte address) in
    let n : ninth ≤ 1 = omega (arith, odd_bit_lt 8 (write_byte address)) in
    let same : data_cell (byte_of (data_cell (write_byte address))) ≡ data_cell (write_byte address) = ap data_cell (write_byte_lem address ninth a n) in
    and (write_taken address ninth a n) (eq-eqb (data_cell (byte_of (data_cell (write_byte address)))) (data_cell (write_byte address)) same)

pub new_back : (address : ℕ) → address ≤ 127 → address_in (data_cell (write_byte address)) ≡ address
new_back address a = write_address address (odd_bit 8 (write_byte address)) a (omega (arith, odd_bit_lt 8 (write_byte address)))
