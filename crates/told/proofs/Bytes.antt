-- The numbers in cells: what the reader finds in the cells that the machine writes.
use Prim.Native.Nat.{ℕ, zero, suc, ◌≤◌}
use mathlib.Core.Path.{◌≡◌, refl, ap}
use mathlib.Core.Bool.{Bool, true, false, cond}
use mathlib.Core.List.{List, [], ◌∷◌, ◌++◌, map, append_assoc}
use native.Mathlib.Omega.{arith}
use lib.Dec.{eqb, leb}
use lib.ListN.{length, drop, length-map}
use lib.Seq.{get_or-append_seam, drop-append-add}
use Rattle.lists.specs.Numbers.{numbers}
use Rattle.lists.proofs.Bools.{both, and}
use Rattle.parity.specs.Cells.{answer_cell, identity_cell, write_byte, offered_byte}
use Rattle.parity.proofs.Laws.{odd_bit_lt, offer_taken}
use Rattle.reader.specs.Points.{ninth_of, byte_of, address_in, answered_in, is_write_byte, is_offered}
use Rattle.reader.specs.Read.{cell_at, identity_byte, ten_of, tens_of}
use Rattle.reader.proofs.Cells.{pair_byte, pair_ninth, pair_is_byte, identity_back, write_taken, write_address}
use Rattle.lists.specs.Bits.{are_bytes}

-- ---- the ten bytes of an offer

-- one cell more in front, one place on
bytes_later : (x : ℕ) (l : List ℕ) (a k : ℕ)
    → map (λ place. identity_byte (cell_at (x ∷ l) place)) (numbers (suc a) k) ≡ map (λ place. identity_byte (cell_at l place)) (numbers a k)
unfolding numbers
bytes_later x l a zero = refl
bytes_later x l a (suc k) = ap {B = List ℕ} (λ bs. identity_byte (cell_at l a) ∷ bs) (bytes_later x l (suc a) k)

-- the bytes of identity cells, in a row
bytes_found : (bytes rest : List ℕ) → are_bytes bytes ≡ true
    → map (λ place. identity_byte (cell_at (map identity_cell bytes ++ rest) place)) (numbers 0 (length bytes)) ≡ bytes
unfolding numbers
bytes_found [] rest h = refl
bytes_found (b ∷ bs) rest h =
    let t = both (leb b 255) (are_bytes bs) h in
    rw (identity_back b t.0, bytes_later (identity_cell b) (map identity_cell bs ++ rest) 0 (length bs))
    (ap {B = List ℕ} (λ l. b ∷ l) (bytes_found bs rest t.1))

-- the cells of one round and of those behind it: round header, eight identity bytes, address byte, 513 or 514
abbrev round_cells : ℕ → List ℕ → ℕ → ℕ → List ℕ → List ℕ
round_cells header bytes address last rest = header ∷ (map identity_cell bytes ++ (address ∷ last ∷ rest))

module _ (header : ℕ) (bytes : List ℕ) (address last : ℕ) (rest : List ℕ) (long : length bytes ≡ 8) (h : are_bytes bytes ≡ true) where
  -- the ten bytes of its offer
  ten_found : ten_of (round_cells header bytes address last rest) ≡ bytes ++ (byte_of address ∷ ninth_of address ∷ [])
  unfolding ten_of
  ten_found =
      let eight = rw long at (bytes_found bytes (address ∷ last ∷ rest) h) in
      let there : cell_at (map identity_cell bytes ++ (address ∷ last ∷ rest)) 8 ≡ address =
      rw (length-map bytes identity_cell, long) at (get_or-append_seam (map identity_cell bytes) address (last ∷ rest) 65535) in
      rw (bytes_later header (map identity_cell bytes ++ (address ∷ last ∷ rest)) 0 8, eight, there)

  -- and the cells behind it
  rest_found : drop 11 (round_cells header bytes address last rest) ≡ rest
  rest_found = rw (length-map bytes identity_cell, long) at (drop-append-add (map identity_cell bytes) (address ∷ last ∷ rest) 2)

  -- so they are read
  pub round_read : (n : ℕ) → tens_of (suc n) (round_cells header bytes address last rest) ≡ bytes ++ (byte_of address ∷ ninth_of address ∷ tens_of n rest)
  unfolding tens_of
  round_read n = rw (ten_found, rest_found) (append_assoc bytes (byte_of address ∷ ninth_of address ∷ []) (tens_of n rest))

-- ---- cells that fit

-- the ninth bit, by whether it was answered
abbrev pub ninth : Bool → ℕ
ninth answered = cond answered 0 1

-- it is a bit
ninth_lt : (answered : Bool) → ninth answered ≤ 1
ninth_lt true = omega arith
ninth_lt false = omega arith

-- it says so
ninth_told : (answered : Bool) → eqb (ninth answered) 0 ≡ answered
ninth_told true = refl
ninth_told false = refl

module _ (byte : ℕ) (answered : Bool) (h : byte ≤ 255) where
  -- the cell of a header or an offered address is taken apart again
  pub byte_answered : byte_of (answer_cell byte answered) ≡ byte
  byte_answered = pair_byte byte (ninth answered) h (ninth_lt answered)

  pub ninth_answered : ninth_of (answer_cell byte answered) ≡ ninth answered
  ninth_answered = pair_ninth byte (ninth answered) h (ninth_lt answered)

-- a header that writes to an address, and whether it was answered
module _ (a : ℕ) (h : a ≤ 127) (answered : Bool) where
  pub header_fits : is_write_byte (answer_cell (write_byte a) answered) ≡ true
  header_fits = write_taken a (ninth answered) h (ninth_lt answered)

  pub header_address : address_in (answer_cell (write_byte a) answered) ≡ a
  header_address = write_address a (ninth answered) h (ninth_lt answered)

  pub header-answered : answered_in (answer_cell (write_byte a) answered) ≡ answered
  header-answered = rw (ninth_answered (write_byte a) answered (omega arith)) (ninth_told answered)

-- an offered address
pub offered_small : (a : ℕ) → offered_byte a ≤ 255
offered_small a = omega (arith, odd_bit_lt 7 a)

pub offered_fits : (a : ℕ) (answered : Bool) → is_offered (answer_cell (offered_byte a) answered) ≡ true
unfolding is_offered
offered_fits a answered =
    and (pair_is_byte (offered_byte a) (ninth answered) (offered_small a) (ninth_lt answered))
    (rw (byte_answered (offered_byte a) answered (offered_small a)) (offer_taken a))
