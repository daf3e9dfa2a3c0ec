-- Laws of the lines of a listing: how long each is, and what stands in the buffer while they are put one behind the other.
use Prim.Native.Nat.{ℕ, ◌+◌, ◌*◌, ◌<◌, ◌≤◌}
use mathlib.Core.Path.{◌≡◌, refl, sym, ap, ◌∙◌}
use mathlib.Core.Bool.{Bool, true, false, cond}
use mathlib.Core.List.{List, [], ◌∷◌, ◌++◌, append_assoc, append-nil}
use native.Mathlib.Nat.{zero-add}
use native.Mathlib.Numerals.{add-one}
use native.Mathlib.Omega.{arith}
use lib.ListN.{length, get_or, take, drop, length-append, take-append-drop}
use lib.Seq.{take-suc, take-append_seam}
use borrow.Author.Tests.{lt-ltb, le-ltb}
use Rattle.lists.specs.Buffers.{lay}
use Rattle.rows.specs.declared.Row.{Row}
use Rattle.rows.specs.Rows.{in_use, no_row}
use Rattle.listing.specs.Text.{decimal}
use Rattle.listing.specs.Listing.{header, row_line, row_lines, end_line, listing, refusal_line, lent}
use Rattle.listing.proofs.Digits.{hex_long, decimal_short, ticket_digits}
use Rattle.listing.specs.declared.text.Text.{Text}
use Rattle.listing.specs.Puts.{Puts}

-- ---- how long the lines are

pub header_long : length header ≡ 21
unfolding header
header_long = refl

-- what is fixed, and the digits of the ticket
pub row_long : (r : Row) → length (row_line r) ≡ 21 + length (decimal 10 r.ticket)
unfolding row_line
row_long r = simp (length-append, hex_long) (omega arith)

-- the same with the ticket as the code puts it, as a number of 64 bits
pub row_digits : (r : Row) → r.ticket < 4294967296 → length (row_line r) ≡ 21 + length (decimal 20 r.ticket)
row_digits r h = rw (ticket_digits r.ticket h) (row_long r)

pub row_short : (r : Row) → length (row_line r) ≤ 31
row_short r = omega (arith, row_long r, decimal_short 10 r.ticket)

pub rows_short : (rows : List Row) → length (row_lines rows) ≤ 31 * length rows
unfolding row_lines
rows_short [] = omega arith
rows_short (r ∷ rs) = go (in_use r) (rows_short rs)
  where
    go : (b : Bool) → length (row_lines rs) ≤ 31 * length rs → length (cond b (row_line r) [] ++ row_lines rs) ≤ 31 * length (r ∷ rs)
    go true ih = rw length-append (omega (arith, row_short r))
    go false ih = omega arith

pub end_long : (e r c : ℕ) → length (end_line e r c) ≡ 21 + length (decimal 20 e) + length (decimal 20 r) + length (decimal 20 c)
unfolding end_line
end_long e r c = simp length-append (omega arith)

pub end_short : (e r c : ℕ) → length (end_line e r c) ≤ 81
end_short e r c = omega (arith, end_long e r c, decimal_short 20 e, decimal_short 20 r, decimal_short 20 c)

refusal_long : (n : ℕ) → length (refusal_line n) ≡ 9 + length (decimal 20 n)
unfolding refusal_line
refusal_long n = simp length-append (omega arith)

pub refusal_short : (n : ℕ) → length (refusal_line n) ≤ 29
refusal_short n = omega (arith, refusal_long n, decimal_short 20 n)

-- a listing of 32 places fits in 1,100 bytes
pub fits : (rows : List Row) (e r c : ℕ) → length rows ≤ 32 → length (listing rows e r c) ≤ 1100
unfolding listing
fits rows e r c h = simp length-append (omega (arith, header_long, rows_short rows, end_short e r c))

-- every listing opens with the header
pub opens : (rows : List Row) (e r c : ℕ) → take (length header) (listing rows e r c) ≡ header
unfolding listing
opens rows e r c = take-append_seam header _

-- ---- the lines of the rows

-- the line of a place
abbrev place_line : Row → List ℕ
place_line r = cond (in_use r) (row_line r) []

-- the lines of two lists of places
lines_append : (xs ys : List Row) → row_lines (xs ++ ys) ≡ row_lines xs ++ row_lines ys
unfolding row_lines
lines_append [] ys = refl
lines_append (r ∷ rs) ys = rw (lines_append rs ys) (sym (append_assoc (place_line r) (row_lines rs) (row_lines ys)))

-- the line of a place behind those of the places before it
pub lines_more : (rows : List Row) (i : ℕ) → i < length rows → row_lines (take (i + 1) rows) ≡ row_lines (take i rows) ++ place_line (get_or rows i no_row)
unfolding row_lines
lines_more rows i h = rw (add-one, take-suc rows i no_row h, lines_append) (rw append-nil)

-- and all of them fit where those of all rows do
pub lines_within : (rows : List Row) (i : ℕ) → i < length rows
    → length (row_lines (take i rows)) + length (place_line (get_or rows i no_row)) ≤ length (row_lines rows)
lines_within rows i h =
    let split : row_lines rows ≡ row_lines (take (i + 1) rows) ++ row_lines (drop (i + 1) rows) = ap row_lines (sym (take-append-drop (i + 1) rows)) ∙ lines_append (take (i + 1) rows) (drop (i + 1) rows) in
    omega (arith, ap length split, length-append (row_lines (take (i + 1) rows)) (row_lines (drop (i + 1) rows)), ap length (lines_more rows i h), length-append (row_lines (take i rows)) (place_line (get_or rows i no_row)))

-- ---- whether enough is lent

module _ (before written : List ℕ) where
  pub lent_few : length before < 1100 → (0 ≡ length (lent (length before) written)) × (before ≡ lay (lent (length before) written) before)
  lent_few h = rw (lt-ltb (length before) 1100 h) (refl, refl)

  pub lent_enough : {from to : Text} → 1100 ≤ length before → from.at ≡ 0 → from.out.now ≡ before → Puts from to written
      → length written ≤ 1100 → (to.at ≡ length (lent (length before) written)) × (to.out.now ≡ lay (lent (length before) written) before)
  lent_enough h z b p f = rw (le-ltb (length before) 1100 h) (p.place ∙ rw (z, zero-add), p.laid ∙ rw (z, b))
