-- The rules that facts and rows must keep.
use Rattle.std.specs.Prelude.{ℕ, Bool, cond, not, ◌&&◌, ◌||◌, List, eqb, ltb, length}
use Rattle.lists.specs.Lists.{all, pairwise}
use Rattle.lists.specs.Numbers.{within}
use Rattle.slots.specs.Slots.{is_legacy, is_open, facts_right}
use Rattle.slots.specs.declared.Facts.{Facts}
use Rattle.rows.specs.Rows.{in_use}
use Rattle.rows.specs.declared.Row.{Row}

-- ---- a row by itself

-- a static address that a row may be set from: 08h to 77h, of whatever class, and not legacy
abbrev pub static_allowed : Facts → ℕ → Bool
static_allowed f s = within 0x08 0x77 s && not (is_legacy f.legacy s)

-- an unused place is all zero (its address is 0 already)
abbrev pub all_zero : Row → Bool
all_zero r = eqb r.ticket 0 && not r.unknown && eqb r.identity 0 && eqb r.from_static 0

-- a row has an open address, a ticket from 1 to the last, an identity or the mark with number 0, and a static address that it may be set from, or 0
abbrev pub used_right : Facts → Row → Bool
used_right f r =
    is_open f r.address && within 1 f.last r.ticket && (not r.unknown || eqb r.identity 0)
    && (eqb r.from_static 0 || static_allowed f r.from_static)

abbrev pub row_right : Facts → Row → Bool
row_right f r = cond (in_use r) (used_right f r) (all_zero r)

-- ---- a row and another

-- tickets, known identities and static addresses other than 0 are distinct
abbrev pub distinct : Row → Row → Bool
distinct x y =
    not (eqb x.ticket y.ticket) && (x.unknown || y.unknown || not (eqb x.identity y.identity))
    && (eqb x.from_static 0 || not (eqb x.from_static y.from_static))

-- y may stand behind x: y is unused, or both are rows, x's address is lower (so theirs are distinct), and what else has to be distinct is.
-- So the rows are in order of address, and no row stands behind an unused place
abbrev pub in_order : Row → Row → Bool
in_order x y = not (in_use y) || (in_use x && ltb x.address y.address && distinct x y)

-- ---- the table

-- facts and rows keep the rules: the facts are right, there are 32 places, each is right by itself, and any two are in order
unfoldable pub sound : Facts → List Row → Bool
sound f rows = facts_right f && eqb (length rows) 32 && all (row_right f) rows && pairwise in_order rows
