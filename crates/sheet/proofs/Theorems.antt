-- What holds of every sheet run: of one that is not refused, and of a refused one.
use Prim.Native.Nat.{ℕ, ◌≤◌}
use mathlib.Core.Path.{◌≡◌, refl, sym, ap, ◌∙◌}
use mathlib.Core.Bool.{Bool, true, false, not, ◌&&◌, ◌||◌}
use mathlib.Core.List.{List, []}
use native.Mathlib.Omega.{arith}
use lib.Dec.{eqb, ltb}
use lib.ListN.{length, take}
use borrow.Author.Tests.{ltb-false, le-ltb, eqb-true, ne_eqb, not-false}
use Rattle.lists.specs.Bits.{are_bytes}
use Rattle.lists.specs.Lists.{pairwise}
use Rattle.lists.proofs.Bools.{both, cond_by, not-refused}
use Rattle.lists.proofs.Keeps.{pairwise_mono}
use Rattle.slots.specs.Slots.{facts_right, checked}
use Rattle.rows.specs.declared.Row.{Row}
use Rattle.rows.specs.Rows.{in_use}
use Rattle.free.specs.Free.{full}
use Rattle.table.specs.Sound.{row_right, distinct, in_order}
use Rattle.begins.specs.Begins.{assign_refusal}
use Rattle.machine.specs.Calls.{started}
use Rattle.life.proofs.Sound.{right_says, start_right}
use Rattle.life.proofs.Table.{Sound, sound-says}
use Rattle.bench.specs.Play.{clocks_in, rounds_in}
use Rattle.bench.specs.Wire.{on_wire}
use Rattle.bench.proofs.Ends.{plain_ends_right}
use Rattle.bench.proofs.Same.{wire_plain}
use Rattle.listing.specs.Listing.{header}
use Rattle.listing.proofs.Lines as lines
use Rattle.sheet.specs.Sheet.{sheet_right, facts_in, boards_in, flips_in}
use Rattle.sheet.specs.Runs.{sheet_refusal, machine_for, run_of, listing_of, sheet_text, sheet_ran}
use Rattle.sheet.proofs.Wide.{boards_wide}

-- ---- rows

-- of two that are in use, the first has the lower address
abbrev pub by_address : Row → Row → Bool
by_address a b = not (in_use a && in_use b) || ltb a.address b.address

-- as in a sound table
order_address : (a b : Row) → in_order a b ≡ true → by_address a b ≡ true
order_address a b h = go (in_use a) (in_use b) (ltb a.address b.address) (distinct a b) h
  where
    go : (used after lower apart : Bool) → (not after || (used && lower && apart)) ≡ true → (not (used && after) || lower) ≡ true
    go true true lower apart h = (both lower apart h).0
    go true false lower apart h = refl
    go false after lower apart h = refl

-- ---- a run that is not refused

-- what it was lent and given
record Allowed (sheet : List ℕ) (room : ℕ) : Type 0 where
  enough : 1100 ≤ room
  right : sheet_right sheet ≡ true
  begins : assign_refusal (machine_for sheet).table.facts (machine_for sheet).table.rows ≡ 0

module _ (sheet : List ℕ) (room : ℕ) (taken : sheet_refusal sheet room ≡ 0) where
  allowed : Allowed sheet room
  unfolding sheet_refusal assign_refusal started checked full
  allowed =
      let t = simp not-refused at taken in
      let facts = not-false (facts_right (facts_in sheet)) t.1.1.0 in
      record {
        enough = ltb-false room 1100 t.0;
        right = not-false (sheet_right sheet) t.1.0;
        begins = rw (facts, t.1.1.1.1.1.0, t.1.1.1.1.1.1.0);
      }

  -- its table is sound at its end
  table_sound : Sound (run_of sheet).machine.table.facts (run_of sheet).machine.table.rows
  unfolding run_of
  table_sound =
      let right = plain_ends_right (machine_for sheet) (boards_in sheet) (flips_in sheet) (start_right (facts_in sheet)) allowed.begins in
      sound-says (right_says (run_of sheet).machine right).0

  -- its listing is written
  written : sheet_text sheet room ≡ listing_of (run_of sheet)
  unfolding sheet_text
  written = rw taken

  -- which opens with the header
  pub opens : take (length header) (sheet_text sheet room) ≡ header
  opens =
      let p = run_of sheet in
      ap (take (length header)) written ∙ lines.opens p.machine.table.rows p.ending (rounds_in p.cells) (clocks_in p.cells)

  -- with 1,100 bytes it is not refused either
  taken_so : sheet_refusal sheet 1100 ≡ 0
  unfolding sheet_refusal
  taken_so = rw (le-ltb room 1100 allowed.enough) at taken

  -- so what is written does not depend on the room
  pub room_enough : sheet_text sheet room ≡ sheet_text sheet 1100
  unfolding sheet_text
  room_enough = written ∙ rw taken_so

  -- its rows stand by address
  pub by_address_lem : pairwise by_address (run_of sheet).machine.table.rows ≡ true
  by_address_lem =
      let m = (run_of sheet).machine in
      pairwise_mono in_order by_address (row_right m.table.facts) (λ a b _ _ h. order_address a b h) m.table.rows table_sound.each table_sound.order

  -- of a sheet of bytes it is the run that the wire plays, bit by bit
  pub on_wire_lem : are_bytes sheet ≡ true → run_of sheet ≡ on_wire 1024 (machine_for sheet) (boards_in sheet) (flips_in sheet)
  unfolding run_of started
  on_wire_lem bytes =
      sym (wire_plain 1024 (machine_for sheet) (boards_in sheet) (flips_in sheet) (omega arith) (start_right (facts_in sheet)) refl allowed.begins
      (boards_wide sheet bytes allowed.right))

-- ---- any run

-- a listing is at most 1,100 bytes
pub at_most : (sheet : List ℕ) (room : ℕ) → length (sheet_text sheet room) ≤ 1100
unfolding sheet_text
at_most sheet room =
    let p = run_of sheet in
    cond_by (λ (l : List ℕ). length l ≤ 1100) (eqb (sheet_refusal sheet room) 0)
    (λ e.
    let long = (table_sound sheet room (eqb-true (sheet_refusal sheet room) 0 e)).long in
    lines.fits p.machine.table.rows p.ending (rounds_in p.cells) (clocks_in p.cells) (omega (arith, long)))
    (λ _. omega arith)

-- a refused run writes nothing, and hands back its refusal and no length
pub refused_nothing : (sheet : List ℕ) (room : ℕ) → (sheet_refusal sheet room ≡ 0 → ⊥)
    → (sheet_text sheet room ≡ []) × (sheet_ran sheet room ≡ record { length = 0; refusal = sheet_refusal sheet room })
unfolding sheet_ran sheet_text
refused_nothing sheet room n = rw (ne_eqb (sheet_refusal sheet room) 0 n) (refl, refl)
