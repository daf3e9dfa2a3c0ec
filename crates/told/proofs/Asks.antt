-- What a machine that keeps the rules may ask for: addresses of seven bits, and an assign only where there can be a round.
use Prim.Native.Nat.{ℕ, ◌≤◌}
use mathlib.Core.Path.{◌≡◌, refl, ◌∙◌}
use mathlib.Core.Bool.{Bool, true, false, and-eq-true_iff}
use mathlib.Core.List.{List}
use native.Mathlib.Omega.{arith}
use lib.Dec.{eqb}
use borrow.Author.Tests.{leb-true, eqb-true}
use Rattle.lists.proofs.Bools.{both, here}
use Rattle.lists.proofs.Keeps.{all_at, found_passes, find_lt}
use Rattle.slots.specs.declared.Facts.{Facts}
use Rattle.slots.proofs.Laws.{open_small}
use Rattle.rows.specs.Rows.{no_row, in_use, has_address, holds_address, place_of_address, row_at}
use Rattle.rows.specs.declared.Row.{Row}
use Rattle.free.specs.Free.{is_free, can_assign}
use Rattle.table.specs.Sound.{all_zero, row_right, used_right, sound}
use Rattle.begins.specs.Begins.{can_set, can_move, no_addresses, asked_right}
use Rattle.machine.specs.Moments.{goes_direct}
use Rattle.life.proofs.Table.{sound-says, free_says}

module _ (f : Facts) (rows : List Row) where
  -- an address that a row of a sound table holds has seven bits, as it is open
  held_small : (a : ℕ) → sound f rows ≡ true → holds_address a rows ≡ true → a ≤ 127
  held_small a h held =
      let place = place_of_address a rows in
      let row = row_at rows place in
      let inside = find_lt (has_address a) rows held in
      let t = both (in_use row) (eqb row.address a) (found_passes (has_address a) rows no_row inside) in
      let right : used_right f row ≡ true = here (all_zero row) t.0 refl ∙ all_at (row_right f) rows place no_row (sound-says h).each inside in
      let u = simp and-eq-true_iff at right in
      let same : row.address ≡ a = eqb-true row.address a t.1 in
      rw same at (open_small f row.address u.0.0.0)

  module _ (asked wanted : ℕ) where
    -- a set or a move is between addresses of seven bits
    pub addresses_small : (choice : ℕ) → sound f rows ≡ true → goes_direct choice ≡ true → asked_right f rows choice asked wanted ≡ true
        → (asked ≤ 127) × (wanted ≤ 127)
    unfolding asked_right can_set can_move
    addresses_small choice h direct right = go (eqb choice 2) refl
      where
        go : (b : Bool) → eqb choice 2 ≡ b → (asked ≤ 127) × (wanted ≤ 127)
        go true e =
            let two : choice ≡ 2 = eqb-true choice 2 e in
            let t = simp and-eq-true_iff at (rw two at right) in
            (omega (arith, leb-true asked 0x77 t.0.0.0.0.0.1), open_small f wanted (free_says f rows wanted t.0.0.1).opens)
        go false e =
            let three : choice ≡ 3 = eqb-true choice 3 (rw e at direct) in
            let t = both (holds_address asked rows) (is_free f rows wanted) (rw three at right) in
            (held_small asked h t.0, open_small f wanted (free_says f rows wanted t.1).opens)

    -- an assign can be made
    pub assign_can : asked_right f rows 0 asked wanted ≡ true → can_assign f rows ≡ true
    unfolding asked_right
    assign_can right = (both (no_addresses asked wanted) (can_assign f rows) right).1

    -- it, and whatever is no set or move, asks no address
    pub nothing_asked_lem : (choice : ℕ) → eqb choice 2 ≡ false → eqb choice 3 ≡ false → asked_right f rows choice asked wanted ≡ true → asked ≡ 0
    unfolding asked_right
    nothing_asked_lem choice two three right = go (eqb choice 0) refl
      where
        go : (b : Bool) → eqb choice 0 ≡ b → asked ≡ 0
        go true e = let t = simp and-eq-true_iff at (rw e at right) in eqb-true asked 0 t.0.0
        go false e = let t = simp and-eq-true_iff at (rw (e, two, three) at right) in eqb-true asked 0 t.0.0
