-- What a Begin or a Join that was not refused remembers is what the rows allow.
use Prim.Native.Nat.{ℕ}
use mathlib.Core.Path.{◌≡◌, refl, ap}
use mathlib.Core.Bool.{Bool, true, false, cond, not, ◌&&◌}
use mathlib.Core.List.{List}
use native.Mathlib.Omega.{arith}
use lib.Dec.{eqb, ltb}
use borrow.Author.Tests.{eqb-true, eqb-false, ltb-false, le-leb, eq-eqb, not-false}
use Rattle.lists.specs.Numbers.{within}
use Rattle.lists.proofs.Bools.{both, and, neither, not-refused}
use Rattle.lists.proofs.Keeps.{found_passes, find_lt, any_at}
use Rattle.slots.specs.Slots.{is_open}
use Rattle.slots.specs.declared.Facts.{Facts}
use Rattle.rows.specs.Rows.{no_row, in_use, has_address, has_ticket, holds_address, holds_ticket, holds_static, place_of_ticket, row_at}
use Rattle.rows.specs.declared.Row.{Row}
use Rattle.free.specs.Free.{is_free, can_assign}
use Rattle.table.specs.Tickets.{ticket_unknown}
use Rattle.begins.specs.Begins.{assign_refusal, set_refusal, move_refusal, choice_refusal, joining_refusal, can_set, can_move, asked_right}
use Rattle.machine.specs.Steps.{address_of, address_asked, address_wanted}

module _ (f : Facts) (rows : List Row) where
  -- ---- each choice that asks something

  -- an assign that is not refused can be made
  assign_allowed : assign_refusal f rows ≡ 0 → can_assign f rows ≡ true
  unfolding assign_refusal can_assign
  assign_allowed h = let t = simp not-refused at h in rw (t.0, t.1.0, t.1.1.0)

  -- so can a set
  set_allowed : (static new : ℕ) → set_refusal f rows static new ≡ 0 → can_set f rows static new ≡ true
  unfolding set_refusal can_set is_free
  set_allowed static new h =
      let t = simp (not-refused, neither) at h in
      let allowed = and (not-false (within 0x08 0x77 static) t.0.1) (ap not t.1.0.1) in
      let free = and (not-false (is_open f new) t.1.0.0) (ap not t.1.1.0.0) in
      let apart = (neither (holds_static static rows) (holds_address static rows)).1 t.1.1.0.1 in
      and (and (and (and allowed (ap not apart)) free) (ap not t.1.1.1.0)) (ap not t.1.1.1.1.0)

  -- a ticket that a row holds leads to an address that a row holds
  address_held : (ticket : ℕ) → holds_ticket ticket rows ≡ true → holds_address (address_of rows ticket) rows ≡ true
  address_held ticket h =
      let place = place_of_ticket ticket rows in
      let row = row_at rows place in
      let inside = find_lt (has_ticket ticket) rows h in
      let has = both (in_use row) (eqb row.ticket ticket) (found_passes (has_ticket ticket) rows no_row inside) in
      any_at (has_address row.address) rows place no_row inside (and has.0 (eq-eqb row.address row.address refl))

  -- and a move, from the address of the ticket's row
  move_allowed : (ticket new : ℕ) → move_refusal f rows ticket new ≡ 0 → can_move f rows (address_of rows ticket) new ≡ true
  unfolding move_refusal can_move is_free
  move_allowed ticket new h =
      let t = simp not-refused at h in
      let held = known (ticket_unknown f ticket) (holds_ticket ticket rows) t.1.0 t.1.1.0 in
      and (address_held ticket held) (and (not-false (is_open f new) t.1.1.1.0) (ap not t.1.1.1.1.0))
    where
      known : (u k : Bool) → u ≡ false → (not u && not k) ≡ false → k ≡ true
      known u k e r = not-false k (rw e at r)

  -- ---- Begin and Join

  -- what a Begin that is not refused asks is allowed
  pub begin_asks_right : (choice static new ticket : ℕ) → choice_refusal f rows choice static new ticket ≡ 0
      → asked_right f rows choice (address_asked rows choice static ticket) (address_wanted choice new) ≡ true
  unfolding choice_refusal asked_right
  begin_asks_right choice static new ticket h = go (eqb choice 0) refl (eqb choice 2) refl (eqb choice 3) refl
    where
      go : (a : Bool) → eqb choice 0 ≡ a → (b : Bool) → eqb choice 2 ≡ b → (c : Bool) → eqb choice 3 ≡ c
          → asked_right f rows choice (address_asked rows choice static ticket) (address_wanted choice new) ≡ true
      go true i b j c k = let z : choice ≡ 0 = eqb-true choice 0 i in rw z (assign_allowed (rw z at h))
      go false i true j c k = let z : choice ≡ 2 = eqb-true choice 2 j in rw z (set_allowed static new (rw z at h))
      go false i false j true k = let z : choice ≡ 3 = eqb-true choice 3 k in rw z (move_allowed ticket new (rw z at h))
      go false i false j false k = rw (i, j, k) (le-leb choice 5 (ltb-false 5 choice ((not-refused (ltb 5 choice) 12 _ refl).0 h).0))

  -- and what a Join asks, other than the one that asks nothing
  pub join_asks_right : (choice : ℕ) → joining_refusal f rows choice ≡ 0 → eqb choice 0 ≡ false → asked_right f rows (cond (eqb choice 1) 4 0) 0 0 ≡ true
  unfolding joining_refusal asked_right
  join_asks_right choice h n = go (eqb choice 1) refl
    where
      go : (a : Bool) → eqb choice 1 ≡ a → asked_right f rows (cond a 4 0) 0 0 ≡ true
      go true i = refl
      go false i =
          let few = ltb-false 2 choice ((not-refused (ltb 2 choice) 12 _ refl).0 h).0 in
          let z : choice ≡ 2 = omega (arith, eqb-false choice 0 n, eqb-false choice 1 i) in
          assign_allowed (rw z at h)
