-- Each change of the rows keeps a table sound.
use Prim.Native.Nat.{ℕ, ◌+◌, ◌≤◌, ◌<◌}
use mathlib.Core.Path.{◌≡◌, refl, sym, ap, ◌∙◌}
use mathlib.Core.Bool.{Bool, true, false, cond, not, ◌&&◌, ◌||◌, and-eq-true_iff, or_comm, or-true, true≢false}
use mathlib.Core.List.{List}
use native.Mathlib.Omega.{arith}
use lib.Dec.{eqb, ltb, leb}
use lib.ListN.{length, replicate, length-take, length-set}
use borrow.Author.Tests.{ltb-true, ltb-false, leb-true, eqb-true, eqb-false, lt-ltb, le-leb, eq-eqb, ne_eqb, not-true, not-false}
use Rattle.lists.specs.Lists.{all, pairwise, insert_by, remove_at}
use Rattle.lists.specs.Numbers.{within}
use Rattle.lists.proofs.Bools.{both, and, cond_by, or_right, neither, not_both, where_so, so_there, eqb_sym, here}
use Rattle.lists.proofs.Keeps.{all_mono, all_take, all_at, all_both, found_passes, find_lt, none_any, all_insert, all_set, all_remove, pairwise_take, pairwise_insert, pairwise-set, pairwise_remove, pairwise_others}
use Rattle.lists.proofs.Edits.{length_insert, length_remove, remove_none}
use Rattle.lists.proofs.Numbers.{first_passes}
use Rattle.slots.specs.Slots.{facts_right, is_open}
use Rattle.slots.specs.declared.Facts.{Facts}
use Rattle.rows.specs.Rows.{no_row, in_use, has_address, has_identity, has_static, holds_address, holds_identity, holds_static, place_of_address, place_of_identity, row_at}
use Rattle.rows.specs.declared.Row.{Row}
use Rattle.changes.specs.Changes.{comes_behind, with_row, without, renewed_row, renewed, moved_row, moved}
use Rattle.free.specs.Free.{is_free, lowest_free, address_for, no_free_address, no_ticket_left, can_assign}
use Rattle.free.proofs.Laws.{zero_not_free, lowest_none}
use Rattle.table.specs.Tickets.{new_ticket, ticketed}
use Rattle.table.specs.Sound.{static_allowed, used_right, all_zero, row_right, distinct, in_order, sound}
use Rattle.begins.specs.Begins.{static_held, can_set, can_move}
use Rattle.machine.specs.Steps.{assigned_row, set_row, accepted_rows}

-- ---- soundness taken apart and put together

-- what a sound table is
pub record Sound (f : Facts) (rows : List Row) : Type 0 where
  pub facts : facts_right f ≡ true
  pub long : length rows ≡ 32
  pub each : all (row_right f) rows ≡ true
  pub order : pairwise in_order rows ≡ true

-- the test says it
pub sound-says : {f : Facts} {rows : List Row} → sound f rows ≡ true → Sound f rows
unfolding sound
sound-says {rows = rows} h =
    let t = simp and-eq-true_iff at h in
    record { facts = t.0.0.0; long = eqb-true (length rows) 32 t.0.0.1; each = t.0.1; order = t.1 }

-- and passes by it
sound_by : {f : Facts} {rows : List Row} → Sound f rows → sound f rows ≡ true
unfolding sound
sound_by {rows = rows} s = and (and (and s.facts (eq-eqb (length rows) 32 s.long)) s.each) s.order

-- a right row in use is right as such
used_right_lem : (f : Facts) (y : Row) → row_right f y ≡ true → in_use y ≡ true → used_right f y ≡ true
used_right_lem f y h u = here (all_zero y) u refl ∙ h

-- and the other way round
right_by : (f : Facts) (y : Row) → in_use y ≡ true → used_right f y ≡ true → row_right f y ≡ true
right_by f y u h = sym (here (all_zero y) u (sym h))

-- a row in use stands behind one in use, of a lower address, from which it is distinct
order_says : (x y : Row) → in_order x y ≡ true → in_use y ≡ true → (in_use x ≡ true) × (ltb x.address y.address ≡ true) × (distinct x y ≡ true)
order_says x y h u =
    let t = both (in_use x && ltb x.address y.address) (distinct x y) (so_there (in_use y) h u) in
    let s = both (in_use x) (ltb x.address y.address) t.0 in
    (s.0, s.1, t.1)

-- static addresses that are distinct, or 0, are so the other way round
static_sym : (s t : ℕ) → (eqb s 0 || not (eqb s t)) ≡ true → (eqb t 0 || not (eqb t s)) ≡ true
static_sym s t h = go (eqb t s) refl
  where
    go : (b : Bool) → eqb t s ≡ b → (eqb t 0 || not b) ≡ true
    go true e = let same : t ≡ s = eqb-true t s e in rw (eqb_sym s t, e, ← same) at h
    go false e = or-true (eqb t 0)

-- so are distinct rows
distinct_sym : (x y : Row) → distinct x y ≡ true → distinct y x ≡ true
distinct_sym x y h =
    let t = simp and-eq-true_iff at h in
    rw (eqb_sym y.ticket x.ticket, or_comm y.unknown x.unknown, eqb_sym y.identity x.identity)
    (simp and-eq-true_iff (t.0, static_sym x.from_static y.from_static t.1))

-- ---- no rows, and one row less

-- a table without rows
pub empty_sound : (f : Facts) → facts_right f ≡ true → sound f (replicate 32 no_row) ≡ true
empty_sound f h = sound_by record { facts = h; long = refl; each = refl; order = refl }

-- a row removed, from whatever place
pub removed_sound : (f : Facts) (rows : List Row) (place : ℕ) → sound f rows ≡ true → sound f (without place rows) ≡ true
unfolding without
removed_sound f rows place h = go (ltb place 32) refl
  where
    s : Sound f rows
    s = sound-says h

    go : (b : Bool) → ltb place 32 ≡ b → sound f (remove_at place no_row rows) ≡ true
    go true e = sound_by record {
      facts = s.facts;
      long = length_remove place no_row rows (omega (arith, s.long, ltb-true place 32 e)) ∙ s.long;
      each = all_remove (row_right f) no_row refl rows place s.each;
      order = pairwise_remove in_order no_row rows place (all_mono (row_right f) (λ y. in_order y no_row) (λ y k. refl) rows s.each) s.order;
    }
    go false e = rw (remove_none place no_row rows (omega (arith, s.long, ltb-false place 32 e))) h

-- ---- one row more

-- a place leaves room for the row r: it is unused, or has another address and is distinct from r
abbrev pub leaves_room : Row → Row → Bool
leaves_room r y = not (in_use y) || (not (eqb y.address r.address) && distinct r y)

module _ (r : Row) where
  -- such a place may stand behind r if it is unused or its address is higher
  stands_behind : in_use r ≡ true → (y : Row) → leaves_room r y ≡ true → comes_behind r.address y ≡ true → in_order r y ≡ true
  stands_behind used y h q =
      where_so (in_use y)
      (λ u. let t = simp and-eq-true_iff at (so_there (in_use y) h u) in simp and-eq-true_iff ((used, so_there (in_use y) q u), t.1))

  -- and before r if not
  stands_before : (y : Row) → leaves_room r y ≡ true → comes_behind r.address y ≡ false → in_order y r ≡ true
  stands_before y h q =
      let n = (neither (not (in_use y)) (ltb r.address y.address)).0 q in
      let u : in_use y ≡ true = not-false (in_use y) n.0 in
      let t = both (not (eqb y.address r.address)) (distinct r y) (so_there (in_use y) h u) in
      let other : y.address ≡ r.address → ⊥ = eqb-false y.address r.address (not-true (eqb y.address r.address) t.0) in
      let low : y.address < r.address = omega (arith, other, ltb-false r.address y.address n.1) in
      where_so (in_use r) (λ k. and (and u (lt-ltb y.address r.address low)) (distinct_sym r y t.1))

-- behind a place that comes behind an address come only such
behind_on : (a : ℕ) (y z : Row) → comes_behind a y ≡ true → in_order y z ≡ true → comes_behind a z ≡ true
behind_on a y z q r =
    where_so (in_use z)
    (λ u.
    let t = order_says y z r u in
    lt-ltb a z.address (omega (arith, ltb-true a y.address (so_there (in_use y) q t.0), ltb-true y.address z.address t.1)))

-- a row that is right by itself, put in where every place leaves room for it
pub insert_sound : (f : Facts) (r : Row) (rows : List Row) → sound f rows ≡ true → in_use r ≡ true → row_right f r ≡ true → all (leaves_room r) rows ≡ true
    → sound f (with_row r rows) ≡ true
unfolding with_row
insert_sound f r rows h used right room =
    let s = sound-says h in
    let behind = comes_behind r.address in
    let more = insert_by behind r rows in
    sound_by record {
      facts = s.facts;
      long = rw (length-take 32 more, length_insert behind r rows, s.long);
      each = all_take (row_right f) 32 more (all_insert (row_right f) behind r right rows s.each);
      order = pairwise_take in_order 32 more
          (pairwise_insert in_order behind r (leaves_room r) (stands_behind r used) (stands_before r) (behind_on r.address) rows room s.order);
    }

-- ---- a ticket given

-- a row that is right stays so
right_later : (f : Facts) (y : Row) → row_right f y ≡ true → row_right (ticketed f) y ≡ true
unfolding is_open
right_later f y h = go (in_use y) h
  where
    go : (b : Bool) → cond b (used_right f y) (all_zero y) ≡ true → cond b (used_right (ticketed f) y) (all_zero y) ≡ true
    go true k =
        let t = simp and-eq-true_iff at k in
        let fits : leb y.ticket (new_ticket f) ≡ true = le-leb y.ticket (new_ticket f) (omega (arith, leb-true y.ticket f.last t.0.0.1.1)) in
        simp and-eq-true_iff (((t.0.0.0, (t.0.0.1.0, fits)), t.0.1), t.1)
    go false k = k

-- and so does a table, as long as there was one left to give
later_sound : (f : Facts) (rows : List Row) → sound f rows ≡ true → no_ticket_left f ≡ false → sound (ticketed f) rows ≡ true
unfolding facts_right
later_sound f rows h left =
    let s = sound-says h in
    let t = simp and-eq-true_iff at s.facts in
    let more : f.last + 1 ≤ 4294967295 = omega (arith, leb-true f.last 4294967295 t.1, eqb-false f.last 4294967295 left) in
    sound_by record {
      facts = simp and-eq-true_iff (t.0, le-leb (new_ticket f) 4294967295 more);
      long = s.long;
      each = all_mono (row_right f) (row_right (ticketed f)) (right_later f) rows s.each;
      order = s.order;
    }

-- a new ticket is then one of those given
new_given : (f : Facts) → within 1 (new_ticket f) (new_ticket f) ≡ true
new_given f = and (le-leb 1 (new_ticket f) (omega arith)) (le-leb (new_ticket f) (new_ticket f) (omega arith))

-- and before, no row's
new_fresh : (f : Facts) (y : Row) → row_right f y ≡ true → in_use y ≡ true → not (eqb (new_ticket f) y.ticket) ≡ true
new_fresh f y h u =
    let t = simp and-eq-true_iff at (used_right_lem f y h u) in
    let old : y.ticket ≤ f.last = leb-true y.ticket f.last t.0.0.1.1 in
    ap not (ne_eqb (new_ticket f) y.ticket (λ (e : f.last + 1 ≡ y.ticket). omega arith))

-- ---- a free address

-- it is open, not 0, and no row's
pub record Free (f : Facts) (rows : List Row) (a : ℕ) : Type 0 where
  pub opens : is_open f a ≡ true
  pub real : not (eqb a 0) ≡ true
  pub elsewhere : all (λ y. not (has_address a y)) rows ≡ true

-- the test says it
pub free_says : (f : Facts) (rows : List Row) (a : ℕ) → is_free f rows a ≡ true → Free f rows a
unfolding is_free
free_says f rows a h =
    let t = both (is_open f a) (not (holds_address a rows)) h in
    record {
      opens = t.0;
      real = ap not (ne_eqb a 0 (λ (e : a ≡ 0). true≢false (sym (rw e at h) ∙ zero_not_free f rows)));
      elsewhere = none_any (has_address a) rows (not-true (holds_address a rows) t.1);
    }

-- if there is any, the lowest is one
pub lowest_free_lem : (f : Facts) (rows : List Row) → no_free_address f rows ≡ false → is_free f rows (lowest_free f rows) ≡ true
unfolding lowest_free
lowest_free_lem f rows h = first_passes (is_free f rows) 0x00 128 (eqb-false (lowest_free f rows) 0 (lowest_none f rows ∙ h))

-- so what an identity is offered is open: its row's address, or that one
pub address_open : (f : Facts) (rows : List Row) (id : ℕ) → sound f rows ≡ true → can_assign f rows ≡ true → is_open f (address_for f rows id) ≡ true
unfolding address_for can_assign
address_open f rows id h can =
    let t = simp and-eq-true_iff at can in
    let place = place_of_identity id rows in
    cond_by (λ a. is_open f a ≡ true) (holds_identity id rows)
    (λ e.
    let inside = find_lt (has_identity id) rows e in
    let has = simp and-eq-true_iff at (found_passes (has_identity id) rows no_row inside) in
    let right = used_right_lem f (row_at rows place) (all_at (row_right f) rows place no_row (sound-says h).each inside) has.0.0 in
    let u = simp and-eq-true_iff at right in
    u.0.0.0)
    (λ e. (free_says f rows (lowest_free f rows) (lowest_free_lem f rows (not-true (no_free_address f rows) t.0.1))).opens)

-- ---- a new row

-- a row with a new ticket
abbrev new_row : Facts → ℕ → Bool → ℕ → ℕ → Row
new_row f a unknown id static = record { address = a; ticket = new_ticket f; unknown = unknown; identity = id; from_static = static }

-- a place is unused, or of another identity and set from another static address
abbrev unlike : Bool → ℕ → ℕ → Row → Bool
unlike unknown id static y =
    not (in_use y) || ((unknown || y.unknown || not (eqb id y.identity)) && (eqb static 0 || not (eqb static y.from_static)))

-- at a free address, unlike every other
new_sound : (f : Facts) (rows : List Row) (a : ℕ) (unknown : Bool) (id static : ℕ) → sound f rows ≡ true → no_ticket_left f ≡ false → is_free f rows a ≡ true
    → (not unknown || eqb id 0) ≡ true → (eqb static 0 || static_allowed f static) ≡ true → all (unlike unknown id static) rows ≡ true
    → sound (ticketed f) (with_row (new_row f a unknown id static) rows) ≡ true
unfolding is_open
new_sound f rows a unknown id static h left free known allowed others =
    let r = new_row f a unknown id static in
    let s = sound-says h in
    let p = free_says f rows a free in
    insert_sound (ticketed f) r rows (later_sound f rows h left) p.real
    (right_by (ticketed f) r p.real (and (and (and p.opens (new_given f)) known) allowed))
    (all_mono (λ y. row_right f y && not (has_address a y) && unlike unknown id static y) (leaves_room r) room rows
    (all_both (λ y. row_right f y && not (has_address a y)) (unlike unknown id static) rows
    (all_both (row_right f) (λ y. not (has_address a y)) rows s.each p.elsewhere) others))
  where
    room : (y : Row) → (row_right f y && not (has_address a y) && unlike unknown id static y) ≡ true → leaves_room (new_row f a unknown id static) y ≡ true
    room y k =
        let t = both (row_right f y && not (has_address a y)) (unlike unknown id static y) k in
        let q = both (row_right f y) (not (has_address a y)) t.0 in
        where_so (in_use y)
        (λ u.
        let w = simp and-eq-true_iff at (so_there (in_use y) t.1 u) in
        simp and-eq-true_iff (not_both (in_use y) (eqb y.address a) q.1 u, ((new_fresh f y q.0 u, w.0), w.1)))

-- for an identity that no row holds
pub assigned-sound : (f : Facts) (rows : List Row) (a id : ℕ) → sound f rows ≡ true → no_ticket_left f ≡ false → is_free f rows a ≡ true
    → holds_identity id rows ≡ false → sound (ticketed f) (with_row (assigned_row a (new_ticket f) id) rows) ≡ true
assigned-sound f rows a id h left free none =
    new_sound f rows a false id 0 h left free refl refl
    (all_mono (λ y. not (has_identity id y)) (unlike false id 0) other rows (none_any (has_identity id) rows none))
  where
    by_mark : (u v w : Bool) → not (u && not v && w) ≡ true → u ≡ true → (v || not w) ≡ true
    by_mark u true w k e = refl
    by_mark u false w k e = rw e at k

    other : (y : Row) → not (has_identity id y) ≡ true → unlike false id 0 y ≡ true
    other y k =
        where_so (in_use y)
        (λ u. simp and-eq-true_iff (rw (eqb_sym id y.identity) (by_mark (in_use y) y.unknown (eqb y.identity id) k u), refl))

-- for a static address that no row holds
pub set-sound : (f : Facts) (rows : List Row) (static new : ℕ) → sound f rows ≡ true → can_set f rows static new ≡ true
    → sound (ticketed f) (with_row (set_row new (new_ticket f) static) rows) ≡ true
unfolding can_set
set-sound f rows static new h can =
    let t = simp and-eq-true_iff at can in
    let none = (neither (holds_static static rows) (holds_address static rows)).0 (not-true (static_held rows static) t.0.0.0.1) in
    new_sound f rows new true 0 static h (not-true (no_ticket_left f) t.1) t.0.0.1 refl
    (or_right (eqb static 0) (simp and-eq-true_iff t.0.0.0.0))
    (all_mono (λ y. not (has_static static y)) (unlike true 0 static) other rows (none_any (has_static static) rows none.0))
  where
    other : (y : Row) → not (has_static static y) ≡ true → unlike true 0 static y ≡ true
    other y k =
        where_so (in_use y)
        (λ u. or_right (eqb static 0) (rw (eqb_sym static y.from_static) (not_both (in_use y) (eqb y.from_static static) k u)))

-- ---- a row renewed

module _ (f : Facts) (old : Row) where
  -- it is distinct from what the old one is distinct from
  renewed-distinct : (y : Row) → row_right f y ≡ true → in_use y ≡ true → distinct old y ≡ true → distinct (renewed_row (new_ticket f) old) y ≡ true
  renewed-distinct y h u d = let t = simp and-eq-true_iff at d in simp and-eq-true_iff ((new_fresh f y h u, t.0.1), refl)

  -- it may stand before what the old one stood before
  renewed_before : (y : Row) → row_right f y ≡ true → in_order old y ≡ true → in_order (renewed_row (new_ticket f) old) y ≡ true
  renewed_before y h k = where_so (in_use y) (λ u. let t = order_says old y k u in and (and t.0 t.1) (renewed-distinct y h u t.2))

  -- and behind what that stood behind
  renewed_behind : (y : Row) → row_right f y ≡ true → in_order y old ≡ true → in_order y (renewed_row (new_ticket f) old) ≡ true
  renewed_behind y h k =
      where_so (in_use old)
      (λ u.
      let t = order_says y old k u in
      and (and t.0 t.1) (distinct_sym (renewed_row (new_ticket f) old) y (renewed-distinct y h t.0 (distinct_sym y old t.2))))

  -- and is right by itself
  renewed_right : in_use old ≡ true → row_right f old ≡ true → row_right (ticketed f) (renewed_row (new_ticket f) old) ≡ true
  unfolding is_open
  renewed_right used h =
      let t = simp and-eq-true_iff at (used_right_lem f old h used) in
      let n = simp and-eq-true_iff at (new_given f) in
      right_by (ticketed f) (renewed_row (new_ticket f) old) used (simp and-eq-true_iff (((t.0.0.0, n), t.0.1), refl))

-- the row in use at a place
pub renewed-sound : (f : Facts) (rows : List Row) (place : ℕ) → sound f rows ≡ true → no_ticket_left f ≡ false → place < 32
    → in_use (row_at rows place) ≡ true → sound (ticketed f) (renewed place (new_ticket f) rows) ≡ true
unfolding renewed
renewed-sound f rows place h left b used =
    let s = sound-says h in
    let later = sound-says (later_sound f rows h left) in
    let old = row_at rows place in
    let new = renewed_row (new_ticket f) old in
    let inside : place < length rows = omega (arith, s.long) in
    sound_by record {
      facts = later.facts;
      long = length-set rows place new ∙ s.long;
      each = all_set (row_right (ticketed f)) new (renewed_right f old used (all_at (row_right f) rows place no_row s.each inside)) rows place later.each;
      order = pairwise-set in_order new old (row_right f) (renewed_before f old) (renewed_behind f old) rows place no_row refl inside s.each s.order;
    }

-- ---- an offer accepted

-- the row of a known identity renewed, or a new one at the lowest free address
pub accepted-sound : (f : Facts) (rows : List Row) (id : ℕ) → sound f rows ≡ true → can_assign f rows ≡ true
    → sound (ticketed f) (accepted_rows rows id (address_for f rows id) (new_ticket f)) ≡ true
unfolding accepted_rows address_for can_assign
accepted-sound f rows id h can =
    let t = simp and-eq-true_iff at can in
    go (not-true (no_free_address f rows) t.0.1) (not-true (no_ticket_left f) t.1) (holds_identity id rows) refl
  where
    go : no_free_address f rows ≡ false → no_ticket_left f ≡ false → (b : Bool) → holds_identity id rows ≡ b
        → sound (ticketed f)
        (cond b (renewed (place_of_identity id rows) (new_ticket f) rows)
        (with_row (assigned_row (cond b (row_at rows (place_of_identity id rows)).address (lowest_free f rows)) (new_ticket f) id) rows)) ≡ true
    go free left true e =
        let inside = find_lt (has_identity id) rows e in
        let has = simp and-eq-true_iff at (found_passes (has_identity id) rows no_row inside) in
        renewed-sound f rows (place_of_identity id rows) h left (omega (arith, (sound-says h).long)) has.0.0
    go free left false e = assigned-sound f rows (lowest_free f rows) id h left (lowest_free_lem f rows free) e

-- ---- a row moved

-- a place is unused, or distinct from the old row
abbrev apart : Row → Row → Bool
apart old y = not (in_use y) || distinct old y

module _ (old : Row) where
  -- as each is that stands behind it
  apart_behind : (y : Row) → in_order old y ≡ true → apart old y ≡ true
  apart_behind y k = where_so (in_use y) (λ u. (order_says old y k u).2)

  -- or before it
  apart_before : in_use old ≡ true → (y : Row) → in_order y old ≡ true → apart old y ≡ true
  apart_before used y k = where_so (in_use y) (λ u. distinct_sym y old (order_says y old k used).2)

  -- such a place leaves room for the row at another address, if that is not its own
  moved_room : (a : ℕ) (y : Row) → (apart old y && not (has_address a y)) ≡ true → leaves_room (moved_row a old) y ≡ true
  moved_room a y k =
      let t = both (apart old y) (not (has_address a y)) k in
      where_so (in_use y) (λ u. and (not_both (in_use y) (eqb y.address a) t.1 u) (so_there (in_use y) t.0 u))

  -- the row is right at an open address
  moved_right : (f : Facts) (a : ℕ) → not (eqb a 0) ≡ true → is_open f a ≡ true → used_right f old ≡ true → row_right f (moved_row a old) ≡ true
  moved_right f a real opens h =
      let t = simp and-eq-true_iff at h in right_by f (moved_row a old) real (simp and-eq-true_iff (((opens, t.0.0.1), t.0.1), t.1))

-- the row of the present address, to a free one
pub moved-sound : (f : Facts) (rows : List Row) (present new : ℕ) → sound f rows ≡ true → can_move f rows present new ≡ true
    → sound f (moved (place_of_address present rows) new rows) ≡ true
unfolding can_move moved without
moved-sound f rows present new h can =
    let t = both (holds_address present rows) (is_free f rows new) can in
    let s = sound-says h in
    let p = free_says f rows new t.1 in
    let place = place_of_address present rows in
    let old = row_at rows place in
    let rest = remove_at place no_row rows in
    let inside = find_lt (has_address present) rows t.0 in
    let used = (both (in_use old) (eqb old.address present) (found_passes (has_address present) rows no_row inside)).0 in
    let right = used_right_lem f old (all_at (row_right f) rows place no_row s.each inside) used in
    rw (lt-ltb place 32 (omega (arith, s.long)))
    (insert_sound f (moved_row new old) rest (removed_sound f rows place h) p.real (moved_right old f new p.real p.opens right)
    (all_mono (λ y. apart old y && not (has_address new y)) (leaves_room (moved_row new old)) (moved_room old new) rest
    (all_both (apart old) (λ y. not (has_address new y)) rest
    (pairwise_others in_order (apart old) no_row refl rows place no_row (apart_behind old) (apart_before old used) inside s.order)
    (all_remove (λ y. not (has_address new y)) no_row refl rows place p.elsewhere))))
