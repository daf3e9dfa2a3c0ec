-- What a call does to the tickets: the last one stays or rises by 1, and a ticket that no row had comes only as the new last one.
use Prim.Native.Nat.{ℕ, ◌≤◌, ◌<◌}
use mathlib.Core.Path.{◌≡◌, refl, sym, ◌∙◌, ap, subst}
use mathlib.Core.Bool.{Bool, true, false, cond, not, ◌&&◌, and-eq-true_iff, true≢false}
use mathlib.Core.List.{List, [], ◌∷◌}
use native.Mathlib.Omega.{arith}
use lib.Dec.{eqb, ltb}
use lib.ListN.{length, replicate, set}
use borrow.Author.Tests.{eqb-true, eqb-false, ne_eqb, not-true}
use Rattle.lists.specs.Lists.{all, insert_by}
use Rattle.lists.proofs.Bools.{both, cond_by}
use Rattle.lists.proofs.Keeps.{find_lt, found_passes, none_any, all_none, all_at, all_take, all_insert, all_set, all_remove}
use Rattle.parity.specs.Cells.{stop_cell}
use Rattle.slots.specs.declared.Facts.{Facts}
use Rattle.rows.specs.Rows.{no_row, in_use, has_address, has_ticket, has_identity, holds_address, holds_ticket, holds_identity, place_of_address, place_of_ticket, place_of_identity, row_at}
use Rattle.rows.specs.declared.Row.{Row}
use Rattle.changes.specs.Changes.{comes_behind, with_row, without, renewed, renewed_row, moved, moved_row}
use Rattle.free.specs.Free.{is_free, full, lowest_free, address_for, no_free_address, can_assign}
use Rattle.table.specs.Tickets.{new_ticket, ticketed}
use Rattle.begins.specs.Begins.{can_set, can_move, asked_right}
use Rattle.machine.specs.declared.Machine.{Machine}
use Rattle.machine.specs.declared.Moment.{Moment}
use Rattle.machine.specs.declared.Moment.TheVariants.{Idle, Opened, Round, Listening, Offered, Direct}
use Rattle.machine.specs.Moments.{idle, goes_direct, right_at, machine_right}
use Rattle.machine.specs.Refusals.{step_refusal, rest_refusal, begin_refusal, join_refusal, identity_refusal, give_up_refusal, retire_refusal, ask_refusal}
use Rattle.machine.specs.Steps.{Step, did, refuse, beginning, joining, onward_machine, round_rule, commanded, opened_answer, round_answer, listened, assigned_row, accepted_rows, accepted, declined, set_row, directed, direct_answer, answer_at}
use Rattle.machine.specs.Calls.{unless, begun, answered, identified, given_up, joined, retired, asked}
use Rattle.life.proofs.Table.{free_says, lowest_free_lem}
use Rattle.life.proofs.Sound.{right_says}
use Rattle.life.specs.Life.{Call, begin, answer, identity, give_up, join, retire, ask, step_of, after}

-- ---- a call is refused, or steps

-- what a call comes to where it is not refused
abbrev pub stepping : Call → Machine → Step
stepping (begin choice static new ticket room) m = beginning m choice static new ticket
stepping (answer heard room) m = answer_at m.moment m heard
stepping (identity bytes room) m = listened m bytes
stepping (give_up room) m = did (idle m.table.facts m.table.rows) (stop_cell ∷ [])
stepping (join choice room) m = joining m choice
stepping (retire ticket) m = did (idle m.table.facts (without (place_of_ticket ticket m.table.rows) m.table.rows)) []
stepping (ask ticket) m = refuse m 0

-- the number that it is refused with, 0 for none
abbrev pub refusing : Call → Machine → ℕ
refusing (begin choice static new ticket room) m = begin_refusal m choice static new ticket room
refusing (answer heard room) m = step_refusal room m 0
refusing (identity bytes room) m = identity_refusal m (length bytes) room
refusing (give_up room) m = give_up_refusal m room
refusing (join choice room) m = join_refusal m choice room
refusing (retire ticket) m = retire_refusal m ticket
refusing (ask ticket) m = ask_refusal m ticket

-- so every call is one or the other
pub steps_unless : (c : Call) (m : Machine) → step_of c m ≡ unless (refusing c m) m (stepping c m)
unfolding begun answered identified given_up joined retired asked
steps_unless (begin choice static new ticket room) m = refl
steps_unless (answer heard room) m = refl
steps_unless (identity bytes room) m = refl
steps_unless (give_up room) m = refl
steps_unless (join choice room) m = refl
steps_unless (retire ticket) m = refl
steps_unless (ask ticket) m = go (eqb (ask_refusal m ticket) 0) refl
  where
    go : (b : Bool) → eqb (ask_refusal m ticket) 0 ≡ b → refuse m (ask_refusal m ticket) ≡ cond b (refuse m 0) (refuse m (ask_refusal m ticket))
    go true e = ap (refuse m) (eqb-true (ask_refusal m ticket) 0 e)
    go false e = refl

-- what is not refused with 28, and what a stepping call is not refused with at all, was asked of a right machine
asks_right_lem : (m : Machine) (more : ℕ) → eqb (cond (not (machine_right m)) 28 more) 0 ≡ true → machine_right m ≡ true
asks_right_lem m more h = go (machine_right m) h
  where
    go : (b : Bool) → eqb (cond (not b) 28 more) 0 ≡ true → b ≡ true
    go true e = refl
    go false e = e

step_asks_right : (room : ℕ) (m : Machine) (more : ℕ) → eqb (step_refusal room m more) 0 ≡ true → machine_right m ≡ true
unfolding step_refusal
step_asks_right room m more h = go (ltb room 8) h
  where
    go : (b : Bool) → eqb (cond b 11 (cond (not (machine_right m)) 28 more)) 0 ≡ true → machine_right m ≡ true
    go true e = absurd (true≢false (sym e))
    go false e = asks_right_lem m more e

-- so a call that is not refused was made of a right machine
acts_right : (c : Call) (m : Machine) → eqb (refusing c m) 0 ≡ true → machine_right m ≡ true
unfolding begin_refusal identity_refusal give_up_refusal join_refusal rest_refusal retire_refusal ask_refusal
acts_right (begin choice static new ticket room) m h = step_asks_right room m _ h
acts_right (answer heard room) m h = step_asks_right room m _ h
acts_right (identity bytes room) m h = step_asks_right room m _ h
acts_right (give_up room) m h = step_asks_right room m _ h
acts_right (join choice room) m h = step_asks_right room m _ h
acts_right (retire ticket) m h = asks_right_lem m _ h
acts_right (ask ticket) m h = asks_right_lem m _ h

-- what holds of a machine holds of it after a call, if it does after the step of a right one
pub refused_or : (P : Machine → Type 0) (c : Call) (m : Machine) → P m → (machine_right m ≡ true → P (stepping c m).machine) → P (after c m)
refused_or P c m h g =
    subst (λ (s : Step). P s.machine) (sym (steps_unless c m))
    (cond_by (λ (s : Step). P s.machine) (eqb (refusing c m) 0) {x = stepping c m} {y = refuse m (refusing c m)} (λ e. g (acts_right c m e)) (λ e. h))

-- ---- the changes that a call can make

-- P holds of the table as it is, and after each change that a step makes to it
pub record Changes (P : Facts → List Row → Type 0) (f : Facts) (rows : List Row) : Type 0 where
  pub as_is : P f rows
  pub cleared : P f (replicate 32 no_row)
  pub one_less : (k : ℕ) → P f (without k rows)
  pub one_moved : (k a : ℕ) → k < length rows → in_use (row_at rows k) ≡ true → P f (with_row (moved_row a (row_at rows k)) (without k rows))
  pub one_renewed : (k : ℕ) → k < length rows → in_use (row_at rows k) ≡ true → P (ticketed f) (set rows k (renewed_row (new_ticket f) (row_at rows k)))
  pub one_more : (r : Row) → r.ticket ≡ new_ticket f → in_use r ≡ true → full rows ≡ false → P (ticketed f) (with_row r rows)

-- the round rule leaves the table as it is
pub onward_has : (P : Facts → List Row → Type 0) (on : Bool) (f : Facts) (rows : List Row) (k : ℕ) → P f rows
    → P (onward_machine on f rows k).table.facts (onward_machine on f rows k).table.rows
onward_has P true f rows k h = h
onward_has P false f rows k h = h

-- the row of a move that can be made
move_held : (f : Facts) (rows : List Row) (choice asked wanted : ℕ) → goes_direct choice ≡ true → eqb choice 2 ≡ false
    → asked_right f rows choice asked wanted ≡ true → holds_address asked rows ≡ true
unfolding asked_right can_move
move_held f rows choice asked wanted direct not_set right =
    let three : choice ≡ 3 = eqb-true choice 3 (rw not_set at direct) in
    (both (holds_address asked rows) (is_free f rows wanted) (rw three at right)).0

-- a set that can be made has a new address, and a place
set_says : (f : Facts) (rows : List Row) (choice asked wanted : ℕ) → eqb choice 2 ≡ true → asked_right f rows choice asked wanted ≡ true
    → (not (eqb wanted 0) ≡ true) × (full rows ≡ false)
unfolding asked_right can_set
set_says f rows choice asked wanted sets right =
    let two : choice ≡ 2 = eqb-true choice 2 sets in
    let t = simp and-eq-true_iff at (rw two at right) in
    ((free_says f rows wanted t.0.0.1).real, not-true (full rows) t.0.1)

-- so has an offer to a board that no row knows
offer_says : (f : Facts) (rows : List Row) (id : ℕ) → can_assign f rows ≡ true → holds_identity id rows ≡ false
    → (not (eqb (address_for f rows id) 0) ≡ true) × (full rows ≡ false)
unfolding can_assign address_for
offer_says f rows id can none =
    let t = simp and-eq-true_iff at can in
    (rw none (free_says f rows (lowest_free f rows) (lowest_free_lem f rows (not-true (no_free_address f rows) t.0.1))).real, not-true (full rows) t.0.0)

module _ (P : Facts → List Row → Type 0) (f : Facts) (rows : List Row) (ways : Changes P f rows) where
  -- the row of an address moved
  moved_leads : (a b : ℕ) → holds_address a rows ≡ true → P f (moved (place_of_address a rows) b rows)
  unfolding moved
  moved_leads a b held =
      let k = place_of_address a rows in
      let inside : k < length rows = find_lt (has_address a) rows held in
      let t = simp and-eq-true_iff at (found_passes (has_address a) rows no_row inside) in
      cond_by (P f) (ltb k 32) (λ e. ways.one_moved k b inside t.0) (λ e. ways.as_is)

  -- the row of an identity renewed
  renewed_leads : (id : ℕ) → holds_identity id rows ≡ true → P (ticketed f) (renewed (place_of_identity id rows) (new_ticket f) rows)
  unfolding renewed
  renewed_leads id held =
      let k = place_of_identity id rows in
      let inside : k < length rows = find_lt (has_identity id) rows held in
      let t = simp and-eq-true_iff at (found_passes (has_identity id) rows no_row inside) in
      ways.one_renewed k inside t.0.0

module _ (P : Facts → List Row → Type 0) (m : Machine) (ways : Changes P m.table.facts m.table.rows) where
  -- a step leads to a table with P
  abbrev Leads : Step → Type 0
  Leads s = P s.machine.table.facts s.machine.table.rows

  commanded_leads : Leads (commanded m)
  unfolding commanded round_rule
  commanded_leads =
      cond_by Leads (eqb m.choice 0) (λ e. onward_has P (can_assign m.table.facts m.table.rows) m.table.facts m.table.rows 0 ways.as_is)
      (λ e. cond_by Leads (eqb m.choice 1) (λ e. ways.cleared)
      (λ e. cond_by Leads (eqb m.choice 2) (λ e. ways.as_is)
      (λ e. cond_by Leads (eqb m.choice 3) (λ e. ways.as_is)
      (λ e. cond_by Leads (eqb m.choice 4) (λ e. ways.as_is) (λ e. ways.as_is)))))

  opened_leads : (heard : Bool) → Leads (opened_answer m heard)
  unfolding opened_answer
  opened_leads heard = cond_by Leads heard (λ e. commanded_leads) (λ e. ways.as_is)

  round_leads : (heard : Bool) → Leads (round_answer m heard)
  unfolding round_answer
  round_leads heard = cond_by Leads heard (λ e. ways.as_is) (λ e. ways.as_is)

  accepted_leads : right_at Offered m ≡ true → Leads (accepted m)
  unfolding accepted round_rule accepted_rows
  accepted_leads right =
      let f = m.table.facts in
      let rows = m.table.rows in
      let t = simp and-eq-true_iff at right in
      let offer : m.offered ≡ address_for f rows m.identity = eqb-true m.offered (address_for f rows m.identity) t.1 in
      let rows' = accepted_rows rows m.identity m.offered (new_ticket f) in
      onward_has P (can_assign (ticketed f) rows') (ticketed f) rows' 0
      (cond_by (P (ticketed f)) (holds_identity m.identity rows)
      (λ e. renewed_leads P f rows ways m.identity e)
      (λ e.
      let new = offer_says f rows m.identity t.0.1 e in
      ways.one_more (assigned_row m.offered (new_ticket f) m.identity) refl (subst (λ a. not (eqb a 0) ≡ true) (sym offer) new.0) new.1))

  declined_leads : Leads (declined m)
  unfolding declined
  declined_leads = onward_has P (eqb m.refusals 0) m.table.facts m.table.rows 1 ways.as_is

  directed_leads : right_at Direct m ≡ true → P (directed m).table.facts (directed m).table.rows
  unfolding directed
  directed_leads right =
      let t = simp and-eq-true_iff at right in
      cond_by (λ (n : Machine). P n.table.facts n.table.rows) (eqb m.choice 2)
      (λ e.
      let new = set_says m.table.facts m.table.rows m.choice m.asked m.wanted e t.1.0.0 in
      ways.one_more (set_row m.wanted (new_ticket m.table.facts) m.asked) refl new.0 new.1)
      (λ e.
      moved_leads P m.table.facts m.table.rows ways m.asked m.wanted
      (move_held m.table.facts m.table.rows m.choice m.asked m.wanted t.0 e t.1.0.0))

  direct_leads : right_at Direct m ≡ true → (heard : Bool) → Leads (direct_answer m heard)
  unfolding direct_answer
  direct_leads right heard = cond_by Leads heard (λ e. directed_leads right) (λ e. ways.as_is)

  -- an answer at each moment of a right machine
  answer_leads : (x : Moment) → right_at x m ≡ true → (heard : Bool) → Leads (answer_at x m heard)
  answer_leads Idle right heard = ways.as_is
  answer_leads Opened right heard = opened_leads heard
  answer_leads Round right heard = round_leads heard
  answer_leads Listening right heard = ways.as_is
  answer_leads Offered right heard = cond_by Leads heard {x = accepted m} {y = declined m} (λ e. accepted_leads right) (λ e. declined_leads)
  answer_leads Direct right heard = direct_leads right heard

  -- each step of a right machine
  stepping_leads : (c : Call) → machine_right m ≡ true → Leads (stepping c m)
  unfolding beginning listened joining
  stepping_leads (begin choice static new ticket room) right = ways.as_is
  stepping_leads (answer heard room) right = answer_leads m.moment (right_says m right).1 heard
  stepping_leads (identity bytes room) right = ways.as_is
  stepping_leads (give_up room) right = ways.as_is
  stepping_leads (join choice room) right = cond_by Leads (eqb choice 0) (λ e. ways.as_is) (λ e. ways.as_is)
  stepping_leads (retire ticket) right = ways.one_less (place_of_ticket ticket m.table.rows)
  stepping_leads (ask ticket) right = ways.as_is

  -- and any call of any machine
  pub call_leads : (c : Call) → P (after c m).table.facts (after c m).table.rows
  call_leads c = refused_or (λ (n : Machine). P n.table.facts n.table.rows) c m ways.as_is (stepping_leads c)

-- ---- the tickets after a change of the rows, beside those before it

-- the last ticket stays or becomes the next; and one that no row had, and that does not lie above the old last and up to the new, no row has
pub record Grows (f : Facts) (rows : List Row) (f' : Facts) (rows' : List Row) : Type 0 where
  pub rises : f.last ≤ f'.last
  pub next : f'.last ≤ new_ticket f
  pub only : (t : ℕ) → (new_ticket f ≤ t → t ≤ f'.last → ⊥) → holds_ticket t rows ≡ false → holds_ticket t rows' ≡ false

-- a row without the ticket
abbrev pub lacks : ℕ → Row → Bool
lacks t r = not (has_ticket t r)

-- if, in use, it has another; and the other way round
pub lacks_other : (t : ℕ) (r : Row) → (in_use r ≡ true → r.ticket ≡ t → ⊥) → lacks t r ≡ true
lacks_other t r h = go (in_use r) refl
  where
    go : (b : Bool) → in_use r ≡ b → not (b && eqb r.ticket t) ≡ true
    go true u = ap not (ne_eqb r.ticket t (h u))
    go false u = refl

other_lacks : (t : ℕ) (r : Row) → lacks t r ≡ true → in_use r ≡ true → r.ticket ≡ t → ⊥
other_lacks t r h u = eqb-false r.ticket t (not-true (eqb r.ticket t) (rw u at h))

-- where no ticket is given
kept : (f : Facts) (rows rows' : List Row) → ((t : ℕ) → all (lacks t) rows ≡ true → all (lacks t) rows' ≡ true) → Grows f rows f rows'
kept f rows rows' h = record {
  rises = omega arith;
  next = omega arith;
  only = λ t old none. all_none (has_ticket t) rows' (h t (none_any (has_ticket t) rows none));
}

-- where the next one is
gave : (f : Facts) (rows rows' : List Row) → ((t : ℕ) → (new_ticket f ≡ t → ⊥) → all (lacks t) rows ≡ true → all (lacks t) rows' ≡ true)
    → Grows f rows (ticketed f) rows'
gave f rows rows' h = record {
  rises = omega arith;
  next = omega arith;
  only = λ t old none. all_none (has_ticket t) rows' (h t (λ e. old (omega (arith, e)) (omega (arith, e))) (none_any (has_ticket t) rows none));
}

-- what every row passes, and one more, every row passes with that one put in
pub all_with : (p : Row → Bool) (r : Row) → p r ≡ true → (rows : List Row) → all p rows ≡ true → all p (with_row r rows) ≡ true
unfolding with_row
all_with p r e rows h = all_take p 32 (insert_by (comes_behind r.address) r rows) (all_insert p (comes_behind r.address) r e rows h)

-- the tickets after each change
changes_grow : (f : Facts) (rows : List Row) → Changes (Grows f rows) f rows
unfolding without
changes_grow f rows = record {
  as_is = kept f rows rows (λ t h. h);
  cleared = kept f rows (replicate 32 no_row) (λ t h. refl);
  one_less = λ k. kept f rows (without k rows) (λ t h. all_remove (lacks t) no_row refl rows k h);
  one_moved =
      λ k a inside live.
      let old = row_at rows k in
      kept f rows (with_row (moved_row a old) (without k rows))
      (λ t h.
      all_with (lacks t) (moved_row a old) (lacks_other t (moved_row a old) (λ u. other_lacks t old (all_at (lacks t) rows k no_row h inside) live)) (without k rows)
      (all_remove (lacks t) no_row refl rows k h));
  one_renewed =
      λ k inside live.
      let new = renewed_row (new_ticket f) (row_at rows k) in
      gave f rows (set rows k new) (λ t h g. all_set (lacks t) new (lacks_other t new (λ u. h)) rows k g);
  one_more = λ r e live room. gave f rows (with_row r rows) (λ t h g. all_with (lacks t) r (lacks_other t r (λ u z. h (sym e ∙ z))) rows g);
}

-- and after any call of any machine
pub grows : (c : Call) (m : Machine) → Grows m.table.facts m.table.rows (after c m).table.facts (after c m).table.rows
grows c m = call_leads (Grows m.table.facts m.table.rows) m (changes_grow m.table.facts m.table.rows) c
