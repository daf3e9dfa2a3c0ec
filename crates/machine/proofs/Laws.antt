-- Laws of the machine for the proofs of its functions: one for each way through a function, for `search`.
use Prim.Native.Nat.{ℕ, ◌≤◌, ◌<◌}
use mathlib.Core.Path.{◌≡◌, refl, sym, ap, subst, ◌∙◌}
use mathlib.Core.Logic.{◌⊎◌, inl, inr}
use mathlib.Core.Bool.{Bool, true, false, cond, not, and-eq-true_iff}
use mathlib.Core.List.{List}
use native.Mathlib.Omega.{arith}
use lib.Dec.{eqb, ltb}
use lib.ListN.{length, replicate, get_or-eq_default}
use borrow.Author.Tests.{ltb-false, leb-true, eqb-true, eqb-false, ne_eqb, not-true, not-false}
use Rattle.lists.proofs.Bools.{not-refused}
use Rattle.slots.specs.Slots.{facts_right, Checked, checked}
use Rattle.slots.specs.declared.Facts.{Facts}
use Rattle.rows.specs.Rows.{no_row, has_ticket, has_identity, place_of_ticket}
use Rattle.rows.specs.declared.Row.{Row}
use Rattle.changes.specs.Changes.{with_row, renewed}
use Rattle.free.specs.Free.{no_ticket_left, can_assign}
use Rattle.lists.proofs.Keeps.{any-find}
use Rattle.lists.proofs.Library.{position_some, position_some_any, position_none_any, find_some, find_none}
use Rattle.std.specs.Prelude.{Result, Some, None, position}
use Rattle.std.specs.List.{find as list_find}
use Rattle.table.specs.Sound.{sound}
use Rattle.begins.specs.Begins.{asked_right, can_set}
use Rattle.machine.specs.declared.Machine.{Machine}
use Rattle.refusals.specs.Refusals.{number, refusal_of}
use Rattle.std.specs.Result.{IsErrAnd}
use Rattle.std.proofs.lemmas.Result.{err_from_is_err_and}
use Rattle.refusals.specs.declared.Refusal.{Refusal}
use Rattle.refusals.proofs.Laws.{number_not_zero}
use Rattle.machine.specs.declared.Stepped.{Stepped}
use Rattle.machine.specs.declared.Moment.{Moment}
use Rattle.machine.specs.declared.Moment.TheVariants.{Idle, Listening, Offered, Direct}
use Rattle.machine.specs.Moments.{idle, right_at, moment_right, machine_right, is_idle, is_listening}
use Rattle.machine.specs.Refusals.{step_refusal, rest_refusal, identity_refusal, ask_refusal}
use Rattle.machine.specs.Steps.{Step, refuse, address_of, assigned_row, accepted_rows, answer_at}
use Rattle.machine.specs.Calls.{unless, started, asked, stepped, ComesTo}

-- ---- the rules

-- what the moment's rule says, at this moment
pub moment_at : (m : Machine) (w : Moment) (b : Bool) → m.moment ≡ w → b ≡ right_at w m → b ≡ moment_right m
unfolding moment_right
moment_at m w b at e = e ∙ ap (λ (v : Moment). right_at v m) (sym at)

-- a sound table: the moment's rule decides; else none
module _ (m : Machine) {b : Bool} (e : b ≡ sound m.table.facts m.table.rows) where
  pub right_sound : b ≡ true → {c : Bool} → c ≡ moment_right m → c ≡ machine_right m
  unfolding machine_right
  right_sound s h = rw (← e, s) h

  pub right_unsound : b ≡ false → b ≡ machine_right m
  unfolding machine_right
  right_unsound s = rw (← e, s)

-- ---- refusals

-- what a `?` hands on: the callee's refusal
pub passed_on : {A : Type 0} (r : Result A Refusal) (e : Refusal) {k : ℕ} → IsErrAnd r (λ d. d ≡ e) → number e ≡ k → refusal_of r ≡ k
passed_on r e h same = let p = err_from_is_err_and r h in rw (p.1, p.2) same

-- what a stepping call is refused for first, it is refused for before more is asked
pub step_refused : (room : ℕ) (m : Machine) (more : ℕ) {r : ℕ} → r ≡ step_refusal room m 0 → (r ≡ 0 → ⊥) → r ≡ step_refusal room m more
unfolding step_refusal
step_refused room m more {r} e n = go (ltb room 8) (machine_right m) e
  where
    go : (short right : Bool) → r ≡ cond short 11 (cond (not right) 28 0) → r ≡ cond short 11 (cond (not right) 28 more)
    go true right e = e
    go false false e = e
    go false true e = absurd (n e)

-- if it is not refused for that, more is asked
pub step_passed : (room : ℕ) (m : Machine) {r x more : ℕ} → r ≡ step_refusal room m 0 → r ≡ 0 → x ≡ more → x ≡ step_refusal room m more
unfolding step_refusal
step_passed room m {r} {x} {more} e z p = go (ltb room 8) (machine_right m) e
  where
    go : (short right : Bool) → r ≡ cond short 11 (cond (not right) 28 0) → x ≡ cond short 11 (cond (not right) 28 more)
    go true right e = absurd (omega arith)
    go false false e = absurd (omega arith)
    go false true e = p

-- what a call for idle asks first that is lent no cells
module _ (m : Machine) {right : Bool} (e : right ≡ machine_right m) where
  pub rest_broken : not right ≡ true → 28 ≡ rest_refusal m 0
  unfolding rest_refusal
  rest_broken h = rw (← e, h)

  module _ {rests : Bool} (h : not right ≡ false) (i : rests ≡ is_idle m.moment) where
    pub rest_moving : not rests ≡ true → 10 ≡ rest_refusal m 0
    unfolding rest_refusal
    rest_moving j = rw (← e, h, ← i, j)

    pub rest_resting : not rests ≡ false → 0 ≡ rest_refusal m 0
    unfolding rest_refusal
    rest_resting j = rw (← e, h, ← i, j)

-- the same as above of such a call
pub rest_refused : (m : Machine) (more : ℕ) {r : ℕ} → r ≡ rest_refusal m 0 → (r ≡ 0 → ⊥) → r ≡ rest_refusal m more
unfolding rest_refusal
rest_refused m more {r} e n = go (machine_right m) (is_idle m.moment) e
  where
    go : (right rests : Bool) → r ≡ cond (not right) 28 (cond (not rests) 10 0) → r ≡ cond (not right) 28 (cond (not rests) 10 more)
    go false rests e = e
    go true false e = e
    go true true e = absurd (n e)

pub rest_passed : (m : Machine) {r x more : ℕ} → r ≡ rest_refusal m 0 → r ≡ 0 → x ≡ more → x ≡ rest_refusal m more
unfolding rest_refusal
rest_passed m {r} {x} {more} e z p = go (machine_right m) (is_idle m.moment) e
  where
    go : (right rests : Bool) → r ≡ cond (not right) 28 (cond (not rests) 10 0) → x ≡ cond (not right) 28 (cond (not rests) 10 more)
    go false rests e = absurd (omega arith)
    go true false e = absurd (omega arith)
    go true true e = p

-- a call that writes nothing: refused, or not
pub retire_refused : (m : Machine) (s : Step) (r : Refusal) {k : ℕ} {d : Stepped} → number r ≡ k → d ≡ stepped (refuse m (number r))
    → d ≡ stepped (unless k m s)
retire_refused m s r e p = rw (← e, ne_eqb (number r) 0 (number_not_zero r)) p

pub retire_passed : (m : Machine) (s : Step) {k : ℕ} {d : Stepped} → 0 ≡ k → d ≡ stepped s → d ≡ stepped (unless k m s)
retire_passed m s e p = rw (← e) p

pub ask_refused : (m : Machine) (ticket : ℕ) (r : Refusal) → number r ≡ ask_refusal m ticket → record { address = 0; refusal = number r } ≡ asked m ticket
unfolding asked
ask_refused m ticket r e = rw (← e, ne_eqb (number r) 0 (number_not_zero r))

pub ask_told : (m : Machine) (ticket : ℕ) {a : ℕ} → 0 ≡ ask_refusal m ticket → a ≡ address_of m.table.rows ticket
    → record { address = a; refusal = 0 } ≡ asked m ticket
unfolding asked
ask_told m ticket e p = rw (← e, p)

-- a start on facts that were checked
pub start_told : (f : Facts) {k : Checked} {machine : Machine} {r : ℕ} → k ≡ checked f → machine ≡ idle k.facts (replicate 32 no_row)
    → r ≡ cond (facts_right f) 0 1 → record { machine = machine; count = 0; refusal = r } ≡ stepped (started f)
unfolding started
start_told f e p q = rw (p, q, e)

-- a stepping call has its room, and a machine that keeps the rules
pub step_right : (room : ℕ) (m : Machine) {r : ℕ} → r ≡ step_refusal room m 0 → r ≡ 0 → machine_right m ≡ true
unfolding step_refusal
step_right room m {r} e z = go (ltb room 8) (machine_right m) e
  where
    go : (short right : Bool) → r ≡ cond short 11 (cond (not right) 28 0) → right ≡ true
    go true right e = absurd (omega arith)
    go false false e = absurd (omega arith)
    go false true e = refl

-- ---- an address that a ticket has

module _ (rows : List Row) (ticket : ℕ) where
  pub address_there : {r : Row} → Some r ≡ list_find (has_ticket ticket) rows → r.address ≡ address_of rows ticket
  address_there h = ap (λ (r : Row). r.address) (find_some (has_ticket ticket) no_row rows h).1

  pub address_none : None ≡ list_find (has_ticket ticket) rows → 0 ≡ address_of rows ticket
  address_none h =
      let none = sym (any-find (has_ticket ticket) rows) ∙ find_none (has_ticket ticket) no_row rows h in
      let past : length rows ≤ place_of_ticket ticket rows = ltb-false (place_of_ticket ticket rows) (length rows) none in
      sym (ap (λ (r : Row). r.address) (get_or-eq_default rows no_row past))

-- ---- rows after an accepted offer

module _ (rows : List Row) (identity address ticket : ℕ) where
  pub accepted_known : {place : ℕ} → Some place ≡ position (has_identity identity) rows → {out : List Row} → out ≡ renewed place ticket rows
      → out ≡ accepted_rows rows identity address ticket
  unfolding accepted_rows
  accepted_known h g = rw (position_some_any _ _ h, ← (position_some _ _ h).0) g

  pub accepted_new : None ≡ position (has_identity identity) rows → {out : List Row} → out ≡ with_row (assigned_row address ticket identity) rows
      → out ≡ accepted_rows rows identity address ticket
  unfolding accepted_rows
  accepted_new h g = rw (position_none_any _ _ h) g

-- ---- an identity

-- one that is not refused has eight bytes
pub eight_bytes : (m : Machine) (bytes : ℕ) → ◌≡◌ {A = ℕ} (cond (not (is_listening m.moment)) 10 (cond (not (eqb bytes 8)) 2 0)) 0 → bytes ≡ 8
eight_bytes m bytes h = let t = simp not-refused at h in eqb-true bytes 8 (not-false (eqb bytes 8) t.1.0)

pub eight_heard : (m : Machine) (bytes room : ℕ) → 0 ≡ identity_refusal m bytes room → bytes ≡ 8
unfolding identity_refusal step_refusal
eight_heard m bytes room e = let t = simp not-refused at (sym e) in eqb-true bytes 8 (not-false (eqb bytes 8) t.1.1.1.0)

-- ---- an answer, or none, at this moment

pub answer_at_lem : (m : Machine) (h : Bool) (w : Moment) (entry : List ℕ) {exit : List ℕ} {d : Stepped} → m.moment ≡ w
    → ComesTo (answer_at w m h) entry d exit → ComesTo (answer_at m.moment m h) entry d exit
answer_at_lem m h w entry {exit} {d} at e = subst (λ (v : Moment). ComesTo (answer_at v m h) entry d exit) (sym at) e

-- at idle and at listening, where it is not of the moment
pub answer_refused : (m : Machine) (h : Bool) (entry : List ℕ) {d : Stepped} → (m.moment ≡ Idle) ⊎ (m.moment ≡ Listening) → d ≡ stepped (refuse m 10)
    → ComesTo (answer_at m.moment m h) entry d entry
answer_refused m h entry at e = elim at [
  | inl i ↦ answer_at_lem m h Idle entry i (e, refl)
  | inr l ↦ answer_at_lem m h Listening entry l (e, refl)
]

-- ---- a ticket left

-- the last ticket of right facts is not the highest: there is one left
ticket_left : (f : Facts) → facts_right f ≡ true → no_ticket_left f ≡ false → f.last < 4294967295
unfolding facts_right
ticket_left f h n =
    let t = simp and-eq-true_iff at h in
    omega (arith, leb-true f.last 4294967295 t.1, eqb-false f.last 4294967295 n)

-- where an offer stands, and where a set does
pub offered_ticket : (m : Machine) → machine_right m ≡ true → m.moment ≡ Offered → m.table.facts.last < 4294967295
unfolding machine_right moment_right sound can_assign
offered_ticket m right at =
    let t = simp and-eq-true_iff at right in
    let here : right_at Offered m ≡ true = rw at at t.1 in
    let u = simp and-eq-true_iff at here in
    ticket_left m.table.facts t.0.0.0.0 (not-true (no_ticket_left m.table.facts) u.0.1.1)

pub direct_ticket : (m : Machine) → machine_right m ≡ true → m.moment ≡ Direct → m.choice ≡ 2 → m.table.facts.last < 4294967295
unfolding machine_right moment_right sound asked_right can_set
direct_ticket m right at set =
    let t = simp and-eq-true_iff at right in
    let here : right_at Direct m ≡ true = rw at at t.1 in
    let u = simp and-eq-true_iff at (rw set at here) in
    ticket_left m.table.facts t.0.0.0.0 (not-true (no_ticket_left m.table.facts) u.1.0.0.1)
