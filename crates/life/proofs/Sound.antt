-- A started machine keeps the rules, and one that keeps them keeps them after every call, whatever its arguments.
use Prim.Native.Nat.{ℕ}
use mathlib.Core.Path.{◌≡◌, refl, sym, subst}
use mathlib.Core.Bool.{Bool, true, cond, and-eq-true_iff, false≢true}
use mathlib.Core.List.{List, [], ◌∷◌}
use lib.Dec.{eqb, ltb}
use lib.ListN.{length, replicate}
use borrow.Author.Tests.{eqb-true, eq-eqb, not-false}
use Rattle.lists.specs.Numbers.{numbers}
use Rattle.lists.specs.Bits.{bit}
use Rattle.lists.proofs.Bools.{both, and, cond_by, not-refused, or_right}
use Rattle.parity.specs.Cells.{stop_cell}
use Rattle.slots.specs.Slots.{is_legacy, legacy_right, facts_right, refused_facts, checked}
use Rattle.slots.specs.declared.Facts.{Facts}
use Rattle.rows.specs.Rows.{no_row, place_of_ticket}
use Rattle.rows.specs.declared.Row.{Row}
use Rattle.changes.specs.Changes.{without}
use Rattle.free.specs.Free.{address_for, can_assign}
use Rattle.table.specs.Tickets.{new_ticket, ticketed}
use Rattle.table.specs.Sound.{sound}
use Rattle.begins.specs.Begins.{asked_right, choice_refusal, joining_refusal}
use Rattle.machine.specs.declared.Machine.{Machine}
use Rattle.machine.specs.declared.Moment.{Moment}
use Rattle.machine.specs.declared.Moment.TheVariants.{Idle, Opened, Round, Listening, Offered, Direct}
use Rattle.machine.specs.Moments.{idle, opened, direct, round, listening, offering, goes_direct, right_at, moment_right, machine_right, is_listening}
use Rattle.machine.specs.Refusals.{step_refusal, begin_refusal, join_refusal, identity_refusal, give_up_refusal, retire_refusal}
use Rattle.machine.specs.Steps.{Step, did, address_asked, address_wanted, beginning, joining, onward_machine, round_rule, commanded, opened_answer, round_answer, listened, identity_of, accepted_rows, accepted, declined, directed, direct_answer, answer_at}
use Rattle.machine.specs.Calls.{unless, begun, answered, identified, given_up, joined, started, retired}
use Rattle.life.specs.Life.{Call, begin, answer, identity, give_up, join, retire, ask, after, after_all}
use Rattle.life.proofs.Table.{sound-says, empty_sound, removed_sound, set-sound, moved-sound, accepted-sound}
use Rattle.life.proofs.Begins.{begin_asks_right, join_asks_right}

-- ---- a right machine at each moment, over a sound table

module _ (f : Facts) (rows : List Row) (h : sound f rows ≡ true) where
  -- idle, whatever the rows
  pub idle_right : machine_right (idle f rows) ≡ true
  unfolding machine_right moment_right
  idle_right = and h refl

  -- opened, for what the rows allow
  pub opened_right : (choice asked wanted : ℕ) → asked_right f rows choice asked wanted ≡ true → machine_right (opened f rows choice asked wanted) ≡ true
  unfolding machine_right moment_right
  opened_right choice asked wanted a = and h (and (and a refl) refl)

  -- direct, for a set or a move that they allow
  direct_right : (choice asked wanted : ℕ) → goes_direct choice ≡ true → asked_right f rows choice asked wanted ≡ true
      → machine_right (direct f rows choice asked wanted) ≡ true
  unfolding machine_right moment_right
  direct_right choice asked wanted d a = and h (and d (and (and a refl) refl))

  -- in an assign's rounds: calling, listening, offering
  module _ (refusals : ℕ) (few : ltb refusals 2 ≡ true) (can : can_assign f rows ≡ true) where
    pub round_right : machine_right (round f rows refusals) ≡ true
    unfolding machine_right moment_right
    round_right = and h (and (and few can) refl)

    pub listening_right : machine_right (listening f rows refusals) ≡ true
    unfolding machine_right moment_right
    listening_right = and h (and (and few can) refl)

    pub offering_right : (id : ℕ) → machine_right (offering f rows id (address_for f rows id) refusals) ≡ true
    unfolding machine_right moment_right
    offering_right id = and h (and (and few can) (eq-eqb (address_for f rows id) (address_for f rows id) refl))

  -- on to a round, where there can be one, or to idle
  onward_right : (on : Bool) (refusals : ℕ) → ltb refusals 2 ≡ true → (on ≡ true → can_assign f rows ≡ true)
      → machine_right (onward_machine on f rows refusals) ≡ true
  onward_right on refusals few can = cond_by (λ m. machine_right m ≡ true) on (λ e. round_right refusals few (can e)) (λ e. idle_right)

  -- by the round rule
  round_rule_right : (cells : List ℕ) → machine_right (round_rule f rows cells).machine ≡ true
  unfolding round_rule
  round_rule_right cells = onward_right (can_assign f rows) 0 refl (λ e. e)

-- ---- each step, from a right machine

-- a step that leaves a right machine
abbrev Right : Step → Type 0
Right s = machine_right s.machine ≡ true

-- a right machine's table is sound, and it is right at its moment
pub right_says : (m : Machine) → machine_right m ≡ true → (sound m.table.facts m.table.rows ≡ true) × (right_at m.moment m ≡ true)
unfolding machine_right moment_right
right_says m h = both (sound m.table.facts m.table.rows) (right_at m.moment m) h

module _ (m : Machine) (h : sound m.table.facts m.table.rows ≡ true) where
  -- back to idle, with the rows as they are
  back_to_idle : machine_right (idle m.table.facts m.table.rows) ≡ true
  back_to_idle = idle_right m.table.facts m.table.rows h

  -- a Begin
  beginning_right : (choice static new ticket : ℕ) → choice_refusal m.table.facts m.table.rows choice static new ticket ≡ 0
      → Right (beginning m choice static new ticket)
  unfolding beginning
  beginning_right choice static new ticket k =
      opened_right m.table.facts m.table.rows h choice (address_asked m.table.rows choice static ticket) (address_wanted choice new)
      (begin_asks_right m.table.facts m.table.rows choice static new ticket k)

  -- a Join
  joining_right : (choice : ℕ) → joining_refusal m.table.facts m.table.rows choice ≡ 0 → Right (joining m choice)
  unfolding joining
  joining_right choice k =
      cond_by Right (eqb choice 0) (λ e. back_to_idle)
      (λ e. opened_right m.table.facts m.table.rows h (cond (eqb choice 1) 4 0) 0 0 (join_asks_right m.table.facts m.table.rows choice k e))

  -- what is asked, by the number of its choice
  asked_by : (k : ℕ) → eqb m.choice k ≡ true → asked_right m.table.facts m.table.rows m.choice m.asked m.wanted ≡ true
      → asked_right m.table.facts m.table.rows k m.asked m.wanted ≡ true
  asked_by k e a = subst (λ c. asked_right m.table.facts m.table.rows c m.asked m.wanted ≡ true) (eqb-true m.choice k e) a

  -- opened, by choice: assign, reset all, set from static, move, silence and allow
  commanded_right : asked_right m.table.facts m.table.rows m.choice m.asked m.wanted ≡ true → Right (commanded m)
  unfolding commanded
  commanded_right a =
      cond_by Right (eqb m.choice 0) (λ e. round_rule_right m.table.facts m.table.rows h _) λ _.
      cond_by Right (eqb m.choice 1) (λ e. idle_right m.table.facts (replicate 32 no_row) (empty_sound m.table.facts (sound-says h).facts)) λ _.
      cond_by Right (eqb m.choice 2) (λ e. direct_right m.table.facts m.table.rows h m.choice m.asked m.wanted (rw e) a) λ _.
      cond_by Right (eqb m.choice 3) (λ e. direct_right m.table.facts m.table.rows h m.choice m.asked m.wanted (or_right (eqb m.choice 2) e) a) λ _.
      cond_by Right (eqb m.choice 4) (λ e. back_to_idle) (λ e. back_to_idle)

  -- opened, with an answer or none
  opened_answer_right : (heard : Bool) → right_at Opened m ≡ true → Right (opened_answer m heard)
  unfolding opened_answer
  opened_answer_right heard r = let t = simp and-eq-true_iff at r in cond_by Right heard (λ e. commanded_right t.0.0) (λ e. back_to_idle)

  -- a round, with an answer or none
  round_answer_right : (heard : Bool) → right_at Round m ≡ true → Right (round_answer m heard)
  unfolding round_answer
  round_answer_right heard r =
      let t = simp and-eq-true_iff at r in
      cond_by Right heard (λ e. listening_right m.table.facts m.table.rows h m.refusals t.0.0.1 t.0.1) (λ e. back_to_idle)

  -- an identity heard
  listened_right : (bytes : List ℕ) → right_at Listening m ≡ true → Right (listened m bytes)
  unfolding listened
  listened_right bytes r =
      let t = simp and-eq-true_iff at r in offering_right m.table.facts m.table.rows h m.refusals t.0.0.1 t.0.1 (identity_of bytes)

  -- an offer accepted
  accepted_right : right_at Offered m ≡ true → Right (accepted m)
  unfolding accepted
  accepted_right r =
      let t = simp and-eq-true_iff at r in
      let offer = eqb-true m.offered (address_for m.table.facts m.table.rows m.identity) t.1 in
      round_rule_right (ticketed m.table.facts) (accepted_rows m.table.rows m.identity m.offered (new_ticket m.table.facts))
      (subst (λ a. sound (ticketed m.table.facts) (accepted_rows m.table.rows m.identity a (new_ticket m.table.facts)) ≡ true) (sym offer)
      (accepted-sound m.table.facts m.table.rows m.identity h t.0.1))
      _

  -- an offer declined
  declined_right : right_at Offered m ≡ true → Right (declined m)
  unfolding declined
  declined_right r = let t = simp and-eq-true_iff at r in onward_right m.table.facts m.table.rows h (eqb m.refusals 0) 1 refl (λ e. t.0.1)

  -- direct: a set, and a move
  directed_right : right_at Direct m ≡ true → machine_right (directed m) ≡ true
  unfolding directed asked_right
  directed_right r =
      let t = simp and-eq-true_iff at r in
      cond_by (λ n. machine_right n ≡ true) (eqb m.choice 2)
      (λ e. idle_right (ticketed m.table.facts) _ (set-sound m.table.facts m.table.rows m.asked m.wanted h (asked_by 2 e t.1.0.0)))
      (λ e. idle_right m.table.facts _ (moved-sound m.table.facts m.table.rows m.asked m.wanted h (asked_by 3 (rw e at t.0) t.1.0.0)))

  -- direct, with an answer or none
  direct_answer_right : (heard : Bool) → right_at Direct m ≡ true → Right (direct_answer m heard)
  unfolding direct_answer
  direct_answer_right heard r = cond_by Right heard (λ e. directed_right r) (λ e. back_to_idle)

-- an answer, or none, at any moment
answer_right : (w : Moment) (m : Machine) (heard : Bool) → machine_right m ≡ true → right_at w m ≡ true → Right (answer_at w m heard)
answer_right Idle m heard h r = h
answer_right Opened m heard h r = opened_answer_right m (right_says m h).0 heard r
answer_right Round m heard h r = round_answer_right m (right_says m h).0 heard r
answer_right Listening m heard h r = h
answer_right Offered m heard h r =
    cond_by Right heard (λ e. accepted_right m (right_says m h).0 r) (λ e. declined_right m (right_says m h).0 r)
answer_right Direct m heard h r = direct_answer_right m (right_says m h).0 heard r

-- ---- start

-- the facts of a refused start are right
refused_facts_right : facts_right refused_facts ≡ true
unfolding facts_right legacy_right numbers is_legacy bit
refused_facts_right = refl

-- a machine is started right, by whatever facts
pub start_right : (f : Facts) → machine_right (started f).machine ≡ true
unfolding started checked
start_right f = idle_right _ _ (empty_sound _ (cond_by (λ (g : Facts). facts_right g ≡ true) (facts_right f) (λ e. e) (λ e. refused_facts_right)))

-- ---- each call

-- what holds of the machine as given, and of the step's where there is no refusal, holds of the machine after the call
unless_keeps : (P : Machine → Type 0) (k : ℕ) (m : Machine) (s : Step) → P m → (k ≡ 0 → P s.machine) → P (unless k m s).machine
unless_keeps P k m s before after = cond_by (λ (q : Step). P q.machine) (eqb k 0) (λ e. after (eqb-true k 0 e)) (λ e. before)

-- only at listening is it listening
at_listening : (w : Moment) (m : Machine) → is_listening w ≡ true → right_at w m ≡ true → right_at Listening m ≡ true
at_listening Idle m l r = absurd (false≢true l)
at_listening Opened m l r = absurd (false≢true l)
at_listening Round m l r = absurd (false≢true l)
at_listening Listening m l r = r
at_listening Offered m l r = absurd (false≢true l)
at_listening Direct m l r = absurd (false≢true l)

module _ (m : Machine) (h : machine_right m ≡ true) where
  -- its table is sound
  table_sound : sound m.table.facts m.table.rows ≡ true
  table_sound = (right_says m h).0

  -- a refused call leaves the machine as it is
  unless_right : (k : ℕ) (s : Step) → (k ≡ 0 → Right s) → Right (unless k m s)
  unless_right k s right = unless_keeps (λ n. machine_right n ≡ true) k m s h right

  -- Begin
  begun_right : (choice static new ticket room : ℕ) → Right (begun m choice static new ticket room)
  unfolding begun begin_refusal step_refusal
  begun_right choice static new ticket room =
      unless_right (begin_refusal m choice static new ticket room) (beginning m choice static new ticket)
      (λ k. let t = simp not-refused at k in beginning_right m table_sound choice static new ticket t.1.1.1)

  -- an answer, or none
  answered_right : (heard : Bool) (room : ℕ) → Right (answered m heard room)
  unfolding answered
  answered_right heard room =
      unless_right (step_refusal room m 0) (answer_at m.moment m heard) (λ k. answer_right m.moment m heard h (right_says m h).1)

  -- an identity
  identified_right : (bytes : List ℕ) (room : ℕ) → Right (identified m bytes room)
  unfolding identified identity_refusal step_refusal
  identified_right bytes room =
      unless_right (identity_refusal m (length bytes) room) (listened m bytes)
      (λ k.
      let t = simp not-refused at k in
      listened_right m table_sound bytes (at_listening m.moment m (not-false (is_listening m.moment) t.1.1.0) (right_says m h).1))

  -- giving up
  given_up_right : (room : ℕ) → Right (given_up m room)
  unfolding given_up
  given_up_right room = unless_right (give_up_refusal m room) (did (idle m.table.facts m.table.rows) (stop_cell ∷ [])) (λ k. back_to_idle m table_sound)

  -- Join
  joined_right : (choice room : ℕ) → Right (joined m choice room)
  unfolding joined join_refusal step_refusal
  joined_right choice room =
      unless_right (join_refusal m choice room) (joining m choice)
      (λ k. let t = simp not-refused at k in joining_right m table_sound choice t.1.1.1)

  -- retiring
  retired_right : (ticket : ℕ) → Right (retired m ticket)
  unfolding retired
  retired_right ticket =
      let place = place_of_ticket ticket m.table.rows in
      unless_right (retire_refusal m ticket) (did (idle m.table.facts (without place m.table.rows)) [])
      (λ k. idle_right m.table.facts (without place m.table.rows) (removed_sound m.table.facts m.table.rows place table_sound))

-- any call
pub keeps : (c : Call) (m : Machine) → machine_right m ≡ true → machine_right (after c m) ≡ true
keeps (begin choice static new ticket room) m h = begun_right m h choice static new ticket room
keeps (answer heard room) m h = answered_right m h heard room
keeps (identity bytes room) m h = identified_right m h bytes room
keeps (give_up room) m h = given_up_right m h room
keeps (join choice room) m h = joined_right m h choice room
keeps (retire ticket) m h = retired_right m h ticket
keeps (ask ticket) m h = h

-- any calls, one after the other
pub keeps_all : (cs : List Call) (m : Machine) → machine_right m ≡ true → machine_right (after_all cs m) ≡ true
keeps_all [] m h = h
keeps_all (c ∷ cs) m h = keeps_all cs (after c m) (keeps c m h)
