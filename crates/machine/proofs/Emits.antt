-- Every call's cells fit the eight that it is lent in front, so they fit the lent buffer, and written into the eight they are what its promise says.
use Prim.Native.Nat.{ℕ, ◌≤◌, ◌<◌}
use mathlib.Core.Path.{◌≡◌, refl, sym, ap, ◌∙◌}
use mathlib.Core.Bool.{Bool, true, false, cond, not}
use mathlib.Core.List.{List, ◌++◌, append_assoc}
use native.Mathlib.Omega.{arith}
use lib.Dec.{eqb, ltb}
use lib.ListN.{length, drop, length-map}
use Rattle.std.specs.Array.{IsFirstChunk}
use Rattle.std.proofs.lemmas.List.{take-append-drop, drop-append-le, length-take}
use borrow.Author.Tests.{ltb-false, lt-ltb, le-ltb, eqb-true, ne_eqb}
use Rattle.lists.proofs.Bools.{cond_by}
use Rattle.machine.proofs.Laws.{eight_bytes}
use Rattle.parity.specs.Cells.{identity_cell}
use Rattle.refusals.specs.Refusals.{number}
use Rattle.refusals.specs.declared.Refusal.{Refusal}
use Rattle.refusals.proofs.Laws.{number_not_zero}
use Rattle.machine.specs.declared.Stepped.{Stepped}
use Rattle.machine.specs.declared.Machine.{Machine}
use Rattle.machine.specs.declared.Moment.{Moment}
use Rattle.machine.specs.declared.Moment.TheVariants.{Idle, Opened, Round, Listening, Offered, Direct}
use Rattle.machine.specs.Moments.{machine_right}
use Rattle.machine.specs.Refusals.{step_refusal, begin_refusal, join_refusal, identity_refusal, give_up_refusal}
use Rattle.machine.specs.Steps.{Step, refuse, beginning, joining, round_rule, commanded, opened_answer, round_answer, listened, accepted, declined, direct_answer, answer_at}
use Rattle.machine.specs.Calls.{unless, begun, answered, identified, given_up, joined, stepped, ComesTo}

-- ---- room

-- a step's cells fit
abbrev pub Fits : ℕ → Step → Type 0
Fits room s = (length s.cells ≤ 8) × (length s.cells ≤ room)

-- at most eight
abbrev Short : Step → Type 0
Short s = length s.cells ≤ 8

-- those of a call that was lent so much room, if its step writes at most 8 where it is not refused
fits : (room : ℕ) (m : Machine) (more : ℕ) (s : Step) → (more ≡ 0 → length s.cells ≤ 8) → Fits room (unless (step_refusal room m more) m s)
unfolding step_refusal
fits room m more s h = go (ltb room 8) (ltb-false room 8) (machine_right m)
  where
    inner : 8 ≤ room → (b : Bool) → eqb more 0 ≡ b → Fits room (cond b s (refuse m more))
    inner r true e = let k : length s.cells ≤ 8 = h (eqb-true more 0 e) in omega arith
    inner r false e = omega arith

    go : (short : Bool) → (short ≡ false → 8 ≤ room) → (right : Bool) → Fits room (unless (cond short 11 (cond (not right) 28 more)) m s)
    go true r right = omega arith
    go false r false = omega arith
    go false r true = inner (r refl) (eqb more 0) refl

-- ---- each step writes at most eight

commanded_short : (m : Machine) → length (commanded m).cells ≤ 8
unfolding commanded round_rule
commanded_short m =
    cond_by Short (eqb m.choice 0) (λ _. omega arith)
    (λ _. cond_by Short (eqb m.choice 1) (λ _. omega arith)
    (λ _. cond_by Short (eqb m.choice 2) (λ _. omega arith)
    (λ _. cond_by Short (eqb m.choice 3) (λ _. omega arith)
    (λ _. cond_by Short (eqb m.choice 4) (λ _. omega arith) (λ _. omega arith)))))

pub joining_short : (m : Machine) (choice : ℕ) → length (joining m choice).cells ≤ 8
unfolding joining
joining_short m choice = cond_by Short (eqb choice 0) (λ _. omega arith) (λ _. omega arith)

pub beginning_short : (m : Machine) (choice static new ticket : ℕ) → length (beginning m choice static new ticket).cells ≤ 8
unfolding beginning
beginning_short m choice static new ticket = omega arith

pub listened_short : (m : Machine) (bytes : List ℕ) → length bytes ≡ 8 → length (listened m bytes).cells ≤ 8
unfolding listened
listened_short m bytes e = omega (arith, length-map bytes identity_cell)

pub answer_short : (w : Moment) (m : Machine) (heard : Bool) → length (answer_at w m heard).cells ≤ 8
unfolding opened_answer round_answer accepted round_rule declined direct_answer
answer_short Idle m heard = omega arith
answer_short Opened m true = commanded_short m
answer_short Opened m false = omega arith
answer_short Round m true = omega arith
answer_short Round m false = omega arith
answer_short Listening m heard = omega arith
answer_short Offered m true = omega arith
answer_short Offered m false = omega arith
answer_short Direct m true = omega arith
answer_short Direct m false = omega arith

-- ---- so the cells of each call fit

module _ (m : Machine) (room : ℕ) where
  pub begun_fits : (choice static new ticket : ℕ) → Fits room (begun m choice static new ticket room)
  unfolding begun begin_refusal beginning
  begun_fits choice static new ticket = fits room m _ _ (λ _. omega arith)

  pub answered_fits : (heard : Bool) → Fits room (answered m heard room)
  unfolding answered
  answered_fits heard = fits room m _ _ (λ _. answer_short m.moment m heard)

  pub identified_fits : (bytes : List ℕ) → Fits room (identified m bytes room)
  unfolding identified identity_refusal listened
  identified_fits bytes = fits room m _ _ (λ e. omega (arith, length-map bytes identity_cell, eight_bytes m (length bytes) e))

  pub given_up_fits : Fits room (given_up m room)
  unfolding given_up give_up_refusal
  given_up_fits = fits room m _ _ (λ _. omega arith)

  pub joined_fits : (choice : ℕ) → Fits room (joined m choice room)
  unfolding joined join_refusal
  joined_fits choice = fits room m _ _ (λ _. joining_short m choice)

-- ---- the eight in front of the lent cells

module _ (m : Machine) (more : ℕ) (s : Step) (entry : List ℕ) where
  -- fewer are lent
  pub few_lent : length entry < 8 → {d : Stepped} → d ≡ stepped (refuse m 11) → ComesTo (unless (step_refusal (length entry) m more) m s) entry d entry
  unfolding step_refusal
  few_lent few e = rw (lt-ltb (length entry) 8 few) (e, refl)

  module _ {front : List ℕ} (lent : IsFirstChunk entry front 8) where
    -- with eight lent, the call is refused for what it is refused with more lent
    room_same : step_refusal 8 m more ≡ step_refusal (length entry) m more
    unfolding step_refusal
    room_same = rw (le-ltb (length entry) 8 lent.enough)

    pub call_refused : (r : Refusal) → number r ≡ step_refusal 8 m more → {d : Stepped} → d ≡ stepped (refuse m (number r))
        → ComesTo (unless (step_refusal (length entry) m more) m s) entry d (front ++ drop 8 entry)
    call_refused r e p = rw (← room_same, ← e, ne_eqb (number r) 0 (number_not_zero r)) (p, rw (lent.same, take-append-drop 8 entry))

    pub call_passed : 0 ≡ step_refusal 8 m more → length s.cells ≤ 8 → {d : Stepped} {after : List ℕ} → ComesTo s front d after
        → ComesTo (unless (step_refusal (length entry) m more) m s) entry d (after ++ drop 8 entry)
    call_passed e short h =
        let n = length s.cells in
        let behind : drop n front ++ drop 8 entry ≡ drop n entry =
        sym (drop-append-le n front (drop 8 entry) (omega (arith, lent.enough, ap length lent.same, length-take 8 entry)))
        ∙ rw (lent.same, take-append-drop 8 entry) in
        rw (← room_same, ← e) (h.0, rw (h.1, append_assoc s.cells (drop n front) (drop 8 entry), behind))
