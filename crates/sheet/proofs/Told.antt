-- What the functions over a right sheet give: the machine that is started on its facts, and the run with its boards and flips.
use Prim.Native.Nat.{ℕ, zero, suc, ◌-◌}
use mathlib.Core.Path.{◌≡◌, refl, sym, ap, ◌∙◌}
use mathlib.Core.Bool.{Bool, true, false, cond}
use mathlib.Core.List.{List}
use native.Mathlib.Omega.{arith}
use lib.ListN.{length, get_or, take, drop, replicate, length-take, length-drop}
use lib.Seq.{take_all, take_at}
use Rattle.std.specs.Int.{from_be_bytes, w32}
use Rattle.refusals.specs.declared.Refusal.{Refusal}
use Rattle.refusals.specs.declared.Refusal.TheVariants.{OutOfRange, Full, NoFreeAddress, NoTicketLeft, WrongMoment, TooFewLent, TooManyBoards, FlipOver8, BrokenMachine}
use Rattle.refusals.specs.Refusals.{number}
use Rattle.slots.specs.declared.Facts.{Facts}
use Rattle.slots.specs.Slots.{facts_of, facts_right}
use Rattle.boards.specs.declared.Board.{Board}
use Rattle.machine.specs.declared.Machine.{Machine}
use Rattle.machine.specs.declared.Stepped.{Stepped}
use Rattle.machine.specs.Calls.{started, stepped}
use Rattle.machine.specs.Refusals.{rest_refusal}
use Rattle.begins.specs.Begins.{assign_refusal}
use Rattle.bench.specs.Runs.{run_refusal}
use Rattle.lent.specs.declared.Report.{Report}
use Rattle.lent.proofs.Runs.{lent_refusal_lem}
use Rattle.lent.specs.declared.Owned.{Owned}
use Rattle.lent.specs.Places.{no_board}
use Rattle.lent.specs.Runs.{owned_run, lent_refusal, lent_run, reported}
use Rattle.sheet.specs.Sheet.{bodies_begin, sheet_right, facts_in, boards_in, flips_in, in_places}
use Rattle.sheet.proofs.Bodies.{facts_lie, facts_inside}
use Rattle.sheet.proofs.Numbers.{four_bytes}

-- ---- the facts

module _ (sheet : List ℕ) (right : sheet_right sheet ≡ true) where
  -- their body
  abbrev facts_body : List ℕ
  facts_body = take 21 (drop (bodies_begin sheet) sheet)

  facts_long : length facts_body ≡ 21
  facts_long = simp (length-take, length-drop) (omega (arith, facts_inside sheet right))

  facts_told : facts_of (get_or facts_body 0 0) (take 16 (drop 1 facts_body)) (from_be_bytes w32 (take 4 (drop 17 facts_body))) ≡ facts_in sheet
  unfolding facts_in
  facts_told =
      let four : length (drop 17 facts_body) ≡ 4 = rw length-drop (omega (arith, facts_long)) in
      rw (take_all 4 (drop 17 facts_body) (omega arith), four_bytes (drop 17 facts_body) four, facts_lie sheet right)

  -- a machine that is started on them
  pub start_told : {bodies bytes : List ℕ} {last : ℕ} {s : Stepped}
      → bodies ≡ drop (bodies_begin sheet) sheet → bytes ≡ take 4 (drop 17 (take 21 bodies)) → last ≡ from_be_bytes w32 bytes
      → s ≡ stepped (started (facts_of (get_or (take 21 bodies) 0 0) (take 16 (drop 1 (take 21 bodies))) last))
      → s ≡ stepped (started (facts_in sheet))
  start_told b e l t = t ∙ rw (l, e, b, facts_told)

module _ (f : Facts) {s : Stepped} (told : s ≡ stepped (started f)) where
  start_says : s.refusal ≡ (started f).refusal
  start_says = ap (λ (t : Stepped). t.refusal) told

  -- refused 1, and only for facts that break a rule
  pub start_refused : (s.refusal ≡ 0 → ⊥) → 1 ≡ (started f).refusal
  unfolding started
  start_refused n = go (facts_right f) start_says
    where
      go : (b : Bool) → s.refusal ≡ cond b 0 1 → ◌≡◌ {A = ℕ} 1 (cond b 0 1)
      go true e = absurd (n e)
      go false e = refl

  pub start_taken : s.refusal ≡ 0 → 0 ≡ (started f).refusal
  start_taken z = sym z ∙ start_says

-- ---- the run

-- with the boards that are lent
pub play_told : (sheet : List ℕ) (m : Machine) (room : ℕ) {boards : List Board} {count : ℕ} {flips : List ℕ} {owned : Owned}
    → count ≡ length (boards_in sheet) → boards ≡ in_places (boards_in sheet) → flips ≡ flips_in sheet → owned ≡ owned_run m boards count flips room
    → owned.report ≡ reported (lent_run m (boards_in sheet) (flips_in sheet) room)
play_told sheet m room n b f h =
    let bs = boards_in sheet in
    ap (λ (x : Owned). x.report) h ∙ rw (b, n, f, take_at bs (replicate (40 - length bs) no_board) (length bs) refl)

-- ---- refusals by their numbers

-- a number is that of a refusal, unless it is 0
abbrev Named : ℕ → Type 0
Named k = (k ≡ 0 → ⊥) → (r : Refusal) × (number r ≡ k)

none : Named 0
none n = absurd (n refl)

named : (r : Refusal) → Named (number r)
named r n = (r, refl)

or_else : (b : Bool) {x y : ℕ} → Named x → Named y → Named (cond b x y)
or_else true p q = p
or_else false p q = q

-- a run's is
run_named : (m : Machine) (boards : List Board) (flips : List ℕ) (room : ℕ) → Named (lent_refusal m boards flips room)
unfolding run_refusal rest_refusal assign_refusal
run_named m boards flips room =
    or_else _ (named TooFewLent)
    (or_else _ (named BrokenMachine)
    (or_else _ (named WrongMoment)
    (or_else _ (named TooManyBoards)
    (or_else _ (named OutOfRange)
    (or_else _ (named FlipOver8)
    (or_else _ (named Full) (or_else _ (named NoFreeAddress) (or_else _ (named NoTicketLeft) none))))))))

-- what is reported of a run has its refusal
pub reported_refusal : (m : Machine) (boards : List Board) (flips : List ℕ) (room : ℕ) {report : Report}
    → report ≡ reported (lent_run m boards flips room) → report.refusal ≡ lent_refusal m boards flips room
reported_refusal m boards flips room e = ap (λ (r : Report). r.refusal) e ∙ lent_refusal_lem m boards flips room

-- and where no refusal has that number, there is none
pub not_refused : (m : Machine) (boards : List Board) (flips : List ℕ) (room : ℕ) {k : ℕ}
    → k ≡ lent_refusal m boards flips room → ((r : Refusal) → number r ≡ k → ⊥) → 0 ≡ lent_refusal m boards flips room
not_refused m boards flips room e n = go (lent_refusal m boards flips room) refl
  where
    go : (j : ℕ) → lent_refusal m boards flips room ≡ j → 0 ≡ j
    go zero z = refl
    go (suc j) z =
        let p = run_named m boards flips room (λ z'. omega (arith, z, z')) in
        absurd (n p.0 (p.1 ∙ sym e))
