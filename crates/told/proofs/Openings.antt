-- From opened: what the first header and the command behind it say.
use Prim.Native.Nat.{ℕ, ◌+◌}
use mathlib.Core.Path.{◌≡◌, refl, sym, ap, ◌∙◌}
use mathlib.Core.Bool.{Bool, true, false, false≢true}
use mathlib.Core.List.{List, [], ◌∷◌, ◌++◌}
use mathlib.Core.Option.{some}
use native.Mathlib.Omega.{arith}
use lib.Count.{ones_in}
use lib.Dec.{eqb}
use lib.ListN.{length, drop, replicate}
use borrow.Author.Tests.{eqb-true}
use Rattle.lists.proofs.Bools.{cond_by}
use Rattle.parity.specs.Parity.{odd_bit, parity}
use Rattle.parity.specs.Cells.{repeated_start_cell, stop_cell, broadcast_write, assign_cell, reset_all_cell, set_from_static_cell, move_cell, silence_cell, allow_cell, joining_cell}
use Rattle.slots.specs.declared.Facts.{Facts}
use Rattle.rows.specs.Rows.{no_row}
use Rattle.rows.specs.declared.Row.{Row}
use Rattle.free.specs.Free.{can_assign}
use Rattle.begins.specs.Begins.{asked_right}
use Rattle.readings.specs.declared.Command.{Command}
use Rattle.readings.specs.declared.Command.TheVariants.{Assign, ResetAll, SetFromStatic, Move, Silence, Allow}
use Rattle.readings.specs.declared.Command.TheVariants as commands
use Rattle.readings.specs.Readings.{may_follow, bare}
use Rattle.reader.specs.Points.{Point, to, again, header, round, event, ending, command_of, next}
use Rattle.reader.specs.Points as points
use Rattle.reader.specs.Read.{stopped, from}
use Rattle.machine.specs.Moments.{idle, opened, direct}
use Rattle.machine.specs.Steps.{Step, did, commanded, round_rule, opened_answer}
use Rattle.told.specs.Told.{command_chosen}
use Rattle.told.proofs.Asks.{assign_can, nothing_asked_lem}
use Rattle.told.proofs.Stands.{none_left, reads, joining_of, opening_of, at_opened, at_direct, at_round, at_idle, hearing, said, Leads}

-- ---- the cells

-- 505, 514
silent_read : (behind : Bool) (xs : List ℕ) (at : ℕ)
    → reads (to (opening_of behind)) (broadcast_write false ∷ stop_cell ∷ xs) at ≡ stopped (bare (joining_of behind) commands.None) xs (at + 2)
unfolding from next
silent_read true xs at = ap (stopped (bare (joining_of true) commands.None) xs) (omega arith)
silent_read false xs at = ap (stopped (bare (joining_of false) commands.None) xs) (omega arith)

-- 504, and a command that may follow
command_read : (behind : Bool) (x : ℕ) (xs : List ℕ) (at : ℕ) (p : Point) → may_follow (joining_of behind) (command_of x) ≡ true
    → points.commanded (joining_of behind) (command_of x) ≡ to p → reads (to (opening_of behind)) (broadcast_write true ∷ x ∷ xs) at ≡ from p xs (at + 2)
unfolding from next
command_read true x xs at p may e = rw (may, e) (ap (from p xs) (omega arith))
command_read false x xs at p may e = rw e (ap (from p xs) (omega arith))

-- no set and no move follows a joining
alone : (behind : Bool) (c : Command) → may_follow (joining_of true) c ≡ false → may_follow (joining_of behind) c ≡ true → behind ≡ false
alone true c n may = absurd (false≢true (sym n ∙ may))
alone false c n may = refl

-- ---- the steps

module _ (behind : Bool) (choice asked wanted : ℕ) (f : Facts) (rows : List Row)
    (may : may_follow (joining_of behind) (command_chosen choice) ≡ true) where
  -- a step leads on from opened, with an answer or none
  abbrev OpenedLeads : Bool → Step → Type 0
  OpenedLeads heard s = Leads behind choice asked wanted (at_opened f rows may) (some heard) s

  -- to idle
  opened_ends : (heard : Bool) (rows' : List Row) (cells : List ℕ)
      → ((xs : List ℕ) (at : ℕ) → reads (to (opening_of behind)) (cells ++ xs) at
      ≡ stopped (said behind choice asked wanted (hearing heard false false 0)) xs (at + length cells))
      → OpenedLeads heard (did (idle f rows') cells)
  opened_ends heard rows' cells h = record {
    on = at_idle f rows' (hearing heard false false 0);
    machine = refl;
    so = refl;
    cells = h;
    ten = λ xs os none. none_left os (drop 3 (cells ++ xs)) none;
  }

  -- without an answer
  silent_ends : OpenedLeads false (did (idle f rows) (broadcast_write false ∷ stop_cell ∷ []))
  silent_ends = opened_ends false rows (broadcast_write false ∷ stop_cell ∷ []) (silent_read behind)

  -- the choice's command may follow
  follows : (c : Command) (x : ℕ) → command_chosen choice ≡ c → c ≡ command_of x → may_follow (joining_of behind) (command_of x) ≡ true
  follows c x z e = rw (← e, ← z) may

  -- reset all: 504, 13, 514
  reset_ends : command_chosen choice ≡ ResetAll → asked ≡ 0
      → OpenedLeads true (did (idle f (replicate 32 no_row)) (broadcast_write true ∷ reset_all_cell ∷ stop_cell ∷ []))
  unfolding from next command_of odd_bit parity ones_in
  reset_ends z a =
      opened_ends true (replicate 32 no_row) (broadcast_write true ∷ reset_all_cell ∷ stop_cell ∷ [])
      (λ xs at.
      command_read behind reset_all_cell (stop_cell ∷ xs) at (ending (bare (joining_of behind) ResetAll)) (follows ResetAll reset_all_cell z refl) refl
      ∙ rw (z, a) (ap (stopped (bare (joining_of behind) ResetAll) xs) (omega arith)))

  -- silence and allow: 504, the command, 16, 514
  about_ends : (c : Command) (x : ℕ) → command_chosen choice ≡ c → asked ≡ 0 → c ≡ command_of x
      → points.commanded (joining_of behind) c ≡ to (event (joining_of behind) c)
      → OpenedLeads true (did (idle f rows) (broadcast_write true ∷ x ∷ joining_cell ∷ stop_cell ∷ []))
  unfolding from next odd_bit parity ones_in
  about_ends c x z a e l =
      opened_ends true rows (broadcast_write true ∷ x ∷ joining_cell ∷ stop_cell ∷ [])
      (λ xs at.
      command_read behind x (joining_cell ∷ stop_cell ∷ xs) at (event (joining_of behind) c) (follows c x z e) (rw (← e) l)
      ∙ rw (z, a) (ap (stopped (bare (joining_of behind) c) xs) (omega arith)))

  -- set and move: 504, the command, 513, direct
  direct_follows : (c : Command) (x : ℕ) → command_chosen choice ≡ c → c ≡ command_of x → may_follow (joining_of true) c ≡ false
      → points.commanded (joining_of behind) c ≡ to (again (header c))
      → OpenedLeads true (did (direct f rows choice asked wanted) (broadcast_write true ∷ x ∷ repeated_start_cell ∷ []))
  unfolding from next
  direct_follows c x z e n l = record {
    on = at_direct f rows (alone behind c n (rw (← z) may));
    machine = refl;
    so = refl;
    cells =
        λ xs at.
        command_read behind x (repeated_start_cell ∷ xs) at (again (header c)) (follows c x z e) (rw (← e) l)
        ∙ rw z (ap (from (header c) xs) (omega arith));
    ten = λ xs os none. none_left os xs none;
  }

  -- assign: 504, 14, 513, round
  round_follows_lem : choice ≡ 0 → asked ≡ 0 → can_assign f rows ≡ true
      → OpenedLeads true (round_rule f rows (broadcast_write true ∷ assign_cell ∷ []))
  unfolding round_rule from next command_of odd_bit parity ones_in
  round_follows_lem z a can = rw can record {
    on = at_round f rows 0 0 false z a;
    machine = refl;
    so = refl;
    cells =
        λ xs at.
        command_read behind assign_cell (repeated_start_cell ∷ xs) at (again (round (joining_of behind) 0))
        (follows Assign assign_cell (ap command_chosen z) refl) refl
        ∙ ap (from (round (joining_of behind) 0) xs) (omega arith);
    ten = λ xs os same. same;
  }

  -- an answer, by the choice
  commanded_leads : asked_right f rows choice asked wanted ≡ true → OpenedLeads true (commanded (opened f rows choice asked wanted))
  unfolding commanded command_of odd_bit parity ones_in
  commanded_leads right =
      let free : (k : ℕ) → choice ≡ k → eqb k 2 ≡ false → eqb k 3 ≡ false → asked ≡ 0 =
      λ k z i j. nothing_asked_lem f rows asked wanted choice (rw z i) (rw z j) right in
      let by : (k : ℕ) → eqb choice k ≡ true → command_chosen choice ≡ command_chosen k = λ k e. ap command_chosen (eqb-true choice k e) in
      cond_by (OpenedLeads true) (eqb choice 0)
      (λ e. let z = eqb-true choice 0 e in round_follows_lem z (free 0 z refl refl) (assign_can f rows asked wanted (rw z at right))) λ zero.
      cond_by (OpenedLeads true) (eqb choice 1) (λ e. reset_ends (by 1 e) (free 1 (eqb-true choice 1 e) refl refl)) λ one.
      cond_by (OpenedLeads true) (eqb choice 2) (λ e. direct_follows SetFromStatic set_from_static_cell (by 2 e) refl refl refl) λ two.
      cond_by (OpenedLeads true) (eqb choice 3) (λ e. direct_follows Move move_cell (by 3 e) refl refl refl) λ three.
      let none = nothing_asked_lem f rows asked wanted choice two three right in
      cond_by (OpenedLeads true) (eqb choice 4)
      (λ e. about_ends Silence silence_cell (by 4 e) none refl refl)
      (λ four. about_ends Allow allow_cell (rw (zero, one, two, three, four)) none refl refl)

  -- an answer, or none
  pub opened_leads : (heard : Bool) → asked_right f rows choice asked wanted ≡ true
      → Leads behind choice asked wanted (at_opened f rows may) (some heard) (opened_answer (opened f rows choice asked wanted) heard)
  unfolding opened_answer
  opened_leads true right = commanded_leads right
  opened_leads false right = silent_ends
