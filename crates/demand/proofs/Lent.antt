-- What is asked of a run on the bench, of a run over boards that are lent as one list: from the list at entry to the list at exit.
use Prim.Native.Nat.{ℕ, ◌+◌, ◌*◌, ◌≤◌}
use mathlib.Core.Path.{◌≡◌}
use mathlib.Core.Bool.{true, false}
use mathlib.Core.List.{List, map}
use native.Mathlib.Omega.{arith}
use lib.Dec.{eqb, ltb}
use lib.ListN.{length}
use Rattle.lists.specs.Lists.{any, count, pairwise}
use Rattle.begins.specs.Begins.{assign_refusal}
use Rattle.reader.specs.Read.{says, answer_to, offers_to}
use Rattle.machine.specs.declared.Machine.{Machine}
use Rattle.machine.specs.Moments.{machine_right, is_idle}
use Rattle.told.specs.Told.{ten_each}
use Rattle.boards.specs.declared.Board.{Board}
use Rattle.boards.specs.Wire.{waits}
use Rattle.boards.specs.Plain.{are_wide}
use Rattle.bench.specs.Wire.{on_wire}
use Rattle.bench.specs.Runs.{ran}
use Rattle.lent.specs.Runs.{lent_refusal, lent_run, lent_cells}
use Rattle.demand.specs.Demand.{MayRun, FairRounds, Stay, accepted_in, answers_in, two_refused, offer_in, reading_of}
use Rattle.demand.proofs.Demand.{may_taken, taken_enough, taken_may, same_run, fair_rounds, boards_stay, accepted_rise, rounds_twice}
use Rattle.demand.proofs.Demand.{ends_idle, ends_right, all_served, two_refused_lem, table_ended, no_boards_lem, no_other, rounds_counted, read_back}

-- the caller's own array needs nothing more: what `run_owned` promises is over `lent_run m (take count boards)`

-- what may run, any sound idle table on which a run may begin and any 0 to 32 boards, is not refused, with 1,024 cells lent, addresses of seven
-- bits and flips of 0 to 8
pub lent_taken : (m : Machine) (bs : List Board) (flips : List ℕ) (room : ℕ) → MayRun m bs → 1024 ≤ room
    → any (λ (b : Board). ltb 127 b.address) bs ≡ false → any (ltb 8) flips ≡ false → lent_refusal m bs flips room ≡ 0
lent_taken m bs flips room may enough = may_taken m bs (length bs) flips room may enough may.few

module _ (m : Machine) (bs : List Board) (flips : List ℕ) (room : ℕ) (taken : lent_refusal m bs flips room ≡ 0) (wide : are_wide bs ≡ true) where
  -- a run that is not refused may run: so all that is asked of the run on the wire holds
  pub lent_may_run : MayRun m bs
  lent_may_run = taken_may m bs (length bs) flips room taken (omega arith) wide

  -- 1,024 cells were lent
  enough : 1024 ≤ room
  enough = taken_enough m bs (length bs) flips room taken

  -- it equals the run on the wire in every row, board and ending
  pub lent_on_wire : lent_run m bs flips room ≡ ran (on_wire room m bs flips)
  unfolding lent_run
  lent_on_wire = rw (taken, same_run room m bs flips enough lent_may_run)

  -- and in every cell
  pub lent_cells_on_wire : lent_cells m bs flips room ≡ (on_wire room m bs flips).cells
  unfolding lent_cells
  lent_cells_on_wire = rw (taken, same_run room m bs flips enough lent_may_run)

  -- from entry to exit each answered round goes to the smallest identity still without an address, and its bearers take or refuse together
  pub lent_fair_rounds : FairRounds bs (on_wire room m bs flips).rounds (lent_run m bs flips room).boards
  lent_fair_rounds = rw lent_on_wire (fair_rounds room m bs flips enough lent_may_run)

  -- each board of the list keeps its place and its identity, and an address that it has
  pub lent_boards_stay : Stay bs (lent_run m bs flips room).boards
  lent_boards_stay = rw lent_on_wire (boards_stay room m bs flips enough lent_may_run)

  -- accepted identities strictly rise
  pub lent_accepted_rise : pairwise ltb (accepted_in (on_wire room m bs flips).rounds) ≡ true
  lent_accepted_rise = accepted_rise room m bs flips enough lent_may_run

  -- its counter of rounds is how many rounds were answered
  pub lent_rounds_counted : (lent_run m bs flips room).rounds ≡ length (on_wire room m bs flips).rounds
  lent_rounds_counted = rw lent_on_wire (rounds_counted room m bs flips enough lent_may_run)

  -- answered rounds are at most twice the boards that started without an address
  pub lent_rounds_twice : (lent_run m bs flips room).rounds ≤ 2 * count waits bs
  lent_rounds_twice = rw lent_rounds_counted (rounds_twice room m bs flips enough lent_may_run)

  -- the machine is idle afterwards, and keeps the rules
  pub lent_rests : (is_idle (lent_run m bs flips room).machine.moment ≡ true) × (machine_right (lent_run m bs flips room).machine ≡ true)
  lent_rests = rw lent_on_wire (ends_idle room m bs flips enough lent_may_run, ends_right room m bs flips enough lent_may_run)

  -- ending 0: every board of the list at exit has an address
  pub lent_all_served : (lent_run m bs flips room).ending ≡ 0 → any waits (lent_run m bs flips room).boards ≡ false
  lent_all_served = rw lent_on_wire (all_served room m bs flips enough lent_may_run)

  -- ending 1: the last two offers were refused
  pub lent_two_refused : (lent_run m bs flips room).ending ≡ 1 → two_refused (answers_in (on_wire room m bs flips).rounds) ≡ true
  lent_two_refused = rw lent_on_wire (two_refused_lem room m bs flips enough lent_may_run)

  -- endings 2, 3, 4: Begin for assign would now be refused with 5, 6, 7
  pub lent_table_ended : let r = lent_run m bs flips room in
      2 ≤ r.ending → r.ending ≤ 4 → assign_refusal r.machine.table.facts r.machine.table.rows ≡ r.ending + 3
  lent_table_ended = rw lent_on_wire (table_ended room m bs flips enough lent_may_run)

  -- ending 5: exactly where the list is empty
  pub lent_no_boards : eqb (lent_run m bs flips room).ending 5 ≡ eqb (length bs) 0
  lent_no_boards = rw lent_on_wire (no_boards_lem room m bs flips enough lent_may_run)

  -- there is no other
  pub lent_no_other : (lent_run m bs flips room).ending ≤ 5
  lent_no_other = rw lent_on_wire (no_other room m bs flips enough lent_may_run)

  -- the record that it writes is read, with exactly the offers of its rounds
  pub lent_read_back : (space : ℕ) → 10 * length (on_wire room m bs flips).rounds ≤ space
      → (answer_to (lent_cells m bs flips room) space ≡ says (reading_of bs (on_wire room m bs flips)))
      × (offers_to (lent_cells m bs flips room) space ≡ ten_each (map offer_in (on_wire room m bs flips).rounds))
  lent_read_back = rw lent_cells_on_wire (read_back room m bs flips enough lent_may_run)
