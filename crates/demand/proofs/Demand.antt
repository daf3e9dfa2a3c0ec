-- What is asked of a run on the bench: theorems about the run on the wire.
use Prim.Native.Nat.{ℕ, zero, suc, ◌+◌, ◌*◌, ◌<◌, ◌≤◌}
use mathlib.Core.Path.{◌≡◌, refl, sym, ap, subst}
use mathlib.Core.Bool.{Bool, true, false, cond, not}
use mathlib.Core.List.{List, map}
use native.Mathlib.Omega.{arith}
use lib.Dec.{eqb, ltb}
use lib.ListN.{length, get_or, take, drop, length-take}
use Rattle.lists.specs.Lists.{any, count, pairwise}
use Rattle.begins.specs.Begins.{assign_refusal}
use Rattle.reader.specs.Read.{says, answer_to, offers_to}
use Rattle.machine.specs.declared.Machine.{Machine}
use Rattle.machine.specs.Moments.{machine_right, is_idle}
use Rattle.machine.proofs.Laws.{rest_resting}
use Rattle.told.specs.Told.{ten_each}
use Rattle.boards.specs.declared.Board.{Board}
use Rattle.boards.specs.Wire.{waits}
use Rattle.boards.specs.Plain.{are_wide}
use Rattle.bench.specs.Play.{Play, flip_now, flips_then, rounds_in}
use Rattle.bench.specs.Wire.{opened, round_on, rounds_on, on_wire}
use Rattle.bench.specs.Plain.{plain}
use Rattle.bench.specs.Runs.{run_refusal, refusal_of, ran, placed, benched, bench_cells}
use Rattle.bench.proofs.Same.{idle_stays, wire_plain}
use Rattle.bench.proofs.Counts as counts
use Rattle.bench.proofs.Refused.{begin_asked}
use Rattle.bench.proofs.Benched.{allowed}
use Rattle.demand.specs.Demand.{MayRun, FairRounds, Stay, accepted_in, answers_in, two_refused, ByCalls, offer_in, reading_of}
use Rattle.demand.proofs.Runs.{plain_fair, plain_rises, plain_few, plain-idle, plain_right, plain_by_flips, plain_served, plain-refused}
use Rattle.demand.proofs.Runs.{plain-says, plain_ended, plain_nobody}
use Rattle.demand.proofs.Stays.{fair_stay}
use Rattle.demand.proofs.ReadBack.{plain_read}
use Rattle.demand.proofs.ByCalls.{plain_by_calls}

-- ---- rounds enough

-- rounds on the wire that came to idle are the same if there may be more
more_same : (room n j : ℕ) (ks : List ℕ) (p : Play) → n ≤ j → is_idle (rounds_on room n ks p).machine.moment ≡ true
    → rounds_on room j ks p ≡ rounds_on room n ks p
unfolding rounds_on
more_same room zero j ks p h e = idle_stays room j ks p e
more_same room (suc n) zero ks p h e = absurd (omega arith)
more_same room (suc n) (suc j) ks p h e =
    go (is_idle p.machine.moment) (more_same room n j (flips_then ks) (round_on room (flip_now ks) p) (omega arith)) e
  where
    go : (b : Bool) {q q' : Play} → (is_idle q.machine.moment ≡ true → q' ≡ q) → is_idle (cond b p q).machine.moment ≡ true
        → cond b p q' ≡ cond b p q
    go true f e = refl
    go false f e = f e

-- ---- the theorems

module _ (room : ℕ) (m : Machine) (bs : List Board) (ks : List ℕ) (lent : 1024 ≤ room) (may : MayRun m bs) where
  -- the run on the wire is the plain rule's, in every cell, row, board and round, and in its ending
  pub same_run : on_wire room m bs ks ≡ plain m bs ks
  same_run = wire_plain room m bs ks lent may.right may.idles may.begins may.wide

  -- so what holds of that holds of it
  as_plain : (P : Play → Type 0) → P (plain m bs ks) → P (on_wire room m bs ks)
  as_plain P h = subst P (sym same_run) h

  -- each answered round goes to the smallest identity still without an address, and its bearers take the address together or refuse it together
  pub fair_rounds : FairRounds bs (on_wire room m bs ks).rounds (on_wire room m bs ks).boards
  fair_rounds = as_plain (λ p. FairRounds bs p.rounds p.boards) (plain_fair m ks bs may)

  -- each board keeps its place and its identity, and an address that it has
  pub boards_stay : Stay bs (on_wire room m bs ks).boards
  boards_stay = fair_stay bs (on_wire room m bs ks).rounds (on_wire room m bs ks).boards fair_rounds

  -- the identities that accepted an address strictly rise
  pub accepted_rise : pairwise ltb (accepted_in (on_wire room m bs ks).rounds) ≡ true
  accepted_rise = as_plain (λ p. pairwise ltb (accepted_in p.rounds) ≡ true) (plain_rises m ks bs may)

  -- answered rounds are at most twice the boards that begin without an address
  pub rounds_twice : length (on_wire room m bs ks).rounds ≤ 2 * count waits bs
  rounds_twice = as_plain (λ p. length p.rounds ≤ 2 * count waits bs) (plain_few m ks bs may)

  -- the machine is idle afterwards
  pub ends_idle : is_idle (on_wire room m bs ks).machine.moment ≡ true
  ends_idle = as_plain (λ p. is_idle p.machine.moment ≡ true) (plain-idle m ks bs may)

  -- and keeps the rules
  pub ends_right : machine_right (on_wire room m bs ks).machine ≡ true
  ends_right = as_plain (λ p. machine_right p.machine ≡ true) (plain_right m ks bs may)

  -- the run is over: were it played on, it would be the same
  pub more_rounds_on : (n : ℕ) → rounds_on room (65 + n) ks (opened room m bs) ≡ on_wire room m bs ks
  unfolding on_wire
  more_rounds_on n = more_same room 65 (65 + n) ks (opened room m bs) (omega arith) ends_idle

  -- the i-th answered round is accepted exactly if the i-th flip is of no bit: 8 or above, or behind the end of the list
  pub by_flips : let rounds = (on_wire room m bs ks).rounds in
      (i : ℕ) → i < length rounds → get_or (answers_in rounds) i false ≡ not (ltb (get_or ks i 8) 8)
  by_flips =
      as_plain (λ p. (i : ℕ) → i < length p.rounds → get_or (answers_in p.rounds) i false ≡ not (ltb (get_or ks i 8) 8)) (plain_by_flips m ks bs may)

  -- ending 0: every board has an address
  pub all_served : (on_wire room m bs ks).ending ≡ 0 → any waits (on_wire room m bs ks).boards ≡ false
  all_served = as_plain (λ p. p.ending ≡ 0 → any waits p.boards ≡ false) (plain_served m ks bs may)

  -- ending 1: the last two offers were refused
  pub two_refused_lem : (on_wire room m bs ks).ending ≡ 1 → two_refused (answers_in (on_wire room m bs ks).rounds) ≡ true
  two_refused_lem = as_plain (λ p. p.ending ≡ 1 → two_refused (answers_in p.rounds) ≡ true) (plain-refused m ks bs may)

  -- endings 2, 3, 4: Begin for assign would now be refused with 5, 6, 7
  pub table_ended : let p = on_wire room m bs ks in
      2 ≤ p.ending → p.ending ≤ 4 → assign_refusal p.machine.table.facts p.machine.table.rows ≡ p.ending + 3
  table_ended =
      as_plain (λ p. 2 ≤ p.ending → p.ending ≤ 4 → assign_refusal p.machine.table.facts p.machine.table.rows ≡ p.ending + 3) (plain-says m ks bs may)

  -- ending 5: exactly where there are no boards
  pub no_boards_lem : eqb (on_wire room m bs ks).ending 5 ≡ eqb (length bs) 0
  no_boards_lem = as_plain (λ p. eqb p.ending 5 ≡ eqb (length bs) 0) (plain_nobody m ks bs may)

  -- there is no other
  pub no_other : (on_wire room m bs ks).ending ≤ 5
  no_other = as_plain (λ p. p.ending ≤ 5) (plain_ended m ks bs may)

  -- its record fits in 1,024 cells
  pub short : length (on_wire room m bs ks).cells ≤ 1024
  short = as_plain (λ p. length p.cells ≤ 1024) (counts.short m bs ks)

  -- its answered round headers are its rounds
  pub rounds_counted : rounds_in (on_wire room m bs ks).cells ≡ length (on_wire room m bs ks).rounds
  rounds_counted = as_plain (λ p. rounds_in p.cells ≡ length p.rounds) (counts.rounds_counted m bs ks may.right may.begins)

  -- its record is read, with exactly its offers
  pub read_back : (space : ℕ) → 10 * length (on_wire room m bs ks).rounds ≤ space
      → (answer_to (on_wire room m bs ks).cells space ≡ says (reading_of bs (on_wire room m bs ks)))
      × (offers_to (on_wire room m bs ks).cells space ≡ ten_each (map offer_in (on_wire room m bs ks).rounds))
  read_back space =
      as_plain
      (λ p.
      10 * length p.rounds ≤ space
      → (answer_to p.cells space ≡ says (reading_of bs p)) × (offers_to p.cells space ≡ ten_each (map offer_in p.rounds)))
      (plain_read m ks bs may space (counts.short m bs ks))

  -- it is calls of a table's life, so that what holds over any calls holds of it: no ticket is given twice, a retired one is turned away
  pub by_calls : ByCalls m (on_wire room m bs ks)
  by_calls = as_plain (ByCalls m) (plain_by_calls m ks bs may)

-- ---- runs that are not refused, over so many boards

-- what may run is not refused, with 1,024 cells lent, addresses of seven bits and flips of 0 to 8
pub may_taken : (m : Machine) (bs : List Board) (n : ℕ) (flips : List ℕ) (room : ℕ) → MayRun m bs → 1024 ≤ room → n ≤ 32
    → any (λ (b : Board). ltb 127 b.address) bs ≡ false → any (ltb 8) flips ≡ false → run_refusal m bs n flips room ≡ 0
may_taken m bs n flips room may lent few low tame =
    let rests = rest_resting m refl (ap not may.right) refl (ap not may.idles) in
    sym (begin_asked m bs n flips room lent rests few refl low refl tame (sym may.begins))

module _ (m : Machine) (bs : List Board) (n : ℕ) (flips : List ℕ) (room : ℕ) (taken : run_refusal m bs n flips room ≡ 0) where
  -- what is not refused was lent 1,024 cells
  pub taken_enough : 1024 ≤ room
  taken_enough = (allowed m bs n flips room refl taken).enough

  -- and may run
  pub taken_may : length bs ≤ n → are_wide bs ≡ true → MayRun m bs
  taken_may many wide =
      let a = allowed m bs n flips room refl taken in
      record { right = a.right; idles = a.rests; begins = a.begins; few = omega (arith, many, a.few); wide = wide }

-- ---- the bench's own runs

-- what may run is not refused, under the same conditions
pub run_taken : (m : Machine) (boards : List Board) (n : ℕ) (flips : List ℕ) (room : ℕ) → MayRun m (take n boards) → 1024 ≤ room → n ≤ 32
    → any (λ (b : Board). ltb 127 b.address) (take n boards) ≡ false → any (ltb 8) flips ≡ false → refusal_of m boards n flips room ≡ 0
run_taken m boards n flips room = may_taken m (take n boards) n flips room

module _ (m : Machine) (boards : List Board) (n : ℕ) (flips : List ℕ) (room : ℕ) (taken : refusal_of m boards n flips room ≡ 0)
    (wide : are_wide (take n boards) ≡ true) where
  -- a run that is not refused may run: so all of the above holds of it
  pub may_run : MayRun m (take n boards)
  may_run = taken_may m (take n boards) n flips room taken (omega (arith, length-take n boards)) wide

  -- 1,024 cells were lent
  enough : 1024 ≤ room
  enough = taken_enough m (take n boards) n flips room taken

  -- what it hands back is what the run on the wire comes to
  pub run_on_wire : benched m boards n flips room ≡ ran (placed (drop n boards) (on_wire room m (take n boards) flips))
  unfolding benched
  run_on_wire = rw (taken, same_run room m (take n boards) flips enough may_run)

  -- and so are the cells that it writes
  pub cells_on_wire : bench_cells m boards n flips room ≡ (on_wire room m (take n boards) flips).cells
  unfolding bench_cells
  cells_on_wire = rw (taken, same_run room m (take n boards) flips enough may_run)

  -- so its machine is idle, and keeps the rules
  pub run_rests : (is_idle (benched m boards n flips room).machine.moment ≡ true) × (machine_right (benched m boards n flips room).machine ≡ true)
  run_rests = rw run_on_wire (ends_idle room m (take n boards) flips enough may_run, ends_right room m (take n boards) flips enough may_run)

  -- and its counter of rounds is at most twice the boards that began without an address
  pub run_rounds_twice : (benched m boards n flips room).rounds ≤ 2 * count waits (take n boards)
  run_rounds_twice =
      rw (run_on_wire, rounds_counted room m (take n boards) flips enough may_run) (rounds_twice room m (take n boards) flips enough may_run)
