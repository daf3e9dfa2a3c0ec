-- A run over boards that stand in one list that the bench is lent: refused with the first number that applies, else played by the plain rule.
use Rattle.std.specs.Prelude.{ℕ, cond, List, [], ◌++◌, eqb, length, take, drop}
use Rattle.boards.specs.declared.Board.{Board}
use Rattle.machine.specs.declared.Machine.{Machine}
use Rattle.bench.specs.declared.Ran.{Ran}
use Rattle.bench.specs.Plain.{plain}
use Rattle.bench.specs.Runs.{run_refusal, ran, refused}
use Rattle.lent.specs.declared.Report.{Report}
use Rattle.lent.specs.declared.Owned.{Owned}

-- ---- boards lent as one list, of any length

-- the refusals of a run, with as many boards as the list has
abbrev pub lent_refusal : Machine → List Board → List ℕ → ℕ → ℕ
lent_refusal m boards flips room = run_refusal m boards (length boards) flips room

-- what comes of it: the plain rule's run, or machine and boards as given; a `Ran` whose boards are the list at exit, whatever its length
unfoldable pub lent_run : Machine → List Board → List ℕ → ℕ → Ran
lent_run m boards flips room =
    cond (eqb (lent_refusal m boards flips room) 0) (ran (plain m boards flips)) (refused m boards (lent_refusal m boards flips room))

-- the cells that it writes: none after a refusal
unfoldable pub lent_cells : Machine → List Board → List ℕ → ℕ → List ℕ
lent_cells m boards flips room = cond (eqb (lent_refusal m boards flips room) 0) (plain m boards flips).cells []

-- what is reported of it: all but the boards
abbrev pub reported : Ran → Report
reported r =
    record { machine = r.machine; count = r.count; ending = r.ending; rounds = r.rounds; clocks = r.clocks; refusal = r.refusal }

-- ---- boards of the caller's own: the first `count` of its places are lent, all if there are fewer; those behind are not looked at and stay

abbrev pub owned_run : Machine → List Board → ℕ → List ℕ → ℕ → Owned
owned_run m boards count flips room =
    record {
      report = reported (lent_run m (take count boards) flips room);
      boards = (lent_run m (take count boards) flips room).boards ++ drop count boards;
    }

abbrev pub owned_cells : Machine → List Board → ℕ → List ℕ → ℕ → List ℕ
owned_cells m boards count flips room = lent_cells m (take count boards) flips room
