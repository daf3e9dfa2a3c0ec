-- A run of the bench: refused with the first number that applies, else played by the plain rule.
use Rattle.std.specs.Prelude.{ℕ, cond, List, [], ◌++◌, eqb, ltb, length, take, drop}
use Rattle.lists.specs.Lists.{any}
use Rattle.begins.specs.Begins.{assign_refusal}
use Rattle.boards.specs.declared.Board.{Board}
use Rattle.machine.specs.declared.Machine.{Machine}
use Rattle.machine.specs.Refusals.{rest_refusal}
use Rattle.bench.specs.declared.Ran.{Ran}
use Rattle.bench.specs.Play.{Play, clocks_in, rounds_in}
use Rattle.bench.specs.Plain.{plain}

-- ---- refusals

-- 11 fewer than 1,024 cells lent; 28 a broken machine, 10 one that is not idle; 16 over 32 boards; 2 a board's address over 127; 17 a flip over 8, used
-- or not; and what Begin asks for assign: 5 for 32 rows, 6 no free address, 7 no ticket left
unfoldable pub run_refusal : Machine → List Board → ℕ → List ℕ → ℕ → ℕ
run_refusal m boards count flips room =
    cond (ltb room 1024) 11
    (rest_refusal m
    (cond (ltb 32 count) 16
    (cond (any (λ b. ltb 127 b.address) boards) 2
    (cond (any (ltb 8) flips) 17
    (assign_refusal m.table.facts m.table.rows)))))

-- ---- what the bench hands back

-- of a run that was played: 0 for its refusal; the counters are those of its cells
abbrev pub ran : Play → Ran
ran p =
    record {
      machine = p.machine;
      boards = p.boards;
      count = length p.cells;
      ending = p.ending;
      rounds = rounds_in p.cells;
      clocks = clocks_in p.cells;
      refusal = 0;
    }

-- of a refused one: machine and boards as given, and 0 in every other number
abbrev pub refused : Machine → List Board → ℕ → Ran
refused m boards k = record { machine = m; boards = boards; count = 0; ending = 0; rounds = 0; clocks = 0; refusal = k }

-- ---- boards by value: of 32 places the first `count` hold a board; those behind are not looked at and stay

-- a run with those behind its boards
abbrev pub placed : List Board → Play → Play
placed behind p = record { machine = p.machine; boards = p.boards ++ behind; cells = p.cells; rounds = p.rounds; ending = p.ending }

-- the refusal judges the boards alone
abbrev pub refusal_of : Machine → List Board → ℕ → List ℕ → ℕ → ℕ
refusal_of m boards count flips room = run_refusal m (take count boards) count flips room

-- what the bench hands back
unfoldable pub benched : Machine → List Board → ℕ → List ℕ → ℕ → Ran
benched m boards count flips room =
    cond (eqb (refusal_of m boards count flips room) 0)
    (ran (placed (drop count boards) (plain m (take count boards) flips)))
    (refused m boards (refusal_of m boards count flips room))

-- the cells that it writes: none after a refusal
unfoldable pub bench_cells : Machine → List Board → ℕ → List ℕ → ℕ → List ℕ
bench_cells m boards count flips room =
    cond (eqb (refusal_of m boards count flips room) 0) (plain m (take count boards) flips).cells []
