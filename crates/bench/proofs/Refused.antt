-- Laws of a run's refusals: the last ways through the chain.
use Prim.Native.Nat.{ℕ, ◌≤◌}
use mathlib.Core.Path.{◌≡◌, refl}
use mathlib.Core.Bool.{Bool, true, false}
use mathlib.Core.List.{List}
use lib.Dec.{ltb}
use borrow.Author.Tests.{le-ltb}
use Rattle.lists.specs.Lists.{any}
use Rattle.lists.proofs.Bools.{here, next, via}
use Rattle.begins.specs.Begins.{assign_refusal}
use Rattle.boards.specs.declared.Board.{Board}
use Rattle.machine.specs.declared.Machine.{Machine}
use Rattle.machine.specs.Refusals.{rest_refusal}
use Rattle.machine.proofs.Laws.{rest_passed}
use Rattle.bench.specs.Runs.{run_refusal}

-- a machine at rest is asked for more
pub rests : (m : Machine) {x more : ℕ} → ◌≡◌ {A = ℕ} 0 (rest_refusal m 0) → x ≡ more → x ≡ rest_refusal m more
rests m e p = rest_passed m e refl p

-- cells, machine and boards are as they must be
module _ (m : Machine) (boards : List Board) (count : ℕ) (flips : List ℕ) (room : ℕ) {over wild : Bool}
    (enough : 1024 ≤ room) (asked : ◌≡◌ {A = ℕ} 0 (rest_refusal m 0)) (few : count ≤ 32)
    (addresses : over ≡ any (λ (b : Board). ltb 127 b.address) boards) (low : over ≡ false) (flipping : wild ≡ any (ltb 8) flips) where
  -- a flip is not
  pub flip-refused : wild ≡ true → 17 ≡ run_refusal m boards count flips room
  unfolding run_refusal
  flip-refused w =
      next 11 (le-ltb room 1024 enough) (rests m asked (next 16 (le-ltb 32 count few) (next 2 (via addresses low) (here _ (via flipping w) refl))))

  -- the flips are too: Begin's refusal is left
  pub begin_asked : {x : ℕ} → wild ≡ false → x ≡ assign_refusal m.table.facts m.table.rows → x ≡ run_refusal m boards count flips room
  unfolding run_refusal
  begin_asked w e =
      next 11 (le-ltb room 1024 enough) (rests m asked (next 16 (le-ltb 32 count few) (next 2 (via addresses low) (next 17 (via flipping w) e))))
