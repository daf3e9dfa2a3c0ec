-- `boards::stay_in` meets its contract: a walk over the flags.
use native.Mathlib.Omega.{arith}
use Rattle.boards.proofs.Turns.{settled_start, settled_leaves, settled_stays, settled_ended}
use Rattle.boards.proofs.stay_in.Goals as goal
use Rattle.boards.proofs.stay_in.Goals.{then-identity-k-eq1, else-identity-k-eq1}

pub loop-i-init : goal.loop-i-init
loop-i-init c = search (arith, settled_start)

pub loop-i-preserved : goal.loop-i-preserved
loop-i-preserved c =
    elim c.if-identity-k-eq1.branch [
      | then-identity-k-eq1 w ↦ rw w.kept-is (settled_leaves c.loop-i.invariant (omega arith) _ w.if-identity-k-eq1.true)
      | else-identity-k-eq1 w ↦ rw w.kept-is (settled_stays c.loop-i.invariant (omega arith) _ w.if-identity-k-eq1.false)
    ]

pub returns : goal.returns
returns c = settled_ended c.loop-i.invariant (omega arith)
