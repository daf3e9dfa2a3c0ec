-- `begins::joining_refusal` meets its contract.
use Rattle.lists.proofs.Bools.{chain}
use Rattle.begins.specs.Begins.{joining_refusal}
use Rattle.begins.proofs.joining_refusal.Goals as goal

pub returns-then-choice-gt-JOIN_ASSIGNED : goal.returns-then-choice-gt-JOIN_ASSIGNED
unfolding joining_refusal
returns-then-choice-gt-JOIN_ASSIGNED c = search chain

pub returns-then-choice-eq-JOIN_ASSIGNED : goal.returns-then-choice-eq-JOIN_ASSIGNED
unfolding joining_refusal
returns-then-choice-eq-JOIN_ASSIGNED c = search chain

pub returns-else-choice-eq-JOIN_ASSIGNED : goal.returns-else-choice-eq-JOIN_ASSIGNED
unfolding joining_refusal
returns-else-choice-eq-JOIN_ASSIGNED c = search chain
