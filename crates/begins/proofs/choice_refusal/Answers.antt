-- `begins::choice_refusal` meets its contract.
use Rattle.lists.proofs.Bools.{chain}
use Rattle.begins.specs.Begins.{choice_refusal}
use Rattle.begins.proofs.choice_refusal.Goals as goal

pub returns-then-choice-gt-ALLOW : goal.returns-then-choice-gt-ALLOW
unfolding choice_refusal
returns-then-choice-gt-ALLOW c = search chain

pub returns-in-0 : goal.returns-in-0
unfolding choice_refusal
returns-in-0 c = rw (c.in-0.is, c.assign_refusal.ensures)

pub returns-in-2 : goal.returns-in-2
unfolding choice_refusal
returns-in-2 c = rw (c.in-2.is, c.set_refusal.ensures)

pub returns-in-3 : goal.returns-in-3
unfolding choice_refusal
returns-in-3 c = rw (c.in-3.is, c.move_refusal.ensures)

pub returns-in_default : goal.returns-in_default
unfolding choice_refusal
returns-in_default c = search chain
