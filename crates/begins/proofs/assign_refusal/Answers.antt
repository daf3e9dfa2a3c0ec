-- `begins::assign_refusal` meets its contract.
use Rattle.lists.proofs.Bools.{chain}
use Rattle.begins.specs.Begins.{assign_refusal}
use Rattle.begins.proofs.assign_refusal.Goals as goal

pub returns-then-full : goal.returns-then-full
unfolding assign_refusal
returns-then-full c = search chain

pub returns-then-no_free_address : goal.returns-then-no_free_address
unfolding assign_refusal
returns-then-no_free_address c = search chain

pub returns-then-no_ticket_left : goal.returns-then-no_ticket_left
unfolding assign_refusal
returns-then-no_ticket_left c = search chain

pub returns : goal.returns
unfolding assign_refusal
returns c = search chain
