-- `begins::set_refusal` meets its contract.
use Rattle.lists.proofs.Bools.{chain}
use Rattle.begins.specs.Begins.{set_refusal}
use Rattle.begins.proofs.set_refusal.Goals as goal

pub returns-then-set_out_of_range : goal.returns-then-set_out_of_range
unfolding set_refusal
returns-then-set_out_of_range c = search chain

pub returns-then-set_not_open : goal.returns-then-set_not_open
unfolding set_refusal
returns-then-set_not_open c = search chain

pub returns-then-set_held : goal.returns-then-set_held
unfolding set_refusal
returns-then-set_held c = search chain

pub returns-then-full : goal.returns-then-full
unfolding set_refusal
returns-then-full c = search chain

pub returns-then-no_ticket_left : goal.returns-then-no_ticket_left
unfolding set_refusal
returns-then-no_ticket_left c = search chain depth 6

pub returns : goal.returns
unfolding set_refusal
returns c = search chain depth 6
