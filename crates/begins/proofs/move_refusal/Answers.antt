-- `begins::move_refusal` meets its contract: its ticket's two refusals are asked at once.
use Rattle.std.proofs.lemmas.Result.{err_from_is_err_and}
use Rattle.lists.proofs.Bools.{chain}
use Rattle.refusals.proofs.Laws.{number_not_zero}
use Rattle.table.specs.Tickets.{ticket_refusal}
use Rattle.begins.specs.Begins.{move_refusal}
use Rattle.begins.proofs.Laws.{ticket_refused, ticket_right}
use Rattle.begins.proofs.move_refusal.Goals as goal

pub returns-then-new-gt127 : goal.returns-then-new-gt127
unfolding move_refusal
returns-then-new-gt127 c = search chain

pub returns-in_err-ticket_refusal : goal.returns-in_err-ticket_refusal
unfolding move_refusal ticket_refusal
returns-in_err-ticket_refusal c =
    let p = err_from_is_err_and c.from_residual.result c.from_residual.ensures.1 in
    let e = c.in_err-ticket_refusal.ensures in
    rw (p.1, p.2) (search (ticket_refused, number_not_zero, chain))

pub returns-then-not-is_open : goal.returns-then-not-is_open
unfolding move_refusal ticket_refusal
returns-then-not-is_open c = let e = c.in_ok-ticket_refusal.ensures in search (ticket_right, chain)

pub returns-then-holds_address : goal.returns-then-holds_address
unfolding move_refusal ticket_refusal
returns-then-holds_address c = let e = c.in_ok-ticket_refusal.ensures in search (ticket_right, chain)

pub returns : goal.returns
unfolding move_refusal ticket_refusal
returns c = let e = c.in_ok-ticket_refusal.ensures in search (ticket_right, chain)
