-- `free::can_assign` meets its contract.
use Rattle.lists.proofs.Bools.{via}
use Rattle.free.proofs.Laws.{no_room, no_ticket, can_by_address}
use Rattle.free.proofs.can_assign.Goals as goal

pub returns-then-full : goal.returns-then-full
returns-then-full c = search (no_room, via)

pub returns-then-no_ticket_left : goal.returns-then-no_ticket_left
returns-then-no_ticket_left c = search (no_ticket, via)

pub returns : goal.returns
returns c = search (can_by_address, via)
