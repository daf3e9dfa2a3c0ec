-- `table::Table::ticket_refusal` meets its contract: one law for each of its three ways.
use Rattle.table.proofs.Laws.{ticket_unknown_lem, ticket_held, ticket_retired_lem}
use Rattle.table.proofs.Table.ticket_refusal.Goals as goal

pub returns-then-ticket-self : goal.returns-then-ticket-self
returns-then-ticket-self c = search ticket_unknown_lem

pub returns-in-Some : goal.returns-in-Some
returns-in-Some c = ticket_held _ _ _ c.if-ticket-self.false c.in-Some.ensures

pub returns-in-None : goal.returns-in-None
returns-in-None c = ticket_retired_lem _ _ _ c.if-ticket-self.false c.in-None.ensures
