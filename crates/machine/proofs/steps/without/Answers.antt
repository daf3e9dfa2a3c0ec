-- `machine::steps::without` meets its contract.
use Rattle.std.proofs.Common.{sym, arith}
use Rattle.lists.proofs.Edits.{remove_none}
use Rattle.lists.proofs.Library.{position_some, position_none}
use Rattle.rows.specs.Rows.{no_row, has_ticket}
use Rattle.changes.specs.Changes.{without}
use Rattle.machine.proofs.steps.without.Goals as goal

pub returns-in-Some : goal.returns-in-Some
returns-in-Some c = rw (c.without.ensures, (position_some (has_ticket c.args.ticket) c.args.rows.now c.in-Some.ensures).0)

pub returns-in-None : goal.returns-in-None
unfolding without
returns-in-None c =
    let none = position_none (has_ticket c.args.ticket) c.args.rows.now c.in-None.ensures in
    sym (remove_none _ no_row _ (omega (arith, none)))
