-- `machine::steps::moved` meets its contract.
use Rattle.std.proofs.Common.{rules, ◌≡◌, length}
use Rattle.lists.proofs.Library.{position_some, position_none}
use Rattle.rows.specs.Rows.{has_address}
use Rattle.changes.specs.Changes.{moved}
use Rattle.machine.proofs.steps.moved.Goals as goal

pub returns-in-Some : goal.returns-in-Some
returns-in-Some c = rw (c.moved.ensures, (position_some (has_address c.args.asked) c.args.rows.now c.in-Some.ensures).0)

pub returns-in-None : goal.returns-in-None
unfolding moved
returns-in-None c =
    let long : length c.args.rows.now ≡ 32 = search rules in
    rw (position_none (has_address c.args.asked) c.args.rows.now c.in-None.ensures, long)
