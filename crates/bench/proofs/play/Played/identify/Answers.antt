-- `bench::play::Played::identify` meets its contract: the machine is lent a part of the cells.
use mathlib.Core.Path.{◌∙◌}
use Rattle.std.proofs.Common.{arith}
use Rattle.std.proofs.lemmas.Grind.{common_steps}
use Rattle.lists.proofs.Bits.{bytes_eight}
use Rattle.bench.proofs.play.Played.identify.Goals as goal

pub returns-clause-value : goal.returns-clause-value
returns-clause-value c =
    let e = c.to_be_bytes.ensures ∙ bytes_eight c.args.identity in
    rw (← e) (grind (arith, common_steps))

pub returns-clause-cells_after : goal.returns-clause-cells_after
returns-clause-cells_after c =
    let e = c.to_be_bytes.ensures ∙ bytes_eight c.args.identity in
    rw (← e) (grind (arith, common_steps))
