-- `sheet::right::Sheet::play` meets its contract.
use mathlib.Core.Path.{◌∙◌}
use Rattle.sheet.proofs.Told.{play_told, reported_refusal, not_refused}
use Rattle.sheet.proofs.right.Sheet.play.Goals as goal

pub returns-in-Ok-clause-refusal : goal.returns-in-Ok-clause-refusal
returns-in-Ok-clause-refusal c =
    let told = play_told c.args.self.bytes.now c.args.machine 1024 c.count.ensures c.boards.ensures c.flips.ensures c.run_owned-owned.ensures.value in
    c.in-Ok.ensures ∙ reported_refusal _ _ _ _ told

pub returns-in-Err-clause-refusal : goal.returns-in-Err-clause-refusal
returns-in-Err-clause-refusal c =
    let told = play_told c.args.self.bytes.now c.args.machine 1024 c.count.ensures c.boards.ensures c.flips.ensures c.run_owned-owned.ensures.value in
    not_refused _ _ _ _ (reported_refusal _ _ _ _ told) c.in-Err.ensures
