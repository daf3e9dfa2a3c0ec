-- `rows::used_rows` meets its contract: what the library counts is what `count` says.
use Rattle.std.proofs.Common.{◌≡◌, ◌∙◌, rules, count_by}
use Rattle.std.proofs.iter.runs.Made.{chains}
use Rattle.lists.proofs.Library.{count_by-count}
use Rattle.rows.specs.Rows.{in_use}
use Rattle.rows.proofs.used_rows.Goals as goal

pub returns : goal.returns
returns c = let counted : c.count.result ≡ count_by in_use c.args.rows.now = search (rules, chains) in counted ∙ count_by-count in_use c.args.rows.now
