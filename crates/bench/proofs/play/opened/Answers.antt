-- `bench::play::opened` meets its contract: two calls of the machine.
use mathlib.Core.Path.{◌≡◌, ◌∙◌}
use mathlib.Core.Bool.{cond}
use lib.Dec.{ltb}
use lib.ListN.{length}
use borrow.Author.Rules.{rules}
use borrow.Author.Tests.{lt-ltb, le-ltb}
use Rattle.bench.proofs.Keeping.{opened_kept}
use Rattle.bench.proofs.play.opened.Goals as goal
use Rattle.bench.proofs.play.opened.Goals.{then-heard, else-heard}

pub returns : goal.returns
returns c =
    let a = c.args in
    let begun = c.begin-begun.ensures in
    let answered = c.answer.ensures in
    let long : length a.boards ≡ 32 = search rules in
    let ends : c.if-heard.run ≡ cond (ltb 0 a.count) 0 5 =
    elim c.if-heard.branch [
      | then-heard w ↦ w.run-is ∙ rw (lt-ltb _ _ w.if-heard.true)
      | else-heard w ↦ w.run-is ∙ rw (le-ltb _ _ w.if-heard.false)
    ]
    in
    opened_kept a.machine a.boards a.count _ a.cells.now begun.value begun.cells_after c.requires long ends answered.value answered.cells_after
