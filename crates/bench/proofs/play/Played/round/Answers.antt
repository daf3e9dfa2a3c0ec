-- `bench::play::Played::round` meets its contract: a header, and where it is answered an offer.
use mathlib.Core.Path.{◌≡◌}
use lib.ListN.{length}
use borrow.Author.Rules.{rules}
use Rattle.bench.proofs.Keeping.{silent_kept, answered_kept}
use Rattle.bench.proofs.play.Played.round.Goals as goal

pub returns-then-heard : goal.returns-then-heard
returns-then-heard c behind buffer p many k =
    let a = c.args in
    let places : length a.self.now.boards ≡ 32 = search rules in
    answered_kept k a.count a.flip many places c.waiting-still.ensures c.anyone-heard.ensures c.answer.ensures.value c.answer.ensures.cells_after
    c.if-heard.true c.listen-identities.ensures c.offer.ensures

pub returns-else-heard : goal.returns-else-heard
returns-else-heard c behind buffer p many k =
    let a = c.args in
    let places : length a.self.now.boards ≡ 32 = search rules in
    silent_kept k a.count a.flip many places c.waiting-still.ensures c.anyone-heard.ensures c.answer.ensures.value c.answer.ensures.cells_after
    c.if-heard.false
