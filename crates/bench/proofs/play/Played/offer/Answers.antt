-- `bench::play::Played::offer` meets its contract: two calls of the machine, and the byte that all boards see between them.
use Rattle.bench.proofs.Keeping.{offer-kept}
use Rattle.bench.proofs.play.Played.offer.Goals as goal

pub returns : goal.returns
returns c behind buffer p h long same nobody k =
    let a = c.args in
    let told = c.identify.ensures in
    let answered = c.answer.ensures in
    offer-kept k a.heard.now h a.flip long same nobody told.value told.cells_after c.offered_byte.ensures c.flipped-byte.ensures c.anyone.ensures
    c.odd_ones.ensures answered.value answered.cells_after c.offer-self.ensures c.ending-self.ensures
