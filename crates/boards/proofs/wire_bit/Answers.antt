-- `boards::wire_bit` meets its contract.
use borrow.Author.Tests.{tests}
use Rattle.std.proofs.Common.{rules}
use Rattle.std.proofs.lemmas.Iterator.{YieldsList-from_slice, YieldsList-from_zip}
use Rattle.std.proofs.lemmas.Iterator.Search.{any_from_yields_List}
use Rattle.boards.specs.Wire.{board_of, sends_zero}
use Rattle.boards.proofs.Turns.{pulled}
use Rattle.boards.proofs.wire_bit.Goals as goal

pub returns : goal.returns
returns c =
    let a = c.args in
    let pairs = YieldsList-from_zip {s = c.zip.result} (YieldsList-from_slice a.sent.now (cc)) (YieldsList-from_slice a.still.now (cc)) in
    pulled a.k a.sent.now a.still.now _ _
    (any_from_yields_List (λ p. sends_zero a.k (board_of p.0) p.1) c.any-pulled.new.self _ _ c.any-pulled.ensures.ran pairs (λ x b q k. search (rules, tests)))
    c.from.ensures
