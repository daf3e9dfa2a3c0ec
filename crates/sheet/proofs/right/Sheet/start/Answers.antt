-- `sheet::right::Sheet::start` meets its contract: a start on the facts of the sheet.
use mathlib.Core.Path.{ap}
use native.Mathlib.Omega.{arith}
use lib.ListN.{length-take}
use Rattle.sheet.proofs.Bodies.{bodies_long}
use Rattle.sheet.proofs.Told.{start_told, start_refused, start_taken}
use Rattle.sheet.proofs.right.Sheet.start.Goals as goal

pub slice_bounds-facts-end : goal.slice_bounds-facts-end
slice_bounds-facts-end c = rw length-take (omega (arith, bodies_long _ c.args.self.right c.bodies.ensures))

pub bytes_at-requires : goal.bytes_at-requires
bytes_at-requires c = (omega arith, rw length-take (omega (arith, bodies_long _ c.args.self.right c.bodies.ensures)))

pub returns-then-started-ne0-clause-refusal : goal.returns-then-started-ne0-clause-refusal
returns-then-started-ne0-clause-refusal c =
    let told = start_told _ c.args.self.right c.bodies.ensures c.bytes_at.ensures (omega (arith, c.from_be_bytes-last.ensures)) c.start-started.ensures in
    start_refused _ told c.if-started-ne0.true

pub returns-clause-refusal : goal.returns-clause-refusal
returns-clause-refusal c =
    let told = start_told _ c.args.self.right c.bodies.ensures c.bytes_at.ensures (omega (arith, c.from_be_bytes-last.ensures)) c.start-started.ensures in
    start_taken _ told c.if-started-ne0.false

pub returns-clause-machine : goal.returns-clause-machine
returns-clause-machine c =
    let told = start_told _ c.args.self.right c.bodies.ensures c.bytes_at.ensures (omega (arith, c.from_be_bytes-last.ensures)) c.start-started.ensures in
    ap (λ s. s.machine) told
