-- each read goes on where the one before it ended
use Rattle.std.proofs.Common.{rules, sym, subst, length, ◌-◌}
use Rattle.std.specs.Io.KnownBytes.{Consumes}
use Rattle.fills.proofs.Filled.{consumes-more, take-filled}
use Rattle.fills.proofs.read_full.Goals as goal

pub loop-done-preserved : goal.loop-done-preserved
loop-done-preserved g c =
    let room = length c.loop-done.buffer - c.loop-done.done in
    let stands = take-filled c.loop-done.buffer c.read.new.buf c.loop-done.done c.in_ok-n.n room c.loop-done.invariant.0 c.in_ok-n.ensures.bound.0 in
    let lost = consumes-more _ _ _ _ _ c.loop-done.invariant.1 c.in_ok-n.ensures.bytes.0 in
    (search rules, subst (Consumes (g.R.Read.remaining c.args.input.now) (g.R.Read.remaining c.read.new.self)) (sym stands) lost)
