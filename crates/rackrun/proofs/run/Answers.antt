-- `rackrun::run` writes what is printed for the whole input, of which it has read the beginning.
use Rattle.std.proofs.Common.{rules, length, take}
use Rattle.rackrun.proofs.Laws.{stands, written}
use Rattle.rackrun.proofs.run.Goals as goal

pub returns-clause-writes : goal.returns-clause-writes
returns-clause-writes g c =
    written c.write_all.result (g.R.Read.remaining c.args.input.now) (g.W.Write.contents c.args.out.now) (g.W.Write.contents c.write_all.new.self)
    (take c.in_ok-n.n c.read_full.new.buffer) (take c.answered-k.result c.answered-k.new.out) (length c.read_full.new.buffer) (search rules) c.in_ok-n.ensures.bytes
    (stands _ _ (c.answered-k.ensures.value, c.answered-k.ensures.out_after)) c.write_all.ensures.bytes
