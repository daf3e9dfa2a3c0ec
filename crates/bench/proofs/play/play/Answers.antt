-- `bench::play::play` meets its contract: a loop that plays rounds until the machine is idle.
use mathlib.Core.Path.{◌≡◌}
use lib.ListN.{length}
use Rattle.bench.proofs.Playing.{playing_start, playing_turn, may_play, played_idle, played_all}
use borrow.Author.Rules.{rules}
use Rattle.bench.proofs.play.play.Goals as goal

pub loop-i-init : goal.loop-i-init
loop-i-init c = playing_start _ _ _ _

pub returns-then-is_idle : goal.returns-then-is_idle
returns-then-is_idle c =
    let a = c.args in
    let long : length a.boards ≡ 32 = search rules in
    played_idle a.machine a.boards c.requires long c.opened-run.ensures c.loop-i.invariant
    c.loop-i-test.true c.is_idle.ensures c.if-is_idle.true

pub round-requires : goal.round-requires
round-requires c =
    let a = c.args in
    let long : length a.boards ≡ 32 = search rules in
    may_play a.machine a.boards c.requires long c.opened-run.ensures c.loop-i.invariant
    c.loop-i-test.true

pub loop-i-preserved : goal.loop-i-preserved
loop-i-preserved c =
    playing_turn c.loop-i.invariant c.loop-i-test.true c.is_idle.ensures c.if-is_idle.false c.flip_at.ensures
    c.round.ensures

pub returns : goal.returns
returns c =
    let a = c.args in
    let long : length a.boards ≡ 32 = search rules in
    played_all a.machine a.boards c.requires long c.opened-run.ensures c.loop-i.invariant c.loop-i-test.false
