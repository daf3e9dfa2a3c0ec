-- `bench::refusing::run_refusal` meets its contract: a chain of tests.
use Rattle.lists.proofs.Bools.{chain}
use Rattle.refusals.proofs.Laws.{number_not_zero}
use Rattle.begins.specs.Begins.{choice_refusal}
use Rattle.machine.proofs.Laws.{passed_on, rest_refused}
use Rattle.bench.specs.Runs.{run_refusal}
use Rattle.bench.proofs.Refused.{rests, flip-refused, begin_asked}
use Rattle.bench.proofs.refusing.run_refusal.Goals as goal

pub returns-then-room-lt-MOST_CELLS : goal.returns-then-room-lt-MOST_CELLS
unfolding run_refusal
returns-then-room-lt-MOST_CELLS c = search chain

pub returns-in_err-rest_refusal : goal.returns-in_err-rest_refusal
unfolding run_refusal
returns-in_err-rest_refusal c =
    let e = c.in_err-rest_refusal.ensures in passed_on _ _ c.from_residual.ensures.1 (search (chain, rest_refused, number_not_zero))

pub returns-then-count-gt32 : goal.returns-then-count-gt32
unfolding run_refusal
returns-then-count-gt32 c = let e = c.in_ok-rest_refusal.ensures in search (chain, rests)

pub returns-then-address_over_127 : goal.returns-then-address_over_127
unfolding run_refusal
returns-then-address_over_127 c = let e = c.in_ok-rest_refusal.ensures in search (chain, rests)

pub returns-then-flip_over_8 : goal.returns-then-flip_over_8
returns-then-flip_over_8 c = let e = c.in_ok-rest_refusal.ensures in search flip-refused

pub returns : goal.returns
unfolding choice_refusal
returns c = let e = c.in_ok-rest_refusal.ensures in search begin_asked
