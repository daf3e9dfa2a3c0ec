-- `boards::waiting` meets its contract.
use native.Mathlib.Omega.{arith}
use Rattle.std.proofs.Common.{rules}
use Rattle.boards.proofs.Turns.{made, waiting_long, waiting_at}
use Rattle.boards.proofs.waiting.Goals as goal

pub returns : goal.returns
returns c = made _ _ _ _ 32 c.from_fn.ensures.items (search (arith, waiting_long)) (λ i h y q k. (search rules, λ d. search (rules, waiting_at)))
