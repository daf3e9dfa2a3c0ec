-- `boards::identities` meets its contract.
use Rattle.std.proofs.Common.{rules}
use Rattle.boards.specs.declared.Board.{Board}
use Rattle.boards.proofs.Turns.{mapped}
use Rattle.boards.proofs.identities.Goals as goal

pub returns : goal.returns
returns c =
    mapped _ _ c.args.boards.now c.map.result 32 (λ (b : Board). b.identity) (record { identity = 0; address = 0 }) c.map.ensures.items c.told-boards
    (λ p q x y k. search rules)
