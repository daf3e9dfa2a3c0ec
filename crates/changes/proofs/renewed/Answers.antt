-- `changes::renewed` meets its contract.
use mathlib.Core.Path.{refl, sym}
use Rattle.lists.proofs.Edits.{set_none}
use Rattle.changes.specs.Changes.{renewed}
use native.Mathlib.Omega.{arith}
use Rattle.changes.proofs.renewed.Goals as goal

pub returns-then-place-ge32 : goal.returns-then-place-ge32
unfolding renewed
returns-then-place-ge32 c = sym (set_none _ _ _ (omega arith))

pub returns : goal.returns
unfolding renewed
returns c = refl
