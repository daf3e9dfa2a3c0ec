-- `slots::allows` meets its contract.
use native.Mathlib.Nat.{div-one}
use Rattle.slots.specs.Slots.{allows}
use Rattle.slots.proofs.allows.Goals as goal

pub returns : goal.returns
unfolding allows
returns c = simp div-one
