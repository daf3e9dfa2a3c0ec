-- `machine::Machine::moment_right` meets its contract: one rule for each moment.
use mathlib.Core.Logic.{inl, inr}
use Rattle.lists.proofs.Bools.{same}
use Rattle.machine.proofs.Laws.{moment_at}
use Rattle.machine.proofs.Machine.moment_right.Goals as goal

pub returns-in-Idle : goal.returns-in-Idle
returns-in-Idle c = search (moment_at, same) depth 9

pub returns-in-Opened : goal.returns-in-Opened
returns-in-Opened c = search (moment_at, same) depth 9

pub returns-in-Round : goal.returns-in-Round
returns-in-Round c = elim c.in-Round.is [ inl e ↦ search (moment_at, same) depth 9 | inr e ↦ search (moment_at, same) depth 9 ]

pub returns-in-Offered : goal.returns-in-Offered
returns-in-Offered c = search (moment_at, same) depth 9

pub returns-in-Direct : goal.returns-in-Direct
returns-in-Direct c = search (moment_at, same) depth 9
