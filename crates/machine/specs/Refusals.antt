-- The refusals of each call, in their order: the number beside the first test that passes, and 0 if none does. What Begin and Join ask by choice
-- stands in `Begins`, an answer's refusal 10 with the moments in `Steps`, and start's refusal 1 in `Calls`.
use Rattle.std.specs.Prelude.{ℕ, cond, not, eqb, ltb}
use Rattle.table.specs.Tickets.{ticket_refusal}
use Rattle.begins.specs.Begins.{choice_refusal, joining_refusal}
use Rattle.machine.specs.declared.Machine.{Machine}
use Rattle.machine.specs.Moments.{machine_right, is_idle, is_listening}

-- ---- what several calls ask

-- a stepping call: fewer than 8 cells lent, a broken machine, then what else it asks
unfoldable pub step_refusal : ℕ → Machine → ℕ → ℕ
step_refusal room m more =
    cond (ltb room 8) 11
    (cond (not (machine_right m)) 28
    more)

-- a call that is for idle
abbrev pub idle_refusal : Machine → ℕ → ℕ
idle_refusal m more = cond (not (is_idle m.moment)) 10 more

-- the same behind a broken machine: what retiring asks first, and a bench run behind its cells
unfoldable pub rest_refusal : Machine → ℕ → ℕ
rest_refusal m more =
    cond (not (machine_right m)) 28
    (idle_refusal m more)

-- ---- each call

unfoldable pub begin_refusal : Machine → ℕ → ℕ → ℕ → ℕ → ℕ → ℕ
begin_refusal m choice static new ticket room =
    step_refusal room m (idle_refusal m (choice_refusal m.table.facts m.table.rows choice static new ticket))

unfoldable pub join_refusal : Machine → ℕ → ℕ → ℕ
join_refusal m choice room = step_refusal room m (idle_refusal m (joining_refusal m.table.facts m.table.rows choice))

-- an identity is for listening, and has eight bytes
unfoldable pub identity_refusal : Machine → ℕ → ℕ → ℕ
identity_refusal m byte_count room =
    step_refusal room m
    (cond (not (is_listening m.moment)) 10
    (cond (not (eqb byte_count 8)) 2
    0))

-- giving up is for any moment but idle
unfoldable pub give_up_refusal : Machine → ℕ → ℕ
give_up_refusal m room = step_refusal room m (cond (is_idle m.moment) 10 0)

-- retiring is for idle; it is lent no cells
unfoldable pub retire_refusal : Machine → ℕ → ℕ
retire_refusal m ticket = rest_refusal m (ticket_refusal m.table.facts m.table.rows ticket)

-- asking is for any moment
unfoldable pub ask_refusal : Machine → ℕ → ℕ
ask_refusal m ticket =
    cond (not (machine_right m)) 28
    (ticket_refusal m.table.facts m.table.rows ticket)
