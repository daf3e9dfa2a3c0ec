-- What Begin and Join ask of the table, by choice: the refusals in their order, and what may be remembered of a Begin that was not refused.
use Rattle.std.specs.Prelude.{ℕ, Bool, cond, not, ◌&&◌, ◌||◌, List, eqb, ltb, leb}
use Rattle.lists.specs.Numbers.{within}
use Rattle.slots.specs.Slots.{is_legacy, is_open}
use Rattle.slots.specs.declared.Facts.{Facts}
use Rattle.rows.specs.Rows.{holds_address, holds_static}
use Rattle.rows.specs.declared.Row.{Row}
use Rattle.free.specs.Free.{is_free, full, no_free_address, no_ticket_left, can_assign}
use Rattle.table.specs.Tickets.{ticket_unknown, ticket_retired}
use Rattle.table.specs.Sound.{static_allowed}

-- ---- the refusals of each choice, in their order: the number beside the first test that passes, 0 if none does

-- a static address that a row holds as its static or its dynamic address
abbrev pub static_held : List Row → ℕ → Bool
static_held rows static = holds_static static rows || holds_address static rows

-- assign
unfoldable pub assign_refusal : Facts → List Row → ℕ
assign_refusal f rows =
    cond (full rows) 5
    (cond (no_free_address f rows) 6
    (cond (no_ticket_left f) 7
    0))

-- set from static: an address out of range, the new one or the static one; one that is not open or is legacy; one that a row holds
abbrev pub set_out_of_range : ℕ → ℕ → Bool
set_out_of_range static new = ltb 127 new || not (within 0x08 0x77 static)

abbrev pub set_not_open : Facts → ℕ → ℕ → Bool
set_not_open f static new = not (is_open f new) || is_legacy f.legacy static

abbrev pub set_held : List Row → ℕ → ℕ → Bool
set_held rows static new = holds_address new rows || static_held rows static

unfoldable pub set_refusal : Facts → List Row → ℕ → ℕ → ℕ
set_refusal f rows static new =
    cond (set_out_of_range static new) 2
    (cond (set_not_open f static new) 3
    (cond (set_held rows static new) 4
    (cond (full rows) 5
    (cond (no_ticket_left f) 7
    0))))

-- move
unfoldable pub move_refusal : Facts → List Row → ℕ → ℕ → ℕ
move_refusal f rows ticket new =
    cond (ltb 127 new) 2
    (cond (ticket_unknown f ticket) 8
    (cond (ticket_retired f rows ticket) 9
    (cond (not (is_open f new)) 3
    (cond (holds_address new rows) 4
    0))))

-- Begin's choices: 0 assign, 2 set from static, 3 move; 1 reset all, 4 silence and 5 allow ask nothing. What a choice doesn't use isn't judged
unfoldable pub choice_refusal : Facts → List Row → ℕ → ℕ → ℕ → ℕ → ℕ
choice_refusal f rows choice static new ticket =
    cond (ltb 5 choice) 12
    (cond (eqb choice 0) (assign_refusal f rows)
    (cond (eqb choice 2) (set_refusal f rows static new)
    (cond (eqb choice 3) (move_refusal f rows ticket new)
    0)))

-- Join's choices: 2 assigns, refused as choice 0 of Begin would be; 0 and 1 ask nothing
unfoldable pub joining_refusal : Facts → List Row → ℕ → ℕ
joining_refusal f rows choice =
    cond (ltb 2 choice) 12
    (cond (eqb choice 2) (assign_refusal f rows)
    0)

-- ---- what may be remembered: the choice, the address asked (its static for a set, its present for a move) and the new address wanted

-- a set can be made: from a static address that is allowed and not held, to a free address, with a place and a ticket left
unfoldable pub can_set : Facts → List Row → ℕ → ℕ → Bool
can_set f rows static new = static_allowed f static && not (static_held rows static) && is_free f rows new && not (full rows) && not (no_ticket_left f)

-- a move can be made: from a row's present address, to a free address
unfoldable pub can_move : Facts → List Row → ℕ → ℕ → Bool
can_move f rows present new = holds_address present rows && is_free f rows new

-- no addresses: what a choice doesn't use is 0
abbrev pub no_addresses : ℕ → ℕ → Bool
no_addresses asked wanted = eqb asked 0 && eqb wanted 0

-- choice and addresses are those of a Begin or Join that these rows allow; a choice above 5 is none
unfoldable pub asked_right : Facts → List Row → ℕ → ℕ → ℕ → Bool
asked_right f rows choice asked wanted =
    cond (eqb choice 0) (no_addresses asked wanted && can_assign f rows)
    (cond (eqb choice 2) (can_set f rows asked wanted)
    (cond (eqb choice 3) (can_move f rows asked wanted)
    (no_addresses asked wanted && leb choice 5)))
