-- The machine at each of its moments, and whether what it remembers is what the rules allow (refusal 28).
use Rattle.std.specs.Prelude.{ℕ, ◌≡◌, ◌<◌, Bool, true, false, ◌&&◌, ◌||◌, List, eqb, ltb, Result, MatchResult}
use Rattle.slots.specs.declared.Facts.{Facts}
use Rattle.rows.specs.declared.Row.{Row}
use Rattle.free.specs.Free.{address_for, can_assign}
use Rattle.table.specs.Sound.{sound}
use Rattle.begins.specs.Begins.{no_addresses, asked_right}
use Rattle.machine.specs.declared.Machine.{Machine}
use Rattle.machine.specs.declared.Moment.{Moment}
use Rattle.machine.specs.declared.Moment.TheVariants.{Idle, Opened, Round, Listening, Offered, Direct}
use Rattle.machine.specs.declared.moments.UnknownMoment.{UnknownMoment}

-- ---- one machine for each moment: what the moment doesn't need is 0

-- idle remembers nothing
abbrev pub idle : Facts → List Row → Machine
idle f rows =
    record { table = record { facts = f; rows = rows }; moment = Idle; choice = 0; asked = 0; wanted = 0; identity = 0; offered = 0; refusals = 0 }

-- opened and direct: the choice, the address asked (the static one for a set, the present one for a move) and the new address wanted
abbrev pub opened : Facts → List Row → ℕ → ℕ → ℕ → Machine
opened f rows choice asked wanted =
    record {
      table = record { facts = f; rows = rows };
      moment = Opened;
      choice = choice;
      asked = asked;
      wanted = wanted;
      identity = 0;
      offered = 0;
      refusals = 0;
    }

abbrev pub direct : Facts → List Row → ℕ → ℕ → ℕ → Machine
direct f rows choice asked wanted =
    record {
      table = record { facts = f; rows = rows };
      moment = Direct;
      choice = choice;
      asked = asked;
      wanted = wanted;
      identity = 0;
      offered = 0;
      refusals = 0;
    }

-- round and listening: the refusals in succession
abbrev pub round : Facts → List Row → ℕ → Machine
round f rows refusals =
    record {
      table = record { facts = f; rows = rows };
      moment = Round;
      choice = 0;
      asked = 0;
      wanted = 0;
      identity = 0;
      offered = 0;
      refusals = refusals;
    }

abbrev pub listening : Facts → List Row → ℕ → Machine
listening f rows refusals =
    record {
      table = record { facts = f; rows = rows };
      moment = Listening;
      choice = 0;
      asked = 0;
      wanted = 0;
      identity = 0;
      offered = 0;
      refusals = refusals;
    }

-- offered: the identity, the address that it is offered, and the refusals in succession
abbrev pub offering : Facts → List Row → ℕ → ℕ → ℕ → Machine
offering f rows identity address refusals =
    record {
      table = record { facts = f; rows = rows };
      moment = Offered;
      choice = 0;
      asked = 0;
      wanted = 0;
      identity = identity;
      offered = address;
      refusals = refusals;
    }

-- ---- what a machine at a moment must be like

-- no choice (0, as for assign) and no addresses
abbrev pub nothing_asked : Machine → Bool
nothing_asked m = eqb m.choice 0 && no_addresses m.asked m.wanted

-- no identity, and no address offered
abbrev pub nothing_offered : Machine → Bool
nothing_offered m = eqb m.identity 0 && eqb m.offered 0

-- no refusals in succession
abbrev pub no_refusals : Machine → Bool
no_refusals m = eqb m.refusals 0

-- in an assign's rounds: nothing asked, at most one refusal, and the table can give one row more
abbrev pub in_rounds : Machine → Bool
in_rounds m = nothing_asked m && ltb m.refusals 2 && can_assign m.table.facts m.table.rows

-- a choice that comes to direct: a set or a move
abbrev pub goes_direct : ℕ → Bool
goes_direct choice = eqb choice 2 || eqb choice 3

-- the choice and the addresses asked are what these rows allow, and there is nothing else
abbrev pub asks_right : Machine → Bool
asks_right m = asked_right m.table.facts m.table.rows m.choice m.asked m.wanted && nothing_offered m && no_refusals m

abbrev pub right_at : Moment → Machine → Bool
right_at Idle m = nothing_asked m && nothing_offered m && no_refusals m
right_at Opened m = asks_right m
right_at Round m = in_rounds m && nothing_offered m
right_at Listening m = in_rounds m && nothing_offered m
right_at Offered m = in_rounds m && eqb m.offered (address_for m.table.facts m.table.rows m.identity)
right_at Direct m = goes_direct m.choice && asks_right m

unfoldable pub moment_right : Machine → Bool
moment_right m = right_at m.moment m

-- a machine keeps the rules for facts, rows and tickets, and remembers what they allow; refusal 28 is given exactly when it does not
unfoldable pub machine_right : Machine → Bool
machine_right m = sound m.table.facts m.table.rows && moment_right m

-- ---- moments told apart

abbrev pub is_idle : Moment → Bool
is_idle Idle = true
is_idle Opened = false
is_idle Round = false
is_idle Listening = false
is_idle Offered = false
is_idle Direct = false

abbrev pub is_listening : Moment → Bool
is_listening Idle = false
is_listening Opened = false
is_listening Round = false
is_listening Listening = true
is_listening Offered = false
is_listening Direct = false

-- ---- moments by number, for those who show a machine or make one by hand

abbrev pub moment_number : Moment → ℕ
moment_number Idle = 0
moment_number Opened = 1
moment_number Round = 2
moment_number Listening = 3
moment_number Offered = 4
moment_number Direct = 5

-- a number is made the moment that has it, or an error with that number, which no moment has
abbrev pub Numbers : ℕ → Result Moment UnknownMoment → Type 0
Numbers n r = MatchResult r (λ moment. moment_number moment ≡ n) (λ e. (e.0 ≡ n) × (5 < n))
