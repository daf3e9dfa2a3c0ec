-- What a record says: joining, command, addresses, whether headers answered, and how many offers.
use Rattle.std.specs.Prelude.{◌≡◌, ◌<◌, ℕ, Bool, true, false, [], ◌∷◌, eqb, Result, MatchResult}
use Rattle.lists.specs.Numbers.{one_of}
use Rattle.readings.specs.declared.Joining.{Joining}
use Rattle.readings.specs.declared.Joining.TheVariants.{Refused, Answered}
use Rattle.readings.specs.declared.Joining.TheVariants as joinings
use Rattle.readings.specs.declared.Command.{Command}
use Rattle.readings.specs.declared.Command.TheVariants.{Assign, ResetAll, SetFromStatic, Move, Silence, Allow}
use Rattle.readings.specs.declared.Command.TheVariants as commands
use Rattle.readings.specs.declared.NumberUnknown.{NumberUnknown}
use Rattle.readings.specs.declared.Reading.{Reading}

-- ---- the numbers

-- joining: none, refused, answered
abbrev pub joining_number : Joining → ℕ
joining_number joinings.None = 0
joining_number Refused = 1
joining_number Answered = 2

-- 0 for none, else the choice of Begin plus 1
abbrev pub command_number : Command → ℕ
command_number commands.None = 0
command_number Assign = 1
command_number ResetAll = 2
command_number SetFromStatic = 3
command_number Move = 4
command_number Silence = 5
command_number Allow = 6

-- the joining or the command that a number stands for, or that it stands for none
abbrev pub JoiningOf : ℕ → Result Joining NumberUnknown → Type 0
JoiningOf n r = MatchResult r (λ j. joining_number j ≡ n) (λ e. (e.0 ≡ n) × (2 < n))

abbrev pub CommandOf : ℕ → Result Command NumberUnknown → Type 0
CommandOf n r = MatchResult r (λ c. command_number c ≡ n) (λ e. (e.0 ≡ n) × (6 < n))

-- after an answered joining only a silent 7Eh (0), assign (1) or silence (5) may follow; after a refused one nothing does
abbrev pub may_follow : Joining → Command → Bool
may_follow joinings.None c = true
may_follow Refused c = eqb (command_number c) 0
may_follow Answered c = one_of (0 ∷ 1 ∷ 5 ∷ []) (command_number c)

-- ---- the three kinds of reading: what a command doesn't use is 0

-- joining and command alone
abbrev pub bare : Joining → Command → Reading
bare j c = record { joining = j; command = c; header = 0; new = 0; direct = false; last = false; offers = 0 }

-- a set or a move, never behind a joining: the address of its header, the new address (0 if the header was silent), and whether the header
-- answered
abbrev pub directed : Command → ℕ → ℕ → Bool → Reading
directed c header new answered =
    record { joining = joinings.None; command = c; header = header; new = new; direct = answered; last = false; offers = 0 }

-- an assign: how many offers, and whether the last round header answered
abbrev pub assigned : Joining → ℕ → Bool → Reading
assigned j offers last = record { joining = j; command = Assign; header = 0; new = 0; direct = false; last = last; offers = offers }
