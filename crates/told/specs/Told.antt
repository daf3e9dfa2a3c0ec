-- What was done by the calls of a record: a Begin or a Join, and then answers and identities until the machine is idle again.
use Rattle.std.specs.Prelude.{ℕ, Bool, true, false, cond, not, ◌&&◌, ◌||◌, List, [], ◌∷◌, ◌++◌, eqb, length}
use Rattle.std.proofs.Math.Option.{Option, none, some, get_or}
use Rattle.lists.specs.Bits.{are_bytes, bytes_of}
use Rattle.parity.specs.Cells.{offered_byte}
use Rattle.readings.specs.declared.Joining.{Joining}
use Rattle.readings.specs.declared.Command.{Command}
use Rattle.readings.specs.declared.Command.TheVariants.{Assign, ResetAll, SetFromStatic, Move, Silence, Allow}
use Rattle.readings.specs.declared.Command.TheVariants as commands
use Rattle.readings.specs.declared.Reading.{Reading}
use Rattle.machine.specs.declared.Machine.{Machine}
use Rattle.machine.specs.declared.Moment.{Moment}
use Rattle.machine.specs.declared.Moment.TheVariants.{Idle, Opened, Round, Listening, Offered, Direct}
use Rattle.machine.specs.Moments.{moment_number}
use Rattle.life.specs.Life.{Call, begin, answer, identity, give_up, join, retire, ask, step_of, after}

-- ---- calls and cells

-- an answer, an identity of bytes, a question: what carries a record on, or leaves it alone
abbrev pub goes_on : Call → Bool
goes_on (begin choice static new ticket room) = false
goes_on (answer heard room) = true
goes_on (identity bytes room) = are_bytes bytes
goes_on (give_up room) = false
goes_on (join choice room) = false
goes_on (retire ticket) = false
goes_on (ask ticket) = true

-- calls on a machine, each of which is one of these or is refused
abbrev pub go_on : List Call → Machine → Bool
go_on [] m = true
go_on (c ∷ cs) m = (goes_on c || not (eqb (step_of c m).refusal 0)) && go_on cs (after c m)

-- the cells that calls write, in a row
abbrev pub cells_over : List Call → Machine → List ℕ
cells_over [] m = []
cells_over (c ∷ cs) m = (step_of c m).cells ++ cells_over cs (after c m)

-- ---- answers

-- what a call says was heard, if it is an answer: something, or nobody
abbrev pub answer_of : Call → Option Bool
answer_of (begin choice static new ticket room) = none
answer_of (answer heard room) = some heard
answer_of (identity bytes room) = none
answer_of (give_up room) = none
answer_of (join choice room) = none
answer_of (retire ticket) = none
answer_of (ask ticket) = none

-- the same, if the machine is at this moment and does not refuse the call
abbrev pub taken_at : Moment → Call → Machine → Option Bool
taken_at moment c m = cond (eqb (moment_number m.moment) (moment_number moment) && eqb (step_of c m).refusal 0) (answer_of c) none

-- what the last answer taken at this moment said was heard; `before` if there was none
abbrev pub heard_at : Moment → Bool → List Call → Machine → Bool
heard_at moment before [] m = before
heard_at moment before (c ∷ cs) m = heard_at moment (get_or (taken_at moment c m) before) cs (after c m)

-- ---- offers

-- an offer: the identity heard, the address that it was offered, and whether it was accepted
pub record Offer : Type 0 where
  pub identity : ℕ
  pub address : ℕ
  pub accepted : Bool

-- the offer of a machine at offered that is answered
abbrev pub offer_of : Machine → Option Bool → List Offer
offer_of m none = []
offer_of m (some heard) = record { identity = m.identity; address = m.offered; accepted = heard } ∷ []

-- the offers that these calls make: one for each answer taken at offered
abbrev pub offers_made : List Call → Machine → List Offer
offers_made [] m = []
offers_made (c ∷ cs) m = offer_of m (taken_at Offered c m) ++ offers_made cs (after c m)

-- ten bytes for each: identity, address byte, 0 accepted or 1 refused
abbrev pub ten_each : List Offer → List ℕ
ten_each [] = []
ten_each (o ∷ os) = bytes_of 8 o.identity ++ (offered_byte o.address ∷ cond o.accepted 0 1 ∷ ten_each os)

-- ---- what was done

-- the command of a choice of Begin
abbrev pub command_chosen : ℕ → Command
command_chosen choice =
    cond (eqb choice 0) Assign
    (cond (eqb choice 1) ResetAll
    (cond (eqb choice 2) SetFromStatic
    (cond (eqb choice 3) Move
    (cond (eqb choice 4) Silence Allow))))

-- what these calls do on an opened machine, behind a joining, for this choice, address asked and new address wanted: the command is sent where the
-- first header was answered, the new address where the direct header was; `last` is what the last round header heard
abbrev pub done : Joining → ℕ → ℕ → ℕ → List Call → Machine → Reading
done j choice asked wanted cs m =
    record {
      joining = j;
      command = cond (heard_at Opened false cs m) (command_chosen choice) commands.None;
      header = cond (heard_at Opened false cs m) asked 0;
      new = cond (heard_at Direct false cs m) wanted 0;
      direct = heard_at Direct false cs m;
      last = heard_at Round false cs m;
      offers = length (offers_made cs m);
    }
