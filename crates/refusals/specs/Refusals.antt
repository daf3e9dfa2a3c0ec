-- The numbers that the paper gives the refusals.
use Rattle.std.specs.Prelude.{ℕ, ◌≡◌, Result, Ok, Err}
use Rattle.refusals.specs.declared.Refusal.{Refusal}
use Rattle.refusals.specs.declared.NoRefusal.{NoRefusal}
use Rattle.refusals.specs.declared.Refusal.TheVariants.{FactsWrong, OutOfRange, NotOpen, Held, Full, NoFreeAddress, NoTicketLeft, TicketUnknown, TicketRetired, WrongMoment, TooFewLent, UnknownChoice, TooLong, NoLayout, NoRoom, TooManyBoards, FlipOver8, SheetWrong, BrokenMachine}

abbrev pub number : Refusal → ℕ
number FactsWrong = 1
number OutOfRange = 2
number NotOpen = 3
number Held = 4
number Full = 5
number NoFreeAddress = 6
number NoTicketLeft = 7
number TicketUnknown = 8
number TicketRetired = 9
number WrongMoment = 10
number TooFewLent = 11
number UnknownChoice = 12
number TooLong = 13
number NoLayout = 14
number NoRoom = 15
number TooManyBoards = 16
number FlipOver8 = 17
number SheetWrong = 18
number BrokenMachine = 28

-- the number of what a call answers: 0 where it is not refused
abbrev pub refusal_of : {A : Type 0} → Result A Refusal → ℕ
refusal_of (Ok _) = 0
refusal_of (Err r) = number r

-- what a number says: the refusal that has it, and that there is none only where none has it
abbrev pub NumberOf : ℕ → Result Refusal NoRefusal → Type 0
NumberOf n (Ok r) = number r ≡ n
NumberOf n (Err _) = (r : Refusal) → number r ≡ n → ⊥
