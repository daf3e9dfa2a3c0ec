-- Laws of the numbers of refusals.
use Rattle.std.specs.Prelude.{◌≡◌}
use native.Mathlib.Omega.{arith}
use Rattle.refusals.specs.declared.Refusal.{Refusal}
use Rattle.refusals.specs.declared.Refusal.TheVariants.{FactsWrong, OutOfRange, NotOpen, Held, Full, NoFreeAddress, NoTicketLeft, TicketUnknown, TicketRetired, WrongMoment, TooFewLent, UnknownChoice, TooLong, NoLayout, NoRoom, TooManyBoards, FlipOver8, SheetWrong, BrokenMachine}
use Rattle.refusals.specs.Refusals.{number}

-- no refusal has the number 0, which says that there is none
pub number_not_zero : (r : Refusal) → number r ≡ 0 → ⊥
number_not_zero FactsWrong e = omega arith
number_not_zero OutOfRange e = omega arith
number_not_zero NotOpen e = omega arith
number_not_zero Held e = omega arith
number_not_zero Full e = omega arith
number_not_zero NoFreeAddress e = omega arith
number_not_zero NoTicketLeft e = omega arith
number_not_zero TicketUnknown e = omega arith
number_not_zero TicketRetired e = omega arith
number_not_zero WrongMoment e = omega arith
number_not_zero TooFewLent e = omega arith
number_not_zero UnknownChoice e = omega arith
number_not_zero TooLong e = omega arith
number_not_zero NoLayout e = omega arith
number_not_zero NoRoom e = omega arith
number_not_zero TooManyBoards e = omega arith
number_not_zero FlipOver8 e = omega arith
number_not_zero SheetWrong e = omega arith
number_not_zero BrokenMachine e = omega arith
