-- What reader and writer give is told by its answer alone: no two results have the same one.
use Prim.Native.Nat.{ℕ}
use mathlib.Core.Path.{◌≡◌, refl, sym, ap, ◌∙◌}
use mathlib.Core.Bool.{cond}
use lib.Dec.{eqb}
use Rattle.std.specs.Prelude.{Result, Ok, Err}
use Rattle.refusals.specs.declared.Refusal.{Refusal}
use Rattle.refusals.specs.declared.Refusal.TheVariants.{FactsWrong, OutOfRange, NotOpen, Held, Full, NoFreeAddress, NoTicketLeft, TicketUnknown, TicketRetired, WrongMoment, TooFewLent, UnknownChoice, TooLong, NoLayout, NoRoom, TooManyBoards, FlipOver8, SheetWrong, BrokenMachine}
use Rattle.refusals.specs.Refusals.{number}
use Rattle.refusals.proofs.Laws.{number_not_zero}
use Rattle.readings.specs.declared.Reading.{Reading}
use Rattle.reader.specs.declared.Fault.{Fault}
use Rattle.reader.specs.Read.{Answer, answer_of}
use Rattle.writer.specs.Write.{Written, written}

-- the refusal that has a number
abbrev numbered : ℕ → Refusal
numbered n =
    cond (eqb n 1) FactsWrong
    (cond (eqb n 2) OutOfRange
    (cond (eqb n 3) NotOpen
    (cond (eqb n 4) Held
    (cond (eqb n 5) Full
    (cond (eqb n 6) NoFreeAddress
    (cond (eqb n 7) NoTicketLeft
    (cond (eqb n 8) TicketUnknown
    (cond (eqb n 9) TicketRetired
    (cond (eqb n 10) WrongMoment
    (cond (eqb n 11) TooFewLent
    (cond (eqb n 12) UnknownChoice
    (cond (eqb n 13) TooLong
    (cond (eqb n 14) NoLayout
    (cond (eqb n 15) NoRoom
    (cond (eqb n 16) TooManyBoards
    (cond (eqb n 17) FlipOver8
    (cond (eqb n 18) SheetWrong BrokenMachine)))))))))))))))))

number_back : (r : Refusal) → numbered (number r) ≡ r
number_back FactsWrong = refl
number_back OutOfRange = refl
number_back NotOpen = refl
number_back Held = refl
number_back Full = refl
number_back NoFreeAddress = refl
number_back NoTicketLeft = refl
number_back TicketUnknown = refl
number_back TicketRetired = refl
number_back WrongMoment = refl
number_back TooFewLent = refl
number_back UnknownChoice = refl
number_back TooLong = refl
number_back NoLayout = refl
number_back NoRoom = refl
number_back TooManyBoards = refl
number_back FlipOver8 = refl
number_back SheetWrong = refl
number_back BrokenMachine = refl

pub number_only : (r s : Refusal) → number r ≡ number s → r ≡ s
number_only r s e = sym (number_back r) ∙ ap numbered e ∙ number_back s

pub answer_only : (x y : Result Reading Fault) → answer_of x ≡ answer_of y → x ≡ y
answer_only (Ok r) (Ok s) e = ap Ok (ap (λ (a : Answer). a.reading) e)
answer_only (Ok r) (Err g) e = absurd (number_not_zero g.refusal (sym (ap (λ (a : Answer). a.refusal) e)))
answer_only (Err f) (Ok s) e = absurd (number_not_zero f.refusal (ap (λ (a : Answer). a.refusal) e))
answer_only (Err f) (Err g) e =
    let p : f.refusal ≡ g.refusal = number_only f.refusal g.refusal (ap (λ (a : Answer). a.refusal) e) in
    let q : f.place ≡ g.place = ap (λ (a : Answer). a.place) e in
    rw (p, q)

pub written_only : (x y : Result ℕ Refusal) → written x ≡ written y → x ≡ y
written_only (Ok m) (Ok n) e = ap Ok (ap (λ (w : Written). w.count) e)
written_only (Ok m) (Err s) e = absurd (number_not_zero s (sym (ap (λ (w : Written). w.refusal) e)))
written_only (Err r) (Ok n) e = absurd (number_not_zero r (ap (λ (w : Written). w.refusal) e))
written_only (Err r) (Err s) e = ap Err (number_only r s (ap (λ (w : Written). w.refusal) e))
