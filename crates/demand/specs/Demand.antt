-- What is asked of a run.
use Rattle.std.specs.Prelude.{ℕ, ◌≤◌, ◌≡◌, Bool, true, false, cond, not, ◌&&◌, List, [], ◌∷◌, map, eqb, length}
use Rattle.lists.specs.Lists.{any, all}
use Rattle.lists.specs.Numbers.{within}
use Rattle.begins.specs.Begins.{assign_refusal}
use Rattle.boards.specs.declared.Board.{Board}
use Rattle.boards.specs.Wire.{waits}
use Rattle.boards.specs.Plain.{are_wide, bears, none_below, given}
use Rattle.machine.specs.declared.Machine.{Machine}
use Rattle.machine.specs.Moments.{machine_right, is_idle}
use Rattle.readings.specs.declared.Joining.TheVariants as joinings
use Rattle.readings.specs.declared.Command.TheVariants as commands
use Rattle.readings.specs.declared.Reading.{Reading}
use Rattle.readings.specs.Readings.{bare, assigned}
use Rattle.life.specs.Life.{Call, begin, after_all}
use Rattle.told.specs.Told.{Offer, goes_on, cells_over}
use Rattle.bench.specs.Play.{Round, Play}

-- ---- where a run may begin

-- a sound idle machine, refused nothing that Begin asks for assign, and 0 to 32 boards, whose identities are of 64 bits; equal ones are allowed
pub record MayRun (m : Machine) (bs : List Board) : Type 0 where
  pub right : machine_right m ≡ true
  pub idles : is_idle m.moment ≡ true
  pub begins : assign_refusal m.table.facts m.table.rows ≡ 0
  pub few : length bs ≤ 32
  pub wide : are_wide bs ≡ true

-- ---- rounds

-- the smallest identity still without an address: a board without one bears it, and none without one has a smaller
pub record IsSmallest (id : ℕ) (bs : List Board) : Type 0 where
  pub borne : any (bears id) bs ≡ true
  pub least : none_below id bs ≡ true

-- an answered round: it goes to that identity; what it is offered is not 0, so that who takes it has an address, and of seven bits; its bearers without
-- one take it together, or refuse it together
pub record Fair (r : Round) : Type 0 where
  pub smallest : IsSmallest r.identity r.before
  pub real : within 0x01 0x7F r.address ≡ true
  pub together : r.after ≡ cond r.accepted (given r.address r.identity r.before) r.before

-- rounds one after the other, from these boards to those
unfoldable pub FairRounds : List Board → List Round → List Board → Type 0
FairRounds bs [] bs' = bs ≡ bs'
FairRounds bs (r ∷ rs) bs' = (r.before ≡ bs) × Fair r × FairRounds r.after rs bs'

-- each board keeps its place and its identity, and an address that it has
unfoldable pub Stay : List Board → List Board → Type 0
Stay [] [] = Unit
Stay [] (c ∷ cs) = ⊥
Stay (b ∷ bs) [] = ⊥
Stay (b ∷ bs) (c ∷ cs) = (c.identity ≡ b.identity) × (waits b ≡ false → c ≡ b) × Stay bs cs

-- the identities that accepted an address, in order
abbrev pub accepted_in : List Round → List ℕ
accepted_in [] = []
accepted_in (r ∷ rs) = cond r.accepted (r.identity ∷ accepted_in rs) (accepted_in rs)

-- whether each round's offer was accepted
abbrev pub answers_in : List Round → List Bool
answers_in rs = map (λ (r : Round). r.accepted) rs

-- the last two were refused
abbrev pub two_refused : List Bool → Bool
two_refused [] = false
two_refused (a ∷ []) = false
two_refused (a ∷ b ∷ []) = not a && not b
two_refused (a ∷ b ∷ c ∷ answers) = two_refused (b ∷ c ∷ answers)

-- ---- calls

-- the run is calls of a table's life: Begin for assign (choice 0, no addresses, no ticket, 8 cells lent), and behind it calls that carry its record on,
-- none of them giving up, come to its machine and write its cells
pub record ByCalls (m : Machine) (p : Play) : Type 0 where
  pub calls : List Call
  pub on : all goes_on calls ≡ true
  pub machine : after_all (begin 0 0 0 0 8 ∷ calls) m ≡ p.machine
  pub cells : cells_over (begin 0 0 0 0 8 ∷ calls) m ≡ p.cells

-- ---- the record

-- the offer of a round
abbrev pub offer_in : Round → Offer
offer_in r = record { identity = r.identity; address = r.address; accepted = r.accepted }

-- what the record says: without boards nothing but a silent header; else an assign with so many offers, and whether the last round header was
-- answered: it was not where the ending is 0
abbrev pub reading_of : List Board → Play → Reading
reading_of bs p =
    cond (eqb (length bs) 0) (bare joinings.None commands.None)
    (assigned joinings.None (length p.rounds) (not (eqb p.ending 0)))
