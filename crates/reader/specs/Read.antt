-- What the reader answers, and what it leaves in the offers buffer.
use Rattle.std.specs.Prelude.{ℕ, zero, suc, ◌+◌, ◌*◌, ◌%◌, ◌≡◌, Result, Ok, Err, MatchResult, cond, not, List, [], ◌∷◌, ◌++◌, map, ltb, eqb, length, get_or, drop}
use Rattle.lists.specs.Numbers.{numbers}
use Rattle.readings.specs.declared.Joining.{Joining}
use Rattle.readings.specs.declared.Joining.TheVariants.{Refused, Answered}
use Rattle.readings.specs.declared.Joining.TheVariants as joinings
use Rattle.readings.specs.declared.Command.TheVariants as commands
use Rattle.readings.specs.declared.Reading.{Reading}
use Rattle.readings.specs.Readings.{bare}
use Rattle.refusals.specs.Refusals.{number}
use Rattle.reader.specs.declared.Fault.{Fault}
use Rattle.reader.specs.declared.place.Place.{Place}
use Rattle.reader.specs.Points.{Point, Next, nowhere, to, over, start, next, byte_of, ninth_of}

-- ---- the answer

-- the reading, the refusal (0 for none) and its place
pub record Answer : Type 0 where
  pub reading : Reading
  pub refusal : ℕ
  pub place : ℕ

-- a reading, refused by nothing
abbrev pub says : Reading → Answer
says r = record { reading = r; refusal = 0; place = 0 }

-- a refusal: 0 in every number but its own and the place
abbrev pub refused : ℕ → ℕ → Answer
refused n place = record { reading = bare joinings.None commands.None; refusal = n; place = place }

-- no layout fits: the place, counted from 0, of the first cell that can't continue one, or the length if the record breaks off
abbrev pub breaks : ℕ → Answer
breaks place = refused 14 place

-- what the reader gives, as an answer: no two results are the same one
abbrev pub fault_answer : Fault → Answer
fault_answer f = refused (number f.refusal) f.place

abbrev pub answer_of : Result Reading Fault → Answer
answer_of (Ok r) = says r
answer_of (Err f) = fault_answer f

-- ---- the cells, one after the other

-- behind STOP nothing may stand
unfoldable pub stopped : Reading → List ℕ → ℕ → Answer
stopped r [] at = says r
stopped r (x ∷ xs) at = breaks at

-- on to where the cell at the place `at` leads
abbrev pub lead : Next → ℕ → (Point → Answer) → (Reading → Answer) → Answer
lead nowhere at on end = breaks at
lead (to p) at on end = on p
lead (over r) at on end = end r

-- what the cells say from a point on; the first of them stands at the place `at`, and where they run out the record breaks off
unfoldable pub from : Point → List ℕ → ℕ → Answer
from p [] at = breaks at
from p (x ∷ xs) at = lead (next p x) at (λ p'. from p' xs (at + 1)) (λ r. stopped r xs (at + 1))

-- ---- places

-- the cells from a place on
abbrev pub rest : Place → List ℕ
rest w = drop w.at w.cells.now

-- what they say from a point on
abbrev pub read_from : Point → Place → Answer
read_from p w = from p (rest w) w.at

-- the cell x is the first of these, and stands at the place `at`; the others stand from the next place on
pub record Stands (cells : List ℕ) (at x : ℕ) (others : List ℕ) (after : ℕ) : Type 0 where
  pub first : cells ≡ x ∷ others
  pub second : after ≡ at + 1

-- the cell x stands at a place, and this is the place behind it
abbrev pub Step : Place → ℕ → Place → Type 0
Step w x v = Stands (rest w) w.at x (rest v) v.at

-- the cell at a place and the place behind it, or the record breaks off there
abbrev pub Takes : Place → Result (ℕ × Place) Fault → Type 0
Takes w r = MatchResult r (λ t. Step w t.0 t.1) (λ f. (rest w ≡ []) × (fault_answer f ≡ breaks w.at))

-- the place behind the cell that must stand at a place, or no layout fits there
abbrev pub Expects : Place → ℕ → Result Place Fault → Type 0
Expects w n r = MatchResult r (λ v. Step w n v) (λ f. ((xs : List ℕ) → rest w ≡ n ∷ xs → ⊥) × (fault_answer f ≡ breaks w.at))

-- ---- the offers

-- the cell at a place; 65,535, which leads nowhere, past the end
abbrev pub cell_at : List ℕ → ℕ → ℕ
cell_at cells place = get_or cells place 65535

-- the byte of an identity's cell, its lowest eight bits
abbrev pub identity_byte : ℕ → ℕ
identity_byte x = x % 256

-- the ten bytes of an offer whose round header is the first of the cells: identity, address byte, 0 accepted or 1 refused
unfoldable pub ten_of : List ℕ → List ℕ
ten_of cells =
    map (λ place. identity_byte (cell_at cells place)) (numbers 1 8)
    ++ (byte_of (cell_at cells 9) ∷ ninth_of (cell_at cells 9) ∷ [])

-- so many offers, eleven cells each: the round header, eight identity bytes, the address byte, and the 513 or 514 behind it
unfoldable pub tens_of : ℕ → List ℕ → List ℕ
tens_of zero cells = []
tens_of (suc n) cells = ten_of cells ++ tens_of n (drop 11 cells)

-- how many cells stand before the first round header: 512, 504, 14, 513, and behind an answered joining 512, 8, 513, 504, 14, 513; a refused
-- joining has no rounds
abbrev pub rounds_at : Joining → ℕ
rounds_at joinings.None = 4
rounds_at Refused = 0
rounds_at Answered = 6

-- the ten bytes of every offer of a record that says this
unfoldable pub offers_of : Reading → List ℕ → List ℕ
offers_of r cells = tens_of r.offers (drop (rounds_at r.joining) cells)

-- ---- the reader

-- 13, 14 (what the cells come to), 15, in this order, with so many bytes of room in the offers buffer
unfoldable pub answer_to : List ℕ → ℕ → Answer
answer_to cells room =
    cond (ltb 1024 (length cells)) (refused 13 0)
    (cond (not (eqb (from start cells 0).refusal 0)) (from start cells 0)
    (cond (ltb room (10 * (from start cells 0).reading.offers)) (refused 15 0)
    (from start cells 0)))

-- what is written into the offers buffer: after a refusal nothing
abbrev pub offers_to : List ℕ → ℕ → List ℕ
offers_to cells room = cond (eqb (answer_to cells room).refusal 0) (offers_of (answer_to cells room).reading cells) []
