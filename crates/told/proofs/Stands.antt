-- The machine and the reader side by side: where each stands in a record, and what the record has said so far.
use Prim.Native.Nat.{ℕ, ◌+◌}
use mathlib.Core.Path.{◌≡◌, refl, sym, ap, subst}
use mathlib.Core.Bool.{Bool, true, false, cond, not, ◌&&◌, ◌||◌, or-false, false≢true}
use mathlib.Core.List.{List, [], ◌∷◌, ◌++◌, map}
use mathlib.Core.Option.{Option, none, some, get_or}
use native.Mathlib.Nat.{add-zero}
use native.Mathlib.Omega.{arith}
use lib.Dec.{eqb}
use lib.ListN.{length, drop}
use borrow.Author.Tests.{eqb-true, not-false}
use Rattle.lists.proofs.Bools.{cond_by, not-refused}
use Rattle.parity.specs.Cells.{identity_cell, broadcast_read}
use Rattle.slots.specs.declared.Facts.{Facts}
use Rattle.rows.specs.declared.Row.{Row}
use Rattle.readings.specs.declared.Joining.{Joining}
use Rattle.readings.specs.declared.Joining.TheVariants.{Answered}
use Rattle.readings.specs.declared.Joining.TheVariants as joinings
use Rattle.readings.specs.declared.Command.TheVariants as commands
use Rattle.readings.specs.declared.Reading.{Reading}
use Rattle.readings.specs.Readings.{may_follow}
use Rattle.reader.specs.Read.{Answer}
use Rattle.reader.specs.Points.{Point, Next, to, over, opening, reopening, header, round, offer}
use Rattle.reader.specs.Read.{stopped, lead, from, tens_of}
use Rattle.lists.specs.Bits.{are_bytes}
use Rattle.machine.specs.declared.Machine.{Machine}
use Rattle.machine.specs.declared.Moment.{Moment}
use Rattle.machine.specs.declared.Moment.TheVariants.{Opened, Round, Offered, Direct}
use Rattle.machine.specs.Moments.{idle, opened, direct, listening, offering, machine_right, is_listening}
use Rattle.machine.specs.Moments as moments
use Rattle.machine.specs.Refusals.{step_refusal, identity_refusal}
use Rattle.machine.specs.Steps.{Step, refuse, beginning, joining, identity_of, listened, answer_at}
use Rattle.machine.proofs.Laws.{step_right}
use Rattle.life.specs.Life.{Call, begin, answer, identity, give_up, join, retire, ask, step_of}
use Rattle.life.proofs.Given.{stepping, refusing, steps_unless}
use Rattle.machine.specs.Moments.{moment_number}
use Rattle.told.specs.Told.{goes_on, answer_of, Offer, offer_of, ten_each, command_chosen}

-- ---- a call is refused, or taken

-- the step of a call that goes on, or one that is refused
abbrev pub carries_on : Call → Step → Bool
carries_on c s = goes_on c || not (eqb s.refusal 0)

-- with this refusal, 0 for none, nothing is taken of what was heard
abbrev pub untaken : ℕ → Option Bool → Type 0
untaken k heard = cond (eqb k 0) heard none ≡ none

module _ (P : Option Bool → Step → Type 0) (m : Machine) (kept : (heard : Option Bool) (k : ℕ) → untaken k heard → P heard (refuse m k))
    (answers : (heard : Bool) → machine_right m ≡ true → P (some heard) (answer_at m.moment m heard))
    (identities : (bytes : List ℕ) → is_listening m.moment ≡ true → length bytes ≡ 8 → are_bytes bytes ≡ true → P none (listened m bytes)) where
  -- P holds of the step of a call that is taken: an answer is asked of a right machine, an identity has eight bytes, and the machine is listening
  took : (c : Call) → eqb (refusing c m) 0 ≡ true → carries_on c (stepping c m) ≡ true → P (answer_of c) (stepping c m)
  unfolding beginning joining listened identity_refusal step_refusal
  took (begin choice static new ticket room) e goes = absurd (false≢true goes)
  took (answer heard room) e goes = answers heard (step_right room m refl (eqb-true (step_refusal room m 0) 0 e))
  took (identity bytes room) e goes =
      let t = simp not-refused at (eqb-true (identity_refusal m (length bytes) room) 0 e) in
      identities bytes (not-false (is_listening m.moment) t.1.1.0)
      (eqb-true (length bytes) 8 (not-false (eqb (length bytes) 8) t.1.1.1.0)) (rw or-false at goes)
  took (give_up room) e goes = absurd (false≢true goes)
  took (join choice room) e goes =
      cond_by (λ (s : Step). carries_on (join choice room) s ≡ true → P none s) (eqb choice 0)
      (λ z h. absurd (false≢true h)) (λ n h. absurd (false≢true h)) goes
  took (retire ticket) e goes = absurd (false≢true goes)
  took (ask ticket) e goes = kept none 0 refl

  -- so P holds of any call that goes on or is refused
  pub goes_or_refused : (c : Call) → carries_on c (step_of c m) ≡ true → P (answer_of c) (step_of c m)
  goes_or_refused c =
      subst (λ (s : Step). carries_on c s ≡ true → P (answer_of c) s) (sym (steps_unless c m))
      (cond_by (λ (s : Step). carries_on c s ≡ true → P (answer_of c) s) (eqb (refusing c m) 0)
      (took c) (λ n goes. kept (answer_of c) (refusing c m) (rw n)))

-- ---- where they stand

-- what the cells say from where the reader stands, in the record or behind its STOP; the first of them stands at the place `at`
abbrev pub reads : Next → List ℕ → ℕ → Answer
reads w xs at = lead w at (λ p. from p xs at) (λ r. stopped r xs at)

-- behind a joining that was answered, or behind none
abbrev pub joining_of : Bool → Joining
joining_of true = Answered
joining_of false = joinings.None

abbrev pub opening_of : Bool → Point
opening_of true = reopening
opening_of false = opening

-- what was heard so far: at the first header, at the direct header and at the last round header; and how many offers were made
pub record So : Type 0 where
  pub first : Bool
  pub second : Bool
  pub last : Bool
  pub offers : ℕ

abbrev pub hearing : Bool → Bool → Bool → ℕ → So
hearing first second last offers = record { first = first; second = second; last = last; offers = offers }

module _ (behind : Bool) (choice asked wanted : ℕ) where
  -- at each moment of the machine: its facts and rows, and what it has done
  pub data Stand : Type 0 where
    at_opened : (f : Facts) (rows : List Row) → may_follow (joining_of behind) (command_chosen choice) ≡ true → Stand
    at_direct : (f : Facts) (rows : List Row) → behind ≡ false → Stand
    at_round : (f : Facts) (rows : List Row) (refusals n : ℕ) (last : Bool) → choice ≡ 0 → asked ≡ 0 → Stand
    at_listening : (f : Facts) (rows : List Row) (refusals n : ℕ) → choice ≡ 0 → asked ≡ 0 → Stand
    at_offered : (f : Facts) (rows : List Row) (refusals n address : ℕ) (bytes : List ℕ) → length bytes ≡ 8 → are_bytes bytes ≡ true
        → choice ≡ 0 → asked ≡ 0 → Stand
    at_idle : (f : Facts) (rows : List Row) (so : So) → Stand

  -- what a record says in which so much was heard
  abbrev pub said : So → Reading
  said so =
      record {
        joining = joining_of behind;
        command = cond so.first (command_chosen choice) commands.None;
        header = cond so.first asked 0;
        new = cond so.second wanted 0;
        direct = so.second;
        last = so.last;
        offers = so.offers;
      }

module _ {behind : Bool} {choice asked wanted : ℕ} where
  -- the machine
  abbrev pub machine_at : Stand behind choice asked wanted → Machine
  machine_at (at_opened f rows may) = opened f rows choice asked wanted
  machine_at (at_direct f rows alone) = direct f rows choice asked wanted
  machine_at (at_round f rows refusals n last z a) = moments.round f rows refusals
  machine_at (at_listening f rows refusals n z a) = listening f rows refusals
  machine_at (at_offered f rows refusals n address bytes long small z a) = offering f rows (identity_of bytes) address refusals
  machine_at (at_idle f rows so) = idle f rows

  -- what was heard
  abbrev pub so_far : Stand behind choice asked wanted → So
  so_far (at_opened f rows may) = hearing false false false 0
  so_far (at_direct f rows alone) = hearing true false false 0
  so_far (at_round f rows refusals n last z a) = hearing true false last n
  so_far (at_listening f rows refusals n z a) = hearing true false true n
  so_far (at_offered f rows refusals n address bytes long small z a) = hearing true false true n
  so_far (at_idle f rows so) = so

  -- the reader
  abbrev pub reader_at : Stand behind choice asked wanted → Next
  reader_at (at_opened f rows may) = to (opening_of behind)
  reader_at (at_direct f rows alone) = to (header (command_chosen choice))
  reader_at (at_round f rows refusals n last z a) = to (round (joining_of behind) n)
  reader_at (at_listening f rows refusals n z a) = to (offer (joining_of behind) n 8)
  reader_at (at_offered f rows refusals n address bytes long small z a) = to (offer (joining_of behind) n 0)
  reader_at (at_idle f rows so) = over (said behind choice asked wanted so)

  -- the offers still to come are read in the cells still to come, behind those of the round that stand already; there are none in a set, in a
  -- move and behind STOP
  abbrev pub TensIn : Stand behind choice asked wanted → List ℕ → List Offer → Type 0
  TensIn (at_opened f rows may) xs os = tens_of (length os) (drop 3 xs) ≡ ten_each os
  TensIn (at_direct f rows alone) xs os = os ≡ []
  TensIn (at_round f rows refusals n last z a) xs os = tens_of (length os) xs ≡ ten_each os
  TensIn (at_listening f rows refusals n z a) xs os = tens_of (length os) (broadcast_read true ∷ xs) ≡ ten_each os
  TensIn (at_offered f rows refusals n address bytes long small z a) xs os =
      tens_of (length os) (broadcast_read true ∷ (map identity_cell bytes ++ xs)) ≡ ten_each os
  TensIn (at_idle f rows so) xs os = os ≡ []

-- where there are none, neither are their bytes
pub none_left : (os : List Offer) (xs : List ℕ) → os ≡ [] → tens_of (length os) xs ≡ ten_each os
unfolding tens_of
none_left os xs e = rw e

-- ---- one step

-- what is taken of what was heard, in this step of a machine at this moment
abbrev pub takes : Moment → Machine → Step → Option Bool → Option Bool
takes moment m s heard = cond (eqb (moment_number m.moment) (moment_number moment) && eqb s.refusal 0) heard none

-- where nothing is taken at any moment, nothing is at this one
takes_none : (here taken : Bool) (heard : Option Bool) → cond taken heard none ≡ none → cond (here && taken) heard none ≡ none
takes_none true taken heard h = h
takes_none false taken heard h = refl

-- the offers with the one that this step makes
abbrev offers_with : Machine → Step → Option Bool → List Offer → List Offer
offers_with m s heard os = offer_of m (takes Offered m s heard) ++ os

-- what was heard, behind this step too
abbrev pub so_after : Machine → Step → Option Bool → So → So
so_after m s heard so =
    record {
      first = get_or (takes Opened m s heard) so.first;
      second = get_or (takes Direct m s heard) so.second;
      last = get_or (takes Round m s heard) so.last;
      offers = so.offers + length (offer_of m (takes Offered m s heard));
    }

module _ (behind : Bool) (choice asked wanted : ℕ) where
  -- the step of a call that says this was heard leads from one stand to another
  pub record Leads (from : Stand behind choice asked wanted) (heard : Option Bool) (s : Step) : Type 0 where
    pub on : Stand behind choice asked wanted
    pub machine : s.machine ≡ machine_at on
    pub so : so_after (machine_at from) s heard (so_far from) ≡ so_far on
    pub cells : (xs : List ℕ) (at : ℕ) → reads (reader_at from) (s.cells ++ xs) at ≡ reads (reader_at on) xs (at + length s.cells)
    pub ten : (xs : List ℕ) (os : List Offer) → TensIn on xs os → TensIn from (s.cells ++ xs) (offers_with (machine_at from) s heard os)

  -- a step of which nothing is taken leads nowhere else
  pub stays : (at : Stand behind choice asked wanted) (heard : Option Bool) (k : ℕ) → untaken k heard → Leads at heard (refuse (machine_at at) k)
  stays at heard k n =
      let nothing : (moment : Moment) → takes moment (machine_at at) (refuse (machine_at at) k) heard ≡ none =
      λ moment. takes_none (eqb (moment_number (machine_at at).moment) (moment_number moment)) (eqb k 0) heard n in
      record {
        on = at;
        machine = refl;
        so = rw (nothing Opened, nothing Direct, nothing Round, nothing Offered, add-zero);
        cells = λ xs place. ap (reads (reader_at at) xs) (omega arith);
        ten = λ xs os h. rw (nothing Offered) h;
      }
