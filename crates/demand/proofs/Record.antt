-- The calls of a run by the plain rule: they write its cells, make its offers, and are heard as its record says.
use Prim.Native.Nat.{ℕ}
use mathlib.Core.Path.{◌≡◌, ap, ◌∙◌}
use mathlib.Core.Bool.{Bool, true, false, cond, not, ◌&&◌}
use mathlib.Core.List.{List, [], ◌∷◌, ◌++◌, map, append_assoc}
use mathlib.Core.Option.{Option, none, get_or}
use native.Mathlib.Omega.{arith}
use lib.Dec.{eqb}
use borrow.Author.Tests.{ne_eqb}
use Rattle.lists.specs.Lists.{any}
use Rattle.lists.specs.Bits.{bytes_of}
use Rattle.parity.specs.Cells.{answer_cell, identity_cell, offered_byte, stop_cell, broadcast_read}
use Rattle.machine.specs.declared.Machine.{Machine}
use Rattle.machine.specs.declared.Moment.{Moment}
use Rattle.machine.specs.declared.Moment.TheVariants.{Opened, Round, Offered, Direct}
use Rattle.machine.specs.Moments.{idle}
use Rattle.machine.specs.Steps.{Step, onward_machine, onward_cell}
use Rattle.life.specs.Life.{Call, answer, identity, step_of, after_all}
use Rattle.machine.specs.Moments.{moment_number}
use Rattle.told.specs.Told.{cells_over, answer_of, heard_at, Offer, offer_of, offers_made}
use Rattle.boards.specs.Wire.{waits}
use Rattle.bench.specs.Play as plays
use Rattle.bench.specs.Play.{Play, flip_now, offer_ending}
use Rattle.bench.specs.Plain.{Scene, winner, offer_for, accepts, scene_after, round_follows, round_cells}
use Rattle.bench.proofs.Steps.{calling, listening_in, offering_in, header_heard, header_silent, winner_heard, offer_heard}
use Rattle.bench.proofs.Rounds.{round_in}
use Rattle.demand.specs.Demand.{offer_in}
use Rattle.demand.proofs.Falls.{Going, Ways}
use Rattle.demand.proofs.Rises.{offer_ending_lem}

-- ---- calls

-- those of an answered round, each lent eight cells: its header is answered, its identity heard, and its offer is answered or not
abbrev round_calls : plays.Round → List Call → List Call
round_calls r cs = answer true 8 ∷ identity (bytes_of 8 r.identity) 8 ∷ answer r.accepted 8 ∷ cs

-- behind all rounds: a header that is silent, where the run ended for it
abbrev last_calls : ℕ → List Call
last_calls ending = cond (eqb ending 0) (answer false 8 ∷ []) []

-- of a run from the first round on
abbrev pub calls_of : List plays.Round → ℕ → List Call
calls_of [] ending = last_calls ending
calls_of (r ∷ rs) ending = round_calls r (calls_of rs ending)

-- the machine behind an offer
abbrev passed : Bool → Scene → Machine
passed follows s = onward_machine follows s.facts s.rows s.refusals

-- ---- what calls come to

-- the machine in the end, the cells written, the offers made, and what was heard last of a first header, of a direct one, and of a round's
pub record Outcome : Type 0 where
  pub machine : Machine
  pub cells : List ℕ
  pub offers : List Offer
  pub first : Bool
  pub second : Bool
  pub last : Bool

-- of calls on a machine, where so much was heard before
abbrev pub outcome : List Call → Machine → Bool → Bool → Bool → Outcome
outcome cs m first second last =
    record {
      machine = after_all cs m;
      cells = cells_over cs m;
      offers = offers_made cs m;
      first = heard_at Opened first cs m;
      second = heard_at Direct second cs m;
      last = heard_at Round last cs m;
    }

-- with these cells and offers in front
abbrev pub in_front : List ℕ → List Offer → Outcome → Outcome
in_front cells offers o =
    record { machine = o.machine; cells = cells ++ o.cells; offers = offers ++ o.offers; first = o.first; second = o.second; last = o.last }

-- what a call refused so, 0 for not at all, says was heard, if it is an answer and the machine is at this moment
abbrev heard_by : ℕ → Moment → Call → Machine → Option Bool
heard_by refusal moment c m = cond (eqb (moment_number m.moment) (moment_number moment) && eqb refusal 0) (answer_of c) none

module _ (c : Call) (cs : List Call) (m : Machine) (first second last : Bool) where
  -- of a call's step, and then of those calls
  abbrev step_then : Step → Outcome
  step_then s =
      let k = s.refusal in
      in_front s.cells (offer_of m (heard_by k Offered c m))
      (outcome cs s.machine (get_or (heard_by k Opened c m) first) (get_or (heard_by k Direct c m) second)
      (get_or (heard_by k Round c m) last))

  -- so it is of the call and those
  pub call_comes : {s : Step} → step_of c m ≡ s → outcome (c ∷ cs) m first second last ≡ step_then s
  call_comes e = ap step_then e

-- what stands in front, in three parts
front_joined : (x : ℕ) (xs ys : List ℕ) (made : List Offer) (o : Outcome)
    → in_front (x ∷ []) [] (in_front xs [] (in_front ys made o)) ≡ in_front (x ∷ (xs ++ ys)) made o
front_joined x xs ys made o = rw (append_assoc xs ys o.cells)

-- ---- a run

module _ (s : Scene) (going : Going s) (first second last : Bool) where
  -- a silent header comes to this
  silence_comes : outcome (answer false 8 ∷ []) (calling s) first second last
      ≡ record {
        machine = idle s.facts s.rows;
        cells = broadcast_read false ∷ stop_cell ∷ [];
        offers = [];
        first = first;
        second = second;
        last = false;
      }
  silence_comes = call_comes (answer false 8) [] (calling s) first second last (header_silent s 8 going.right (omega arith))

  -- and a round in front of other calls to this
  round_comes : any waits s.boards ≡ true → (t : Bool) (cs : List Call)
      → (let s' = scene_after t s in
      let follows = round_follows t s' in
      outcome (round_calls (round_in t s) cs) (calling s) first second last
      ≡ in_front (round_cells (winner s) (offer_for s) t follows) (offer_in (round_in t s) ∷ []) (outcome cs (passed follows s') first second true))
  round_comes some t cs =
      let s' = scene_after t s in
      let follows = round_follows t s' in
      let bytes = bytes_of 8 (winner s) in
      let ids = map identity_cell bytes in
      let end = answer_cell (offered_byte (offer_for s)) t ∷ onward_cell follows ∷ [] in
      call_comes (answer true 8) (identity bytes 8 ∷ answer t 8 ∷ cs) (calling s) first second last (header_heard s 8 going.right (omega arith))
      ∙ ap (in_front (broadcast_read true ∷ []) [])
      (call_comes (identity bytes 8) (answer t 8 ∷ cs) (listening_in s) first second true
      (winner_heard s 8 going.right (omega arith) going.wide some)
      ∙ ap (in_front ids []) (call_comes (answer t 8) cs (offering_in s) first second true (offer_heard s 8 going.right (omega arith) t)))
      ∙ front_joined (broadcast_read true) ids end (offer_in (round_in t s) ∷ []) (outcome cs (passed follows s') first second true)

-- the calls of a run come to its machine, its cells and its offers; a header was heard last if the run did not end for a silent one
abbrev Told : List ℕ → Scene → Play → Type 0
Told ks s p =
    (first second last : Bool) → outcome (calls_of p.rounds p.ending) (calling s) first second last
    ≡ record {
      machine = p.machine;
      cells = p.cells;
      offers = map offer_in p.rounds;
      first = first;
      second = second;
      last = not (eqb p.ending 0);
    }

-- as the run says
pub run_told : Ways Told
run_told = record {
  at_silence = λ ks s going e. silence_comes s going;
  at_last =
      λ ks s going e f first second last.
      let t = accepts (flip_now ks) s in
      let s' = scene_after t s in
      let not_zero = ne_eqb (offer_ending t s'.facts s'.rows) 0 (offer_ending_lem t s'.facts s'.rows) in
      rw not_zero (round_comes s going first second last e t [] ∙ rw f);
  in_front_lem =
      λ ks s going e f p h first second last.
      let t = accepts (flip_now ks) s in
      round_comes s going first second last e t (calls_of p.rounds p.ending)
      ∙ rw f (ap (in_front (round_cells (winner s) (offer_for s) t true) (offer_in (round_in t s) ∷ [])) (h first second true));
}
