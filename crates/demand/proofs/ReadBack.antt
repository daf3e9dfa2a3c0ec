-- The record of a run by the plain rule is read as what was done, with exactly its offers.
use Prim.Native.Nat.{ℕ, suc, ◌*◌, ◌≤◌}
use mathlib.Core.Path.{◌≡◌, refl, sym, ap, ◌∙◌, subst}
use mathlib.Core.Bool.{Bool, true, false, cond, not}
use mathlib.Core.List.{List, [], ◌∷◌, ◌++◌, map}
use native.Mathlib.Omega.{arith}
use lib.Dec.{eqb}
use lib.ListN.{length, length-map}
use borrow.Author.Tests.{ne_eqb}
use Rattle.lists.specs.Lists.{all}
use Rattle.lists.proofs.Bits.{bytes_small}
use Rattle.lists.proofs.Bools.{both, and}
use Rattle.parity.specs.Cells.{start_cell, repeated_start_cell, stop_cell, broadcast_write, assign_cell}
use Rattle.readings.specs.declared.Joining.TheVariants as joinings
use Rattle.readings.specs.declared.Command.TheVariants as commands
use Rattle.readings.specs.declared.Reading.{Reading}
use Rattle.readings.specs.Readings.{assigned}
use Rattle.reader.specs.Read.{says, answer_to, offers_to}
use Rattle.machine.specs.declared.Machine.{Machine}
use Rattle.machine.specs.Moments.{idle, opened, round, is_idle}
use Rattle.machine.specs.Steps.{Step, did, round_rule, commanded, opened_answer}
use Rattle.life.specs.Life.{Call, begin, answer, step_of, after, after_all}
use Rattle.told.specs.Told.{goes_on, go_on, cells_over, offers_made, ten_each, command_chosen, done}
use Rattle.told.proofs.Told.{begun_read}
use Rattle.boards.specs.declared.Board.{Board}
use Rattle.bench.specs.Play.{Round, Play}
use Rattle.bench.specs.Plain.{plain_rounds, at_first, plain}
use Rattle.bench.proofs.Scenes.{begins_can, begins_right}
use Rattle.bench.proofs.Steps.{answer_steps, begin_steps}
use Rattle.demand.specs.Demand.{MayRun, offer_in, reading_of}
use Rattle.demand.proofs.Record.{calls_of, Outcome, outcome, in_front, call_comes, run_told}
use Rattle.demand.proofs.Rises.{run_idle}
use Rattle.demand.proofs.Runs.{first_runs}

-- ---- the calls go on

-- each of a run's does
pub calls_go : (rounds : List Round) (ending : ℕ) → all goes_on (calls_of rounds ending) ≡ true
calls_go [] ending = go (eqb ending 0)
  where
    go : (b : Bool) → all goes_on (cond b (answer false 8 ∷ []) []) ≡ true
    go true = refl
    go false = refl
calls_go (r ∷ rounds) ending = and (bytes_small 8 r.identity) (calls_go rounds ending)

-- so they do one after the other, on any machine
go_on_lem : (cs : List Call) (m : Machine) → all goes_on cs ≡ true → go_on cs m ≡ true
go_on_lem [] m h = refl
go_on_lem (c ∷ cs) m h = let t = both (goes_on c) (all goes_on cs) h in rw t.0 (go_on_lem cs (after c m) t.1)

-- ---- the reader

-- what an outcome behind an opened assign says
abbrev reading_from : Outcome → Reading
reading_from o =
    record {
      joining = joinings.None;
      command = cond o.first (command_chosen 0) commands.None;
      header = cond o.first 0 0;
      new = cond o.second 0 0;
      direct = o.second;
      last = o.last;
      offers = length o.offers;
    }

-- its cells, behind 512, are read so
abbrev IsRead : Outcome → Type 0
IsRead o =
    is_idle o.machine.moment ≡ true → (space : ℕ) → length (start_cell ∷ o.cells) ≤ 1024 → 10 * length o.offers ≤ space
    → (answer_to (start_cell ∷ o.cells) space ≡ says (reading_from o)) × (offers_to (start_cell ∷ o.cells) space ≡ ten_each o.offers)

module _ (m : Machine) (bs : List Board) (may : MayRun m bs) where
  -- the machine that Begin opens
  abbrev pub opened_here : Machine
  opened_here = opened m.table.facts m.table.rows 0 0 0

  -- it does
  pub opens : step_of (begin 0 0 0 0 8) m ≡ did opened_here (start_cell ∷ [])
  opens = begin_steps m 8 may.right (omega arith) may.idles may.begins

  -- what the machine writes from there on, with calls that go on, is read
  opened_read : (cs : List Call) → all goes_on cs ≡ true → IsRead (outcome cs opened_here false false false)
  opened_read cs go =
      subst
      (λ (s : Step).
      is_idle (after_all cs s.machine).moment ≡ true → (space : ℕ) → length (s.cells ++ cells_over cs s.machine) ≤ 1024
      → 10 * length (offers_made cs s.machine) ≤ space
      → (answer_to (s.cells ++ cells_over cs s.machine) space ≡ says (done joinings.None 0 0 0 cs s.machine))
      × (offers_to (s.cells ++ cells_over cs s.machine) space ≡ ten_each (offers_made cs s.machine)))
      opens
      (begun_read m 0 0 0 0 8 cs (ap (λ (s : Step). s.refusal) opens) (go_on_lem cs (after (begin 0 0 0 0 8) m) go))

  -- the first header, silent
  opened_silent : step_of (answer false 8) opened_here ≡ did (idle m.table.facts m.table.rows) (broadcast_write false ∷ stop_cell ∷ [])
  unfolding opened_answer
  opened_silent = answer_steps opened_here 8 (begins_right m may.right may.begins) (omega arith) false

  -- and answered
  opened_heard : step_of (answer true 8) opened_here
      ≡ did (round m.table.facts m.table.rows 0) (broadcast_write true ∷ assign_cell ∷ repeated_start_cell ∷ [])
  unfolding opened_answer commanded round_rule
  opened_heard =
      answer_steps opened_here 8 (begins_right m may.right may.begins) (omega arith) true
      ∙ rw (begins_can m.table.facts m.table.rows may.begins)

-- ---- the run

-- with boards it is an assign with so many offers
assigned_told : (b : Board) (bs : List Board) (p : Play)
    → reading_of (b ∷ bs) p ≡ assigned joinings.None (length (map offer_in p.rounds)) (not (eqb p.ending 0))
assigned_told b bs p = rw (ne_eqb (suc (length bs)) 0 (λ (e : suc (length bs) ≡ 0). omega arith), length-map p.rounds offer_in)

-- what is heard behind 512 where no board is: a silent header
pub silent_comes : (m : Machine) (may : MayRun m [])
    → outcome (answer false 8 ∷ []) (opened_here m [] may) false false false
    ≡ record {
      machine = idle m.table.facts m.table.rows;
      cells = broadcast_write false ∷ stop_cell ∷ [];
      offers = [];
      first = false;
      second = false;
      last = false;
    }
silent_comes m may = call_comes (answer false 8) [] (opened_here m [] may) false false false (opened_silent m [] may)

module _ (m : Machine) (ks : List ℕ) (b : Board) (bs : List Board) (may : MayRun m (b ∷ bs)) where
  -- the rounds, where one is
  abbrev pub rounds_here : Play
  rounds_here = plain_rounds 65 ks (at_first m (b ∷ bs))

  -- and what is heard behind 512: 504, 14, 513, and they
  pub heard_comes : outcome (answer true 8 ∷ calls_of rounds_here.rounds rounds_here.ending) (opened_here m (b ∷ bs) may) false false false
      ≡ record {
        machine = rounds_here.machine;
        cells = broadcast_write true ∷ assign_cell ∷ repeated_start_cell ∷ rounds_here.cells;
        offers = map offer_in rounds_here.rounds;
        first = true;
        second = false;
        last = not (eqb rounds_here.ending 0);
      }
  heard_comes =
      let cs = calls_of rounds_here.rounds rounds_here.ending in
      call_comes (answer true 8) cs (opened_here m (b ∷ bs) may) false false false (opened_heard m (b ∷ bs) may)
      ∙ ap (in_front (broadcast_write true ∷ assign_cell ∷ repeated_start_cell ∷ []) []) (first_runs m (b ∷ bs) ks may _ run_told true false false)

module _ (m : Machine) (ks : List ℕ) where
  -- its cells are read, where there is room for its offers
  pub plain_read : (bs : List Board) → MayRun m bs
      → let p = plain m bs ks in
      (space : ℕ) → length p.cells ≤ 1024 → 10 * length p.rounds ≤ space
      → (answer_to p.cells space ≡ says (reading_of bs p)) × (offers_to p.cells space ≡ ten_each (map offer_in p.rounds))
  unfolding plain
  plain_read [] may space fits room =
      subst IsRead (silent_comes m may) (opened_read m [] may (answer false 8 ∷ []) refl) refl space fits room
  plain_read (b ∷ bs) may space fits room =
      let p = rounds_here m ks b bs may in
      let cs = calls_of p.rounds p.ending in
      let fit : 10 * length (map offer_in p.rounds) ≤ space = rw length-map room in
      let r =
      subst IsRead (heard_comes m ks b bs may) (opened_read m (b ∷ bs) may (answer true 8 ∷ cs) (calls_go p.rounds p.ending))
      (first_runs m (b ∷ bs) ks may _ run_idle) space fits fit in
      (r.0 ∙ ap says (sym (assigned_told b bs (plain m (b ∷ bs) ks))), r.1)
