-- A run by the plain rule is calls of a table's life: what holds over any calls holds of it.
use Prim.Native.Nat.{ℕ}
use mathlib.Core.Path.{◌≡◌, refl, ap, ◌∙◌}
use mathlib.Core.Bool.{true, false}
use mathlib.Core.List.{List, [], ◌∷◌, ◌++◌}
use Rattle.parity.specs.Cells.{start_cell}
use Rattle.machine.specs.declared.Machine.{Machine}
use Rattle.machine.specs.Steps.{Step}
use Rattle.life.specs.Life.{Call, begin, answer, after_all}
use Rattle.told.specs.Told.{cells_over}
use Rattle.boards.specs.declared.Board.{Board}
use Rattle.bench.specs.Plain.{plain}
use Rattle.demand.specs.Demand.{MayRun, ByCalls}
use Rattle.demand.proofs.Record.{calls_of, Outcome, outcome}
use Rattle.demand.proofs.ReadBack.{calls_go, opened_here, opens, silent_comes, rounds_here, heard_comes}

-- Begin, and calls behind it, come to this
begun_comes : (m : Machine) (bs : List Board) (may : MayRun m bs) (cs : List Call) {o : Outcome} → outcome cs (opened_here m bs may) false false false ≡ o
    → (after_all (begin 0 0 0 0 8 ∷ cs) m ≡ o.machine) × (cells_over (begin 0 0 0 0 8 ∷ cs) m ≡ start_cell ∷ o.cells)
begun_comes m bs may cs e = (
  ap (λ (s : Step). after_all cs s.machine) (opens m bs may) ∙ ap (λ (x : Outcome). x.machine) e,
  ap (λ (s : Step). s.cells ++ cells_over cs s.machine) (opens m bs may) ∙ ap (λ (x : Outcome). start_cell ∷ x.cells) e,
)

-- so does a run
pub plain_by_calls : (m : Machine) (ks : List ℕ) (bs : List Board) → MayRun m bs → ByCalls m (plain m bs ks)
unfolding plain
plain_by_calls m ks [] may =
    let r = begun_comes m [] may (answer false 8 ∷ []) (silent_comes m may) in
    record { calls = answer false 8 ∷ []; on = refl; machine = r.0; cells = r.1 }
plain_by_calls m ks (b ∷ bs) may =
    let p = rounds_here m ks b bs may in
    let cs = answer true 8 ∷ calls_of p.rounds p.ending in
    let r = begun_comes m (b ∷ bs) may cs (heard_comes m ks b bs may) in
    record { calls = cs; on = calls_go p.rounds p.ending; machine = r.0; cells = r.1 }
