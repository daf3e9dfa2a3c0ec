-- A run of the bench: what a run that is not refused was lent and given, and what it then hands back.
use Prim.Native.Nat.{ℕ, ◌≤◌}
use mathlib.Core.Path.{◌≡◌, refl, sym, ap, subst, ◌∙◌}
use mathlib.Core.Bool.{true}
use mathlib.Core.List.{List}
use lib.ListN.{length, take, drop}
use lib.Seq.{take_at}
use borrow.Author.Tests.{ltb-false, ne_eqb, not-false}
use Rattle.lists.specs.Buffers.{lay}
use Rattle.lists.proofs.Bools.{not-refused}
use Rattle.begins.specs.Begins.{assign_refusal}
use Rattle.boards.specs.declared.Board.{Board}
use Rattle.boards.specs.Plain.{are_wide}
use Rattle.machine.specs.declared.Machine.{Machine}
use Rattle.machine.specs.Moments.{machine_right, is_idle}
use Rattle.machine.specs.Refusals.{rest_refusal}
use Rattle.bench.specs.declared.play.Played.{Played}
use Rattle.bench.specs.Play.{Play, clocks_in}
use Rattle.bench.specs.Plain.{plain}
use Rattle.bench.specs.Wire.{on_wire}
use Rattle.bench.specs.Keeps.{Keeps}
use Rattle.bench.specs.Runs.{run_refusal, refusal_of, refused, benched, bench_cells}
use Rattle.bench.proofs.Same.{wire_plain}
use Rattle.bench.proofs.Counts.{rounds_counted, short}

-- ---- refusal 0

-- what a run that is not refused was lent and given
pub record Allowed (m : Machine) (count room : ℕ) : Type 0 where
  pub enough : 1024 ≤ room
  pub right : machine_right m ≡ true
  pub rests : is_idle m.moment ≡ true
  pub few : count ≤ 32
  pub begins : assign_refusal m.table.facts m.table.rows ≡ 0

pub allowed : (m : Machine) (bs : List Board) (count : ℕ) (flips : List ℕ) (room : ℕ) {refusal : ℕ} → refusal ≡ run_refusal m bs count flips room
    → refusal ≡ 0 → Allowed m count room
unfolding run_refusal rest_refusal
allowed m bs count flips room e z =
    let t = simp not-refused at (sym e ∙ z) in
    record {
      enough = ltb-false room 1024 t.0;
      right = not-false (machine_right m) t.1.0;
      rests = not-false (is_idle m.moment) t.1.1.0;
      few = ltb-false 32 count t.1.1.1.0;
      begins = t.1.1.1.1.1.1;
    }

-- ---- what is handed back

module _ (m : Machine) (boards : List Board) (count : ℕ) (flips buffer : List ℕ) {refusal : ℕ}
    (e : refusal ≡ refusal_of m boards count flips (length buffer)) where
  -- refused: machine, boards and cells as they were
  pub run_refused : (refusal ≡ 0 → ⊥)
      → (refused m boards refusal ≡ benched m boards count flips (length buffer)) ×
      (buffer ≡ lay (bench_cells m boards count flips (length buffer)) buffer)
  unfolding benched bench_cells
  run_refused n = rw (← e, ne_eqb refusal 0 n) (refl, refl)

  -- played on the wire, it is kept by the plain rule
  module _ (z : refusal ≡ 0) (wide : are_wide (take count boards) ≡ true) {kept : Played} {stand : List ℕ}
      (k : Keeps (drop count boards) buffer kept stand (on_wire (length buffer) m (take count boards) flips)) where
    by_rule : Keeps (drop count boards) buffer kept stand (plain m (take count boards) flips)
    by_rule =
        let a = allowed m (take count boards) count flips (length buffer) e z in
        subst (λ (p : Play). Keeps (drop count boards) buffer kept stand p)
        (wire_plain (length buffer) m (take count boards) flips a.enough a.right a.rests a.begins wide) k

    -- its cells stand at the front, and are at most 1,024
    run_cells : take kept.at stand ≡ (plain m (take count boards) flips).cells
    run_cells =
        let p = plain m (take count boards) flips in
        ap (take kept.at) by_rule.cells ∙ take_at p.cells (drop (length p.cells) buffer) kept.at (sym by_rule.at)

    pub run_long : kept.at ≡ length (take kept.at stand)
    run_long = by_rule.at ∙ ap length (sym run_cells)

    pub run_short : length (take kept.at stand) ≤ 1024
    run_short = subst (λ (l : List ℕ). length l ≤ 1024) (sym run_cells) (short m (take count boards) flips)

    pub run_played : {clocks : ℕ} → clocks ≡ clocks_in (take kept.at stand)
        → (record {
          machine = kept.machine;
          boards = kept.boards;
          count = kept.at;
          ending = kept.ending;
          rounds = kept.rounds;
          clocks = clocks;
          refusal = 0;
        }
        ≡ benched m boards count flips (length buffer))
        × (stand ≡ lay (bench_cells m boards count flips (length buffer)) buffer)
    unfolding benched bench_cells
    run_played {clocks} c =
        let a = allowed m (take count boards) count flips (length buffer) e z in
        let counted = rounds_counted m (take count boards) flips a.right a.begins in
        let same : clocks ≡ clocks_in (plain m (take count boards) flips).cells = c ∙ ap clocks_in run_cells in
        rw (sym e ∙ z) (
          λ i.
              record {
                machine = by_rule.machine i;
                boards = by_rule.boards i;
                count = by_rule.at i;
                ending = by_rule.ending i;
                rounds = (by_rule.rounds ∙ sym counted) i;
                clocks = same i;
                refusal = 0;
              },
          by_rule.cells,
        )
