-- The machine after a run by the plain rule keeps the rules, with whatever boards and flips.
use Prim.Native.Nat.{ℕ, zero, suc}
use mathlib.Core.Path.{◌≡◌}
use mathlib.Core.Bool.{true}
use mathlib.Core.List.{List, [], ◌∷◌}
use Rattle.lists.specs.Lists.{any}
use Rattle.lists.proofs.Bools.{cond_by}
use Rattle.begins.specs.Begins.{assign_refusal}
use Rattle.boards.specs.declared.Board.{Board}
use Rattle.boards.specs.Wire.{waits}
use Rattle.machine.specs.declared.Machine.{Machine}
use Rattle.machine.specs.Moments.{round, machine_right}
use Rattle.life.proofs.Sound.{right_says, idle_right}
use Rattle.bench.specs.Play.{Play, flip_now, flips_then}
use Rattle.bench.specs.Plain.{Scene, accepts, scene_after, round_follows, plain_rounds, at_first, plain}
use Rattle.bench.proofs.Scenes.{good_says, follows_right, idle-after, first_good}

-- at its end
abbrev EndsRight : Play → Type 0
EndsRight p = machine_right p.machine ≡ true

-- from any scene on whose machine keeps them
rounds_end_right : (n : ℕ) (ks : List ℕ) (s : Scene) → machine_right (round s.facts s.rows s.refusals) ≡ true
    → EndsRight (plain_rounds n ks s)
unfolding plain_rounds
rounds_end_right zero ks s right = right
rounds_end_right (suc n) ks s right =
    let t = accepts (flip_now ks) s in
    let s' = scene_after t s in
    cond_by EndsRight (any waits s.boards)
    (λ _.
    cond_by EndsRight (round_follows t s')
    (λ e. rounds_end_right n (flips_then ks) s' (follows_right s right t e)) (λ _. idle-after (flip_now ks) s right))
    (λ _. idle_right s.facts s.rows (good_says s right).table)

-- in a run
pub plain_ends_right : (m : Machine) (bs : List Board) (ks : List ℕ) → machine_right m ≡ true → assign_refusal m.table.facts m.table.rows ≡ 0
    → EndsRight (plain m bs ks)
unfolding plain
plain_ends_right m [] ks right asks = idle_right m.table.facts m.table.rows (right_says m right).0
plain_ends_right m (b ∷ bs) ks right asks = rounds_end_right 65 ks (at_first m (b ∷ bs)) (first_good m right asks)
