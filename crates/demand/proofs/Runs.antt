-- A run by the plain rule, from where it may begin: what holds of every run from a scene on holds of it.
use Prim.Native.Nat.{ℕ, suc, ◌+◌, ◌*◌, ◌<◌, ◌≤◌}
use mathlib.Core.Path.{◌≡◌, refl, sym, ◌∙◌}
use mathlib.Core.Bool.{true, false, not}
use mathlib.Core.List.{List, [], ◌∷◌}
use native.Mathlib.Omega.{arith}
use lib.Dec.{eqb, ltb}
use lib.ListN.{length, get_or}
use borrow.Author.Tests.{ne_eqb}
use Rattle.lists.specs.Lists.{any, count, pairwise}
use Rattle.lists.proofs.Keeps.{count_le}
use Rattle.begins.specs.Begins.{assign_refusal}
use Rattle.machine.specs.declared.Machine.{Machine}
use Rattle.machine.specs.Moments.{machine_right, is_idle}
use Rattle.boards.specs.declared.Board.{Board}
use Rattle.boards.specs.Wire.{waits}
use Rattle.bench.specs.Play.{Play}
use Rattle.bench.specs.Plain.{Scene, plain_rounds, at_first, plain}
use Rattle.bench.proofs.Scenes.{first_good}
use Rattle.bench.proofs.Ends.{plain_ends_right}
use Rattle.demand.specs.Demand.{MayRun, FairRounds, accepted_in, answers_in, two_refused}
use Rattle.demand.proofs.Falls.{Going, left, Ways, runs}
use Rattle.demand.proofs.Rises.{rounds_few, run_idle, run_served, run_rises}
use Rattle.demand.proofs.Fair.{run_fair}
use Rattle.demand.proofs.Flips.{run_by_flips}
use Rattle.demand.proofs.Endings.{run_ended, run_says, run_refused}

module _ (m : Machine) (bs : List Board) (ks : List ℕ) (may : MayRun m bs) where
  -- its first round may be called
  first_going : Going (at_first m bs)
  first_going = record { right = first_good m may.right may.begins; wide = may.wide }

  -- 65 rounds are more than are left
  first_left : left (at_first m bs) ≤ 64
  first_left = omega (arith, count_le waits bs, may.few)

  -- so what holds of every run holds of its rounds
  pub first_runs : (P : List ℕ → Scene → Play → Type 0) → Ways P → P ks (at_first m bs) (plain_rounds 65 ks (at_first m bs))
  first_runs P ways = runs P ways 64 ks (at_first m bs) first_going first_left

module _ (m : Machine) (ks : List ℕ) where
  -- each answered round is fair
  pub plain_fair : (bs : List Board) → MayRun m bs → FairRounds bs (plain m bs ks).rounds (plain m bs ks).boards
  unfolding plain FairRounds
  plain_fair [] may = refl
  plain_fair (b ∷ bs) may = first_runs m (b ∷ bs) ks may _ run_fair

  -- accepted identities rise
  pub plain_rises : (bs : List Board) → MayRun m bs → pairwise ltb (accepted_in (plain m bs ks).rounds) ≡ true
  unfolding plain
  plain_rises [] may = refl
  plain_rises (b ∷ bs) may = (first_runs m (b ∷ bs) ks may _ run_rises).apart

  -- answered rounds are at most twice the boards without an address
  pub plain_few : (bs : List Board) → MayRun m bs → length (plain m bs ks).rounds ≤ 2 * count waits bs
  unfolding plain
  plain_few [] may = omega arith
  plain_few (b ∷ bs) may = omega (arith, first_runs m (b ∷ bs) ks may _ rounds_few)

  -- it ends idle
  pub plain-idle : (bs : List Board) → MayRun m bs → is_idle (plain m bs ks).machine.moment ≡ true
  unfolding plain
  plain-idle [] may = refl
  plain-idle (b ∷ bs) may = first_runs m (b ∷ bs) ks may _ run_idle

  -- and right
  pub plain_right : (bs : List Board) → MayRun m bs → machine_right (plain m bs ks).machine ≡ true
  plain_right bs may = plain_ends_right m bs ks may.right may.begins

  -- where it ends for a silent round header, every board has an address
  pub plain_served : (bs : List Board) → MayRun m bs → (plain m bs ks).ending ≡ 0 → any waits (plain m bs ks).boards ≡ false
  unfolding plain
  plain_served [] may z = refl
  plain_served (b ∷ bs) may z = first_runs m (b ∷ bs) ks may _ run_served z

  -- each answered round is accepted exactly if it meets no flip
  pub plain_by_flips : (bs : List Board) → MayRun m bs → let rounds = (plain m bs ks).rounds in
      (i : ℕ) → i < length rounds → get_or (answers_in rounds) i false ≡ not (ltb (get_or ks i 8) 8)
  unfolding plain
  plain_by_flips [] may i h = absurd (omega arith)
  plain_by_flips (b ∷ bs) may i h = first_runs m (b ∷ bs) ks may _ run_by_flips i h

  -- with ending 1 the last two offers were refused
  pub plain-refused : (bs : List Board) → MayRun m bs → (plain m bs ks).ending ≡ 1 → two_refused (answers_in (plain m bs ks).rounds) ≡ true
  unfolding plain
  plain-refused [] may h = absurd (omega arith)
  plain-refused (b ∷ bs) may h = first_runs m (b ∷ bs) ks may _ run_refused h

  -- with endings 2 to 4 the table can give no more: Begin would be refused with 5 to 7
  pub plain-says : (bs : List Board) → MayRun m bs → let p = plain m bs ks in
      2 ≤ p.ending → p.ending ≤ 4 → assign_refusal p.machine.table.facts p.machine.table.rows ≡ p.ending + 3
  unfolding plain
  plain-says [] may h k = absurd (omega arith)
  plain-says (b ∷ bs) may h k = first_runs m (b ∷ bs) ks may _ run_says h

  -- there are six endings
  pub plain_ended : (bs : List Board) → MayRun m bs → (plain m bs ks).ending ≤ 5
  unfolding plain
  plain_ended [] may = omega arith
  plain_ended (b ∷ bs) may = omega (arith, first_runs m (b ∷ bs) ks may _ run_ended)

  -- and 5 is exactly for no boards
  pub plain_nobody : (bs : List Board) → MayRun m bs → eqb (plain m bs ks).ending 5 ≡ eqb (length bs) 0
  unfolding plain
  plain_nobody [] may = refl
  plain_nobody (b ∷ bs) may =
      let few = first_runs m (b ∷ bs) ks may _ run_ended in
      let p = plain_rounds 65 ks (at_first m (b ∷ bs)) in
      ne_eqb p.ending 5 (λ (e : p.ending ≡ 5). omega (arith, few, e))
      ∙ sym (ne_eqb (suc (length bs)) 0 (λ (e : suc (length bs) ≡ 0). omega arith))
