-- What holds of every run by the plain rule: its rounds are few, it ends idle, accepted identities rise, and with ending 0 nobody waits.
use Prim.Native.Nat.{ℕ, suc, ◌≤◌}
use mathlib.Core.Path.{◌≡◌, refl}
use mathlib.Core.Bool.{Bool, true, false, cond}
use mathlib.Core.List.{List, [], ◌∷◌}
use native.Mathlib.Omega.{arith}
use lib.Dec.{ltb, leb}
use lib.ListN.{length}
use borrow.Author.Tests.{le-leb}
use Rattle.lists.specs.Lists.{any, all, pairwise}
use Rattle.lists.proofs.Bools.{and}
use Rattle.slots.specs.declared.Facts.{Facts}
use Rattle.rows.specs.declared.Row.{Row}
use Rattle.free.specs.Free.{full, no_free_address}
use Rattle.machine.specs.Moments.{is_idle}
use Rattle.boards.specs.Wire.{waits}
use Rattle.boards.specs.Plain.{none_below}
use Rattle.boards.proofs.Plainly.{smallest_borne, smallest_least}
use Rattle.bench.specs.Play.{Play, flip_now, table_ending, offer_ending}
use Rattle.bench.specs.Plain.{Scene, winner, offer_for, accepts, scene_after}
use Rattle.bench.proofs.Scenes.{offer_above_zero}
use Rattle.demand.specs.Demand.{accepted_in}
use Rattle.demand.proofs.Waiting.{borne_from, still_from, larger_from}
use Rattle.demand.proofs.Falls.{Going, left, one_left, falls, Ways}

-- ---- rounds

-- no more than are left
abbrev Few : List ℕ → Scene → Play → Type 0
Few ks s p = length p.rounds ≤ left s

pub rounds_few : Ways Few
rounds_few = record {
  at_silence = λ ks s going e. omega arith;
  at_last = λ ks s going e f. one_left s going e;
  in_front_lem = λ ks s going e f p h. omega (arith, falls s going e (flip_now ks) f);
}

-- ---- the end

-- the machine is idle
abbrev Idles : List ℕ → Scene → Play → Type 0
Idles ks s p = is_idle p.machine.moment ≡ true

pub run_idle : Ways Idles
run_idle = record {
  at_silence = λ ks s going e. refl;
  at_last = λ ks s going e f. refl;
  in_front_lem = λ ks s going e f p h. h;
}

-- behind an offer the ending is not 0: not if the table has no more to give
table_ending_lem : (f : Facts) (rows : List Row) → table_ending f rows ≡ 0 → ⊥
table_ending_lem f rows = go (full rows) (no_free_address f rows)
  where
    go : (a b : Bool) → ◌≡◌ {A = ℕ} (cond a 2 (cond b 3 4)) 0 → ⊥
    go true b h = omega arith
    go false true h = omega arith
    go false false h = omega arith

-- nor else
pub offer_ending_lem : (t : Bool) (f : Facts) (rows : List Row) → offer_ending t f rows ≡ 0 → ⊥
offer_ending_lem true f rows h = table_ending_lem f rows h
offer_ending_lem false f rows h = omega arith

-- so with ending 0 every board has an address
abbrev Served : List ℕ → Scene → Play → Type 0
Served ks s p = p.ending ≡ 0 → any waits p.boards ≡ false

pub run_served : Ways Served
run_served = record {
  at_silence = λ ks s going e z. e;
  at_last = λ ks s going e f z. absurd (offer_ending_lem (accepts (flip_now ks) s) _ _ z);
  in_front_lem = λ ks s going e f p h. h;
}

-- ---- accepted identities

-- they rise, and none lies below a bound of those that wait
pub record Rising (s : Scene) (ids : List ℕ) : Type 0 where
  pub apart : pairwise ltb ids ≡ true
  pub above : (lo : ℕ) → none_below lo s.boards ≡ true → all (leb lo) ids ≡ true

-- where there are none
none_rise : (s : Scene) → Rising s []
none_rise s = record { apart = refl; above = λ lo h. refl }

-- one round more
round_rises : (s : Scene) → Going s → any waits s.boards ≡ true → (t : Bool) (ids : List ℕ) → Rising (scene_after t s) ids
    → Rising s (cond t (winner s ∷ ids) ids)
round_rises s going e true ids r =
    let id = winner s in
    let bs = s.boards in
    let real = offer_above_zero s going.right in
    record {
      apart = and (r.above (suc id) (larger_from (offer_for s) id real bs (smallest_least bs))) r.apart;
      above =
          λ lo h.
          and (le-leb lo id (borne_from lo id bs h (smallest_borne bs going.wide e)))
          (r.above lo (still_from (offer_for s) id real lo bs h));
    }
round_rises s going e false ids r = record { apart = r.apart; above = r.above }

-- those of a run do
abbrev Rises : List ℕ → Scene → Play → Type 0
Rises ks s p = Rising s (accepted_in p.rounds)

pub run_rises : Ways Rises
run_rises = record {
  at_silence = λ ks s going e. none_rise s;
  at_last = λ ks s going e f. round_rises s going e (accepts (flip_now ks) s) [] (none_rise _);
  in_front_lem = λ ks s going e f p r. round_rises s going e (accepts (flip_now ks) s) (accepted_in p.rounds) r;
}
