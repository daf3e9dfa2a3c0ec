-- Each answered round of a run by the plain rule goes to the smallest identity still without an address, and its bearers take or refuse together.
use Prim.Native.Nat.{ℕ}
use mathlib.Core.Path.{◌≡◌, refl}
use mathlib.Core.Bool.{Bool, true, false}
use mathlib.Core.List.{List}
use native.Mathlib.Omega.{arith}
use borrow.Author.Tests.{le-leb}
use Rattle.lists.specs.Lists.{any}
use Rattle.lists.specs.Numbers.{within}
use Rattle.lists.proofs.Bools.{and}
use Rattle.boards.specs.Wire.{waits}
use Rattle.boards.proofs.Plainly.{smallest_borne, smallest_least}
use Rattle.bench.specs.Play.{Play, flip_now}
use Rattle.bench.specs.Plain.{Scene, winner, offer_for, accepts}
use Rattle.bench.proofs.Scenes.{offer_small, offer_above_zero}
use Rattle.bench.proofs.Rounds.{round_in}
use Rattle.demand.specs.Demand.{IsSmallest, Fair, FairRounds}
use Rattle.demand.proofs.Falls.{Going, Ways}

-- ---- a round

module _ (s : Scene) (going : Going s) (some : any waits s.boards ≡ true) where
  -- it goes to the smallest identity
  to_smallest : IsSmallest (winner s) s.boards
  to_smallest = record { borne = smallest_borne s.boards going.wide some; least = smallest_least s.boards }

  -- it is offered an address
  real_offer : within 0x01 0x7F (offer_for s) ≡ true
  real_offer =
      and (le-leb 0x01 (offer_for s) (omega (arith, offer_above_zero s going.right)))
      (le-leb (offer_for s) 0x7F (omega (arith, offer_small s going.right)))

  -- and its bearers answer together
  round_fair : (t : Bool) → Fair (round_in t s)
  round_fair true = record { smallest = to_smallest; real = real_offer; together = refl }
  round_fair false = record { smallest = to_smallest; real = real_offer; together = refl }

-- ---- a run

-- so do all of a run
abbrev AreFair : List ℕ → Scene → Play → Type 0
AreFair ks s p = FairRounds s.boards p.rounds p.boards

pub run_fair : Ways AreFair
unfolding FairRounds
run_fair = record {
  at_silence = λ ks s going e. refl;
  at_last = λ ks s going e f. (refl, round_fair s going e (accepts (flip_now ks) s), refl);
  in_front_lem = λ ks s going e f p h. (refl, round_fair s going e (accepts (flip_now ks) s), h);
}
