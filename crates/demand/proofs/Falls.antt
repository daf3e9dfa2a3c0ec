-- A run ends: with each answered round fewer are left. So what holds of a run's end, and of a run with one round more in front, holds of every run.
use Prim.Native.Nat.{ℕ, zero, suc, ◌-◌, ◌*◌, ◌≤◌}
use mathlib.Core.Path.{◌≡◌, refl, sym, subst}
use mathlib.Core.Bool.{Bool, true, false}
use mathlib.Core.List.{List, [], ◌∷◌}
use native.Mathlib.Omega.{arith}
use borrow.Author.Tests.{ltb-true}
use Rattle.lists.specs.Lists.{any, count}
use Rattle.lists.proofs.Keeps.{any-count}
use Rattle.parity.specs.Cells.{stop_cell, broadcast_read}
use Rattle.machine.specs.Moments.{round, machine_right}
use Rattle.boards.specs.Wire.{waits}
use Rattle.boards.specs.Plain.{are_wide}
use Rattle.boards.proofs.Plainly.{smallest_borne}
use Rattle.bench.specs.Play.{Play, flip_now, flips_then, offer_ending}
use Rattle.bench.specs.Plain.{Scene, winner, offer_for, accepts, scene_after, round_follows, over, answered_round, plain_rounds}
use Rattle.bench.proofs.Scenes.{good_says, offer_above_zero, wide_after, follows_right}
use Rattle.demand.proofs.Waiting.{fewer_wait}

-- ---- between two rounds

-- another round may be called: the machine is right there, and identities are of 64 bits
pub record Going (s : Scene) : Type 0 where
  pub right : machine_right (round s.facts s.rows s.refusals) ≡ true
  pub wide : are_wide s.boards ≡ true

-- at most one refusal in succession stands there
few_refusals : (s : Scene) → Going s → s.refusals ≤ 1
few_refusals s going = omega (arith, ltb-true s.refusals 2 (good_says s going.right).few)

-- the scene behind an offer that meets this flip
abbrev scene_then : ℕ → Scene → Scene
scene_then flip s = scene_after (accepts flip s) s

-- another round follows it
abbrev follows_then : ℕ → Scene → Bool
follows_then flip s = round_follows (accepts flip s) (scene_then flip s)

-- where another follows, it may be called
going_on : (flip : ℕ) (s : Scene) → Going s → follows_then flip s ≡ true → Going (scene_then flip s)
going_on flip s going follows = record {
  right = follows_right s going.right (accepts flip s) follows;
  wide = wide_after (accepts flip s) s going.wide;
}

-- ---- rounds left

-- at most two for each board without an address, less the refusals in succession
abbrev pub left : Scene → ℕ
left s = 2 * count waits s.boards - s.refusals

module _ (s : Scene) (going : Going s) (some : any waits s.boards ≡ true) where
  -- one, where a board has none
  pub one_left : 1 ≤ left s
  one_left = omega (arith, any-count waits s.boards some, few_refusals s going)

  -- fewer, where another follows: an accepted offer leaves fewer boards without one, and a refusal is one refusal more
  left_after : (t : Bool) → round_follows t (scene_after t s) ≡ true → suc (left (scene_after t s)) ≤ left s
  left_after true follows =
      omega (
        arith,
        few_refusals s going,
        fewer_wait (offer_for s) (winner s) (offer_above_zero s going.right) s.boards (smallest_borne s.boards going.wide some),
      )
  left_after false follows = omega (arith, any-count waits s.boards some, few_refusals s going)

  -- so with each answered round fewer
  pub falls : (flip : ℕ) → follows_then flip s ≡ true → suc (left (scene_then flip s)) ≤ left s
  falls flip follows = left_after (accepts flip s) follows

-- ---- every run

-- the two ways in which it ends: its round header is silent
abbrev silent : Scene → Play
silent s = over 0 (broadcast_read false ∷ stop_cell ∷ []) s

-- or no other round follows the one of this scene
abbrev last_round : ℕ → Scene → Play
last_round flip s =
    let t = accepts flip s in
    let s' = scene_after t s in
    answered_round t false s (over (offer_ending t s'.facts s'.rows) [] s')

-- what holds of runs with these flips from a scene: of one that ends there, and of one with a round more in front if it does of the rest
pub record Ways (P : List ℕ → Scene → Play → Type 0) : Type 0 where
  pub at_silence : (ks : List ℕ) (s : Scene) → Going s → any waits s.boards ≡ false → P ks s (silent s)
  pub at_last : (ks : List ℕ) (s : Scene) → Going s → any waits s.boards ≡ true → follows_then (flip_now ks) s ≡ false
      → P ks s (last_round (flip_now ks) s)
  pub in_front_lem : (ks : List ℕ) (s : Scene) → Going s → any waits s.boards ≡ true → follows_then (flip_now ks) s ≡ true
      → (p : Play) → P (flips_then ks) (scene_then (flip_now ks) s) p → P ks s (answered_round (accepts (flip_now ks) s) true s p)

module _ (n : ℕ) (ks : List ℕ) (s : Scene) where
  -- nobody waits: the header is silent
  round_silent : any waits s.boards ≡ false → plain_rounds (suc n) ks s ≡ silent s
  unfolding plain_rounds
  round_silent e = rw e

  -- somebody waits, and no other round follows
  round_last : any waits s.boards ≡ true → follows_then (flip_now ks) s ≡ false → plain_rounds (suc n) ks s ≡ last_round (flip_now ks) s
  unfolding plain_rounds
  round_last e f = rw (e, f)

  -- or another does
  round_more : any waits s.boards ≡ true → follows_then (flip_now ks) s ≡ true
      → plain_rounds (suc n) ks s ≡ answered_round (accepts (flip_now ks) s) true s (plain_rounds n (flips_then ks) (scene_then (flip_now ks) s))
  unfolding plain_rounds
  round_more e f = rw (e, f)

module _ (P : List ℕ → Scene → Play → Type 0) (ways : Ways P) where
  -- it holds of a run, if it does of what follows its first round
  turn : (n : ℕ) (ks : List ℕ) (s : Scene) → Going s
      → (let s' = scene_then (flip_now ks) s in
      any waits s.boards ≡ true → follows_then (flip_now ks) s ≡ true → P (flips_then ks) s' (plain_rounds n (flips_then ks) s'))
      → P ks s (plain_rounds (suc n) ks s)
  turn n ks s going rest = go (any waits s.boards) refl (follows_then (flip_now ks) s) refl
    where
      go : (w : Bool) → any waits s.boards ≡ w → (f : Bool) → follows_then (flip_now ks) s ≡ f → P ks s (plain_rounds (suc n) ks s)
      go false e f p = subst (P ks s) (sym (round_silent n ks s e)) (ways.at_silence ks s going e)
      go true e false p = subst (P ks s) (sym (round_last n ks s e p)) (ways.at_last ks s going e p)
      go true e true p = subst (P ks s) (sym (round_more n ks s e p)) (ways.in_front_lem ks s going e p _ (rest e p))

  -- so it holds of every run that has a round more than are left
  pub runs : (n : ℕ) (ks : List ℕ) (s : Scene) → Going s → left s ≤ n → P ks s (plain_rounds (suc n) ks s)
  runs zero ks s going enough = turn 0 ks s going (λ e f. absurd (omega (arith, one_left s going e)))
  runs (suc n) ks s going enough =
      turn (suc n) ks s going
      (λ e f. runs n (flips_then ks) (scene_then (flip_now ks) s) (going_on (flip_now ks) s going f) (omega (arith, falls s going e (flip_now ks) f)))
