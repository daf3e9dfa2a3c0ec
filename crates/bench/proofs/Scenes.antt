-- Scenes of a run whose machine keeps the rules: what they offer is an open address, and the next scene's machine keeps the rules too.
use Prim.Native.Nat.{ℕ, ◌<◌}
use mathlib.Core.Path.{◌≡◌, refl}
use mathlib.Core.Bool.{Bool, true, false, ◌&&◌}
use mathlib.Core.List.{List}
use native.Mathlib.Omega.{arith}
use lib.Dec.{ltb}
use Rattle.lists.proofs.Bools.{both, not-refused}
use Rattle.slots.specs.Slots.{is_open}
use Rattle.slots.specs.declared.Facts.{Facts}
use Rattle.slots.proofs.Laws.{open_small, open_not_zero, open_not_broadcast}
use Rattle.rows.specs.declared.Row.{Row}
use Rattle.free.specs.Free.{can_assign}
use Rattle.table.specs.Sound.{sound}
use Rattle.begins.specs.Begins.{assign_refusal, asked_right}
use Rattle.boards.specs.Plain.{are_wide}
use Rattle.boards.proofs.Together.{given_wide}
use Rattle.machine.specs.declared.Machine.{Machine}
use Rattle.machine.specs.Moments.{idle, opened, round, machine_right}
use Rattle.life.proofs.Table.{address_open, accepted-sound}
use Rattle.life.proofs.Sound.{right_says, idle_right, opened_right, round_right}
use Rattle.bench.specs.Plain.{Scene, winner, offer_for, accepts, accepting, refusing, scene_after, round_follows}

-- ---- a scene whose machine, at round, keeps the rules

-- its table is sound and can give one row more, and there was at most one refusal
pub record Good (s : Scene) : Type 0 where
  pub table : sound s.facts s.rows ≡ true
  pub can : can_assign s.facts s.rows ≡ true
  pub few : ltb s.refusals 2 ≡ true

-- as the machine's test says
pub good_says : (s : Scene) → machine_right (round s.facts s.rows s.refusals) ≡ true → Good s
good_says s h =
    let few = ltb s.refusals 2 in
    let can = can_assign s.facts s.rows in
    let t = right_says (round s.facts s.rows s.refusals) h in
    let r = both few can (both (few && can) true t.1).0 in
    record { table = t.0; can = r.1; few = r.0 }

-- which passes by it
good_by : (s : Scene) → Good s → machine_right (round s.facts s.rows s.refusals) ≡ true
good_by s g = round_right s.facts s.rows g.table s.refusals g.few g.can

module _ (s : Scene) (right : machine_right (round s.facts s.rows s.refusals) ≡ true) where
  -- ---- what it offers

  -- is an open address
  offer_real : is_open s.facts (offer_for s) ≡ true
  offer_real = address_open s.facts s.rows (winner s) (good_says s right).table (good_says s right).can

  -- so it is seven bits, not 0, and not 7Eh
  pub offer_small : offer_for s < 128
  offer_small = omega (arith, open_small s.facts (offer_for s) offer_real)

  pub offer_above_zero : 0 < offer_for s
  offer_above_zero = omega (arith, open_not_zero s.facts (offer_for s) offer_real)

  pub offer_not_broadcast : offer_for s ≡ 0x7E → ⊥
  offer_not_broadcast = open_not_broadcast s.facts (offer_for s) offer_real

  -- ---- behind the offer

  -- accepted or not, the table is sound
  sound-after : (accepted : Bool) → sound (scene_after accepted s).facts (scene_after accepted s).rows ≡ true
  sound-after true = accepted-sound s.facts s.rows (winner s) (good_says s right).table (good_says s right).can
  sound-after false = (good_says s right).table

  -- if a round follows, its machine keeps the rules
  pub follows_right : (accepted : Bool) → let s' = scene_after accepted s in round_follows accepted s' ≡ true
      → machine_right (round s'.facts s'.rows s'.refusals) ≡ true
  follows_right true follows = good_by (accepting s) record { table = sound-after true; can = follows; few = refl }
  follows_right false follows = good_by (refusing s) record { table = sound-after false; can = (good_says s right).can; few = follows }

-- ---- the scene after a round

-- an offer changes no identity
pub wide_after : (t : Bool) (s : Scene) → are_wide s.boards ≡ true → are_wide (scene_after t s).boards ≡ true
wide_after true s wide = given_wide (offer_for s) (winner s) s.boards wide
wide_after false s wide = wide

module _ (flip : ℕ) (s : Scene) (right : machine_right (round s.facts s.rows s.refusals) ≡ true) where
  -- an idle machine keeps the rules, whatever follows
  pub idle-after : let s' = scene_after (accepts flip s) s in machine_right (idle s'.facts s'.rows) ≡ true
  idle-after =
      let s' = scene_after (accepts flip s) s in
      idle_right s'.facts s'.rows (sound-after s right (accepts flip s))

-- ---- the first scene

-- what Begin refuses nothing of for assign can give one row more
pub begins_can : (f : Facts) (rows : List Row) → assign_refusal f rows ≡ 0 → can_assign f rows ≡ true
unfolding assign_refusal can_assign
begins_can f rows asks = let t = simp not-refused at asks in rw (t.0, t.1.0, t.1.1.0)

-- so the machine that Begin opens for assign keeps the rules
pub begins_right : (m : Machine) → machine_right m ≡ true → assign_refusal m.table.facts m.table.rows ≡ 0
    → machine_right (opened m.table.facts m.table.rows 0 0 0) ≡ true
unfolding asked_right
begins_right m right asks = opened_right m.table.facts m.table.rows (right_says m right).0 0 0 0 (begins_can m.table.facts m.table.rows asks)

-- and it does at its first round
pub first_good : (m : Machine) → machine_right m ≡ true → assign_refusal m.table.facts m.table.rows ≡ 0 → machine_right (round m.table.facts m.table.rows 0) ≡ true
first_good m right asks = round_right m.table.facts m.table.rows (right_says m right).0 0 refl (begins_can m.table.facts m.table.rows asks)
