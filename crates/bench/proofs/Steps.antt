-- The machine's calls that a run makes: of a machine that keeps the rules, lent eight cells, they are their steps; and these in a scene.
use Prim.Native.Nat.{ℕ, zero, suc, ◌+◌, ◌≤◌}
use mathlib.Core.Path.{◌≡◌, refl, ◌∙◌}
use mathlib.Core.Bool.{Bool, true, false}
use mathlib.Core.List.{List, [], ◌∷◌, map}
use native.Mathlib.Omega.{arith}
use lib.Dec.{eqb, ltb}
use lib.ListN.{length}
use borrow.Author.Tests.{ne_eqb, le-ltb}
use Rattle.lists.specs.Lists.{any}
use Rattle.lists.specs.Bits.{bytes_of}
use Rattle.lists.proofs.Bits.{bytes_long}
use Rattle.parity.specs.Cells.{answer_cell, identity_cell, offered_byte, start_cell, stop_cell, broadcast_read}
use Rattle.slots.specs.declared.Facts.{Facts}
use Rattle.rows.specs.declared.Row.{Row}
use Rattle.begins.specs.Begins.{assign_refusal, choice_refusal}
use Rattle.boards.specs.Wire.{waits}
use Rattle.boards.specs.Plain.{are_wide}
use Rattle.boards.proofs.Plainly.{smallest_wide}
use Rattle.machine.specs.declared.Machine.{Machine}
use Rattle.machine.specs.Moments.{idle, opened, round, listening, offering, is_idle, machine_right}
use Rattle.machine.specs.Refusals.{step_refusal, idle_refusal, begin_refusal, identity_refusal}
use Rattle.machine.specs.Steps.{did, onward, onward_cell, onward_machine, round_rule, round_answer, accepted, declined, offered_answer, beginning, listened, answer_at}
use Rattle.machine.specs.Calls.{begun, answered, identified}
use Rattle.machine.proofs.Bytes.{number_back}
use Rattle.life.proofs.Sound.{listening_right, offering_right}
use Rattle.bench.specs.Plain.{Scene, winner, offer_for, scene_after, round_follows}
use Rattle.bench.proofs.Scenes.{good_says}

-- ---- each call

module _ (m : Machine) (room : ℕ) (right : machine_right m ≡ true) (lent : 8 ≤ room) where
  -- nothing is refused but for what else is asked
  no_refusal : (more : ℕ) → step_refusal room m more ≡ more
  unfolding step_refusal
  no_refusal more = rw (le-ltb room 8 lent, right)

  -- an answer, or none
  pub answer_steps : (heard : Bool) → answered m heard room ≡ answer_at m.moment m heard
  unfolding answered
  answer_steps heard = rw (no_refusal 0)

  -- Begin for assign, at idle
  pub begin_steps : is_idle m.moment ≡ true → assign_refusal m.table.facts m.table.rows ≡ 0
      → begun m 0 0 0 0 room ≡ did (opened m.table.facts m.table.rows 0 0 0) (start_cell ∷ [])
  unfolding begun begin_refusal beginning choice_refusal
  begin_steps at_idle asks = rw (no_refusal (idle_refusal m (assign_refusal m.table.facts m.table.rows)), at_idle, asks)

-- an identity of eight bytes, at listening
identity_steps : (f : Facts) (rows : List Row) (refusals : ℕ) (bytes : List ℕ) (room : ℕ) → machine_right (listening f rows refusals) ≡ true
    → 8 ≤ room → length bytes ≡ 8 → identified (listening f rows refusals) bytes room ≡ listened (listening f rows refusals) bytes
unfolding identified identity_refusal
identity_steps f rows refusals bytes room right lent long = rw (long, no_refusal (listening f rows refusals) room right lent 0)

-- ---- the machine of a scene

-- before its round, when it listens, and when it offers
abbrev pub calling : Scene → Machine
calling s = round s.facts s.rows s.refusals

abbrev pub listening_in : Scene → Machine
listening_in s = listening s.facts s.rows s.refusals

abbrev pub offering_in : Scene → Machine
offering_in s = offering s.facts s.rows (winner s) (offer_for s) s.refusals

-- a refusal is the second in succession where there was one before
second_refusal : (f : Facts) (rows : List Row) (k : ℕ) (cells : List ℕ)
    → onward (eqb k 0) f rows 1 cells ≡ onward (ltb (k + 1) 2) f rows (k + 1) cells
second_refusal f rows zero cells = refl
second_refusal f rows (suc k) cells = rw (ne_eqb (suc k) 0 (λ (e : suc k ≡ 0). omega arith), le-ltb (suc k + 1) 2 (omega arith))

-- behind an offer it steps as the plain rule says
offer_steps : (s : Scene) (t : Bool)
    → offered_answer (offering_in s) t
    ≡ (let s' = scene_after t s in
    onward (round_follows t s') s'.facts s'.rows s'.refusals (answer_cell (offered_byte (offer_for s)) t ∷ []))
unfolding accepted round_rule declined
offer_steps s true = refl
offer_steps s false = second_refusal s.facts s.rows s.refusals (answer_cell (offered_byte (offer_for s)) false ∷ [])

module _ (s : Scene) (room : ℕ) (right : machine_right (calling s) ≡ true) (lent : 8 ≤ room) where
  -- an answered header
  pub header_heard : answered (calling s) true room ≡ did (listening_in s) (broadcast_read true ∷ [])
  unfolding round_answer
  header_heard = answer_steps (calling s) room right lent true

  -- a silent one
  pub header_silent : answered (calling s) false room ≡ did (idle s.facts s.rows) (broadcast_read false ∷ stop_cell ∷ [])
  unfolding round_answer
  header_silent = answer_steps (calling s) room right lent false

  -- the smallest identity of those that wait
  pub winner_heard : are_wide s.boards ≡ true → any waits s.boards ≡ true
      → identified (listening_in s) (bytes_of 8 (winner s)) room ≡ did (offering_in s) (map identity_cell (bytes_of 8 (winner s)))
  unfolding listened
  winner_heard wide some =
      let g = good_says s right in
      let right' = listening_right s.facts s.rows g.table s.refusals g.few g.can in
      identity_steps s.facts s.rows s.refusals (bytes_of 8 (winner s)) room right' lent (bytes_long 8 (winner s))
      ∙ rw (number_back (winner s) (smallest_wide s.boards wide some))

  -- the offer, answered or not
  pub offer_heard : (t : Bool)
      → answered (offering_in s) t room
      ≡ (let s' = scene_after t s in
      let follows = round_follows t s' in
      did (onward_machine follows s'.facts s'.rows s'.refusals) (answer_cell (offered_byte (offer_for s)) t ∷ onward_cell follows ∷ []))
  offer_heard t =
      let g = good_says s right in
      let right' = offering_right s.facts s.rows g.table s.refusals g.few g.can (winner s) in
      answer_steps (offering_in s) room right' lent t ∙ offer_steps s t
