-- A run on the wire is the plain rule's run.
use Prim.Native.Nat.{ℕ, zero, suc, ◌+◌, ◌*◌, ◌-◌, ◌≤◌}
use mathlib.Core.Path.{◌≡◌, refl, ap, ◌∙◌}
use mathlib.Core.Bool.{Bool, true, false, cond}
use mathlib.Core.List.{List, [], ◌∷◌, ◌++◌, append_assoc, append-nil}
use native.Mathlib.Omega.{arith}
use lib.ListN.{length, length-append}
use borrow.Author.Tests.{ne_eqb}
use Rattle.lists.specs.Lists.{any}
use Rattle.parity.specs.Cells.{start_cell, repeated_start_cell, stop_cell, broadcast_write, broadcast_read, assign_cell}
use Rattle.begins.specs.Begins.{assign_refusal}
use Rattle.boards.specs.declared.Board.{Board}
use Rattle.boards.specs.Wire.{waits}
use Rattle.boards.specs.Plain.{are_wide}
use Rattle.machine.specs.declared.Machine.{Machine}
use Rattle.machine.specs.Moments.{round, is_idle, machine_right}
use Rattle.machine.specs.Moments as moments
use Rattle.machine.specs.Steps.{round_rule, commanded, opened_answer}
use Rattle.bench.specs.Play.{Round, Play, flip_now, flips_then, offer_ending}
use Rattle.bench.specs.Plain.{Scene, winner, offer_for, accepts, scene_after, round_follows, over, round_cells, answered_round, after_offer, plain_rounds, at_first, plain}
use Rattle.bench.specs.Wire.{any_board, opened, round_on, rounds_on, on_wire}
use Rattle.bench.proofs.Scenes.{begins_can, begins_right, first_good, wide_after, follows_right}
use Rattle.bench.proofs.Steps.{answer_steps, begin_steps}
use Rattle.bench.proofs.Rounds.{played, standing, passed, round_in, round_silent, round_same, round_long}

-- ---- rounds

-- a run, with what was written and played before it
abbrev on_to : List ℕ → List Round → Play → Play
on_to cells rounds p = played p.machine p.boards (cells ++ p.cells) (rounds ++ p.rounds) p.ending

-- an idle machine plays no more rounds
pub idle_stays : (room n : ℕ) (ks : List ℕ) (p : Play) → is_idle p.machine.moment ≡ true → rounds_on room n ks p ≡ p
unfolding rounds_on
idle_stays room zero ks p e = refl
idle_stays room (suc n) ks p e = rw e

-- a round stands before the run that follows it
round_before : (cells : List ℕ) (rounds : List Round) (t follows : Bool) (s : Scene) (p : Play)
    → on_to (cells ++ round_cells (winner s) (offer_for s) t follows) (rounds ++ (round_in t s ∷ [])) p ≡ on_to cells rounds (answered_round t follows s p)
round_before cells rounds t follows s p =
    rw (
      append_assoc cells (round_cells (winner s) (offer_for s) t follows) p.cells,
      append_assoc rounds (round_in t s ∷ []) p.rounds,
    )

-- and nothing stands behind where it is over
on_to_over : (cells : List ℕ) (rounds : List Round) (ending : ℕ) (s : Scene)
    → played (moments.idle s.facts s.rows) s.boards cells rounds ending ≡ on_to cells rounds (over ending [] s)
on_to_over cells rounds ending s = rw (append-nil cells, append-nil rounds)

-- a run's rounds on the wire go on from a scene as the plain rule goes on
abbrev Same : ℕ → ℕ → List ℕ → Type 0
Same room n ks =
    (s : Scene) (cells : List ℕ) (rounds : List Round) → machine_right (round s.facts s.rows s.refusals) ≡ true → are_wide s.boards ≡ true
    → length cells + 11 * n + 8 ≤ room → rounds_on room n ks (standing s cells rounds) ≡ on_to cells rounds (plain_rounds n ks s)

module _ (room n : ℕ) (ks : List ℕ) (ih : Same room n ks) (s : Scene) (cells : List ℕ) (rounds : List Round)
    (right : machine_right (round s.facts s.rows s.refusals) ≡ true) (wide : are_wide s.boards ≡ true)
    (fits : length cells + 11 * suc n + 8 ≤ room) where
  -- behind an offer
  offer_onward : (t follows : Bool) → round_follows t (scene_after t s) ≡ follows
      → (let s' = scene_after t s in
      rounds_on room n ks (passed t follows s' (cells ++ round_cells (winner s) (offer_for s) t follows) (rounds ++ (round_in t s ∷ [])))
      ≡ on_to cells rounds (answered_round t follows s (cond follows (plain_rounds n ks s') (over (offer_ending t s'.facts s'.rows) [] s'))))
  offer_onward t true e =
      let s' = scene_after t s in
      let more = round_cells (winner s) (offer_for s) t true in
      ih s' (cells ++ more) (rounds ++ (round_in t s ∷ [])) (follows_right s right t e) (wide_after t s wide)
      (omega (arith, length-append cells more, round_long (winner s) (offer_for s) t true))
      ∙ round_before cells rounds t true s (plain_rounds n ks s')
  offer_onward t false e =
      let s' = scene_after t s in
      let cells' = cells ++ round_cells (winner s) (offer_for s) t false in
      let rounds' = rounds ++ (round_in t s ∷ []) in
      let ending = offer_ending t s'.facts s'.rows in
      idle_stays room n ks (passed t false s' cells' rounds') refl
      ∙ on_to_over cells' rounds' ending s'
      ∙ round_before cells rounds t false s (over ending [] s')

  -- a round, and what follows it
  round-onward : (flip : ℕ) (some : Bool) → any waits s.boards ≡ some
      → (let t = accepts flip s in
      let s' = scene_after t s in
      rounds_on room n ks (round_on room flip (standing s cells rounds))
      ≡ on_to cells rounds
      (cond some
      (answered_round t (round_follows t s') s (after_offer t s' (plain_rounds n ks s')))
      (over 0 (broadcast_read false ∷ stop_cell ∷ []) s)))
  round-onward flip true e =
      let t = accepts flip s in
      ap (rounds_on room n ks) (round_same room flip s rounds right wide e cells (omega arith))
      ∙ offer_onward t (round_follows t (scene_after t s)) refl
  round-onward flip false e =
      let p = played (moments.idle s.facts s.rows) s.boards (cells ++ (broadcast_read false ∷ stop_cell ∷ [])) rounds 0 in
      ap (rounds_on room n ks) (round_silent room flip s rounds right cells (omega arith) e)
      ∙ idle_stays room n ks p refl
      ∙ rw (append-nil rounds)

-- so they do for any number of rounds
rounds_same : (room n : ℕ) (ks : List ℕ) → Same room n ks
unfolding rounds_on plain_rounds
rounds_same room zero ks s cells rounds right wide fits = rw (append-nil cells, append-nil rounds)
rounds_same room (suc n) ks s cells rounds right wide fits =
    round-onward room n (flips_then ks) (rounds_same room n (flips_then ks)) s cells rounds right wide fits (flip_now ks) (any waits s.boards) refl

-- ---- the run

module _ (room : ℕ) (m : Machine) (lent : 1024 ≤ room) (right : machine_right m ≡ true) (idles : is_idle m.moment ≡ true)
    (asks : assign_refusal m.table.facts m.table.rows ≡ 0) where
  -- the first header, answered or not
  opens_so : (bs : List Board) (some : Bool) → any_board bs ≡ some
      → opened room m bs
      ≡ (let s = opened_answer (moments.opened m.table.facts m.table.rows 0 0 0) some in played s.machine bs (start_cell ∷ s.cells) [] (cond some 0 5))
  unfolding opened
  opens_so bs some e =
      rw (
        e,
        begin_steps m (room - 0) right (omega arith) idles asks,
        answer_steps (moments.opened m.table.facts m.table.rows 0 0 0) (room - 1) (begins_right m right asks) (omega arith) some,
      )

  -- without boards the run ends there
  opens_silent : opened room m [] ≡ plain m [] []
  unfolding opened_answer plain
  opens_silent = opens_so [] false refl

  -- else it comes to its first round
  opens_heard : (b : Board) (bs : List Board)
      → opened room m (b ∷ bs) ≡ standing (at_first m (b ∷ bs)) (start_cell ∷ broadcast_write true ∷ assign_cell ∷ repeated_start_cell ∷ []) []
  unfolding opened_answer commanded round_rule
  opens_heard b bs =
      opens_so (b ∷ bs) true (rw (ne_eqb (length (b ∷ bs)) 0 (λ (e : suc (length bs) ≡ 0). omega arith)))
      ∙ rw (begins_can m.table.facts m.table.rows asks)

-- a run on the wire is the plain rule's
pub wire_plain : (room : ℕ) (m : Machine) (bs : List Board) (ks : List ℕ) → 1024 ≤ room → machine_right m ≡ true → is_idle m.moment ≡ true
    → assign_refusal m.table.facts m.table.rows ≡ 0 → are_wide bs ≡ true → on_wire room m bs ks ≡ plain m bs ks
unfolding on_wire plain
wire_plain room m [] ks lent right idles asks wide =
    ap (rounds_on room 65 ks) (opens_silent room m lent right idles asks) ∙ idle_stays room 65 ks (plain m [] []) refl
wire_plain room m (b ∷ bs) ks lent right idles asks wide =
    ap (rounds_on room 65 ks) (opens_heard room m lent right idles asks b bs)
    ∙ rounds_same room 65 ks (at_first m (b ∷ bs)) (start_cell ∷ broadcast_write true ∷ assign_cell ∷ repeated_start_cell ∷ []) []
    (first_good m right asks) wide (omega arith)
