-- One round on the wire is one round of the plain rule.
use Prim.Native.Nat.{ℕ, ◌+◌, ◌-◌, ◌≤◌}
use mathlib.Core.Path.{◌≡◌, refl, ap, ◌∙◌}
use mathlib.Core.Bool.{Bool, true, false, cond}
use mathlib.Core.List.{List, [], ◌∷◌, ◌++◌, map, append_assoc}
use native.Mathlib.Omega.{arith}
use lib.ListN.{length, length-append, length-map}
use Rattle.lists.specs.Lists.{any}
use Rattle.lists.specs.Bits.{bytes_of}
use Rattle.lists.proofs.Bits.{bytes_long}
use Rattle.parity.specs.Parity.{odd_ones, flipped}
use Rattle.parity.specs.Cells.{answer_cell, identity_cell, offered_byte, stop_cell, broadcast_read}
use Rattle.boards.specs.declared.Board.{Board}
use Rattle.boards.specs.declared.Heard.{Heard}
use Rattle.boards.specs.Wire.{waits, after_byte}
use Rattle.boards.specs.Plain.{are_wide, bears, given}
use Rattle.boards.proofs.Plainly.{anyone-waiting, bearers_in, heard_smallest}
use Rattle.boards.proofs.Together.{together}
use Rattle.machine.specs.declared.Machine.{Machine}
use Rattle.machine.specs.Moments.{idle, machine_right}
use Rattle.machine.specs.Steps.{onward_machine, onward_cell}
use Rattle.bench.specs.Play.{Round, Play, offer_ending}
use Rattle.bench.specs.Plain.{Scene, winner, offer_for, accepts, scene_after, round_follows, round_cells}
use Rattle.bench.specs.Wire.{is_taken, ending_at, answered_offer, offered_on, round_on}
use Rattle.bench.proofs.Scenes.{offer_small}
use Rattle.bench.proofs.Steps.{calling, listening_in, offering_in, header_heard, header_silent, winner_heard, offer_heard}

-- a run as far as it is played
abbrev pub played : Machine → List Board → List ℕ → List Round → ℕ → Play
played m bs cells rounds ending = record { machine = m; boards = bs; cells = cells; rounds = rounds; ending = ending }

-- ---- what the plain rule says of a scene's round

-- what is heard of the boards: the smallest identity, and its bearers are still in
abbrev heard_in : Scene → Heard
heard_in s = record { identity = winner s; still = map (bears (winner s)) s.boards }

-- the byte that they see
abbrev byte_in : ℕ → Scene → ℕ
byte_in flip s = flipped flip (offered_byte (offer_for s))

-- the round, by whether the offer was accepted
abbrev pub round_in : Bool → Scene → Round
round_in t s = record { before = s.boards; identity = winner s; address = offer_for s; accepted = t; after = (scene_after t s).boards }

-- the boards after it
boards_after : (t : Bool) (s : Scene) → cond t (given (offer_for s) (winner s) s.boards) s.boards ≡ (scene_after t s).boards
boards_after true s = refl
boards_after false s = refl

-- its cells are eleven
pub round_long : (id a : ℕ) (t follows : Bool) → length (round_cells id a t follows) ≡ 11
round_long id a t follows = simp (length-append, length-map, bytes_long)

-- and stand behind those before it
cells_joined : (cells ids : List ℕ) (a b c : ℕ) → ((cells ++ (a ∷ [])) ++ ids) ++ (b ∷ c ∷ []) ≡ cells ++ (a ∷ (ids ++ (b ∷ c ∷ [])))
cells_joined cells ids a b c = append_assoc (cells ++ (a ∷ [])) ids (b ∷ c ∷ []) ∙ append_assoc cells (a ∷ []) (ids ++ (b ∷ c ∷ []))

-- ---- behind its offer

-- a scene, with what was written and played before it
abbrev pub standing : Scene → List ℕ → List Round → Play
standing s cells rounds = played (calling s) s.boards cells rounds 0

-- another round, or the end
abbrev pub passed : Bool → Bool → Scene → List ℕ → List Round → Play
passed t follows s cells rounds =
    cond follows (standing s cells rounds) (played (idle s.facts s.rows) s.boards cells rounds (offer_ending t s.facts s.rows))

-- so it is with the machine that goes on there or not
passed_on : (t follows : Bool) (s : Scene) (cells : List ℕ) (rounds : List Round)
    → (let m = onward_machine follows s.facts s.rows s.refusals in
    played m s.boards cells rounds (ending_at t m) ≡ passed t follows s cells rounds)
passed_on t true s cells rounds = refl
passed_on t false s cells rounds = refl

-- ---- the round

module _ (room flip : ℕ) (s : Scene) (rounds : List Round) (right : machine_right (calling s) ≡ true) where
  -- no board waits: the header is silent, and the machine idle
  pub round_silent : (cells : List ℕ) → length cells + 8 ≤ room → any waits s.boards ≡ false
      → round_on room flip (standing s cells rounds)
      ≡ played (idle s.facts s.rows) s.boards (cells ++ (broadcast_read false ∷ stop_cell ∷ [])) rounds 0
  unfolding round_on
  round_silent cells fits nobody =
      rw (anyone-waiting s.boards, nobody, header_silent s (room - length cells) right (omega arith))

  module _ (wide : are_wide s.boards ≡ true) (some : any waits s.boards ≡ true) where
    -- a board waits: the header is answered, and the smallest identity heard
    round-headed : (cells : List ℕ) → length cells + 8 ≤ room
        → round_on room flip (standing s cells rounds)
        ≡ offered_on room flip (heard_in s) (played (listening_in s) s.boards (cells ++ (broadcast_read true ∷ [])) rounds 0)
    unfolding round_on
    round-headed cells fits =
        rw (
          anyone-waiting s.boards,
          some,
          heard_smallest s.boards wide some,
          header_heard s (room - length cells) right (omega arith),
        )

    -- the machine is told it, and offers an address
    round-listened : (cells : List ℕ) → length cells + 8 ≤ room
        → offered_on room flip (heard_in s) (played (listening_in s) s.boards cells rounds 0)
        ≡ answered_offer room (byte_in flip s) (heard_in s)
        (played (offering_in s) s.boards (cells ++ map identity_cell (bytes_of 8 (winner s))) rounds 0)
    unfolding offered_on
    round-listened cells fits = rw (winner_heard s (room - length cells) right (omega arith) wide some)

    -- the boards answer by the byte that they see
    round_offered : (cells : List ℕ) → length cells + 8 ≤ room → (t : Bool) → odd_ones (byte_in flip s) ≡ t
        → answered_offer room (byte_in flip s) (heard_in s) (played (offering_in s) s.boards cells rounds 0)
        ≡ (let s' = scene_after t s in
        let follows = round_follows t s' in
        passed t follows s' (cells ++ (answer_cell (offered_byte (offer_for s)) t ∷ onward_cell follows ∷ [])) (rounds ++ (round_in t s ∷ [])))
    round_offered cells fits t e =
        let s' = scene_after t s in
        let follows = round_follows t s' in
        let more = answer_cell (offered_byte (offer_for s)) t ∷ onward_cell follows ∷ [] in
        let taken : is_taken (byte_in flip s) (heard_in s) ≡ t = rw (bearers_in s.boards wide some) e in
        let after : after_byte (byte_in flip s) (heard_in s).still s.boards ≡ s'.boards =
        together flip (offer_for s) (winner s) s.boards (offer_small s right) ∙ rw e (boards_after t s) in
        rw (taken, after, offer_heard s (room - length cells) right (omega arith) t)
        (passed_on t follows s' (cells ++ more) (rounds ++ (round_in t s ∷ [])))

    -- so the round is the plain rule's
    pub round_same : (cells : List ℕ) → length cells + 17 ≤ room
        → round_on room flip (standing s cells rounds)
        ≡ (let t = accepts flip s in
        let s' = scene_after t s in
        let follows = round_follows t s' in
        passed t follows s' (cells ++ round_cells (winner s) (offer_for s) t follows) (rounds ++ (round_in t s ∷ [])))
    round_same cells fits =
        let t = accepts flip s in
        let s' = scene_after t s in
        let follows = round_follows t s' in
        let ids = map identity_cell (bytes_of 8 (winner s)) in
        let headed = cells ++ (broadcast_read true ∷ []) in
        let one : length headed ≡ length cells + 1 = length-append cells (broadcast_read true ∷ []) in
        let eight : length ids ≡ 8 = length-map (bytes_of 8 (winner s)) identity_cell ∙ bytes_long 8 (winner s) in
        let nine : length (headed ++ ids) ≡ length headed + length ids = length-append headed ids in
        round-headed cells (omega arith)
        ∙ round-listened headed (omega arith)
        ∙ round_offered (headed ++ ids) (omega arith) t refl
        ∙ ap (λ (l : List ℕ). passed t follows s' l (rounds ++ (round_in t s ∷ [])))
        (cells_joined cells ids (broadcast_read true) (answer_cell (offered_byte (offer_for s)) t) (onward_cell follows))
