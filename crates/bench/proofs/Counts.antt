-- What the counters of a run say: as many answered round headers as answered rounds, and never more than 1,024 cells; and as many boards as before.
use Prim.Native.Nat.{ℕ, zero, suc, ◌+◌, ◌*◌, ◌≤◌, ◌<◌}
use mathlib.Core.Path.{◌≡◌, refl, ap, ◌∙◌}
use mathlib.Core.Bool.{Bool, true, false, cond}
use mathlib.Core.List.{List, [], ◌∷◌, ◌++◌, map, append_assoc}
use native.Mathlib.Omega.{arith}
use lib.ListN.{length, length-append, length-map}
use borrow.Author.Tests.{ne_eqb}
use Rattle.lists.specs.Lists.{any}
use Rattle.lists.specs.Bits.{bytes_of}
use Rattle.lists.proofs.Bools.{cond_by}
use Rattle.parity.specs.Cells.{answer_cell, identity_cell, offered_byte, repeated_start_cell, stop_cell, assign_cell}
use Rattle.parity.proofs.Laws.{odd_bit_lt, offered_address}
use Rattle.begins.specs.Begins.{assign_refusal}
use Rattle.boards.specs.declared.Board.{Board}
use Rattle.boards.specs.Wire.{waits}
use Rattle.boards.specs.Plain.{given}
use Rattle.machine.specs.declared.Machine.{Machine}
use Rattle.machine.specs.Moments.{round, machine_right}
use Rattle.bench.specs.Play.{Play, flip_now, flips_then, rounds_in}
use Rattle.bench.specs.Plain.{Scene, winner, offer_for, accepts, scene_after, round_follows, round_cells, after_offer, plain_rounds, at_first, plain}
use Rattle.bench.proofs.Scenes.{offer_small, offer_not_broadcast, follows_right, first_good}
use Rattle.bench.proofs.Rounds.{round_long}

-- ---- round headers among cells

-- a cell that is none
not-header : (c : ℕ) (cells : List ℕ) → (506 ≡ c → ⊥) → rounds_in (c ∷ cells) ≡ rounds_in cells
not-header c cells other = rw (ne_eqb 506 c other)

-- identity bytes are none
no_identity_header : (bytes cells : List ℕ) → rounds_in (map identity_cell bytes ++ cells) ≡ rounds_in cells
no_identity_header [] cells = refl
no_identity_header (b ∷ bytes) cells =
    not-header (1024 + b) (map identity_cell bytes ++ cells) (λ (e : 506 ≡ 1024 + b). omega arith) ∙ no_identity_header bytes cells

-- nor is an address byte, unless it offers 7Eh
no_offer_header : (a : ℕ) (t : Bool) → a < 128 → (a ≡ 0x7E → ⊥) → 506 ≡ answer_cell (offered_byte a) t → ⊥
no_offer_header a true small other e = let half = offered_address a small in other (omega arith)
no_offer_header a false small other e = let half = offered_address a small in other (omega arith)

-- so a round has one
round_counted : (id a : ℕ) (t follows : Bool) (cells : List ℕ) → a < 128 → (a ≡ 0x7E → ⊥)
    → rounds_in (round_cells id a t follows ++ cells) ≡ suc (rounds_in cells)
round_counted id a t follows cells small other =
    let ids = map identity_cell (bytes_of 8 id) in
    let address = answer_cell (offered_byte a) t in
    let last = cond follows repeated_start_cell stop_cell in
    ap suc
    (ap rounds_in (append_assoc ids (address ∷ last ∷ []) cells)
    ∙ no_identity_header (bytes_of 8 id) (address ∷ last ∷ cells)
    ∙ not-header address (last ∷ cells) (no_offer_header a t small other)
    ∙ not-header last cells (cond_by (λ c. 506 ≡ c → ⊥) follows (λ _ e. omega (arith, e)) (λ _ e. omega (arith, e))))

-- ---- answered round headers are answered rounds

-- as many
abbrev Counted : Play → Type 0
Counted p = rounds_in p.cells ≡ length p.rounds

-- from any scene on
plain_rounds_counted : (n : ℕ) (ks : List ℕ) (s : Scene) → machine_right (round s.facts s.rows s.refusals) ≡ true
    → Counted (plain_rounds n ks s)
unfolding plain_rounds
plain_rounds_counted zero ks s right = refl
plain_rounds_counted (suc n) ks s right =
    let t = accepts (flip_now ks) s in
    let s' = scene_after t s in
    let rest = after_offer t s' (plain_rounds n (flips_then ks) s') in
    cond_by Counted (any waits s.boards)
    (λ _.
    round_counted (winner s) (offer_for s) t (round_follows t s') rest.cells (offer_small s right) (offer_not_broadcast s right)
    ∙ ap suc (cond_by Counted (round_follows t s') (λ e. plain_rounds_counted n (flips_then ks) s' (follows_right s right t e)) (λ _. refl)))
    (λ _. refl)

-- in a run
pub rounds_counted : (m : Machine) (bs : List Board) (ks : List ℕ) → machine_right m ≡ true
    → assign_refusal m.table.facts m.table.rows ≡ 0 → rounds_in (plain m bs ks).cells ≡ length (plain m bs ks).rounds
unfolding plain
rounds_counted m [] ks right asks = refl
rounds_counted m (b ∷ bs) ks right asks =
    let p = plain_rounds 65 ks (at_first m (b ∷ bs)) in
    not-header assign_cell (repeated_start_cell ∷ p.cells) (λ (e : 506 ≡ assign_cell). omega (arith, odd_bit_lt 8 0x07))
    ∙ plain_rounds_counted 65 ks (at_first m (b ∷ bs)) (first_good m right asks)

-- ---- a run is short

-- eleven cells a round, and at most two behind them
plain_rounds_short : (n : ℕ) (ks : List ℕ) (s : Scene) → length (plain_rounds n ks s).cells ≤ 11 * n + 2
unfolding plain_rounds
plain_rounds_short zero ks s = omega arith
plain_rounds_short (suc n) ks s =
    let t = accepts (flip_now ks) s in
    let s' = scene_after t s in
    let rest = after_offer t s' (plain_rounds n (flips_then ks) s') in
    let more = round_cells (winner s) (offer_for s) t (round_follows t s') in
    let few : length rest.cells ≤ 11 * n + 2 =
    cond_by (λ (p : Play). length p.cells ≤ 11 * n + 2) (round_follows t s') (λ _. plain_rounds_short n (flips_then ks) s') (λ _. omega arith) in
    cond_by (λ (p : Play). length p.cells ≤ 11 * suc n + 2) (any waits s.boards)
    (λ _. omega (arith, length-append more rest.cells, round_long (winner s) (offer_for s) t (round_follows t s')))
    (λ _. omega arith)

-- so 1,024 cells are enough for four, 65 rounds, and two
pub short : (m : Machine) (bs : List Board) (ks : List ℕ) → length (plain m bs ks).cells ≤ 1024
unfolding plain
short m [] ks = omega arith
short m (b ∷ bs) ks = omega (arith, plain_rounds_short 65 ks (at_first m (b ∷ bs)))

-- ---- the plain rule makes no board more or less

-- an offer does not
scene_long : (t : Bool) (s : Scene) → length (scene_after t s).boards ≡ length s.boards
unfolding given
scene_long t s = cond_by (λ (s' : Scene). length s'.boards ≡ length s.boards) t (λ _. length-map s.boards _) (λ _. refl)

-- nor do rounds
rounds_long : (n : ℕ) (ks : List ℕ) (s : Scene) → length (plain_rounds n ks s).boards ≡ length s.boards
unfolding plain_rounds
rounds_long zero ks s = refl
rounds_long (suc n) ks s =
    let t = accepts (flip_now ks) s in
    let s' = scene_after t s in
    cond_by (λ (p : Play). length p.boards ≡ length s.boards) (any waits s.boards)
    (λ _.
    cond_by (λ (p : Play). length p.boards ≡ length s'.boards) (round_follows t s') (λ _. rounds_long n (flips_then ks) s') (λ _. refl)
    ∙ scene_long t s)
    (λ _. refl)

-- nor does a run
pub plain_long : (m : Machine) (bs : List Board) (ks : List ℕ) → length (plain m bs ks).boards ≡ length bs
unfolding plain
plain_long m [] ks = refl
plain_long m (b ∷ bs) ks = rounds_long 65 ks (at_first m (b ∷ bs))
