-- The wire's round is the plain rule's: it hears the smallest identity among the boards without an address, and its bearers are left.
use mathlib.Core.Path.{◌≡◌, refl, sym, ap₂, ◌∙◌}
use mathlib.Core.Bool.{Bool, true, false, cond, not, ◌&&◌, ◌||◌, false≢true}
use mathlib.Core.List.{List, [], ◌∷◌, map, zip_with}
use Prim.Native.Nat.{ℕ, ◌+◌, ◌*◌, ◌^◌, ◌<◌, ◌≤◌, min}
use native.Mathlib.Nat.{mod-eq_of_lt}
use native.Mathlib.Omega.{arith}
use borrow.Author.Tests.{le-leb, eqb-false, ltb-true}
use lib.Dec.{eqb, leb, ltb}
use lib.ListN.{length-map}
use Rattle.lists.specs.Lists.{any}
use Rattle.lists.proofs.Bools.{both, and}
use Rattle.lists.proofs.Keeps.{any-map}
use Rattle.boards.specs.declared.Board.{Board}
use Rattle.boards.specs.Wire.{anyone, waits, waiting, hear}
use Rattle.boards.specs.Plain.{are_wide, smallest, bears, none_below}
use Rattle.boards.proofs.Lowest.{lowest, those, heard_as, heard}

-- ---- some board is in

-- any answers where any is without an address
pub anyone-waiting : (bs : List Board) → anyone (waiting bs) ≡ any waits bs
anyone-waiting bs = any-map (λ f. f) waits bs

-- ---- the smallest identity

-- one board: its identity i, the smallest l of those behind it
wide_turn : (w : Bool) (i l : ℕ) (more : Bool) → i < 2 ^ 64 → (more ≡ true → l < 2 ^ 64) → (w || more) ≡ true → cond w (min i l) l < 2 ^ 64
wide_turn true i l more h f e = omega arith
wide_turn false i l more h f e = f e

-- where some is without one, the smallest is of 64 bits
pub smallest_wide : (bs : List Board) → are_wide bs ≡ true → any waits bs ≡ true → smallest bs < 2 ^ 64
unfolding smallest
smallest_wide [] w e = absurd (false≢true e)
smallest_wide (b ∷ bs) w e =
    let t = both (ltb b.identity (2 ^ 64)) (are_wide bs) w in
    wide_turn (waits b) b.identity (smallest bs) (any waits bs) (ltb-true _ _ t.0) (smallest_wide bs t.1) e

-- what is at most the smallest is at most one board's and at most the smallest of those behind it
least_turn : (w : Bool) (i l m : ℕ) → m ≤ cond w (min i l) l → ((not w || leb m i) ≡ true) × (m ≤ l)
least_turn true i l m h = (le-leb m i (omega arith), omega arith)
least_turn false i l m h = (refl, h)

-- and so at most each one's
least : (m : ℕ) (bs : List Board) → m ≤ smallest bs → none_below m bs ≡ true
unfolding smallest
least m [] h = refl
least m (b ∷ bs) h =
    let t = least_turn (waits b) b.identity (smallest bs) m h in
    and t.0 (least m bs t.1)

-- no board without an address has a smaller one
pub smallest_least : (bs : List Board) → none_below (smallest bs) bs ≡ true
smallest_least bs = least (smallest bs) bs (omega arith)

-- ---- its bearers

-- the smallest is one board's or the smallest of those behind it
bearer_turn : (w : Bool) (i m l : ℕ) (more : Bool) → cond w (min i l) l ≡ m → (l ≡ m → more ≡ true) → ((w && eqb i m) || more) ≡ true
bearer_turn false i m l more h f = f h
bearer_turn true i m l more h f = go (eqb i m) refl
  where
    go : (e : Bool) → eqb i m ≡ e → (e || more) ≡ true
    go true p = refl
    go false p = f (omega (arith, eqb-false i m p))

-- so somebody has it, where it is of 64 bits
borne : (m : ℕ) (bs : List Board) → m < 2 ^ 64 → smallest bs ≡ m → any (bears m) bs ≡ true
unfolding smallest
borne m [] q h = absurd (omega arith)
borne m (b ∷ bs) q h = bearer_turn (waits b) b.identity m (smallest bs) (any (bears m) bs) h (borne m bs q)

-- some board without an address has it
pub smallest_borne : (bs : List Board) → are_wide bs ≡ true → any waits bs ≡ true → any (bears (smallest bs)) bs ≡ true
smallest_borne bs w e = borne (smallest bs) bs (smallest_wide bs w e) refl

-- so some board is left in the round
pub bearers_in : (bs : List Board) → are_wide bs ≡ true → any waits bs ≡ true → anyone (map (bears (smallest bs)) bs) ≡ true
bearers_in bs w e = any-map (λ f. f) (bears (smallest bs)) bs ∙ smallest_borne bs w e

-- ---- the round

-- the lowest of all 64 bits is the smallest
lowest_waiting : (bs : List Board) → are_wide bs ≡ true → lowest 64 bs (waiting bs) ≡ smallest bs
unfolding lowest smallest
lowest_waiting [] w = refl
lowest_waiting (b ∷ bs) w =
    let t = both (ltb b.identity (2 ^ 64)) (are_wide bs) w in
    rw (mod-eq_of_lt (ltb-true b.identity (2 ^ 64) t.0), lowest_waiting bs t.1)

-- those that have all 64 bits are the bearers
those_waiting : (m : ℕ) (bs : List Board) → are_wide bs ≡ true → those 64 m bs (waiting bs) ≡ map (bears m) bs
unfolding zip_with
those_waiting m [] w = refl
those_waiting m (b ∷ bs) w =
    let t = both (ltb b.identity (2 ^ 64)) (are_wide bs) w in
    rw (mod-eq_of_lt (ltb-true b.identity (2 ^ 64) t.0), those_waiting m bs t.1)

-- THE ROUND: where some board is without an address, the wire hears the smallest identity, and its bearers are left
pub heard_smallest : (bs : List Board) → are_wide bs ≡ true → any waits bs ≡ true
    → hear 64 bs (waiting bs) 0 ≡ record { identity = smallest bs; still = map (bears (smallest bs)) bs }
heard_smallest bs w e =
    let low = lowest_waiting bs w in
    heard 64 bs (waiting bs) 0 (sym (length-map bs waits)) (rw low (smallest_wide bs w e))
    ∙ rw low (ap₂ heard_as {x = 0 * 2 ^ 64 + smallest bs} {y = smallest bs} (omega arith) (those_waiting (smallest bs) bs w))
