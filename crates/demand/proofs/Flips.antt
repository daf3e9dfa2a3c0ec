-- An offer is accepted exactly if it meets no flip.
use Prim.Native.Nat.{ℕ, zero, suc, ◌<◌}
use mathlib.Core.Path.{◌≡◌, refl, ◌∙◌}
use mathlib.Core.Bool.{Bool, true, false, not}
use mathlib.Core.List.{List, [], ◌∷◌}
use native.Mathlib.Omega.{arith}
use lib.Dec.{ltb}
use lib.ListN.{length, get_or}
use borrow.Author.Tests.{ltb-true}
use Rattle.parity.specs.Parity.{odd_ones, flipped}
use Rattle.parity.specs.Cells.{offered_byte}
use Rattle.parity.proofs.Laws.{offer_taken, offer_refused}
use Rattle.bench.specs.Play.{Play, flip_now, flips_then}
use Rattle.bench.specs.Plain.{Scene, accepts, offer_for}
use Rattle.demand.specs.Demand.{answers_in}
use Rattle.demand.proofs.Falls.{Ways}

-- a byte's ones are odd exactly if its flip is none
by_flip : (flip a : ℕ) → odd_ones (flipped flip (offered_byte a)) ≡ not (ltb flip 8)
by_flip flip a = go (ltb flip 8) refl
  where
    go : (f : Bool) → ltb flip 8 ≡ f → odd_ones (flipped flip (offered_byte a)) ≡ not f
    go true p = rw p (offer_refused flip a (ltb-true flip 8 p))
    go false p = rw p (offer_taken a)

-- the next flip is the first of the list, and those then are the later ones
now_first : (ks : List ℕ) → flip_now ks ≡ get_or ks 0 8
now_first [] = refl
now_first (k ∷ ks) = refl

then_later : (ks : List ℕ) (i : ℕ) → get_or (flips_then ks) i 8 ≡ get_or ks (suc i) 8
then_later [] zero = refl
then_later [] (suc i) = refl
then_later (k ∷ ks) i = refl

-- each answered round of a run is accepted by its own flip
abbrev ByFlips : List ℕ → Scene → Play → Type 0
ByFlips ks s p = (i : ℕ) → i < length p.rounds → get_or (answers_in p.rounds) i false ≡ not (ltb (get_or ks i 8) 8)

-- the first by the first
first_by_flip : (ks : List ℕ) (s : Scene) → accepts (flip_now ks) s ≡ not (ltb (get_or ks 0 8) 8)
first_by_flip ks s = by_flip (flip_now ks) (offer_for s) ∙ rw (now_first ks)

pub run_by_flips : Ways ByFlips
run_by_flips = record {
  at_silence = λ ks s going e i h. absurd (omega (arith, h));
  at_last = λ ks s going e f i h. only ks s i h;
  in_front_lem = λ ks s going e f p rest i h. more ks s p rest i h;
}
  where
    only : (ks : List ℕ) (s : Scene) (i : ℕ) → i < 1 → get_or (accepts (flip_now ks) s ∷ []) i false ≡ not (ltb (get_or ks i 8) 8)
    only ks s zero h = first_by_flip ks s
    only ks s (suc i) h = absurd (omega arith)

    more : (ks : List ℕ) (s : Scene) (p : Play) → ByFlips (flips_then ks) s p → (i : ℕ) → i < suc (length p.rounds)
        → get_or (accepts (flip_now ks) s ∷ answers_in p.rounds) i false ≡ not (ltb (get_or ks i 8) 8)
    more ks s p rest zero h = first_by_flip ks s
    more ks s p rest (suc i) h = rest i (omega arith) ∙ rw (then_later ks i)
