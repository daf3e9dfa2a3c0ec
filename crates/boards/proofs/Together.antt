-- Bearers of one identity take an address together or not at all.
use mathlib.Core.Path.{◌≡◌, refl, sym, ap, ap₂, ◌∙◌}
use mathlib.Core.Bool.{Bool, true, false, cond, and-true, and-false, false≢true}
use mathlib.Core.List.{List, [], ◌∷◌, map, zip_with}
use Prim.Native.Nat.{ℕ, ◌/◌, ◌^◌, ◌<◌}
use lib.Dec.{ltb}
use borrow.Author.Tests.{ltb-true}
use Rattle.lists.proofs.Bools.{both, and, cond_by}
use Rattle.parity.specs.Parity.{odd_ones, flipped}
use Rattle.parity.specs.Cells.{offered_byte}
use Rattle.parity.proofs.Laws.{offer_refused, offered_address}
use Rattle.boards.specs.declared.Board.{Board}
use Rattle.boards.specs.Wire.{after_byte}
use Rattle.boards.specs.Plain.{are_wide, bears, given}

-- a byte with odd ones: all that bear the identity take the address above its lowest bit
odd_taken : (byte id : ℕ) (bs : List Board) → odd_ones byte ≡ true → after_byte byte (map (bears id) bs) bs ≡ given (byte / 2) id bs
unfolding after_byte given zip_with
odd_taken byte id [] e = refl
odd_taken byte id (b ∷ bs) e = ap₂ {C = List Board} ◌∷◌ (rw (e, and-true (bears id b))) (odd_taken byte id bs e)

-- a byte with even ones: none does
even_left : (byte id : ℕ) (bs : List Board) → odd_ones byte ≡ false → after_byte byte (map (bears id) bs) bs ≡ bs
unfolding after_byte zip_with
even_left byte id [] e = refl
even_left byte id (b ∷ bs) e = ap₂ {C = List Board} ◌∷◌ (rw (e, and-false (bears id b))) (even_left byte id bs e)

-- an offered byte whose ones are odd met no flip, and so has the address
taken_address : (flip a : ℕ) → a < 128 → odd_ones (flipped flip (offered_byte a)) ≡ true → flipped flip (offered_byte a) / 2 ≡ a
taken_address flip a h e = go (ltb flip 8) refl e
  where
    go : (f : Bool) → ltb flip 8 ≡ f → odd_ones (flipped flip (offered_byte a)) ≡ true → flipped flip (offered_byte a) / 2 ≡ a
    go true p t = absurd (false≢true (sym (offer_refused flip a (ltb-true flip 8 p)) ∙ rw p at t))
    go false p t = rw p (offered_address a h)

-- TOGETHER: whatever flip an offer meets, all bearers of the identity take its address, or nobody takes anything
pub together : (flip a id : ℕ) (bs : List Board) → a < 128
    → after_byte (flipped flip (offered_byte a)) (map (bears id) bs) bs ≡ cond (odd_ones (flipped flip (offered_byte a))) (given a id bs) bs
together flip a id bs h = go (odd_ones seen) refl
  where
    seen : ℕ
    seen = flipped flip (offered_byte a)

    go : (t : Bool) → odd_ones seen ≡ t → after_byte seen (map (bears id) bs) bs ≡ cond t (given a id bs) bs
    go true e = odd_taken seen id bs e ∙ ap (λ (n : ℕ). given n id bs) (taken_address flip a h e)
    go false e = even_left seen id bs e

-- an address changes no identity
pub given_wide : (a id : ℕ) (bs : List Board) → are_wide bs ≡ true → are_wide (given a id bs) ≡ true
unfolding given
given_wide a id [] w = refl
given_wide a id (b ∷ bs) w =
    let t = both (ltb b.identity (2 ^ 64)) (are_wide bs) w in
    and (cond_by (λ (c : Board). ltb c.identity (2 ^ 64) ≡ true) (bears id b) (λ e. t.0) (λ e. t.0)) (given_wide a id bs t.1)
