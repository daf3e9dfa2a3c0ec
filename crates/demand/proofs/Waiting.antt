-- Boards without an address: an accepted offer leaves fewer of them, and their identities stay above what they were above.
use Prim.Native.Nat.{ℕ, suc, ◌<◌, ◌≤◌}
use mathlib.Core.Path.{◌≡◌, refl}
use mathlib.Core.Bool.{Bool, true, false, cond, not, ◌&&◌, ◌||◌, false≢true}
use mathlib.Core.List.{List, [], ◌∷◌}
use native.Mathlib.Omega.{arith}
use lib.Dec.{eqb, leb}
use borrow.Author.Tests.{ne_eqb, eqb-true, eqb-false, leb-true, le-leb}
use Rattle.lists.specs.Lists.{any, count}
use Rattle.lists.proofs.Bools.{both, and, cond_by}
use Rattle.boards.specs.declared.Board.{Board}
use Rattle.boards.specs.Wire.{waits, with_address}
use Rattle.boards.specs.Plain.{bears, none_below, given}

-- ---- an address for the bearers of an identity

-- a board after it
abbrev given_to : ℕ → ℕ → Board → Board
given_to a id b = cond (bears id b) (with_address a b) b

-- its bearers wait no more, and the others as before
waits_then : (a id : ℕ) (b : Board) → 0 < a → waits (given_to a id b) ≡ (waits b && not (eqb b.identity id))
waits_then a id b h = go (waits b) refl (eqb b.identity id)
  where
    go : (w : Bool) → waits b ≡ w → (e : Bool) → waits (cond (w && e) (with_address a b) b) ≡ (w && not e)
    go true p true = ne_eqb a 0 (omega arith)
    go true p false = p
    go false p e = p

-- none changes its identity
same_identity : (a id : ℕ) (b : Board) → (given_to a id b).identity ≡ b.identity
same_identity a id b = cond_by (λ (c : Board). c.identity ≡ b.identity) (bears id b) (λ e. refl) (λ e. refl)

module _ (a id : ℕ) (real : 0 < a) where
  -- none waits that did not before
  none_more : (bs : List Board) → count waits (given a id bs) ≤ count waits bs
  unfolding given
  none_more [] = omega arith
  none_more (b ∷ bs) = rw (waits_then a id b real) (go (waits b) (eqb b.identity id) (none_more bs))
    where
      go : (w e : Bool) {n n' : ℕ} → n' ≤ n → cond (w && not e) (suc n') n' ≤ cond w (suc n) n
      go true true h = omega arith
      go true false h = omega arith
      go false e h = h

  -- with a bearer, fewer wait
  pub fewer_wait : (bs : List Board) → any (bears id) bs ≡ true → suc (count waits (given a id bs)) ≤ count waits bs
  unfolding given
  fewer_wait [] h = absurd (false≢true h)
  fewer_wait (b ∷ bs) h = rw (waits_then a id b real) (go (waits b) (eqb b.identity id) (none_more bs) (fewer_wait bs) h)
    where
      go : (w e : Bool) {n n' : ℕ} {more : Bool} → n' ≤ n → (more ≡ true → suc n' ≤ n) → ((w && e) || more) ≡ true
          → suc (cond (w && not e) (suc n') n') ≤ cond w (suc n) n
      go true true k f h = omega arith
      go true false k f h = omega (arith, f h)
      go false e k f h = f h

-- ---- a lower bound of the identities that wait

-- it is one of each identity that is borne
pub borne_from : (lo id : ℕ) (bs : List Board) → none_below lo bs ≡ true → any (bears id) bs ≡ true → lo ≤ id
borne_from lo id [] h k = absurd (false≢true k)
borne_from lo id (b ∷ bs) h k =
    let t = both (not (waits b) || leb lo b.identity) (none_below lo bs) h in
    go (waits b) (eqb b.identity id) refl t.0 (borne_from lo id bs t.1) k
  where
    go : (w e : Bool) → eqb b.identity id ≡ e → (not w || leb lo b.identity) ≡ true → (any (bears id) bs ≡ true → lo ≤ id)
        → ((w && e) || any (bears id) bs) ≡ true → lo ≤ id
    go true true p h f k = omega (arith, eqb-true b.identity id p, leb-true lo b.identity h)
    go true false p h f k = f k
    go false e p h f k = f k

module _ (a id : ℕ) (real : 0 < a) where
  -- an address for some leaves it one
  pub still_from : (lo : ℕ) (bs : List Board) → none_below lo bs ≡ true → none_below lo (given a id bs) ≡ true
  unfolding given
  still_from lo [] h = refl
  still_from lo (b ∷ bs) h =
      let t = both (not (waits b) || leb lo b.identity) (none_below lo bs) h in
      rw (waits_then a id b real, same_identity a id b)
      (and (go (waits b) (eqb b.identity id) (leb lo b.identity) t.0) (still_from lo bs t.1))
    where
      go : (w e l : Bool) → (not w || l) ≡ true → (not (w && not e) || l) ≡ true
      go true true l h = refl
      go true false l h = h
      go false e l h = refl

  -- where the bearers of the least get one, the others' identities are larger
  pub larger_from : (bs : List Board) → none_below id bs ≡ true → none_below (suc id) (given a id bs) ≡ true
  unfolding given
  larger_from [] h = refl
  larger_from (b ∷ bs) h =
      let t = both (not (waits b) || leb id b.identity) (none_below id bs) h in
      rw (waits_then a id b real, same_identity a id b) (and (go (waits b) (eqb b.identity id) refl t.0) (larger_from bs t.1))
    where
      go : (w e : Bool) → eqb b.identity id ≡ e → (not w || leb id b.identity) ≡ true
          → (not (w && not e) || leb (suc id) b.identity) ≡ true
      go true true p h = refl
      go true false p h = le-leb (suc id) b.identity (omega (arith, eqb-false b.identity id p, leb-true id b.identity h))
      go false e p h = refl
