-- Two lists zipped: how long, and element by element; and the loop over both that replaces each element of the second by a function of both.
use mathlib.Core.Path.{◌≡◌, refl, ap}
use mathlib.Core.List.{List, [], ◌∷◌, ◌++◌, zip_with, append_assoc, append-nil}
use Prim.Native.Nat.{ℕ, zero, suc, ◌+◌, ◌<◌, ◌≤◌}
use native.Mathlib.Numerals.{add-one}
use native.Mathlib.Nat.{le_refl, not-suc-le-zero, le_of_suc-le-suc, suc_inj}
use lib.ListN.{length, take, drop, set, get_or, drop_of_length-le}
use lib.Seq.{drop-cons, take-suc-set, drop-set-lt, take_all}

-- ---- length and elements

module _ {A B C : Type 0} (g : A → B → C) where
  -- an element
  pub zip_at : (xs : List A) (ys : List B) (i : ℕ) (x : A) (y : B) (z : C) → i < length xs → i < length ys
      → get_or (zip_with g xs ys) i z ≡ g (get_or xs i x) (get_or ys i y)
  unfolding zip_with
  zip_at [] ys i x y z p q = absurd (not-suc-le-zero p)
  zip_at (a ∷ xs) [] i x y z p q = absurd (not-suc-le-zero q)
  zip_at (a ∷ xs) (b ∷ ys) zero x y z p q = refl
  zip_at (a ∷ xs) (b ∷ ys) (suc i) x y z p q = zip_at xs ys i x y z (le_of_suc-le-suc p) (le_of_suc-le-suc q)

  -- as many as of either
  pub zip_long : (xs : List A) (ys : List B) → length xs ≡ length ys → length (zip_with g xs ys) ≡ length ys
  unfolding zip_with
  zip_long [] ys e = e
  zip_long (x ∷ xs) [] e = refl
  zip_long (x ∷ xs) (y ∷ ys) e = ap suc (zip_long xs ys (suc_inj e))

-- ---- the loop

-- what the loop has done below i, and what it has still to do from i on
abbrev pub zipping : {A B : Type 0} → (A → B → B) → List A → List B → ℕ → List B
zipping g xs ys i = take i ys ++ zip_with g (drop i xs) (drop i ys)

-- one turn
pub zip_turn : {A B : Type 0} (g : A → B → B) (xs : List A) (ys : List B) (i : ℕ) (x : A) (y : B) → i < length xs → i < length ys
    → zipping g xs (set ys i (g (get_or xs i x) (get_or ys i y))) (i + 1) ≡ zipping g xs ys i
unfolding zip_with
zip_turn g xs ys i x y p q =
    rw (
      add-one i,
      take-suc-set ys i (g (get_or xs i x) (get_or ys i y)) q,
      drop-set-lt (suc i) ys i (g (get_or xs i x) (get_or ys i y)) (le_refl (suc i)),
      append_assoc,
      drop-cons xs i x p,
      drop-cons ys i y q,
    )

-- after the last
pub zip_done : {A B : Type 0} (g : A → B → B) (xs : List A) (ys : List B) (i : ℕ) → length xs ≤ i → length ys ≤ i → zipping g xs ys i ≡ ys
unfolding zip_with
zip_done g xs ys i p q = rw (drop_of_length-le xs p, take_all i ys q, append-nil)
