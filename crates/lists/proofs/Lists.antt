-- For each definition over a list the laws that a loop's proof cites: what it is of the elements from place i on, where the one at i
-- decides (-here), where it leaves it to the others (-next), and past the end (-end).
use Prim.Native.Nat.{ℕ, zero, suc, ◌+◌, ◌<◌, ◌≤◌}
use mathlib.Core.Path.{◌≡◌, refl}
use mathlib.Core.Bool.{Bool, true, false}
use mathlib.Core.List.{List, [], ◌∷◌}
use native.Mathlib.Omega.{arith}
use native.Mathlib.Numerals.{add-one}
use lib.ListN.{length, get_or, drop, drop_of_length-le}
use lib.Seq.{drop-cons}
use Rattle.lists.specs.Lists.{any, all, pairwise, count, find}

module _ {A : Type 0} where
  pub drop_step : (l : List A) (i : ℕ) (d : A) → i < length l → drop i l ≡ get_or l i d ∷ drop (i + 1) l
  drop_step l i d h = rw (add-one, drop-cons l i d)

  -- within a list the default does not matter
  pub get_or_any : (l : List A) (i : ℕ) (d e : A) → i < length l → get_or l i d ≡ get_or l i e
  get_or_any [] i d e h = absurd (omega arith)
  get_or_any (x ∷ l) zero d e h = refl
  get_or_any (x ∷ l) (suc i) d e h = get_or_any l i d e (omega arith)

  module _ (p : A → Bool) (l : List A) (i : ℕ) where
    pub any_end : length l ≤ i → any p (drop i l) ≡ false
    any_end h = rw (drop_of_length-le l h)

    pub all_end : length l ≤ i → all p (drop i l) ≡ true
    all_end h = rw (drop_of_length-le l h)

    pub count_end : length l ≤ i → count p (drop i l) ≡ 0
    count_end h = rw (drop_of_length-le l h)

    pub find_end : length l ≤ i → find p (drop i l) ≡ 0
    find_end h = rw (drop_of_length-le l h)

    module _ (d : A) (b : i < length l) where
      pub any_here : p (get_or l i d) ≡ true → any p (drop i l) ≡ true
      any_here e = rw (drop_step l i d b, e)

      pub any_next : p (get_or l i d) ≡ false → any p (drop i l) ≡ any p (drop (i + 1) l)
      any_next e = rw (drop_step l i d b, e)

      pub all_here : p (get_or l i d) ≡ false → all p (drop i l) ≡ false
      all_here e = rw (drop_step l i d b, e)

      pub all-next : p (get_or l i d) ≡ true → all p (drop i l) ≡ all p (drop (i + 1) l)
      all-next e = rw (drop_step l i d b, e)

      pub count_here : p (get_or l i d) ≡ true → count p (drop i l) ≡ suc (count p (drop (i + 1) l))
      count_here e = rw (drop_step l i d b, e)

      pub count_next : p (get_or l i d) ≡ false → count p (drop i l) ≡ count p (drop (i + 1) l)
      count_next e = rw (drop_step l i d b, e)

      pub find_here : p (get_or l i d) ≡ true → find p (drop i l) ≡ 0
      find_here e = rw (drop_step l i d b, e)

      pub find-next : p (get_or l i d) ≡ false → find p (drop i l) ≡ suc (find p (drop (i + 1) l))
      find-next e = rw (drop_step l i d b, e)

  module _ (r : A → A → Bool) (l : List A) (i : ℕ) (d : A) (b : i < length l) where
    pub pairwise_here : all (r (get_or l i d)) (drop (i + 1) l) ≡ false → pairwise r (drop i l) ≡ false
    pairwise_here e = rw (drop_step l i d b, e)

    pub pairwise-next : all (r (get_or l i d)) (drop (i + 1) l) ≡ true → pairwise r (drop i l) ≡ pairwise r (drop (i + 1) l)
    pairwise-next e = rw (drop_step l i d b, e)
