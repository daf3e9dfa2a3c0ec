-- Definitions over a list, by tests on its elements; any and all are the library's, by the words that the laws use.
use Rattle.std.specs.Prelude.{ℕ, zero, suc, Bool, true, cond, ◌&&◌, List, [], ◌∷◌, ◌++◌}
use Rattle.std.specs.List.{list_any, list_all}

module _ {A : Type 0} where
  -- whether some element passes the test
  abbrev pub any : (A → Bool) → List A → Bool
  any p xs = list_any p xs

  -- whether every element passes the test
  abbrev pub all : (A → Bool) → List A → Bool
  all p xs = list_all p xs

  -- whether every element stands in r to every later one
  abbrev pub pairwise : (A → A → Bool) → List A → Bool
  pairwise r [] = true
  pairwise r (x ∷ xs) = all (r x) xs && pairwise r xs

  -- how many elements pass the test
  abbrev pub count : (A → Bool) → List A → ℕ
  count p [] = 0
  count p (x ∷ xs) = cond (p x) (suc (count p xs)) (count p xs)

  -- the place of the first element that passes the test, counted from 0, or the length
  abbrev pub find : (A → Bool) → List A → ℕ
  find p [] = 0
  find p (x ∷ xs) = cond (p x) 0 (suc (find p xs))

  -- x put in before the first element that passes the test, or at the end: one element more
  abbrev pub insert_by : (A → Bool) → A → List A → List A
  insert_by p x [] = x ∷ []
  insert_by p x (y ∷ ys) = cond (p y) (x ∷ y ∷ ys) (y ∷ insert_by p x ys)

  -- the element at a place taken out, and z put at the end in its stead: as many elements; as it was if there is no such place
  abbrev pub remove_at : ℕ → A → List A → List A
  remove_at k z [] = []
  remove_at zero z (y ∷ ys) = ys ++ (z ∷ [])
  remove_at (suc k) z (y ∷ ys) = y ∷ remove_at k z ys
