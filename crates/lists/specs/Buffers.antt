-- What is written into a buffer that has room for it; what lies before and behind it stays.
use Rattle.std.specs.Prelude.{List, ◌++◌, ℕ, length, take, drop}

module _ {A : Type 0} where
  -- written from the first place on
  abbrev pub lay : List A → List A → List A
  lay out buffer = out ++ drop (length out) buffer

  -- written from the place `at` on
  abbrev pub lay_at : ℕ → List A → List A → List A
  lay_at at out buffer = take at buffer ++ lay out (drop at buffer)
