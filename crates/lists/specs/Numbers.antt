-- Numbers in a row.
use Rattle.std.specs.Prelude.{ℕ, zero, suc, Bool, ◌&&◌, cond, List, [], ◌∷◌, eqb, leb}
use Rattle.lists.specs.Lists.{any}

-- the k numbers from a on
unfoldable pub numbers : ℕ → ℕ → List ℕ
numbers a zero = []
numbers a (suc k) = a ∷ numbers (suc a) k

-- whether n is one of a to b, both included
abbrev pub within : ℕ → ℕ → ℕ → Bool
within a b n = leb a n && leb n b

-- whether n stands in the list
abbrev pub one_of : List ℕ → ℕ → Bool
one_of l n = any (eqb n) l

-- the first of the k numbers from a on that passes the test, and 0 if none does: for tests that 0 does not pass
unfoldable pub first : (ℕ → Bool) → ℕ → ℕ → ℕ
first p a zero = 0
first p a (suc k) = cond (p a) a (first p (suc a) k)
