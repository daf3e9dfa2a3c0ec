-- The bits and the bytes of a number, bit 0 the lowest.
use Rattle.std.specs.Prelude.{ℕ, zero, suc, ◌/◌, ◌%◌, ◌^◌, Bool, List, [], ◌∷◌, ◌++◌, eqb, leb}
use Rattle.lists.specs.Lists.{all}

-- whether bit k of x is 1
unfoldable pub bit : ℕ → ℕ → Bool
bit k x = eqb ((x / 2 ^ k) % 2) 1

-- numbers of eight bits
abbrev pub are_bytes : List ℕ → Bool
are_bytes bytes = all (λ b. leb b 255) bytes

-- the lowest k bytes of a number, highest first
unfoldable pub bytes_of : ℕ → ℕ → List ℕ
bytes_of zero n = []
bytes_of (suc k) n = bytes_of k (n / 256) ++ (n % 256 ∷ [])
