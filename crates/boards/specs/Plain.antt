-- The boards as the plain rule sees them, without identity bits.
use Rattle.std.specs.Prelude.{ℕ, ◌^◌, min, Bool, cond, not, ◌&&◌, ◌||◌, List, [], ◌∷◌, map, eqb, ltb, leb}
use Rattle.lists.specs.Lists.{all}
use Rattle.boards.specs.declared.Board.{Board}
use Rattle.boards.specs.Wire.{waits, with_address}

-- identities are of 64 bits
abbrev pub are_wide : List Board → Bool
are_wide bs = all (λ b. ltb b.identity (2 ^ 64)) bs

-- the smallest identity among the boards without an address; 2 ^ 64, which is no identity, where all have one
unfoldable pub smallest : List Board → ℕ
smallest [] = 2 ^ 64
smallest (b ∷ bs) = cond (waits b) (min b.identity (smallest bs)) (smallest bs)

-- its bearers: the boards without an address that have this identity
abbrev pub bears : ℕ → Board → Bool
bears id b = waits b && eqb b.identity id

-- no board without an address has a smaller one
abbrev pub none_below : ℕ → List Board → Bool
none_below id bs = all (λ b. not (waits b) || leb id b.identity) bs

-- all its bearers are given an address
unfoldable pub given : ℕ → ℕ → List Board → List Board
given a id bs = map (λ b. cond (bears id b) (with_address a b) b) bs
