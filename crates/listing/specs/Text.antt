-- Text as bytes: fixed words, numbers in hex, numbers in decimal.
use Rattle.std.specs.Prelude.{ℕ, zero, suc, ◌+◌, ◌-◌, ◌/◌, ◌%◌, cond, List, [], ◌∷◌, ◌++◌, ltb}
use Prim.Native.Char.{code}
use Prim.Native.String.{String}
use Prim.Native.String.{[] as empty, ◌∷◌ as ◌before◌}

-- the bytes of a text in ASCII: the code of each of its characters
abbrev pub text : String → List ℕ
text empty = []
text (c before cs) = code c ∷ text cs

-- a digit below 16: 0 to 9, then A to F, in capitals
abbrev pub digit : ℕ → ℕ
digit d = cond (ltb d 10) (code "0" + d) (code "A" + (d - 10))

-- k hex digits, highest first
unfoldable pub hex : ℕ → ℕ → List ℕ
hex zero n = []
hex (suc k) n = hex k (n / 16) ++ (digit (n % 16) ∷ [])

-- a number of at most k digits in decimal, without leading zeros: a number below 10 is its digit, another is its tenth and then its last digit
unfoldable pub decimal : ℕ → ℕ → List ℕ
decimal zero n = []
decimal (suc k) n = cond (ltb n 10) (digit n ∷ []) (decimal k (n / 10) ++ (digit (n % 10) ∷ []))
