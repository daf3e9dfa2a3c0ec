-- The number of bytes, and the bytes of a number.
use Prim.Native.Nat.{ℕ, zero, suc, ◌+◌, ◌*◌, ◌/◌, ◌%◌, ◌^◌, ◌<◌, ◌≤◌}
use mathlib.Core.Path.{◌≡◌, refl, sym, ◌∙◌}
use mathlib.Core.Bool.{true}
use mathlib.Core.List.{List, [], ◌∷◌, ◌++◌, append-nil, append_assoc}
use native.Mathlib.Nat.{pow-suc}
use native.Mathlib.Omega.{arith}
use lib.Dec.{leb}
use lib.ListN.{length}
use borrow.Author.Tests.{leb-true}
use Rattle.lists.specs.Bits.{are_bytes, bytes_of}
use Rattle.lists.proofs.Bools.{both}
use Rattle.machine.specs.Steps.{digits, identity_of}

-- ---- a number in bytes, and back

-- the number of bytes with one more behind them
digits_more : (bytes : List ℕ) (n b : ℕ) → digits n (bytes ++ (b ∷ [])) ≡ digits n bytes * 256 + b
digits_more [] n b = refl
digits_more (c ∷ bytes) n b = digits_more bytes (n * 256 + c) b

-- k bytes hold a number below 256 to that power
digits_back : (k n : ℕ) → n < 256 ^ k → digits 0 (bytes_of k n) ≡ n
unfolding bytes_of
digits_back zero n h = omega arith
digits_back (suc k) n h =
    digits_more (bytes_of k (n / 256)) 0 (n % 256) ∙ rw (digits_back k (n / 256) (omega (arith, pow-suc 256 k))) (omega arith)

-- so eight bytes hold an identity
pub number_back : (n : ℕ) → n < 2 ^ 64 → identity_of (bytes_of 8 n) ≡ n
number_back n h = digits_back 8 n h

-- one byte behind a number is taken off it again
byte_off : (n b : ℕ) → b ≤ 255 → ((n * 256 + b) / 256 ≡ n) × ((n * 256 + b) % 256 ≡ b)
byte_off n b h = omega arith

-- the bytes of the number of bytes, behind those of another
bytes_behind : (bytes : List ℕ) (i n k : ℕ) → are_bytes bytes ≡ true → i + length bytes ≡ k
    → bytes_of k (digits n bytes) ≡ bytes_of i n ++ bytes
unfolding bytes_of
bytes_behind [] i n k h e = let z : k ≡ i = omega arith in rw z (sym (append-nil (bytes_of i n)))
bytes_behind (b ∷ bs) i n k h e =
    let t = both (leb b 255) (are_bytes bs) h in
    let o = byte_off n b (leb-true b 255 t.0) in
    bytes_behind bs (suc i) (n * 256 + b) k t.1 (omega arith)
    ∙ rw (o.0, o.1) (append_assoc (bytes_of i n) (b ∷ []) bs)

-- eight bytes are those of their number
pub bytes_back : (bytes : List ℕ) → length bytes ≡ 8 → are_bytes bytes ≡ true → bytes_of 8 (identity_of bytes) ≡ bytes
unfolding bytes_of
bytes_back bytes long h = bytes_behind bytes 0 0 8 h (omega arith)
