-- Laws of the digits of a number, in hex and in decimal.
use Prim.Native.Nat.{ℕ, zero, suc, ◌+◌, ◌-◌, ◌*◌, ◌/◌, ◌%◌, ◌^◌, ◌<◌, ◌≤◌}
use mathlib.Core.Path.{◌≡◌, refl, sym, ap, ◌∙◌}
use mathlib.Core.Logic.{◌⊎◌, inl, inr, ⊎_elim}
use mathlib.Core.Bool.{Bool, true, false, cond}
use mathlib.Core.List.{List, [], ◌∷◌, ◌++◌}
use native.Mathlib.Nat.{pow-suc, pow-le-pow_right, zero-lt-suc, zero-add, suc-add}
use native.Mathlib.Numerals.{add-one, sub-one}
use native.Mathlib.Omega.{arith}
use lib.Dec.{ltb}
use lib.ListN.{length, get_or, length-append}
use borrow.Author.Tests.{lt-ltb, le-ltb, ltb-true, ltb-false}
use Rattle.std.proofs.lemmas.Fmt.{AppendsLastDigit, decimal_from_appends, length-decimal-le}
use Rattle.std.specs.Fmt as library
use Rattle.lists.specs.Buffers.{lay_at}
use Rattle.lists.proofs.Buffers.{lay_at_on}
use Rattle.listing.specs.Text.{digit, hex, decimal}

-- ---- digits

-- a digit behind the n that were just put
behind : (at n : ℕ) (x buffer : List ℕ) (d : ℕ) → length x ≡ n → at + n ≤ length buffer → {last : ℕ} {between after : List ℕ}
    → last ≡ at + n → between ≡ lay_at at x buffer → after ≡ lay_at last (d ∷ []) between → after ≡ lay_at at (x ++ (d ∷ [])) buffer
behind at n x buffer d l h p q r = rw (r, p, q, ← l) (lay_at_on at x (d ∷ []) buffer (omega arith))

-- ---- hex digits

-- as many as asked for
pub hex_long : (k n : ℕ) → length (hex k n) ≡ k
unfolding hex
hex_long zero n = refl
hex_long (suc k) n = rw (length-append, hex_long k (n / 16)) (add-one k)

-- none, where none is asked for
pub hex_none : (k n : ℕ) → k ≡ 0 → hex k n ≡ []
unfolding hex
hex_none k n e = rw e

-- those of its sixteenth, and then its last one
pub hex_last : (k n : ℕ) → (k ≡ 0 → ⊥) → hex k n ≡ hex (k - 1) (n / 16) ++ (digit (n % 16) ∷ [])
unfolding hex
hex_last zero n h = absurd (h refl)
hex_last (suc k) n h = rw sub-one

-- ---- decimal digits

-- one digit, or more
one_or_more : (n : ℕ) → (n < 10) ⊎ (10 ≤ n)
one_or_more n = go (ltb n 10) refl
  where
    go : (b : Bool) → ltb n 10 ≡ b → (n < 10) ⊎ (10 ≤ n)
    go true e = inl (ltb-true n 10 e)
    go false e = inr (ltb-false n 10 e)

-- a number below 10 is its digit
pub decimal_one : (k n : ℕ) → n < 10 → decimal (suc k) n ≡ digit n ∷ []
unfolding decimal
decimal_one k n h = rw (lt-ltb n 10 h)

-- another is its tenth, with one digit less, and then its last digit
decimal_last : (k n : ℕ) → 10 ≤ n → decimal (suc k) n ≡ decimal k (n / 10) ++ (digit (n % 10) ∷ [])
unfolding decimal
decimal_last k n h = rw (le-ltb n 10 h)

-- at most as many as asked for
pub decimal_short : (k n : ℕ) → length (decimal k n) ≤ k
unfolding decimal
decimal_short zero n = omega arith
decimal_short (suc k) n =
    ⊎_elim
    (λ s. rw (decimal_one k n s) (omega arith))
    (λ s. rw (decimal_last k n s, length-append) (omega (arith, decimal_short k (n / 10))))
    (one_or_more n)

-- the tenth of a number is below one power of 10 less; of a number of 10 or more that is a power above 0
tenth : (k n : ℕ) → n < 10 ^ suc k → n / 10 < 10 ^ k
tenth k n h = omega (arith, pow-suc 10 k)

tenth_some : (k n : ℕ) → n < 10 ^ suc k → 10 ≤ n → 0 < k
tenth_some zero n h s = omega arith
tenth_some (suc k) n h s = omega arith

-- one more digit allowed changes nothing
pub decimal_more : (k n : ℕ) → n < 10 ^ k → 0 < k → decimal (suc k) n ≡ decimal k n
decimal_more zero n h p = absurd (omega arith)
decimal_more (suc k) n h p =
    ⊎_elim
    (λ s. decimal_one (suc k) n s ∙ sym (decimal_one k n s))
    (λ s. rw (decimal_last (suc k) n s, decimal_last k n s, decimal_more k (n / 10) (tenth k n h) (tenth_some k n h s)))
    (one_or_more n)

-- nor do any more
pub decimal_fits : (j k n : ℕ) → n < 10 ^ k → 0 < k → decimal (j + k) n ≡ decimal k n
decimal_fits zero k n h p = rw zero-add
decimal_fits (suc j) k n h p =
    let l : 10 ^ k ≤ 10 ^ (j + k) = pow-le-pow_right (zero-lt-suc 9) (omega arith) in
    rw suc-add (decimal_more (j + k) n (omega arith) (omega arith) ∙ decimal_fits j k n h p)

-- they are the library's, where so many are enough
digit_code : (n : ℕ) → n < 10 → digit n ≡ 48 + n
digit_code n h = rw (lt-ltb n 10 h)

appends : AppendsLastDigit decimal
appends = record {
  one = λ k n h. decimal_one k n h ∙ ap (λ c. c ∷ []) (digit_code n h);
  more = λ k n h. decimal_last k n h ∙ ap (λ c. decimal k (n / 10) ++ (c ∷ [])) (digit_code (n % 10) (omega arith));
}

pub printed : (n : ℕ) → n < 2 ^ 64 → library.decimal n ≡ decimal 20 n
printed n h = sym (decimal_from_appends decimal appends 20 n h (length-decimal-le 20 n (omega arith) (omega arith) h))

-- a ticket is a number of 32 bits
pub ticket_digits : (n : ℕ) → n < 4294967296 → decimal 20 n ≡ decimal 10 n
ticket_digits n h = decimal_fits 10 10 n (omega arith) (omega arith)

-- ---- a number of 64 bits in decimal

-- its tenth, and then its last digit
decimal_tenth : (n : ℕ) → 10 ≤ n → n < 18446744073709551616 → decimal 20 n ≡ decimal 20 (n / 10) ++ (digit (n % 10) ∷ [])
decimal_tenth n h b = decimal_last 19 n h ∙ rw (decimal_more 19 (n / 10) (omega arith) (omega arith))

-- one digit, or one more than its tenth has
pub decimal_length_one : (n : ℕ) → n < 10 → length (decimal 20 n) ≡ 1
decimal_length_one n h = rw (decimal_one 19 n h)

pub decimal-length : (n : ℕ) → 10 ≤ n → n < 18446744073709551616 → length (decimal 20 n) ≡ length (decimal 20 (n / 10)) + 1
decimal-length n h b = rw (decimal_tenth n h b) (length-append (decimal 20 (n / 10)) (digit (n % 10) ∷ []))

-- the last digit behind those of its tenth
pub decimal_behind : (at n : ℕ) (buffer : List ℕ) → at + length (decimal 20 n) ≤ length buffer → 10 ≤ n → n < 18446744073709551616
    → {last : ℕ} {between after : List ℕ} → last ≡ at + length (decimal 20 (n / 10)) → between ≡ lay_at at (decimal 20 (n / 10)) buffer
    → after ≡ lay_at last (digit (n % 10) ∷ []) between → after ≡ lay_at at (decimal 20 n) buffer
decimal_behind at n buffer h t b p q r =
    let x : List ℕ = decimal 20 (n / 10) in
    rw (decimal_tenth n t b) (behind at (length x) x buffer (digit (n % 10)) refl (omega (arith, decimal-length n t b)) p q r)

-- ---- digits read back

-- the digit that a character says
abbrev pub digit_of : ℕ → ℕ
digit_of c = cond (ltb c 58) (c - 48) (c - 55)

-- the number that characters say to a base, behind others that said n
abbrev pub value : ℕ → ℕ → List ℕ → ℕ
value base n [] = n
value base n (c ∷ cs) = value base (n * base + digit_of c) cs

-- a digit's character says the digit
pub digit_back : (d : ℕ) → d < 16 → digit_of (digit d) ≡ d
digit_back d h =
    ⊎_elim
    (λ s. rw (lt-ltb d 10 s, lt-ltb (48 + d) 58 (omega arith)) (omega arith))
    (λ s. rw (le-ltb d 10 s, le-ltb (65 + (d - 10)) 58 (omega arith)) (omega arith))
    (one_or_more d)

-- one character more
value_more : (base n : ℕ) (cs : List ℕ) (c : ℕ) → value base n (cs ++ (c ∷ [])) ≡ value base n cs * base + digit_of c
value_more base n [] c = refl
value_more base n (b ∷ cs) c = value_more base (n * base + digit_of b) cs c

-- k hex digits say a number below 16 to that power
pub hex_value : (k n : ℕ) → n < 16 ^ k → value 16 0 (hex k n) ≡ n
unfolding hex
hex_value zero n h = omega arith
hex_value (suc k) n h =
    value_more 16 0 (hex k (n / 16)) (digit (n % 16))
    ∙ rw (hex_value k (n / 16) (omega (arith, pow-suc 16 k)), digit_back (n % 16) (omega arith)) (omega arith)

-- at most k decimal digits say a number below 10 to that power
pub decimal_value : (k n : ℕ) → n < 10 ^ k → 0 < k → value 10 0 (decimal k n) ≡ n
decimal_value zero n h p = absurd (omega arith)
decimal_value (suc k) n h p =
    ⊎_elim
    (λ s. rw (decimal_one k n s, digit_back n (omega arith)) (omega arith))
    (λ s.
    rw (
      decimal_last k n s,
      value_more 10 0 (decimal k (n / 10)) (digit (n % 10)),
      decimal_value k (n / 10) (tenth k n h) (tenth_some k n h s),
      digit_back (n % 10) (omega arith),
    )
    (omega arith))
    (one_or_more n)

-- what stands behind does not change the first character
first_stays : (x y : List ℕ) → (get_or x 0 48 ≡ 48 → ⊥) → get_or (x ++ y) 0 48 ≡ 48 → ⊥
first_stays [] y h e = h refl
first_stays (c ∷ x) y h e = h e

-- only 0 begins with "0"
no_zero_first : (k n : ℕ) → n < 10 ^ k → 0 < n → get_or (decimal k n) 0 48 ≡ 48 → ⊥
no_zero_first zero n h p = absurd (omega arith)
no_zero_first (suc k) n h p =
    ⊎_elim
    (λ s. rw (decimal_one k n s, lt-ltb n 10 s) (λ e. omega (arith, e)))
    (λ s. rw (decimal_last k n s) (first_stays (decimal k (n / 10)) (digit (n % 10) ∷ []) (no_zero_first k (n / 10) (tenth k n h) (omega arith))))
    (one_or_more n)

-- so a number of more than one digit has no leading zero
pub no_leading_zero : (k n : ℕ) → n < 10 ^ k → 10 ≤ n → get_or (decimal k n) 0 48 ≡ 48 → ⊥
no_leading_zero k n h p = no_zero_first k n h (omega arith)
