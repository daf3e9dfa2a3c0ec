-- Laws of numbers in a row: what holds of each of them, and the first that passes a test with the invariant of the loop that looks for it.
use Prim.Native.Nat.{ℕ, zero, suc, ◌+◌, ◌-◌, ◌<◌, ◌≤◌}
use mathlib.Core.Path.{◌≡◌, refl, ap, ◌∙◌, sym}
use mathlib.Core.Bool.{Bool, true, false, cond, not, ◌||◌, and-false, true≢false}
use mathlib.Core.List.{List, [], ◌∷◌, ◌++◌}
use native.Mathlib.Nat.{add-zero, add-suc, suc-add}
use native.Mathlib.Omega.{arith}
use native.Mathlib.Numerals.{add-one}
use lib.Dec.{eqb, ltb, leb}
use lib.ListN.{length}
use borrow.Author.Tests.{ltb-true, lt-leb, ne_eqb}
use Rattle.lists.specs.Lists.{any, all}
use Rattle.lists.specs.Numbers.{numbers, first, within, one_of}
use Rattle.lists.proofs.Bools.{both, and}

-- ---- every number of a row

pub numbers-length : (a k : ℕ) → length (numbers a k) ≡ k
unfolding numbers
numbers-length a zero = refl
numbers-length a (suc k) = ap suc (numbers-length (suc a) k)

-- one number more
pub numbers_more : (a k : ℕ) → numbers a (suc k) ≡ numbers a k ++ ((a + k) ∷ [])
unfolding numbers
numbers_more a zero = rw add-zero
numbers_more a (suc k) = rw (numbers_more (suc a) k, add-suc, suc-add)

pub all-numbers : (p : ℕ → Bool) (a k : ℕ) → ((n : ℕ) → a ≤ n → n < a + k → p n ≡ true) → all p (numbers a k) ≡ true
unfolding numbers
all-numbers p a zero h = refl
all-numbers p a (suc k) h = and (h a (omega arith) (omega arith)) (all-numbers p (suc a) k (λ n l u. h n (omega arith) (omega arith)))

pub all_numbers_at : (p : ℕ → Bool) (a k : ℕ) → all p (numbers a k) ≡ true → (n : ℕ) → a ≤ n → n < a + k → p n ≡ true
unfolding numbers
all_numbers_at p a zero h n l u = absurd (omega arith)
all_numbers_at p a (suc k) h n l u = go (all_numbers_at p (suc a) k (both (p a) (all p (numbers (suc a) k)) h).1 n) (n - a) refl
  where
    go : (suc a ≤ n → n < suc a + k → p n ≡ true) → (d : ℕ) → n - a ≡ d → p n ≡ true
    go ih zero e = let s : n ≡ a = omega arith in rw s (both (p a) (all p (numbers (suc a) k)) h).0
    go ih (suc d) e = ih (omega arith) (omega arith)

-- ---- the first that passes

-- none of the numbers below a passed
pub record First (p : ℕ → Bool) (n a : ℕ) : Type 0 where
  pub inside : a ≤ n
  pub same : first p 0 n ≡ first p a (n - a)

module _ {p : ℕ → Bool} {n : ℕ} where
  pub first_start : First p n 0
  first_start = let e : n ≡ n - 0 = omega arith in record { inside = omega arith; same = ap (first p 0) e }

one_less : (n a : ℕ) → a < n → n - a ≡ suc (n - (a + 1))
one_less n a h = omega arith

module _ {p : ℕ → Bool} {n a : ℕ} where
  pub first_turn : First p n a → a < n → p a ≡ false → First p n (a + 1)
  unfolding first
  first_turn v b e = record { inside = omega arith; same = v.same ∙ rw (one_less n a b, e, add-one a) }

  pub first_found : First p n a → a < n → p a ≡ true → a ≡ first p 0 n
  unfolding first
  first_found v b e = sym (v.same ∙ rw (one_less n a b, e))

  pub first_ended : First p n a → n ≤ a → 0 ≡ first p 0 n
  unfolding first
  first_ended v b = let e : n - a ≡ 0 = omega arith in sym (v.same ∙ ap (first p a) e)

-- it does pass, unless it is the 0 that says none
pub first_passes : (p : ℕ → Bool) (a k : ℕ) → (first p a k ≡ 0 → ⊥) → p (first p a k) ≡ true
unfolding first
first_passes p a zero h = absurd (h refl)
first_passes p a (suc k) h = go (first_passes p (suc a) k) (p a) refl h
  where
    go : ((first p (suc a) k ≡ 0 → ⊥) → p (first p (suc a) k) ≡ true) → (b : Bool) → p a ≡ b → (cond b a (first p (suc a) k) ≡ 0 → ⊥) → p (cond b a (first p (suc a) k)) ≡ true
    go ih true e n = e
    go ih false e n = ih n

-- where 0 does not pass, it is 0 exactly when none passes
pub first_none : (p : ℕ → Bool) → p 0 ≡ false → (a k : ℕ) → eqb (first p a k) 0 ≡ not (any p (numbers a k))
unfolding first numbers
first_none p z a zero = refl
first_none p z a (suc k) = go (first_none p z (suc a) k) (p a) refl
  where
    go : eqb (first p (suc a) k) 0 ≡ not (any p (numbers (suc a) k)) → (b : Bool) → p a ≡ b → eqb (cond b a (first p (suc a) k)) 0 ≡ not (b || any p (numbers (suc a) k))
    go ih true e = ne_eqb a 0 (λ (n : a ≡ 0). true≢false (sym (rw n at e) ∙ z))
    go ih false e = ih

-- ---- outside a row, or above a list

pub within_below : (a b n : ℕ) → n < a → within a b n ≡ false
within_below a b n h = rw (lt-leb a n h)

pub within_above : (a b n : ℕ) → b < n → within a b n ≡ false
within_above a b n h = rw (lt-leb n b h) (and-false (leb a n))

pub one_of_above : (l : List ℕ) (m n : ℕ) → all (λ x. ltb x m) l ≡ true → m ≤ n → one_of l n ≡ false
one_of_above [] m n h b = refl
one_of_above (x ∷ xs) m n h b =
    let t = both (ltb x m) (all (λ y. ltb y m) xs) h in
    let far : (n ≡ x → ⊥) = λ e. omega (arith, ltb-true x m t.0, e) in
    rw (ne_eqb n x far) (one_of_above xs m n t.1 b)
