-- The definitions of `Lists` that the library has under other names, for code that is written with the library's methods.
use Rattle.std.specs.Prelude.{ℕ, suc, ◌+◌, ◌<◌, ◌≤◌, ◌≡◌, not, Bool, cond, List, true, false, Option, length, position, count_by, nat_lt, Some, None, ◌||◌, [], ◌∷◌, get_or}
use Rattle.std.specs.Option.{unwrap_or}
use Rattle.std.specs.List.{position_or_len}
use Rattle.std.specs.List.{find as list_find}
use Rattle.std.proofs.Common.{refl, ap, sym, ◌∙◌}
use Rattle.std.proofs.lemmas.Option.{none-some}
use Rattle.std.proofs.lemmas.Bool.{ltb-false, ltb-true, lt-ltb, le-ltb}
use Rattle.std.proofs.lemmas.List.Sums.{prefix_len-le-length}
use Rattle.std.proofs.lemmas.List.Recursion.{is_position_or_len, is_count_by}
use native.Mathlib.Omega.{arith}
use Rattle.lists.specs.Lists.{any, count, find}
use Rattle.lists.proofs.Keeps.{any-find}

one_more : (n : ℕ) → suc n ≡ 1 + n
one_more n = omega arith

some_same : {A : Type 0} {i k : A} (d : A) → Some i ≡ Some k → i ≡ k
some_same d h = ap (λ o. unwrap_or o d) h

module _ {A : Type 0} where
  -- what `filter(p).count()` says
  pub count_by-count : (p : A → Bool) (xs : List A) → count_by p xs ≡ count p xs
  count_by-count p xs = sym (is_count_by (count p) p refl (λ x xs. ap (λ n. cond (p x) n (count p xs)) (one_more (count p xs))) xs)

  -- what `position(p)` says, as a number, or the length
  pub position_or_len-find : (p : A → Bool) (xs : List A) → position_or_len p xs ≡ find p xs
  position_or_len-find p xs = sym (is_position_or_len (find p) p refl (λ x xs. ap (cond (p x) 0) (one_more (find p xs))) xs)

  module _ (p : A → Bool) (xs : List A) where
    abbrev k : ℕ
    k = position_or_len p xs

    -- where it is none of the places
    past : nat_lt k (length xs) ≡ false → k ≡ length xs
    past e = omega (arith, ltb-false k (length xs) e, prefix_len-le-length (λ x. not (p x)) xs)

    -- what `position(p).unwrap_or(n)` says of a list of n elements
    pub position-find : {n : ℕ} {o : Option ℕ} → length xs ≡ n → o ≡ position p xs → unwrap_or o n ≡ find p xs
    position-find {n} long e = rw (e, ← long) (elim (nat_lt k (length xs)) as (λ b. nat_lt k (length xs) ≡ b → unwrap_or (cond b (Some k) None) (length xs) ≡ find p xs) [
      | true ↦ λ _. position_or_len-find p xs
      | false ↦ λ e. sym (past e) ∙ position_or_len-find p xs
    ] refl)

    pub position-le : {n : ℕ} {o : Option ℕ} → length xs ≡ n → o ≡ position p xs → unwrap_or o n ≤ n
    position-le {n} {o} long e =
        let same = position-find long e ∙ sym (position_or_len-find p xs) in omega (arith, same, prefix_len-le-length (λ x. not (p x)) xs)

    -- what a place says that `position(p)` gave
    pub position_some : {i : ℕ} → Some i ≡ position p xs → (i ≡ find p xs) × (i < length xs)
    position_some {i} h =
        elim (nat_lt k (length xs)) as (λ b. nat_lt k (length xs) ≡ b → Some i ≡ cond b (Some k) None → (i ≡ find p xs) × (i < length xs)) [
          | true ↦ λ e h. (some_same 0 h ∙ position_or_len-find p xs, rw (some_same 0 h) (ltb-true k (length xs) e))
          | false ↦ λ _ h. absurd (none-some _ (sym h))
        ] refl h

    -- and that it gave none
    pub position_none : None ≡ position p xs → find p xs ≡ length xs
    position_none h =
        elim (nat_lt k (length xs)) as (λ b. nat_lt k (length xs) ≡ b → None ≡ cond b (Some k) None → find p xs ≡ length xs) [
          | true ↦ λ _ h. absurd (none-some _ h)
          | false ↦ λ e _. sym (position_or_len-find p xs) ∙ past e
        ] refl h

    -- so whether some element passes
    pub position_some_any : {i : ℕ} → Some i ≡ position p xs → any p xs ≡ true
    position_some_any {i} h = let e = position_some h in rw (any-find p xs, ← e.0) (lt-ltb i (length xs) e.1)

    pub position_none_any : None ≡ position p xs → any p xs ≡ false
    position_none_any h = rw (any-find p xs, position_none h) (le-ltb (length xs) (length xs) (omega arith))

-- what an element says that `find(p)` gave, and that it gave none
module _ {A : Type 0} (p : A → Bool) (d : A) where
  pub find_some : (xs : List A) {x : A} → Some x ≡ list_find p xs → (any p xs ≡ true) × (x ≡ get_or xs (find p xs) d)
  find_some [] h = absurd (none-some _ (sym h))
  find_some (y ∷ ys) {x} h =
      elim (p y) as (λ b. Some x ≡ cond b (Some y) (list_find p ys) → ((b || any p ys) ≡ true) × (x ≡ get_or (y ∷ ys) (cond b 0 (suc (find p ys))) d)) [
        | true ↦ λ h. (refl, some_same x h)
        | false ↦ λ h. find_some ys h
      ] h

  pub find_none : (xs : List A) → None ≡ list_find p xs → any p xs ≡ false
  find_none [] h = refl
  find_none (y ∷ ys) h =
      elim (p y) as (λ b. None ≡ cond b (Some y) (list_find p ys) → (b || any p ys) ≡ false) [
        | true ↦ λ h. absurd (none-some _ h)
        | false ↦ λ h. find_none ys h
      ] h
