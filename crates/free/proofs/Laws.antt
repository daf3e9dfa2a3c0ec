-- Laws of what is left to give: 0 is never free, so that it may say that no address is; an identity is held where it has a place; marks for the
-- addresses that the rows hold.
use Prim.Native.Nat.{ℕ, zero, suc, ◌+◌, ◌<◌, ◌≤◌}
use mathlib.Core.Path.{◌≡◌, refl, sym, ◌∙◌}
use mathlib.Core.Bool.{Bool, true, false, not, ◌&&◌, ◌||◌, and-true, and-false, or-true}
use Rattle.std.specs.Prelude.{find, Some, None}
use mathlib.Core.List.{List, [], ◌∷◌, ◌++◌}
use native.Mathlib.Omega.{arith}
use native.Mathlib.Numerals.{add-one}
use lib.Dec.{eqb, ltb}
use lib.ListN.{length, take, get_or, set, replicate, get_or-replicate, length-replicate, length-set}
use lib.Seq.{take-suc, take_all, get_or-set_same, get_or-set_other}
use borrow.Author.Tests.{lt-ltb, ltb-true, ltb-false, eqb-true, eqb-false, ne_eqb}
use Rattle.lists.specs.Lists.{any}
use Rattle.lists.specs.Numbers.{first}
use Rattle.std.proofs.lemmas.Bool.{true≢false}
use Rattle.lists.proofs.Bools.{both}
use Rattle.lists.proofs.Keeps.{any-find}
use Rattle.lists.proofs.Library.{find_some, find_none}
use Rattle.lists.proofs.Numbers.{first_none}
use Rattle.slots.specs.Slots.{class_of, allows, is_open}
use Rattle.slots.specs.declared.Facts.{Facts}
use Rattle.rows.specs.Rows.{holds_identity, place_of_identity, in_use, has_address, holds_address, has_identity, row_at, no_row}
use Rattle.rows.specs.declared.Row.{Row}
use Rattle.free.specs.Free.{is_free, lowest_free, address_for, full, no_free_address, no_ticket_left, can_assign}

module _ (f : Facts) (rows : List Row) where
  pub zero_not_free : is_free f rows 0 ≡ false
  unfolding is_free is_open allows class_of
  zero_not_free = refl

  pub lowest_none : eqb (lowest_free f rows) 0 ≡ no_free_address f rows
  unfolding lowest_free no_free_address
  lowest_none = first_none (is_free f rows) zero_not_free 0x00 128

-- the lowest free address, where there is one and where there is none
module _ (f : Facts) (rows : List Row) where
  pub some_free : (a : ℕ) → a ≡ lowest_free f rows → is_free f rows a ≡ true → false ≡ no_free_address f rows
  some_free a e h = sym (ne_eqb a 0 (λ z. true≢false (sym (rw z at h) ∙ zero_not_free f rows))) ∙ rw e (lowest_none f rows)

  pub none_free : 0 ≡ lowest_free f rows → true ≡ no_free_address f rows
  none_free e = rw (← lowest_none f rows, ← e)

-- an identity is held where it has a place, and is offered the address of the row there
pub held_place : (rows : List Row) (id : ℕ) → length rows ≡ 32 → holds_identity id rows ≡ ltb (place_of_identity id rows) 32
held_place rows id long = rw (any-find (has_identity id) rows, long)

module _ (f : Facts) (rows : List Row) (id place : ℕ) (e : place ≡ place_of_identity id rows) (long : length rows ≡ 32) where
  pub address_known : place < 32 → (row_at rows place).address ≡ address_for f rows id
  unfolding address_for
  address_known h = rw (held_place rows id long, ← e, lt-ltb place 32 h)

-- the ways to an identity's address
module _ (f : Facts) (rows : List Row) (id : ℕ) where
  pub address_found : {row : Row} → Some row ≡ find (has_identity id) rows → row.address ≡ address_for f rows id
  unfolding address_for
  address_found h = let e = find_some (has_identity id) no_row rows h in rw (e.0, e.1)

  pub address_new : None ≡ find (has_identity id) rows → (a : ℕ) → a ≡ lowest_free f rows → a ≡ address_for f rows id
  unfolding address_for
  address_new h a g = rw (find_none (has_identity id) no_row rows h) g

-- ---- marks for the addresses that the rows hold

-- place a says whether one of the first i rows holds a
pub record Marked (rows : List Row) (marks : List Bool) (i : ℕ) : Type 0 where
  pub rows_long : length rows ≡ 32
  pub long : length marks ≡ 128
  pub inside : i ≤ 32
  pub same : (a : ℕ) → a < 128 → get_or marks a false ≡ any (has_address a) (take i rows)

either_first : (a b c : Bool) → (b || (a || c)) ≡ (a || (b || c))
either_first true b c = or-true b
either_first false b c = refl

any_one_more : {A : Type 0} (p : A → Bool) (x : A) (l : List A) → any p (l ++ (x ∷ [])) ≡ (p x || any p l)
any_one_more p x [] = refl
any_one_more p x (y ∷ ys) = rw (any_one_more p x ys) (either_first (p x) (p y) (any p ys))

pub marks_start : {rows : List Row} → length rows ≡ 32 → Marked rows (replicate 128 false) 0
marks_start e = record { rows_long = e; long = length-replicate 128 false; inside = omega arith; same = λ a h. get_or-replicate 128 a false false h }

-- a row's address that is to be marked has a place
pub marks_fits : (rows : List Row) (i : ℕ) → (in_use (row_at rows i) && ltb (row_at rows i).address 128) ≡ true → (row_at rows i).address < 128
marks_fits rows i e = ltb-true (row_at rows i).address 128 (both (in_use (row_at rows i)) (ltb (row_at rows i).address 128) e).1

module _ {rows : List Row} {marks : List Bool} {i : ℕ} where
  -- one row more
  marks_more : Marked rows marks i → i < 32 → (a : ℕ) → a < 128
      → any (has_address a) (take (i + 1) rows) ≡ (has_address a (row_at rows i) || get_or marks a false)
  marks_more v b a h =
      rw (add-one i, take-suc rows i no_row (omega (arith, v.rows_long)), v.same a h) (any_one_more (has_address a) (row_at rows i) (take i rows))

  -- the next row holds an address: it is marked
  pub marks_turn : Marked rows marks i → i < 32 → (in_use (row_at rows i) && ltb (row_at rows i).address 128) ≡ true
      → Marked rows (set marks (row_at rows i).address true) (i + 1)
  marks_turn v b e =
      record { rows_long = v.rows_long; long = length-set marks _ true ∙ v.long; inside = omega arith; same = λ a h. go a h (eqb x a) refl }
    where
      x : ℕ
      x = (row_at rows i).address

      used : in_use (row_at rows i) ≡ true
      used = (both (in_use (row_at rows i)) (ltb x 128) e).0

      go : (a : ℕ) → a < 128 → (t : Bool) → eqb x a ≡ t → get_or (set marks x true) a false ≡ any (has_address a) (take (i + 1) rows)
      go a h true q = rw (marks_more v b a h, used, q, eqb-true x a q, get_or-set_same marks a true false (omega (arith, v.long)))
      go a h false q = rw (marks_more v b a h, used, q) (get_or-set_other marks x a true false (λ p. eqb-false x a q (sym p)))

  -- it holds none: the marks stay
  pub marks_skip : Marked rows marks i → i < 32 → (in_use (row_at rows i) && ltb (row_at rows i).address 128) ≡ false → Marked rows marks (i + 1)
  marks_skip v b e = record { rows_long = v.rows_long; long = v.long; inside = omega arith; same = λ a h. go a h (in_use (row_at rows i)) refl }
    where
      x : ℕ
      x = (row_at rows i).address

      go : (a : ℕ) → a < 128 → (t : Bool) → in_use (row_at rows i) ≡ t → get_or marks a false ≡ any (has_address a) (take (i + 1) rows)
      go a h true q = rw (marks_more v b a h, q, ne_eqb x a (λ p. omega (arith, p, ltb-false x 128 (rw q at e))))
      go a h false q = rw (marks_more v b a h, q)

  -- all rows are passed
  pub marks_ended : Marked rows marks i → 32 ≤ i → (a : ℕ) → a < 128 → get_or marks a false ≡ holds_address a rows
  marks_ended v b a h = rw (v.same a h, take_all i rows (omega (arith, v.rows_long)))

-- ---- the lowest free address, by the marks

-- a test of the addresses that reads the marks
abbrev pub open_unmarked : Facts → List Bool → ℕ → Bool
open_unmarked f marks a = is_open f a && not (get_or marks a false)

-- tests that agree on the numbers of a row find the same
first_same : (p q : ℕ → Bool) (a k : ℕ) → ((n : ℕ) → n < a + k → p n ≡ q n) → first p a k ≡ first q a k
unfolding first
first_same p q a zero h = refl
first_same p q a (suc k) h = rw (h a (omega arith), first_same p q (suc a) k (λ n b. h n (omega arith)))

pub lowest_by_marks : (f : Facts) (rows : List Row) (marks : List Bool) → ((a : ℕ) → a < 128 → get_or marks a false ≡ holds_address a rows)
    → first (open_unmarked f marks) 0 128 ≡ lowest_free f rows
unfolding lowest_free is_free
lowest_by_marks f rows marks h = first_same (open_unmarked f marks) (is_free f rows) 0 128 (λ n b. rw (h n b))

-- an address that is open and not marked is free
pub open_free : (f : Facts) (rows : List Row) (marks : List Bool) → ((a : ℕ) → a < 128 → get_or marks a false ≡ holds_address a rows)
    → (a : ℕ) → a < 128 → open_unmarked f marks a ≡ true → is_free f rows a ≡ true
unfolding is_free
open_free f rows marks h a b e = rw (← h a b) e

-- ---- whether one row more can be given

module _ (f : Facts) (rows : List Row) where
  pub no_room : full rows ≡ true → false ≡ can_assign f rows
  unfolding can_assign
  no_room e = rw e

  pub no_ticket : no_ticket_left f ≡ true → false ≡ can_assign f rows
  unfolding can_assign
  no_ticket e = rw (e, and-false)

  pub can_by_address : full rows ≡ false → no_ticket_left f ≡ false → (none : Bool) → none ≡ no_free_address f rows → not none ≡ can_assign f rows
  unfolding can_assign
  can_by_address e t none g = rw (e, t, ← g, and-true)
