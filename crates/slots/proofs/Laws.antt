-- Laws of the slots: numbers above 7Fh, open addresses, the two bytes that decide whether a legacy set is right, facts that were checked, the slot test's ways.
use Prim.Native.Nat.{ℕ, ◌+◌, ◌*◌, ◌/◌, ◌%◌, ◌≤◌, ◌<◌}
use mathlib.Core.Path.{◌≡◌, refl, sym, ap, ◌∙◌}
use mathlib.Core.Bool.{cond, Bool, true, false, not, ◌&&◌, ◌||◌, or-true, and-false, true≢false}
use mathlib.Core.List.{List, [], ◌∷◌}
use native.Mathlib.Omega.{arith}
use lib.Dec.{eqb, ltb, leb}
use lib.ListN.{length, get_or, get_or-eq_default}
use borrow.Author.Tests.{eq-eqb, ne_eqb, eqb-true, ltb-true, ltb-false, leb-false, le-leb, lt-ltb, le-ltb}
use Rattle.lists.specs.Lists.{all}
use Rattle.lists.specs.Numbers.{numbers, within}
use Rattle.lists.proofs.Bools.{both, and, agree}
use Rattle.lists.proofs.Numbers.{all-numbers, all_numbers_at, within_below, within_above, one_of_above}
use Rattle.lists.proofs.Bits.{bit_of_zero, bits_none}
use Rattle.slots.specs.Slots.{Checked, class_of, allows, is_legacy, lies_right, legacy_right, facts_of, refused_facts, facts_right, checked, is_open, slot_test}
use Rattle.slots.specs.declared.Facts.{Facts}

-- a number above 7Fh is no address
pub class_above : (a : ℕ) → 128 ≤ a → class_of a ≡ 7
unfolding class_of
class_above a h =
    rw (
      one_of_above (0x00 ∷ 0x01 ∷ 0x02 ∷ 0x7E ∷ []) 128 a refl h,
      one_of_above (0x3E ∷ 0x5E ∷ 0x6E ∷ 0x76 ∷ 0x7A ∷ 0x7C ∷ 0x7F ∷ []) 128 a refl h,
      ne_eqb a 0x03 (λ e. omega (arith, e)),
      within_above 0x04 0x07 a (omega arith),
      within_above 0x08 0x3D a (omega arith),
      within_above 0x3F 0x5D a (omega arith),
      within_above 0x5F 0x6D a (omega arith),
      within_above 0x6F 0x75 a (omega arith),
      ne_eqb a 0x77 (λ e. omega (arith, e)),
      one_of_above (0x78 ∷ 0x79 ∷ 0x7B ∷ []) 128 a refl h,
      ne_eqb a 0x7D (λ e. omega (arith, e)),
    )

-- ---- an open address

module _ (f : Facts) (a : ℕ) (h : is_open f a ≡ true) where
  -- is a number up to 7Fh
  pub open_small : a ≤ 127
  unfolding is_open allows
  open_small = go (ltb a 128) refl
    where
      go : (b : Bool) → ltb a 128 ≡ b → a ≤ 127
      go true e = omega (arith, ltb-true a 128 e)
      go false e = absurd (true≢false (sym (rw (class_above a (ltb-false a 128 e)) at h)))

  -- is not 0
  pub open_not_zero : a ≡ 0 → ⊥
  unfolding is_open allows class_of
  open_not_zero e = true≢false (sym (rw e at h))

  -- and is not 7Eh
  pub open_not_broadcast : a ≡ 0x7E → ⊥
  unfolding is_open allows class_of
  open_not_broadcast e = true≢false (sym (rw e at h))

-- ---- a right legacy set, by its first and last byte

module _ (legacy : List ℕ) where
  -- a byte that is 0 holds no legacy address
  not_legacy : (a : ℕ) → get_or legacy (a / 8) 0 ≡ 0 → is_legacy legacy a ≡ false
  unfolding is_legacy
  not_legacy a e = rw e (bit_of_zero (a % 8))

  -- nor is there one above 7Fh
  pub legacy_above : (a : ℕ) → length legacy ≡ 16 → 128 ≤ a → is_legacy legacy a ≡ false
  legacy_above a e h = not_legacy a (get_or-eq_default legacy 0 {n = a / 8} (omega arith))

  -- and a byte that holds none is 0
  empty_byte : (i : ℕ) → get_or legacy i 0 < 256 → ((k : ℕ) → k < 8 → is_legacy legacy (i * 8 + k) ≡ false) → get_or legacy i 0 ≡ 0
  unfolding is_legacy
  empty_byte i small h =
      bits_none 8 (get_or legacy i 0) small
      (λ k b. let m : (i * 8 + k) % 8 ≡ k = omega arith in let d : (i * 8 + k) / 8 ≡ i = omega arith in rw (m, d) at (h k b))

  -- an address outside 08h to 77h lies right only if it is not legacy
  outside : (a : ℕ) → lies_right legacy a ≡ true → within 0x08 0x77 a ≡ false → is_legacy legacy a ≡ false
  outside a h o = go (is_legacy legacy a) (rw o at h)
    where
      go : (b : Bool) → (not b || false) ≡ true → b ≡ false
      go true e = sym e
      go false e = refl

  -- with bytes 0 and 15 empty every address lies right
  lies_right_lem : get_or legacy 0 0 ≡ 0 → get_or legacy 15 0 ≡ 0 → (a : ℕ) → a < 128 → lies_right legacy a ≡ true
  lies_right_lem first last a h = go (ltb a 8) refl (leb a 0x77) refl
    where
      empty : get_or legacy (a / 8) 0 ≡ 0 → lies_right legacy a ≡ true
      empty z = let none : is_legacy legacy a ≡ false = not_legacy a z in rw none

      go : (b : Bool) → ltb a 8 ≡ b → (d : Bool) → leb a 0x77 ≡ d → lies_right legacy a ≡ true
      go true e d f = let z : a / 8 ≡ 0 = omega (arith, ltb-true a 8 e) in empty (rw z first)
      go false e true f = rw (le-leb 0x08 a (ltb-false a 8 e), f) (or-true (not (is_legacy legacy a)))
      go false e false f = let z : a / 8 ≡ 15 = omega (arith, leb-false a 0x77 f) in empty (rw z last)

  module _ (long : length legacy ≡ 16) (small0 : get_or legacy 0 0 < 256) (small15 : get_or legacy 15 0 < 256) where
    pub legacy_bytes : (eqb (get_or legacy 0 0) 0 && eqb (get_or legacy 15 0) 0) ≡ legacy_right legacy
    unfolding legacy_right
    legacy_bytes = rw (eq-eqb (length legacy) 16 long) (agree _ _ to from)
      where
        to : (eqb (get_or legacy 0 0) 0 && eqb (get_or legacy 15 0) 0) ≡ true → all (lies_right legacy) (numbers 0 128) ≡ true
        to h =
            let t = both (eqb (get_or legacy 0 0) 0) (eqb (get_or legacy 15 0) 0) h in
            all-numbers (lies_right legacy) 0 128
            (λ a l u. lies_right_lem (eqb-true (get_or legacy 0 0) 0 t.0) (eqb-true (get_or legacy 15 0) 0 t.1) a (omega arith))

        from : all (lies_right legacy) (numbers 0 128) ≡ true → (eqb (get_or legacy 0 0) 0 && eqb (get_or legacy 15 0) 0) ≡ true
        from h =
            let at : (a : ℕ) → a < 128 → lies_right legacy a ≡ true = λ a b. all_numbers_at (lies_right legacy) 0 128 h a (omega arith) (omega arith) in
            let low : get_or legacy 0 0 ≡ 0 = empty_byte 0 small0 (λ k b. outside (0 * 8 + k) (at (0 * 8 + k) (omega arith)) (within_below 0x08 0x77 (0 * 8 + k) (omega arith))) in
            let high : get_or legacy 15 0 ≡ 0 = empty_byte 15 small15 (λ k b. outside (15 * 8 + k) (at (15 * 8 + k) (omega arith)) (within_above 0x08 0x77 (15 * 8 + k) (omega arith))) in
            and (eq-eqb _ _ low) (eq-eqb _ _ high)

-- ---- facts that were checked

module _ (f : Facts) where
  pub checked_yes : facts_right f ≡ true → record { right = true; facts = f } ≡ checked f
  unfolding checked
  checked_yes h = rw h

  pub checked_no : facts_right f ≡ false → record { right = false; facts = refused_facts } ≡ checked f
  unfolding checked
  checked_no h = rw h

-- a legacy set that isn't 16 bytes is not right
pub legacy_length : (flags : ℕ) (legacy : List ℕ) (last : ℕ) → (length legacy ≡ 16 → ⊥) → facts_right (facts_of flags legacy last) ≡ false
unfolding facts_right legacy_right
legacy_length flags legacy last h = rw (ne_eqb (length legacy) 16 h, and-false)

-- ---- the slot test's three ways, over the facts as they were checked

module _ (f : Facts) (a : ℕ) where
  -- whether they were right
  was_right : {r : Checked} → r ≡ checked f → r.right ≡ facts_right f
  unfolding checked
  was_right e = ap (λ (q : Checked). q.right) e

  pub slot_wrong_facts : {n : ℕ} → record { right = false; facts = refused_facts } ≡ checked f → n ≡ cond (facts_right f) 0 1 → record { refusal = n; «open» = false } ≡ slot_test f a
  unfolding slot_test
  slot_wrong_facts e k = rw (k, ← was_right e)

  pub slot_too_high : {g : Facts} → record { right = true; facts = g } ≡ checked f → 127 < a → record { refusal = 2; «open» = false } ≡ slot_test f a
  unfolding slot_test
  slot_too_high e b = rw (← was_right e, lt-ltb 127 a b)

  pub slot_told : {g : Facts} → record { right = true; facts = g } ≡ checked f → a ≤ 127 → (o : Bool) → o ≡ is_open g a → record { refusal = 0; «open» = o } ≡ slot_test f a
  unfolding slot_test
  slot_told e b o k =
      let same = ap (λ (q : Checked). q.facts) (e ∙ sym (checked_yes f (sym (was_right e)))) in
      rw (← was_right e, le-ltb 127 a b, k, same)
