-- How the rounds go on: the eight identity bytes of an offer, the address byte, and what stands behind it.
use Prim.Native.Nat.{ℕ, suc, ◌+◌, ◌-◌, ◌<◌, ◌≤◌}
use mathlib.Core.Path.{◌≡◌, refl, ap, ◌∙◌}
use mathlib.Core.Bool.{true, false, not}
use mathlib.Core.List.{List, []}
use native.Mathlib.Omega.{arith}
use lib.ListN.{length}
use borrow.Author.Tests.{ne_eqb, not-true, not-false}
use Rattle.std.specs.Prelude.{Result}
use Rattle.std.specs.Result.{IsErrAnd}
use Rattle.parity.specs.Cells.{is_identity}
use Rattle.readings.specs.declared.Joining.{Joining}
use Rattle.readings.specs.declared.Reading.{Reading}
use Rattle.readings.specs.Readings.{assigned}
use Rattle.reader.specs.Points.{again, round, offer, behind, ending, next, is_offered}
use Rattle.reader.specs.declared.Fault.{Fault}
use Rattle.reader.specs.Read.{Answer, fault_answer, answer_of, breaks, from, Stands}
use Rattle.reader.proofs.Laws.{stuck, onward, broken_off}

-- ---- an offer

-- k identity bytes were heard: what the cells say from there on is what they say from the first on, and stood k places before
pub record Heard (j : Joining) (n : ℕ) (l₀ : List ℕ) (at₀ : ℕ) (l : List ℕ) (at k : ℕ) : Type 0 where
  pub same : from (offer j n (8 - k)) l at ≡ from (offer j n 8) l₀ at₀
  pub place : at ≡ at₀ + k
  pub left : length l + k ≡ length l₀

module _ (j : Joining) (n : ℕ) (l₀ : List ℕ) (at₀ : ℕ) where
  pub heard_start : Heard j n l₀ at₀ l₀ at₀ 0
  heard_start = record { same = refl; place = omega arith; left = omega arith }

  -- the address byte follows eight of them
  pub heard_all : {l : List ℕ} {at k : ℕ} → Heard j n l₀ at₀ l at k → 8 ≤ k → k ≤ 8 → {a : Answer} → a ≡ from (offer j n 0) l at
      → a ≡ from (offer j n 8) l₀ at₀
  heard_all {k = k} v most few h = let none : 8 - k ≡ 0 = omega arith in h ∙ (rw none at v.same)

  module _ {l : List ℕ} {at k : ℕ} (v : Heard j n l₀ at₀ l at k) (few : k < 8) where
    one_more : 8 - k ≡ suc (8 - (k + 1))
    one_more = omega arith

    -- where the record breaks off among them
    pub heard_none : (r : Result Reading Fault) (f : Fault) → IsErrAnd r (λ e. e ≡ f) → (l ≡ []) × (fault_answer f ≡ breaks at)
        → answer_of r ≡ from (offer j n 8) l₀ at₀
    heard_none r f h off = broken_off (offer j n (8 - k)) l at r f h off ∙ v.same

    module _ {x after : ℕ} {more : List ℕ} (step : Stands l at x more after) where
      pub heard_turn : not (is_identity x) ≡ false → Heard j n l₀ at₀ more after (k + 1)
      unfolding next
      heard_turn e =
          record {
            same = onward (offer j n (suc (8 - (k + 1)))) at step (offer j n (8 - (k + 1))) refl (rw (not-false (is_identity x) e)) ∙ (rw one_more at v.same);
            place = omega (arith, v.place, step.second);
            left = omega (arith, v.left, ap (λ (c : List ℕ). length c) step.first);
          }

      pub heard_other : not (is_identity x) ≡ true → {a : Answer} → a ≡ breaks at → a ≡ from (offer j n 8) l₀ at₀
      unfolding next
      heard_other e h = stuck (offer j n (suc (8 - (k + 1)))) at step (rw (not-true (is_identity x) e)) h ∙ (rw one_more at v.same)

-- ---- behind an offer

module _ (j : Joining) (n : ℕ) {l more : List ℕ} (at : ℕ) {after x : ℕ} {a : Answer} (step : Stands l at x more after) where
  pub not_offered : not (is_offered x) ≡ true → a ≡ breaks at → a ≡ from (offer j n 0) l at
  unfolding next
  not_offered e h = stuck (offer j n 0) at step (rw (not-true (is_offered x) e)) h

  module _ (e : not (is_offered x) ≡ false) where
    pub offered : a ≡ from (behind j (n + 1)) more after → a ≡ from (offer j n 0) l at
    unfolding next
    offered h = onward (offer j n 0) at step (behind j (n + 1)) h (rw (not-false (is_offered x) e))

    -- STOP there is the end of the rounds; any other cell is read as a repeated START
    module _ {y beyond : ℕ} {last : List ℕ} (then : Stands more after y last beyond) where
      pub offered_last : {q : Reading} → y ≡ 514 → q ≡ assigned j (n + 1) true → a ≡ from (ending q) more after → a ≡ from (offer j n 0) l at
      unfolding from next
      offered_last f same h =
          let ends : from (ending (assigned j (n + 1) true)) more after ≡ from (behind j (n + 1)) more after = rw (then.first, f) in
          offered (h ∙ rw same ends)

      pub offered_again : (y ≡ 514 → ⊥) → a ≡ from (again (round j (n + 1))) more after → a ≡ from (offer j n 0) l at
      unfolding from next
      offered_again f h =
          let goes : from (again (round j (n + 1))) more after ≡ from (behind j (n + 1)) more after = rw (then.first, ne_eqb y 514 f) in
          offered (h ∙ goes)
