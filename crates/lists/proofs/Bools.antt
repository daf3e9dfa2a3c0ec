-- Tests taken apart and put together, and congruences for `search same`: a result that is made of callees' results is the definition
-- made of theirs, so that a straight-line function over calls is proved with no path into `c`.
use Prim.Native.Nat.{ℕ}
use mathlib.Core.Path.{◌≡◌, refl, ap, ◌∙◌, sym}
use mathlib.Core.Bool.{Bool, true, false, cond, not, ◌&&◌, ◌||◌, and-eq-true_iff, or-true, true≢false}
use mathlib.Core.Logic.{◌↔◌}
use lib.Dec.{eqb, ltb, leb}
use borrow.Author.Tests.{lt-ltb, le-ltb, eq-eqb, ne_eqb, eqb-true, eqb-false}

-- ---- tests

pub both : (a b : Bool) → (a && b) ≡ true → (a ≡ true) × (b ≡ true)
both a b h = (and-eq-true_iff a b).0 h

pub and : {a b : Bool} → a ≡ true → b ≡ true → (a && b) ≡ true
and p q = rw (p, q)

-- two tests agree where each passes if the other does
pub agree : (a b : Bool) → (a ≡ true → b ≡ true) → (b ≡ true → a ≡ true) → a ≡ b
agree true b f g = sym (f refl)
agree false true f g = g refl
agree false false f g = refl

pub or_right : (a : Bool) {b : Bool} → b ≡ true → (a || b) ≡ true
or_right a e = rw e (or-true a)

pub neither : (a b : Bool) → ((a || b) ≡ false) ↔ ((a ≡ false) × (b ≡ false))
neither true b = (λ h. absurd (true≢false h), λ h. h.0)
neither false b = (λ h. (refl, h), λ h. h.1)

-- a test that is asked only where another passes
pub where_so : (a : Bool) {b : Bool} → (a ≡ true → b ≡ true) → (not a || b) ≡ true
where_so true f = f refl
where_so false f = refl

pub so_there : (a : Bool) {b : Bool} → (not a || b) ≡ true → a ≡ true → b ≡ true
so_there a h e = rw e at h

-- and one that fails there
pub not_both : (a b : Bool) → not (a && b) ≡ true → a ≡ true → not b ≡ true
not_both a b h e = rw e at h

-- equal numbers are so the other way round
pub eqb_sym : (m n : ℕ) → eqb m n ≡ eqb n m
eqb_sym m n = agree (eqb m n) (eqb n m) (λ e. eq-eqb n m (sym (eqb-true m n e))) (λ e. eq-eqb m n (sym (eqb-true n m e)))

-- a test that does not fail passes
pub not_failed : (b : Bool) → (b ≡ false → ⊥) → b ≡ true
not_failed true h = refl
not_failed false h = absurd (h refl)

-- what a callee's result is by its contract, it is by the branch: for `search`, with a call's `.ensures` and a test's fact in reach
pub via : {A : Type 0} {x y z : A} → x ≡ y → x ≡ z → y ≡ z
via p q = sym p ∙ q

-- the same after `if !f(..)`
pub via_not : {x y z : Bool} → x ≡ y → not x ≡ z → not y ≡ z
via_not p q = rw (← p) q

-- ---- chains of tests

-- what stands beside a test that passes
pub here : {A : Type 0} {b : Bool} {x r : A} (y : A) → b ≡ true → r ≡ x → r ≡ cond b x y
here y p q = rw (p, q)

-- what comes after one that does not
pub next : {A : Type 0} {b : Bool} (x : A) {y r : A} → b ≡ false → r ≡ y → r ≡ cond b x y
next x p q = rw (p, q)

-- for `search chain`: code that returns at the first test that passes gives what a definition by the same tests gives
pub ruleset chain = (here, next, via, via_not, lt-ltb, le-ltb, eq-eqb, ne_eqb)

-- what holds of both ways holds of the choice
pub cond_by : {A : Type 0} (P : A → Type 0) (b : Bool) {x y : A} → (b ≡ true → P x) → (b ≡ false → P y) → P (cond b x y)
cond_by P true f g = f refl
cond_by P false f g = g refl

-- a chain of refusals comes to 0 where none of its tests passes: for `simp not-refused at h`
pub not-refused : (t : Bool) (k more : ℕ) → eqb k 0 ≡ false → (cond t k more ≡ 0) ↔ ((t ≡ false) × (more ≡ 0))
not-refused true k more e = (λ h. absurd (eqb-false k 0 e h), λ h. absurd (true≢false h.0))
not-refused false k more e = (λ h. (refl, h), λ h. h.1)

-- ---- congruences

pub and_same : {a b a' b' : Bool} → a ≡ a' → b ≡ b' → (a && b) ≡ (a' && b')
and_same p q = rw (p, q)

pub or_same : {a b a' b' : Bool} → a ≡ a' → b ≡ b' → (a || b) ≡ (a' || b')
or_same p q = rw (p, q)

pub not_same : {a a' : Bool} → a ≡ a' → not a ≡ not a'
not_same p = ap not p

pub ltb_same : {m n m' n' : ℕ} → m ≡ m' → n ≡ n' → ltb m n ≡ ltb m' n'
ltb_same p q = rw (p, q)

pub eqb_same : {m n m' n' : ℕ} → m ≡ m' → n ≡ n' → eqb m n ≡ eqb m' n'
eqb_same p q = rw (p, q)

pub leb_same : {m n m' n' : ℕ} → m ≡ m' → n ≡ n' → leb m n ≡ leb m' n'
leb_same p q = rw (p, q)

pub cond_same : {A : Type 0} {a a' : Bool} {x y x' y' : A} → a ≡ a' → x ≡ x' → y ≡ y' → cond a x y ≡ cond a' x' y'
cond_same p q r = rw (p, q, r)

pub ruleset same = (and_same, or_same, not_same, ltb_same, eqb_same, leb_same, cond_same)
