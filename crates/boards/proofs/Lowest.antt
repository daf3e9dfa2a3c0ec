-- What the wire hears in its last k bits is the lowest of the k low bits of the identities still in, and those that have it are left.
use mathlib.Core.Path.{◌≡◌, refl, sym, ap, ap₂, ◌∙◌}
use mathlib.Core.Bool.{Bool, true, false, cond, ◌&&◌, ◌||◌, and-true, true≢false, false≢true}
use mathlib.Core.List.{List, [], ◌∷◌, zip_with}
use Prim.Native.Nat.{ℕ, zero, suc, ◌+◌, ◌*◌, ◌/◌, ◌%◌, ◌^◌, ◌<◌, min}
use native.Mathlib.Nat.{not-suc-le-zero, pow-suc, mod-lt, mod-one, mul_comm, mul_assoc, add-mul, le_of_suc-le-suc, suc_inj, add_assoc}
use native.Mathlib.Omega.{arith}
use native.Mathlib.Numerals.{one-add}
use borrow.Author.Tests.{eq-eqb, ne_eqb, eqb-true, le-leb}
use lib.ListN.{length}
use lib.Dec.{eqb, leb}
use lib.Pow.{pow_pos, mod-pow-add}
use Rattle.lists.proofs.Bools.{agree, neither}
use Rattle.lists.proofs.Zips.{zip_long}
use Rattle.boards.specs.declared.Board.{Board}
use Rattle.boards.specs.declared.Heard.{Heard}
use Rattle.boards.specs.Wire.{anyone, sent, sends_zero, wire_bit, keeps_in, stay_in, hear}

-- the lowest of the k low bits of the identities still in; 2 ^ k, which is nobody's, where none is in
unfoldable pub lowest : ℕ → List Board → List Bool → ℕ
lowest k [] fs = 2 ^ k
lowest k (b ∷ bs) [] = 2 ^ k
lowest k (b ∷ bs) (f ∷ fs) = cond f (min (b.identity % 2 ^ k) (lowest k bs fs)) (lowest k bs fs)

-- those still in whose k low bits are m
abbrev has : ℕ → ℕ → Board → Bool → Bool
has k m b f = f && eqb (b.identity % 2 ^ k) m

-- the flags of those
abbrev pub those : ℕ → ℕ → List Board → List Bool → List Bool
those k m bs fs = zip_with (has k m) bs fs

-- what a round heard, and who is left
abbrev pub heard_as : ℕ → List Bool → Heard
heard_as i fs = record { identity = i; still = fs }

-- some board still in sends 0 as bit k
abbrev any_zero : ℕ → List Board → List Bool → Bool
any_zero k bs fs = anyone (zip_with (sends_zero k) bs fs)

-- ---- one bit more

-- one low bit more is bit k above the k low ones
mod_more : (k x : ℕ) → x % 2 ^ suc k ≡ (x / 2 ^ k % 2) * 2 ^ k + x % 2 ^ k
mod_more k x = ap (λ (n : ℕ). x % 2 ^ n) (sym (one-add k)) ∙ mod-pow-add x 1 k

-- a bit is 0 or 1
not_two : {A : Type 0} (s : ℕ) → suc (suc s) < 2 → A
not_two s h = absurd (not-suc-le-zero (le_of_suc-le-suc (le_of_suc-le-suc h)))

-- one board that is in: s its bit k, x its bits below
zero_turn : (s x p l m : ℕ) → s < 2 → x < p → min l p ≡ m → min (min (s * p + x) l) p ≡ cond (leb s 0) (min x m) m
zero_turn zero x p l m h i e = omega arith
zero_turn (suc zero) x p l m h i e = omega arith
zero_turn (suc (suc s)) x p l m h i e = not_two s h

-- it or one behind it sends 0: the lowest is below p
below_turn : (s x p l : ℕ) (z : Bool) → s < 2 → x < p → (z ≡ true → l < p) → (eqb s 0 || z) ≡ true → min (s * p + x) l < p
below_turn zero x p l z h i f e = omega arith
below_turn (suc zero) x p l z h i f e = omega (arith, f e)
below_turn (suc (suc s)) x p l z h i f e = not_two s h

-- neither it nor one behind it sends 0: all have the bit
one_turn : (s x p l m : ℕ) (z : Bool) → s < 2 → (z ≡ false → l ≡ p + m) → (eqb s 0 || z) ≡ false → min (s * p + x) l ≡ p + min x m
one_turn zero x p l m z h f e = absurd (true≢false e)
one_turn (suc zero) x p l m z h f e = omega (arith, f e)
one_turn (suc (suc s)) x p l m z h f e = not_two s h

-- some board sends 0: the lowest is below 2 ^ k
below : (k : ℕ) (bs : List Board) (fs : List Bool) → any_zero k bs fs ≡ true → lowest (suc k) bs fs < 2 ^ k
unfolding zip_with lowest
below k [] fs e = absurd (false≢true e)
below k (b ∷ bs) [] e = absurd (false≢true e)
below k (b ∷ bs) (false ∷ fs) e = below k bs fs e
below k (b ∷ bs) (true ∷ fs) e =
    rw (mod_more k b.identity)
    (below_turn (sent k b) (b.identity % 2 ^ k) (2 ^ k) _ _ (omega arith) (mod-lt b.identity (pow_pos k)) (below k bs fs) e)

-- those that sent 1 leave: what they have below does not count
zeros : (k : ℕ) (bs : List Board) (fs : List Bool) → min (lowest (suc k) bs fs) (2 ^ k) ≡ lowest k bs (stay_in k 0 bs fs)
unfolding lowest zip_with
zeros k [] fs = rw (pow-suc 2 k) (omega arith)
zeros k (b ∷ bs) [] = rw (pow-suc 2 k) (omega arith)
zeros k (b ∷ bs) (false ∷ fs) = zeros k bs fs
zeros k (b ∷ bs) (true ∷ fs) =
    rw (mod_more k b.identity)
    (zero_turn (sent k b) (b.identity % 2 ^ k) (2 ^ k) _ _ (omega arith) (mod-lt b.identity (pow_pos k)) (zeros k bs fs))

-- nobody sends 0: all have bit k
ones : (k : ℕ) (bs : List Board) (fs : List Bool) → any_zero k bs fs ≡ false → lowest (suc k) bs fs ≡ 2 ^ k + lowest k bs fs
unfolding zip_with lowest
ones k [] fs e = rw (pow-suc 2 k) (omega arith)
ones k (b ∷ bs) [] e = rw (pow-suc 2 k) (omega arith)
ones k (b ∷ bs) (false ∷ fs) e = ones k bs fs e
ones k (b ∷ bs) (true ∷ fs) e =
    rw (mod_more k b.identity)
    (one_turn (sent k b) (b.identity % 2 ^ k) (2 ^ k) _ _ _ (omega arith) (ones k bs fs) e)

-- ---- who is left

-- one flag: s its bit k, x its bits below
has_zero : (f : Bool) (s x p m : ℕ) → s < 2 → x < p → m < p → (f && eqb (s * p + x) m) ≡ ((f && leb s 0) && eqb x m)
has_zero false s x p m h i j = refl
has_zero true zero x p m h i j = let e : 0 * p + x ≡ x = omega arith in rw e
has_zero true (suc zero) x p m h i j = ne_eqb (1 * p + x) m (omega arith)
has_zero true (suc (suc s)) x p m h i j = not_two s h

-- a bit above that both have does not matter
eqb_shift : (p x m : ℕ) → eqb (1 * p + x) (p + m) ≡ eqb x m
eqb_shift p x m =
    agree _ _ (λ e. eq-eqb x m (omega (arith, eqb-true (1 * p + x) (p + m) e)))
    (λ e. eq-eqb (1 * p + x) (p + m) (omega (arith, eqb-true x m e)))

-- the same where nobody sends 0
has_one : (s x p m : ℕ) (z : Bool) → s < 2 → (eqb s 0 || z) ≡ false → (eqb (s * p + x) (p + m)) ≡ ((true && leb s 1) && eqb x m)
has_one zero x p m z h e = absurd (true≢false e)
has_one (suc zero) x p m z h e = eqb_shift p x m
has_one (suc (suc s)) x p m z h e = not_two s h

-- some board sends 0: those that have the lowest are among those that stay
left_zero : (k m : ℕ) → m < 2 ^ k → (bs : List Board) (fs : List Bool) → those (suc k) m bs fs ≡ those k m bs (stay_in k 0 bs fs)
unfolding zip_with
left_zero k m h [] fs = refl
left_zero k m h (b ∷ bs) [] = refl
left_zero k m h (b ∷ bs) (f ∷ fs) =
    ap₂ {C = List Bool} ◌∷◌
    (rw (mod_more k b.identity) (has_zero f (sent k b) (b.identity % 2 ^ k) (2 ^ k) m (omega arith) (mod-lt b.identity (pow_pos k)) h))
    (left_zero k m h bs fs)

-- nobody sends 0: those that have the lowest have it below their bit k
left_one : (k m : ℕ) (bs : List Board) (fs : List Bool) → any_zero k bs fs ≡ false
    → those (suc k) (2 ^ k + m) bs fs ≡ those k m bs (stay_in k 1 bs fs)
unfolding zip_with
left_one k m [] fs e = refl
left_one k m (b ∷ bs) [] e = refl
left_one k m (b ∷ bs) (false ∷ fs) e = ap (λ (l : List Bool). false ∷ l) (left_one k m bs fs e)
left_one k m (b ∷ bs) (true ∷ fs) e =
    ap₂ {C = List Bool} ◌∷◌
    (rw (mod_more k b.identity) (has_one (sent k b) (b.identity % 2 ^ k) (2 ^ k) m _ (omega arith) e))
    (left_one k m bs fs ((neither (eqb (sent k b) 0) (any_zero k bs fs)).0 e).1)

-- nobody leaves where the wire is 1
all_stay : (k : ℕ) (bs : List Board) (fs : List Bool) → lowest k bs (stay_in k 1 bs fs) ≡ lowest k bs fs
unfolding zip_with lowest
all_stay k [] fs = refl
all_stay k (b ∷ bs) [] = refl
all_stay k (b ∷ bs) (false ∷ fs) = all_stay k bs fs
all_stay k (b ∷ bs) (true ∷ fs) =
    let le : leb (sent k b) 1 ≡ true = le-leb (sent k b) 1 (omega arith) in
    rw (le, all_stay k bs fs)

-- ---- the whole round

-- with no bit to come, everybody in has the same none
left_all : (bs : List Board) (fs : List Bool) → length bs ≡ length fs → those 0 0 bs fs ≡ fs
unfolding zip_with
left_all [] [] e = refl
left_all [] (f ∷ fs) e = absurd (omega arith)
left_all (b ∷ bs) [] e = absurd (omega arith)
left_all (b ∷ bs) (f ∷ fs) e = rw (mod-one b.identity, and-true f, left_all bs fs (suc_inj e))

-- one bit more is heard, and one less is to come
shift : (h w p l : ℕ) → (h * 2 + w) * p + l ≡ h * (p * 2) + (w * p + l)
shift h w p l = rw (add-mul (h * 2) w p, mul_assoc h 2 p, mul_comm 2 p, add_assoc (h * (p * 2)) (w * p) l)

module _ (k : ℕ) (bs : List Board) (fs : List Bool) (h : ℕ) where
  -- one bit: w is on the wire, and the rest of the round is known
  bit : (w : ℕ) → wire_bit k bs fs ≡ w → lowest (suc k) bs fs ≡ w * 2 ^ k + lowest k bs (stay_in k w bs fs)
      → those (suc k) (lowest (suc k) bs fs) bs fs ≡ those k (lowest k bs (stay_in k w bs fs)) bs (stay_in k w bs fs)
      → hear k bs (stay_in k w bs fs) (h * 2 + w)
      ≡ heard_as ((h * 2 + w) * 2 ^ k + lowest k bs (stay_in k w bs fs)) (those k (lowest k bs (stay_in k w bs fs)) bs (stay_in k w bs fs))
      → hear (suc k) bs fs h ≡ heard_as (h * 2 ^ suc k + lowest (suc k) bs fs) (those (suc k) (lowest (suc k) bs fs) bs fs)
  unfolding hear
  bit w e l t r =
      rw e
      (r ∙ ap₂ heard_as
      (shift h w (2 ^ k) (lowest k bs (stay_in k w bs fs)) ∙ ap₂ (λ (x y : ℕ). h * x + y) (sym (pow-suc 2 k)) (sym l))
      (sym t))

-- THE ROUND: where somebody is in, the wire hears the lowest identity, and those that have it are left
pub heard : (k : ℕ) (bs : List Board) (fs : List Bool) (h : ℕ) → length bs ≡ length fs → lowest k bs fs < 2 ^ k
    → hear k bs fs h ≡ heard_as (h * 2 ^ k + lowest k bs fs) (those k (lowest k bs fs) bs fs)
unfolding hear
heard zero bs fs h long some =
    let none : lowest 0 bs fs ≡ 0 = omega arith in
    rw (none, left_all bs fs long) (ap₂ heard_as {x = h} {y = h * 1 + 0} (omega arith) refl)
heard (suc k) bs fs h long some =
    go (any_zero k bs fs) refl
    (λ w h'. heard k bs (stay_in k w bs fs) h' (long ∙ sym (zip_long (keeps_in k w) bs fs long)))
  where
    go : (z : Bool) → any_zero k bs fs ≡ z
        → ((w h' : ℕ) → lowest k bs (stay_in k w bs fs) < 2 ^ k
        → hear k bs (stay_in k w bs fs) h'
        ≡ heard_as (h' * 2 ^ k + lowest k bs (stay_in k w bs fs)) (those k (lowest k bs (stay_in k w bs fs)) bs (stay_in k w bs fs)))
        → hear (suc k) bs fs h ≡ heard_as (h * 2 ^ suc k + lowest (suc k) bs fs) (those (suc k) (lowest (suc k) bs fs) bs fs)
    go true e r =
        let low : lowest (suc k) bs fs < 2 ^ k = below k bs fs e in
        let same : lowest (suc k) bs fs ≡ lowest k bs (stay_in k 0 bs fs) = omega (arith, zeros k bs fs) in
        bit k bs fs h 0 (rw e) (omega arith)
        (left_zero k (lowest (suc k) bs fs) low bs fs ∙ ap (λ (m : ℕ). those k m bs (stay_in k 0 bs fs)) same)
        (r 0 (h * 2 + 0) (omega arith))
    go false e r =
        let more : lowest (suc k) bs fs ≡ 2 ^ k + lowest k bs (stay_in k 1 bs fs) = rw (all_stay k bs fs) (ones k bs fs e) in
        bit k bs fs h 1 (rw e) (omega arith)
        (ap (λ (m : ℕ). those (suc k) m bs fs) more ∙ left_one k (lowest k bs (stay_in k 1 bs fs)) bs fs e)
        (r 1 (h * 2 + 1) (omega (arith, pow-suc 2 k)))
