-- Laws of the offers' bytes, written one after the other into a lent buffer, and of the whole answer.
use Prim.Native.Nat.{ℕ, zero, suc, ◌+◌, ◌*◌, ◌/◌, ◌%◌, ◌<◌, ◌≤◌}
use mathlib.Core.Path.{◌≡◌, refl, sym, ◌∙◌}
use mathlib.Core.Bool.{false, not}
use mathlib.Core.List.{List, [], ◌∷◌, ◌++◌, map, append_assoc, append-nil, map-append}
use native.Mathlib.Nat.{add_assoc}
use native.Mathlib.Numerals.{add-one}
use native.Mathlib.Omega.{arith}
use lib.Dec.{eqb}
use lib.ListN.{length, drop, set, length-append, length-map, take-append-drop}
use lib.Seq.{drop-drop, get_or-drop}
use borrow.Author.Tests.{lt-ltb, le-ltb, ne_eqb}
use Rattle.std.specs.Prelude.{Result}
use Rattle.std.specs.Result.{IsErrAnd}
use Rattle.std.proofs.lemmas.Result.{err_from_is_err_and}
use Rattle.lists.specs.Buffers.{lay, lay_at}
use Rattle.lists.specs.Numbers.{numbers}
use Rattle.lists.proofs.Bools.{cond_by}
use Rattle.lists.proofs.Buffers.{lay_at_one, lay_on}
use Rattle.lists.proofs.Numbers.{numbers-length, numbers_more}
use Rattle.reader.specs.Points.{start, byte_of, ninth_of}
use Rattle.readings.specs.declared.Reading.{Reading}
use Rattle.refusals.specs.Refusals.{number}
use Rattle.refusals.proofs.Laws.{number_not_zero}
use Rattle.reader.specs.declared.Fault.{Fault}
use Rattle.reader.specs.Read.{Answer, fault_answer, answer_of, says, refused, from, cell_at, identity_byte, ten_of, tens_of, rounds_at, offers_of, answer_to, offers_to}

-- ---- the ten bytes of an offer

-- the first k bytes of the identity
abbrev heads : List ℕ → ℕ → List ℕ
heads cells k = map (λ place. identity_byte (cell_at cells place)) (numbers 1 k)

heads_length : (cells : List ℕ) (k : ℕ) → length (heads cells k) ≡ k
heads_length cells k = length-map (numbers 1 k) (λ place. identity_byte (cell_at cells place)) ∙ numbers-length 1 k

-- the loop over the identity: k bytes of it are written
abbrev pub Ten : List ℕ → ℕ → ℕ → List ℕ → List ℕ → ℕ → Type 0
Ten s from at b₀ b k = b ≡ lay_at at (heads (drop from s) k) b₀

module _ (s : List ℕ) (from at : ℕ) (b₀ : List ℕ) where
  pub ten_start : Ten s from at b₀ b₀ 0
  unfolding numbers
  ten_start = sym (take-append-drop at b₀)

  -- a byte behind the k written so far
  byte_more : (out b : List ℕ) (k v : ℕ) → length out ≡ k → at + k < length b₀ → b ≡ lay_at at out b₀
      → set b (at + k) v ≡ lay_at at (out ++ (v ∷ [])) b₀
  byte_more out b k v l h e = rw e (lay_at_one at k out b₀ v l h)

  module _ (room : at + 10 ≤ length b₀) {b : List ℕ} {k : ℕ} (v : Ten s from at b₀ b k) where
    pub ten_turn : k < 8 → (x : ℕ) → x ≡ cell_at s (from + 1 + k) → Ten s from at b₀ (set b (at + k) (x % 256)) (k + 1)
    ten_turn h x cell =
        let head = heads (drop from s) k in
        let more : heads (drop from s) (k + 1) ≡ head ++ (x % 256 ∷ []) = rw (add-one, numbers_more 1 k, map-append, get_or-drop, ← add_assoc, cell) in
        rw more (byte_more head b k (x % 256) (heads_length (drop from s) k) (omega arith) v)

    pub ten_ended : 8 ≤ k → k ≤ 8 → (y w : ℕ) → y ≡ cell_at s (from + 9) → w ≡ byte_of y
        → set (set b (at + 8) w) (at + 9) (ninth_of y) ≡ lay_at at (ten_of (drop from s)) b₀
    unfolding ten_of
    ten_ended most few y w cell e =
        let eight : k ≡ 8 = omega arith in
        let head = heads (drop from s) 8 in
        let there : y ≡ cell_at (drop from s) 9 = cell ∙ sym (get_or-drop from s 9 65535) in
        let all : (head ++ (w ∷ [])) ++ (ninth_of y ∷ []) ≡ ten_of (drop from s) = rw (append_assoc, e, there) in
        let long : length (head ++ (w ∷ [])) ≡ 9 = rw (length-append head (w ∷ []), heads_length (drop from s) 8) in
        let nine = byte_more head b 8 w (heads_length (drop from s) 8) (omega arith) (v ∙ rw eight) in
        byte_more (head ++ (w ∷ [])) (set b (at + 8) w) 9 (ninth_of y) long (omega arith) nine ∙ rw all

-- ---- the offers, ten bytes each

pub tens_length : (n : ℕ) (cells : List ℕ) → length (tens_of n cells) ≡ 10 * n
unfolding tens_of ten_of numbers
tens_length zero cells = refl
tens_length (suc n) cells = omega (arith, tens_length n (drop 11 cells))

tens_more : (n : ℕ) (cells : List ℕ) → tens_of (suc n) cells ≡ tens_of n cells ++ ten_of (drop (11 * n) cells)
unfolding tens_of
tens_more zero cells = append-nil (ten_of cells)
tens_more (suc n) cells =
    let place : 11 + 11 * n ≡ 11 * suc n = omega arith in
    rw (tens_more n (drop 11 cells), drop-drop, place) (simp append_assoc)

-- the loop over the offers: i of them are written
abbrev pub Tens : List ℕ → ℕ → List ℕ → List ℕ → ℕ → Type 0
Tens s from b₀ b i = b ≡ lay (tens_of i (drop from s)) b₀

module _ (s : List ℕ) (from : ℕ) (b₀ : List ℕ) where
  pub tens_start : Tens s from b₀ b₀ 0
  unfolding tens_of
  tens_start = refl

  pub tens_turn : (count : ℕ) → 10 * count ≤ length b₀ → {b : List ℕ} {i : ℕ} → Tens s from b₀ b i → i < count
      → (b' : List ℕ) → b' ≡ lay_at (10 * i) (ten_of (drop (from + 11 * i) s)) b → Tens s from b₀ b' (i + 1)
  tens_turn count room {b} {i} v h b' e =
      let before = tens_of i (drop from s) in
      let one = ten_of (drop (from + 11 * i) s) in
      let more : tens_of (i + 1) (drop from s) ≡ before ++ one = rw (add-one, tens_more i (drop from s), drop-drop) in
      e ∙ rw (v, more) (lay_on (10 * i) before one b₀ (tens_length i (drop from s)) (omega arith))

-- all of them
pub tens_ended : (r : Reading) (s : List ℕ) {from i : ℕ} (b₀ b : List ℕ) → Tens s from b₀ b i → from ≡ rounds_at r.joining → r.offers ≤ i → i ≤ r.offers
    → b ≡ lay (offers_of r s) b₀
unfolding offers_of
tens_ended r s {i = i} b₀ b v place most few = let all : r.offers ≡ i = omega arith in rw (all, ← place) v

-- ---- the answer, and what is left in the buffer

-- what is ensured of both
abbrev Told : List ℕ → List ℕ → Answer → List ℕ → Type 0
Told s b a b' = (a ≡ answer_to s (length b)) × (b' ≡ lay (offers_to s (length b)) b)

module _ (s b : List ℕ) {a : Answer} where
  -- a refusal writes nothing
  untouched : a ≡ answer_to s (length b) → eqb a.refusal 0 ≡ false → Told s b a b
  untouched same refusing = (same, rw (← same, refusing))

  pub too_long : 1024 < length s → a ≡ refused 13 0 → Told s b a b
  unfolding answer_to
  too_long h e = untouched (e ∙ rw (lt-ltb 1024 (length s) h)) (rw e)

module _ (s b : List ℕ) (short : length s ≤ 1024) where
  -- what `?` hands on of a record that breaks
  pub broken : (r : Result Reading Fault) (f : Fault) → IsErrAnd r (λ e. e ≡ f) → fault_answer f ≡ from start s 0 → Told s b (answer_of r) b
  unfolding answer_to
  broken r f h read =
      let (e, q, same) = err_from_is_err_and r h in
      let refusing = ne_eqb (number f.refusal) 0 (number_not_zero f.refusal) in
      rw (q, same) (untouched s b (sym (rw (le-ltb 1024 (length s) short, ← read, refusing))) refusing)

  module _ (r : Reading) (read : says r ≡ from start s 0) where
    pub no_room : length b / 10 < r.offers → {a : Answer} → a ≡ refused 15 0 → Told s b a b
    unfolding answer_to
    no_room h e =
        let little = lt-ltb (length b) (10 * r.offers) (omega arith) in
        untouched s b (e ∙ rw (le-ltb 1024 (length s) short, ← read, little)) (rw e)

    pub well_read : r.offers ≤ length b / 10 → (b' : List ℕ) → b' ≡ lay (offers_of r s) b → Told s b (says r) b'
    unfolding answer_to
    well_read h b' e =
        let fits = le-ltb (length b) (10 * r.offers) (omega arith) in
        let same : says r ≡ answer_to s (length b) = sym (rw (le-ltb 1024 (length s) short, ← read, fits)) in
        (same, e ∙ rw (← same))

-- within the limits the answer is what the cells come to
pub answer-within : (cells : List ℕ) (room : ℕ) {a : Answer} → from start cells 0 ≡ a → length cells ≤ 1024 → 10 * a.reading.offers ≤ room
    → answer_to cells room ≡ a
unfolding answer_to
answer-within cells room {a} e short fits =
    rw (le-ltb 1024 (length cells) short, e, le-ltb room (10 * a.reading.offers) fits)
    (cond_by (λ x. x ≡ a) (not (eqb a.refusal 0)) (λ _. refl) (λ _. refl))
