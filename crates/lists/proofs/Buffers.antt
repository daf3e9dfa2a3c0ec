-- Laws of what is written into a buffer, element by element, behind what was written before, or into a part `buffer[at..]` that was lent.
use mathlib.Core.Path.{◌≡◌, ◌∙◌}
use mathlib.Core.List.{List, [], ◌∷◌, ◌++◌, append_assoc, append-nil}
use Prim.Native.Nat.{ℕ, ◌+◌, ◌-◌, ◌<◌, ◌≤◌}
use native.Mathlib.Nat.{le_refl}
use native.Mathlib.Omega.{arith}
use native.Mathlib.Numerals.{add-one}
use lib.ListN.{length, take, drop, set, length-append, length-drop, length-take, drop_of_length-le}
use borrow.Rule.Slice.PartMut.{put_mid, mid_of}
use lib.Seq.{take_all, take_at, drop_at, drop-cons, drop-drop, set_at, sets, sets-eq}
use Rattle.lists.specs.Buffers.{lay, lay_at}

module _ {A : Type 0} where
  pub lay-length : (out buffer : List A) → length out ≤ length buffer → length (lay out buffer) ≡ length buffer
  lay-length out buffer h = simp (length-append, length-drop) (omega arith)

  -- elements stored one after the other from the place `at` on
  pub lay_at_sets : (at : ℕ) (out buffer : List A) → at + length out ≤ length buffer → sets buffer at out ≡ lay_at at out buffer
  lay_at_sets at out buffer h = sets-eq out buffer at h ∙ rw (append_assoc, drop-drop)

  -- a part `buffer[at..]` that a callee was lent: what it was handed, and what the whole is after it
  pub tail_mid : (at : ℕ) (buffer : List A) → mid_of at (length buffer - at) buffer ≡ drop at buffer
  tail_mid at buffer = take_all (length buffer - at) (drop at buffer) (rw (length-drop at buffer) (le_refl (length buffer - at)))

  pub tail_put : (at : ℕ) (buffer part : List A) → put_mid at (length buffer - at) buffer part ≡ take at buffer ++ part
  tail_put at buffer part =
      let none : drop (length buffer - at) (drop at buffer) ≡ [] = drop_of_length-le (drop at buffer) {i = length buffer - at} (rw (length-drop at buffer) (le_refl (length buffer - at))) in
      rw (none, append-nil)

  -- written behind what was just written
  pub lay_at_on : (at : ℕ) (x y buffer : List A) → at + length x ≤ length buffer → lay_at (at + length x) y (lay_at at x buffer) ≡ lay_at at (x ++ y) buffer
  lay_at_on at x y buffer h =
      let p : length (take at buffer ++ x) ≡ at + length x = simp (length-append, length-take) (omega arith) in
      let whole : lay_at at x buffer ≡ (take at buffer ++ x) ++ drop (length x) (drop at buffer) = rw append_assoc in
      rw (
        whole,
        take_at (take at buffer ++ x) (drop (length x) (drop at buffer)) (at + length x) p,
        drop_at (take at buffer ++ x) (drop (length x) (drop at buffer)) (at + length x) p,
        drop-drop (length y) (length x) (drop at buffer),
        length-append x y,
      )
      (simp append_assoc)

  -- the same, behind n from the first place on
  pub lay_on : (n : ℕ) (x y buffer : List A) → length x ≡ n → n ≤ length buffer → lay_at n y (lay x buffer) ≡ lay (x ++ y) buffer
  lay_on n x y buffer l h = let p : 0 + length x ≡ n = omega arith in rw p at (lay_at_on 0 x y buffer (rw p h))

  -- one element more, behind n from the place `at` on
  pub lay_at_one : (at n : ℕ) (out buffer : List A) (v : A) → length out ≡ n → at + n < length buffer
      → set (lay_at at out buffer) (at + n) v ≡ lay_at at (out ++ (v ∷ [])) buffer
  lay_at_one at n out buffer v l h =
      let front : length (take at buffer ++ out) ≡ at + n = simp (length-append, length-take) (omega arith) in
      rw (
        ← append_assoc (take at buffer) out,
        l,
        drop-cons (drop at buffer) n v (rw length-drop (omega arith)),
        set_at (take at buffer ++ out) _ _ v (at + n) front,
        length-append out (v ∷ []),
        l,
        add-one,
      )
      (simp append_assoc)

  -- as long as it was
  pub lay_at-length : (at n : ℕ) (out buffer : List A) → length out ≡ n → at + n ≤ length buffer → length (lay_at at out buffer) ≡ length buffer
  lay_at-length at n out buffer l h = rw l (simp (length-append, length-take, length-drop) (omega arith))
