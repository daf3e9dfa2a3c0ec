-- The body of a board is eight bytes, so its identity is of 64 bits.
use Prim.Native.Nat.{ℕ, zero, suc, ◌+◌, ◌*◌, ◌^◌, ◌<◌, ◌≤◌}
use mathlib.Core.Path.{◌≡◌, refl, sym, subst}
use mathlib.Core.Bool.{true}
use mathlib.Core.List.{List, [], ◌∷◌}
use native.Mathlib.Nat.{pow-suc, pow-le-pow_right, zero-lt-suc}
use native.Mathlib.Omega.{arith}
use lib.Dec.{leb}
use lib.ListN.{length, take, drop, length-take}
use borrow.Author.Tests.{leb-true, lt-ltb}
use Rattle.lists.specs.Bits.{are_bytes}
use Rattle.lists.proofs.Bools.{both, and}
use Rattle.lists.proofs.Keeps.{all_take, all_drop}
use Rattle.boards.specs.declared.Board.{Board}
use Rattle.boards.specs.Plain.{are_wide}
use Rattle.machine.specs.Steps.{digits, identity_of}
use Rattle.sheet.specs.Sheet.{sheet_right, bodies_begin, boards_in}
use Rattle.sheet.proofs.Bodies.{boards_from, boards_lie}

-- the number of bytes behind one of i bytes
digits_small : (bytes : List ℕ) (i k n : ℕ) → are_bytes bytes ≡ true → n < 256 ^ i → i + length bytes ≡ k → digits n bytes < 256 ^ k
digits_small [] i k n h small e = let z : k ≡ i = omega arith in rw z small
digits_small (b ∷ bs) i k n h small e =
    let t = both (leb b 255) (are_bytes bs) h in
    let more : n * 256 + b < 256 ^ suc i = omega (arith, pow-suc 256 i, leb-true b 255 t.0) in
    digits_small bs (suc i) k (n * 256 + b) t.1 more (omega arith)

-- at most eight bytes are an identity of 64 bits
identity_wide : (bytes : List ℕ) → are_bytes bytes ≡ true → length bytes ≤ 8 → identity_of bytes < 2 ^ 64
identity_wide bytes h few =
    let most : 256 ^ length bytes ≤ 256 ^ 8 = pow-le-pow_right (zero-lt-suc 255) few in
    omega (arith, digits_small bytes 0 (length bytes) 0 h (omega arith) (omega arith))

module _ (sheet : List ℕ) (bytes : are_bytes sheet ≡ true) where
  -- boards from a place on
  from_wide : (n at : ℕ) → are_wide (boards_from n at sheet) ≡ true
  unfolding boards_from
  from_wide zero at = refl
  from_wide (suc n) at =
      let body = take 8 (drop at sheet) in
      let whole : are_bytes body ≡ true = all_take (λ b. leb b 255) 8 (drop at sheet) (all_drop (λ b. leb b 255) at sheet bytes) in
      and (lt-ltb (identity_of body) (2 ^ 64) (identity_wide body whole (omega (arith, length-take 8 (drop at sheet))))) (from_wide n (at + 8))

  -- so those of a right sheet
  pub boards_wide : sheet_right sheet ≡ true → are_wide (boards_in sheet) ≡ true
  boards_wide right =
      subst (λ (bs : List Board). are_wide bs ≡ true) (sym (boards_lie sheet right)) (from_wide (length (boards_in sheet)) (bodies_begin sheet + 21))
