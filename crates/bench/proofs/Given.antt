-- What a function is told of an array of boards: each identity is of 64 bits.
use mathlib.Core.Path.{◌≡◌, refl}
use mathlib.Core.Bool.{true}
use mathlib.Core.List.{List, [], ◌∷◌}
use Prim.Native.Nat.{ℕ, ◌^◌}
use native.Mathlib.Omega.{arith}
use mir.Val.{Val}
use denote.Shadow.{shadow}
use denote.Array.{each}
use borrow.Kind.Array.{e_struct}
use lib.Dec.{ltb}
use lib.ListN.{take}
use borrow.Author.Tests.{lt-ltb}
use Rattle.lists.proofs.Bools.{and}
use Rattle.lists.proofs.Keeps.{all_take}
use Rattle.boards.specs.declared.Board.{Board}
use Rattle.boards.specs.Plain.{are_wide}
use Rattle.boards.specs.contracts.Board
use Rattle.boards.proofs.Board.TheLaws as laws

-- as the array is stored
abbrev Stored : List Board → List Val → Type 0
Stored bs us = shadow (each Board (e_struct Board.the_type laws.the_laws laws.the_copy).ty.own_val bs us)

all_wide : (bs : List Board) (us : List Val) → Stored bs us → are_wide bs ≡ true
all_wide [] us g = refl
all_wide (b ∷ bs) [] g = absurd g
all_wide (b ∷ bs) (u ∷ us) g = and (lt-ltb b.identity (2 ^ 64) (omega arith)) (all_wide bs us g.1)

-- so are those of the first so many
pub first_wide : (count : ℕ) (bs : List Board) (us : List Val) → Stored bs us → are_wide (take count bs) ≡ true
first_wide count bs us g = all_take (λ (b : Board). ltb b.identity (2 ^ 64)) count bs (all_wide bs us g)
