-- `slots::class_of` meets its contract: the rule is one test at each of the 128 entries, which antt computes.
use mathlib.Core.Path.{sym}
use mathlib.Core.List.{List, [], ◌∷◌, ◌++◌}
use Prim.Native.Nat.{ℕ}
use lib.ListN.{replicate}
use borrow.Author.Rules.{rules}
use Rattle.lists.proofs.Tables.{tabled}
use Rattle.slots.specs.Slots.{class_of}
use Rattle.slots.proofs.Laws.{class_above}
use Rattle.slots.proofs.class_of.Goals as goal

-- the constant list
classes : List ℕ
classes =
    replicate 3 0 ++ (2 ∷ (replicate 4 3 ++ (replicate 54 4 ++ (1 ∷ (replicate 31 4 ++ (1 ∷ (replicate 15 4 ++ (1 ∷ (replicate 7 4 ++ (1 ∷ 4 ∷ 5 ∷ 5 ∷ 1 ∷ 5 ∷ 1 ∷ 6 ∷ 0 ∷ 1 ∷ []))))))))))

pub returns-then-address-lt128 : goal.returns-then-address-lt128
unfolding classes class_of
returns-then-address-lt128 c = tabled class_of classes c.args.address tt (search rules)

pub returns-else-address-lt128 : goal.returns-else-address-lt128
returns-else-address-lt128 c = sym (class_above _ c.if-address-lt128.false)
