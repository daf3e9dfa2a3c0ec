-- The paper's numbers, each list as one statement.
use mathlib.Core.Path.{◌≡◌, refl}
use mathlib.Core.Bool.{true, false}
use mathlib.Core.List.{[], ◌∷◌, map}
use lib.Bits.{bit_xor}
use lib.Count.{ones_in}
use lib.Dec.{eqb}
use lib.ListN.{replicate}
use Rattle.lists.specs.Lists.{count}
use Rattle.lists.specs.Numbers.{numbers}
use Rattle.lists.specs.Bits.{bit}
use Rattle.slots.specs.Slots.{class_of, allows, facts_of, is_legacy, is_open}

-- 3Eh barred, 3Fh open; with flags 1: 07h closed, 08h open
pub starred : (map class_of (0x3E ∷ 0x3F ∷ []) ≡ (1 ∷ 4 ∷ [])) × (map (is_open (facts_of 1 (replicate 16 0) 0)) (0x07 ∷ 0x08 ∷ []) ≡ (false ∷ true ∷ []))
unfolding class_of is_open allows is_legacy bit
starred = (refl, refl)

-- 108 addresses are of the class open
pub open_108 : count (λ a. eqb (class_of a) 4) (numbers 0x00 128) ≡ 108
unfolding class_of numbers
open_108 = refl

-- class 1 has exactly the addresses that differ from 7Eh in one bit
pub one_bit_away : map (λ a. eqb (class_of a) 1) (numbers 0x00 128) ≡ map (λ a. eqb (ones_in 7 (bit_xor a 0x7E)) 1) (numbers 0x00 128)
unfolding class_of numbers ones_in
one_bit_away = refl
