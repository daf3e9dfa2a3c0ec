-- The address slots: the class of each address, the bus facts, and which addresses are open.
-- proofs/Numbers has the paper's numbers: the 108 open addresses, those one bit away from 7Eh, and the starred ones.
use Rattle.std.specs.Prelude.{ℕ, ◌/◌, ◌%◌, Bool, true, false, Result, Ok, Err, cond, not, ◌&&◌, ◌||◌, List, [], ◌∷◌, eqb, ltb, leb, length, get_or, replicate}
use Rattle.lists.specs.Lists.{all}
use Rattle.lists.specs.Numbers.{numbers, within, one_of}
use Rattle.lists.specs.Bits.{bit}
use Rattle.refusals.specs.declared.Refusal.{Refusal}
use Rattle.refusals.specs.Refusals.{number}
use Rattle.slots.specs.declared.Facts.{Facts}

-- ---- classes

-- 0 barred: reserved; 1 barred: one bit away from 7Eh; 2 open only with flag value 2; 3 closed with flag value 1; 4 open;
-- 5 closed: 78h, 79h, 7Bh; 6 closed: 7Dh. A number above 7Fh is no address, and has the number 7.
unfoldable pub class_of : ℕ → ℕ
class_of address =
    cond (one_of (0x00 ∷ 0x01 ∷ 0x02 ∷ 0x7E ∷ []) address) 0
    (cond (one_of (0x3E ∷ 0x5E ∷ 0x6E ∷ 0x76 ∷ 0x7A ∷ 0x7C ∷ 0x7F ∷ []) address) 1
    (cond (eqb address 0x03) 2
    (cond (within 0x04 0x07 address) 3
    (cond (within 0x08 0x3D address || within 0x3F 0x5D address || within 0x5F 0x6D address || within 0x6F 0x75 address || eqb address 0x77) 4
    (cond (one_of (0x78 ∷ 0x79 ∷ 0x7B ∷ []) address) 5
    (cond (eqb address 0x7D) 6 7))))))

-- whether a flag value, 1 or 2, is set in the flag byte
abbrev pub has_flag : ℕ → ℕ → Bool
has_flag value flags = eqb ((flags / value) % 2) 1

-- what a class allows with these flags
unfoldable pub allows : ℕ → ℕ → Bool
allows flags class = eqb class 4 || (eqb class 2 && has_flag 2 flags) || (eqb class 3 && not (has_flag 1 flags))

-- ---- bus facts

-- a flag byte, a set of legacy addresses as bytes, the last ticket given
abbrev pub facts_of : ℕ → List ℕ → ℕ → Facts
facts_of flags legacy last = record { flags = flags; legacy = legacy; last = last }

-- address a is bit a mod 8 (value 1 the lowest) of byte a div 8
unfoldable pub is_legacy : List ℕ → ℕ → Bool
is_legacy legacy address = bit (address % 8) (get_or legacy (address / 8) 0)

-- values 1 and 2; other bits zero
abbrev pub flags_right : ℕ → Bool
flags_right flags = eqb (flags / 4) 0

-- a legacy address lies in 08h to 77h
abbrev pub lies_right : List ℕ → ℕ → Bool
lies_right legacy address = not (is_legacy legacy address) || within 0x08 0x77 address

-- 16 bytes (each below 256 by its type), and all of their addresses lie right
unfoldable pub legacy_right : List ℕ → Bool
legacy_right legacy = eqb (length legacy) 16 && all (lies_right legacy) (numbers 0x00 128)

-- 0 to 4,294,967,295
abbrev pub last_right : ℕ → Bool
last_right last = leb last 4294967295

-- facts keep the rules; refusal 1 is given exactly when they do not
unfoldable pub facts_right : Facts → Bool
facts_right f = flags_right f.flags && legacy_right f.legacy && last_right f.last

-- the facts that a refused start hands back: flags 0, no legacy, last ticket 4,294,967,295
abbrev pub refused_facts : Facts
refused_facts = facts_of 0 (replicate 16 0) 4294967295

-- whether facts were right, and which stand from then on
pub record Checked : Type 0 where
  pub right : Bool
  pub facts : Facts

-- facts as they came if they are right, else those of a refused start
unfoldable pub checked : Facts → Checked
checked f = record { right = facts_right f; facts = cond (facts_right f) f refused_facts }

-- what a call says that answers with the facts, or a refusal
abbrev pub checked_of : Result Facts Refusal → Checked
checked_of (Ok f) = record { right = true; facts = f }
checked_of (Err r) = record { right = false; facts = refused_facts }

-- ---- open addresses

-- its class allows it and it is not legacy
unfoldable pub is_open : Facts → ℕ → Bool
is_open f address = allows f.flags (class_of address) && not (is_legacy f.legacy address)

-- a refusal, 0 for none, and whether the address is open
pub record SlotAnswer : Type 0 where
  pub refusal : ℕ
  pub «open» : Bool

-- the slot test says open or not; refused, first with 1 for the facts, then with 2 for an address over 127, it says not open
unfoldable pub slot_test : Facts → ℕ → SlotAnswer
slot_test f address =
    cond (not (facts_right f)) (record { refusal = 1; «open» = false })
    (cond (ltb 127 address) (record { refusal = 2; «open» = false })
    (record { refusal = 0; «open» = is_open f address }))

-- what a call says that answers with open or not, or a refusal
abbrev pub slot_answer : Result Bool Refusal → SlotAnswer
slot_answer (Ok o) = record { refusal = 0; «open» = o }
slot_answer (Err r) = record { refusal = number r; «open» = false }
