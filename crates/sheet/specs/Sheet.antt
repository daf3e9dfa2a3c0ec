-- The sheet: a contents table, then the bodies; and what it says: bus facts, boards, flips.
use Rattle.std.specs.Prelude.{ℕ, suc, ◌+◌, ◌-◌, ◌*◌, Bool, cond, ◌&&◌, ◌||◌, List, [], ◌∷◌, ◌++◌, map, eqb, leb, length, get_or, take, drop, replicate}
use Rattle.lists.specs.Numbers.{numbers, within}
use Rattle.slots.specs.declared.Facts.{Facts}
use Rattle.slots.specs.Slots.{facts_of}
use Rattle.boards.specs.declared.Board.{Board}
use Rattle.machine.specs.Steps.{digits, identity_of}
use Rattle.lent.specs.Places.{no_board}
use Rattle.sheet.specs.declared.contents.Entry.{Entry}

-- ---- the contents table

-- a byte of the sheet, and 0 behind its end; a table that is cut off is never right, since its bodies would end behind the file
abbrev pub byte_at : List ℕ → ℕ → ℕ
byte_at sheet place = get_or sheet place 0

-- byte 0 is the number of entries
abbrev pub entry_count : List ℕ → ℕ
entry_count sheet = byte_at sheet 0

-- each entry is four bytes: kind, offset from byte 0 (two bytes, high first), length
abbrev pub entry_at : List ℕ → ℕ → Entry
entry_at sheet i =
    record {
      kind = byte_at sheet (4 * i + 1);
      offset = byte_at sheet (4 * i + 2) * 256 + byte_at sheet (4 * i + 3);
      length = byte_at sheet (4 * i + 4);
    }

-- they follow byte 0
unfoldable pub entries : List ℕ → List Entry
entries sheet = map (entry_at sheet) (numbers 0 (entry_count sheet))

-- and the bodies follow them
abbrev pub bodies_begin : List ℕ → ℕ
bodies_begin sheet = 4 * entry_count sheet + 1

-- ---- its rules

-- kind 1 stands first, and once; kind 3 at most once, and last; the others are of kind 2
abbrev pub kind_right : ℕ → ℕ → ℕ → Bool
kind_right count place kind = cond (eqb place 0) (eqb kind 1) (eqb kind 2 || (eqb kind 3 && eqb (place + 1) count))

-- kind 1: 21 bytes; kind 2: 8 bytes; kind 3: 0 to 64 bytes
abbrev pub length_right : ℕ → ℕ → Bool
length_right kind long = cond (eqb kind 1) (eqb long 21) (cond (eqb kind 2) (eqb long 8) (eqb kind 3 && leb long 64))

-- an entry is right at its place if its kind, its length and its offset are: its body begins where it is due
unfoldable pub entry_right : ℕ → ℕ → ℕ → Entry → Bool
entry_right count place due e = kind_right count place e.kind && length_right e.kind e.length && eqb e.offset due

-- the entries from a place on are right, and their bodies follow in order without gaps and end the file
unfoldable pub entries_right : ℕ → ℕ → ℕ → ℕ → List Entry → Bool
entries_right size count place due [] = eqb due size
entries_right size count place due (e ∷ es) = entry_right count place due e && entries_right size count (suc place) (due + e.length) es

-- at most 512 bytes; 1 to 34 entries; all of them right
unfoldable pub sheet_right : List ℕ → Bool
sheet_right sheet =
    leb (length sheet) 512
    && within 1 34 (entry_count sheet)
    && entries_right (length sheet) (entry_count sheet) 0 (bodies_begin sheet) (entries sheet)

-- ---- what it says

-- the body of an entry
abbrev pub body_of : List ℕ → Entry → List ℕ
body_of sheet e = take e.length (drop e.offset sheet)

-- the bodies of one kind, in order
unfoldable pub bodies_of : ℕ → List ℕ → List Entry → List (List ℕ)
bodies_of kind sheet [] = []
bodies_of kind sheet (e ∷ es) = cond (eqb e.kind kind) (body_of sheet e ∷ bodies_of kind sheet es) (bodies_of kind sheet es)

-- kind 1, which stands first: flags, legacy set (16 bytes), last ticket high byte first
abbrev pub facts_of_body : List ℕ → Facts
facts_of_body body = facts_of (get_or body 0 0) (take 16 (drop 1 body)) (digits 0 (drop 17 body))

unfoldable pub facts_in : List ℕ → Facts
facts_in sheet = facts_of_body (body_of sheet (entry_at sheet 0))

-- kind 2: an identity; its board has no address
abbrev pub board_of_body : List ℕ → Board
board_of_body body = record { identity = identity_of body; address = 0 }

unfoldable pub boards_in : List ℕ → List Board
boards_in sheet = map board_of_body (bodies_of 2 sheet (entries sheet))

-- kind 3: flips; none without it
abbrev pub first_body : List (List ℕ) → List ℕ
first_body [] = []
first_body (body ∷ bodies) = body

unfoldable pub flips_in : List ℕ → List ℕ
flips_in sheet = first_body (bodies_of 3 sheet (entries sheet))

-- ---- boards that are lent to the bench: in the first of 40 places, and nothing behind them

abbrev pub in_places : List Board → List Board
in_places bs = bs ++ replicate (40 - length bs) no_board
