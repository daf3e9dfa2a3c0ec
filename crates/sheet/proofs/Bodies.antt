-- Where the bodies of a right sheet lie: first that of the facts, behind it the boards, eight bytes each, and behind these the flips, up to the end.
use Prim.Native.Nat.{ℕ, zero, suc, ◌+◌, ◌-◌, ◌*◌, ◌<◌, ◌≤◌}
use mathlib.Core.Path.{◌≡◌, refl, sym, ap, ◌∙◌}
use mathlib.Core.Bool.{true}
use mathlib.Core.List.{List, [], ◌∷◌, map}
use mathlib.Core.Logic.{◌⊎◌, inl, inr}
use native.Mathlib.Omega.{arith}
use lib.ListN.{length, get_or, take, drop, length-map, length-drop, drop_of_length-le}
use lib.Seq.{take_all, drop-drop}
use borrow.Author.Tests.{eqb-true}
use Rattle.lists.specs.Numbers.{numbers}
use Rattle.lists.proofs.Bools.{both}
use Rattle.lists.proofs.Numbers.{numbers-length}
use Rattle.lists.proofs.Buffers.{tail_mid}
use Rattle.boards.specs.declared.Board.{Board}
use Rattle.sheet.specs.declared.contents.Entry.{Entry}
use Rattle.sheet.specs.Sheet.{entry_count, entry_at, entries, bodies_begin, kind_right, length_right, entry_right, entries_right, sheet_right}
use Rattle.sheet.specs.Sheet.{body_of, bodies_of, board_of_body, boards_in, first_body, flips_in}
use Rattle.sheet.proofs.Tables.{entries_from, entries_apart, entry_parts, right_parts, kind_behind}

-- ---- boards from a place on

-- so many, eight bytes each
unfoldable pub boards_from : ℕ → ℕ → List ℕ → List Board
boards_from zero at sheet = []
boards_from (suc n) at sheet = board_of_body (take 8 (drop at sheet)) ∷ boards_from n (at + 8) sheet

-- one of them has its eight bytes
pub board_at : (n at : ℕ) (sheet : List ℕ) (i : ℕ) (d : Board) → i < n
    → get_or (boards_from n at sheet) i d ≡ board_of_body (take 8 (drop (at + 8 * i) sheet))
unfolding boards_from
board_at zero at sheet i d h = absurd (omega arith)
board_at (suc n) at sheet zero d h = let e : at + 0 ≡ at = omega arith in rw e
board_at (suc n) at sheet (suc i) d h = let e : at + 8 * suc i ≡ at + 8 + 8 * i = omega arith in rw e (board_at n (at + 8) sheet i d (omega arith))

-- ---- an entry behind the first

abbrev entry : ℕ → ℕ → ℕ → Entry
entry kind offset long = record { kind = kind; offset = offset; length = long }

-- it is a board's, or the flips' and the last of all
data Behind (count place due : ℕ) : Entry → Type 0 where
  board : Behind count place due (entry 2 due 8)
  flips : {long : ℕ} → place + 1 ≡ count → Behind count place due (entry 3 due long)

behind : (count place due kind offset long : ℕ) → 1 ≤ place → entry_right count place due (entry kind offset long) ≡ true
    → Behind count place due (entry kind offset long)
behind count place due kind offset long h t = go (kind_behind count place kind h p.0)
  where
    p : (kind_right count place kind ≡ true) × (length_right kind long ≡ true) × (offset ≡ due)
    p = entry_parts count place due (entry kind offset long) t

    go : (kind ≡ 2) ⊎ ((kind ≡ 3) × (place + 1 ≡ count)) → Behind count place due (entry kind offset long)
    go (inl two) = let eight : long ≡ 8 = eqb-true long 8 (rw two at p.1) in rw (two, p.2, eight) board
    go (inr three) = rw (three.0, p.2) (flips three.1)

-- ---- the bodies of all entries behind the first

-- from here on: the boards in order, and behind them the flips, up to the end
record Lie (sheet : List ℕ) (due : ℕ) (es : List Entry) : Type 0 where
  pub boards : map board_of_body (bodies_of 2 sheet es) ≡ boards_from (length (bodies_of 2 sheet es)) due sheet
  pub flips : first_body (bodies_of 3 sheet es) ≡ drop (due + 8 * length (bodies_of 2 sheet es)) sheet
  pub inside : due + 8 * length (bodies_of 2 sheet es) ≤ length sheet

-- no entry is left
lie_none : (sheet : List ℕ) (due : ℕ) → due ≡ length sheet → Lie sheet due []
unfolding bodies_of boards_from
lie_none sheet due e =
    let past : length sheet ≤ due + 0 = omega arith in
    record { boards = refl; flips = sym (drop_of_length-le sheet past); inside = omega arith }

-- the flips' is the last
lie_flips : (sheet : List ℕ) (due long : ℕ) → due + long ≡ length sheet → Lie sheet due (entry 3 due long ∷ [])
unfolding bodies_of boards_from
lie_flips sheet due long e =
    let z : due + 0 ≡ due = omega arith in
    record { boards = refl; flips = rw z (take_all long (drop due sheet) (rw length-drop (omega arith))); inside = omega arith }

-- a board's is before others
lie_board : (sheet : List ℕ) (due : ℕ) (es : List Entry) → Lie sheet (due + 8) es → Lie sheet due (entry 2 due 8 ∷ es)
unfolding bodies_of boards_from
lie_board sheet due es v =
    let e : due + 8 * suc (length (bodies_of 2 sheet es)) ≡ due + 8 + 8 * length (bodies_of 2 sheet es) = omega arith in
    record { boards = ap (board_of_body (take 8 (drop due sheet)) ∷◌) v.boards; flips = rw e v.flips; inside = rw e v.inside }

lie : (sheet : List ℕ) (count place due : ℕ) (es : List Entry) → 1 ≤ place → place + length es ≡ count
    → entries_right (length sheet) count place due es ≡ true → Lie sheet due es
unfolding entries_right
lie sheet count place due [] h n t = lie_none sheet due (eqb-true due (length sheet) t)
lie sheet count place due (e ∷ es) h n t =
    let p = both (entry_right count place due e) (entries_right (length sheet) count (suc place) (due + e.length) es) t in
    go e es n p.1
    (behind count place due e.kind e.offset e.length h p.0)
    (lie sheet count (suc place) (due + e.length) es (omega arith) (omega arith) p.1)
  where
    go : (e : Entry) (es : List Entry) → place + suc (length es) ≡ count → entries_right (length sheet) count (suc place) (due + e.length) es ≡ true
        → Behind count place due e → Lie sheet (due + e.length) es → Lie sheet due (e ∷ es)
    go e es n t board v = lie_board sheet due es v
    go e [] n t (flips q) v = lie_flips sheet due e.length (eqb-true (due + e.length) (length sheet) t)
    go e (e' ∷ es) n t (flips q) v = absurd (omega arith)

-- ---- all bodies

-- that of the first entry is the facts'; behind it boards and flips
record Whole (sheet : List ℕ) (due : ℕ) (e : Entry) (es : List Entry) : Type 0 where
  pub facts : body_of sheet e ≡ take 21 (drop due sheet)
  pub rest : Lie sheet (due + 21) (e ∷ es)

whole : (sheet : List ℕ) (count due kind offset long : ℕ) (es : List Entry) → suc (length es) ≡ count
    → entries_right (length sheet) count 0 due (entry kind offset long ∷ es) ≡ true → Whole sheet due (entry kind offset long) es
unfolding entries_right bodies_of
whole sheet count due kind offset long es n t =
    let q = both (entry_right count 0 due (entry kind offset long)) (entries_right (length sheet) count 1 (due + long) es) t in
    let p = entry_parts count 0 due (entry kind offset long) q.0 in
    let one : kind ≡ 1 = eqb-true kind 1 p.0 in
    let size : long ≡ 21 = eqb-true long 21 (rw one at p.1) in
    let v = lie sheet count 1 (due + 21) es (omega arith) (omega arith) (rw size at q.1) in
    rw (one, p.2, size) record { facts = refl; rest = record { boards = v.boards; flips = v.flips; inside = v.inside } }

whole_sheet : (sheet : List ℕ) → sheet_right sheet ≡ true
    → (body_of sheet (entry_at sheet 0) ≡ take 21 (drop (bodies_begin sheet) sheet)) × Lie sheet (bodies_begin sheet + 21) (entries sheet)
whole_sheet sheet h =
    let r = right_parts sheet h in
    let apart = entries_apart sheet r.some in
    let n = entry_count sheet in
    let e = entry_at sheet 0 in
    let es = entries_from sheet n 1 in
    let many : suc (length es) ≡ n = rw (length-map (numbers 1 (n - 1)) (entry_at sheet), numbers-length 1 (n - 1)) (omega (arith, r.some)) in
    let v = whole sheet n (bodies_begin sheet) e.kind e.offset e.length es many (rw apart at r.listed) in
    (v.facts, rw apart v.rest)

-- ---- a right sheet

-- it has as many boards as bodies of their kind
boards_many : (sheet : List ℕ) → length (bodies_of 2 sheet (entries sheet)) ≡ length (boards_in sheet)
unfolding boards_in
boards_many sheet = sym (length-map (bodies_of 2 sheet (entries sheet)) board_of_body)

module _ (sheet : List ℕ) (right : sheet_right sheet ≡ true) where
  -- the body of the facts is the first
  pub facts_lie : body_of sheet (entry_at sheet 0) ≡ take 21 (drop (bodies_begin sheet) sheet)
  facts_lie = (whole_sheet sheet right).0

  -- the boards are behind it
  pub boards_lie : boards_in sheet ≡ boards_from (length (boards_in sheet)) (bodies_begin sheet + 21) sheet
  unfolding boards_in
  boards_lie = (whole_sheet sheet right).1.boards ∙ ap (λ (n : ℕ). boards_from n (bodies_begin sheet + 21) sheet) (boards_many sheet)

  -- and behind these the flips
  pub flips_lie : flips_in sheet ≡ drop (bodies_begin sheet + 21 + 8 * length (boards_in sheet)) sheet
  unfolding flips_in
  flips_lie = rw (boards_many sheet) at (whole_sheet sheet right).1.flips

  -- the boards end within the sheet
  pub boards_inside : bodies_begin sheet + 21 + 8 * length (boards_in sheet) ≤ length sheet
  boards_inside = rw (boards_many sheet) at (whole_sheet sheet right).1.inside

  -- and so does the body of the facts
  pub facts_inside : bodies_begin sheet + 21 ≤ length sheet
  facts_inside = omega (arith, boards_inside)

  -- so the bodies hold both
  pub bodies_long : {bodies : List ℕ} → bodies ≡ drop (bodies_begin sheet) sheet → 21 + 8 * length (boards_in sheet) ≤ length bodies
  bodies_long e = rw (e, length-drop) (omega (arith, boards_inside))

  -- and the flips are what is left of them
  pub flips_behind_boards : (let bodies = drop (bodies_begin sheet) sheet in let n = 21 + 8 * length (boards_in sheet) in take (length bodies - n) (drop n bodies) ≡ flips_in sheet)
  flips_behind_boards =
      let bodies = drop (bodies_begin sheet) sheet in
      let n = 21 + 8 * length (boards_in sheet) in
      let place : bodies_begin sheet + n ≡ bodies_begin sheet + 21 + 8 * length (boards_in sheet) = omega arith in
      rw (tail_mid n bodies, drop-drop n (bodies_begin sheet) sheet, place) (sym flips_lie)
