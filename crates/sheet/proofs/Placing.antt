-- The loop that puts the boards of a sheet into the first of 40 places.
use Prim.Native.Nat.{ℕ, suc, ◌+◌, ◌-◌, ◌*◌, ◌<◌}
use mathlib.Core.Path.{◌≡◌, sym, ap, ◌∙◌}
use mathlib.Core.Bool.{true}
use mathlib.Core.List.{List, ◌++◌}
use native.Mathlib.Numerals.{add-one}
use native.Mathlib.Omega.{arith}
use lib.ListN.{length, get_or, take, drop, set, replicate, length-take, length-drop}
use lib.Seq.{take_all, drop-drop, set_at, take-suc, append_snoc}
use Rattle.lists.proofs.Buffers.{tail_mid}
use Rattle.std.specs.Int.{from_be_bytes, w64}
use Rattle.boards.specs.declared.Board.{Board}
use Rattle.lent.specs.Places.{no_board}
use Rattle.sheet.specs.Sheet.{bodies_begin, sheet_right, boards_in, in_places}
use Rattle.sheet.proofs.Bodies.{board_at, boards_lie, boards_inside}
use Rattle.sheet.proofs.Numbers.{eight_bytes}

-- the first i of them are in place
abbrev pub placed : List Board → ℕ → List Board
placed bs i = take i bs ++ replicate (40 - i) no_board

pub placed_turn : (bs : List Board) (i : ℕ) (b : Board) → i < length bs → i < 40 → b ≡ get_or bs i no_board → set (placed bs i) i b ≡ placed bs (i + 1)
placed_turn bs i b h few e =
    let left : 40 - i ≡ suc (40 - (i + 1)) = omega arith in
    let front : length (take i bs) ≡ i = rw length-take (omega arith) in
    rw (left, set_at (take i bs) no_board (replicate (40 - (i + 1)) no_board) b i front, e, add-one i, take-suc bs i no_board h, append_snoc)

pub placed_all : (bs : List Board) (i : ℕ) → i ≡ length bs → placed bs i ≡ in_places bs
placed_all bs i e = rw (e, take_all (length bs) bs (omega arith))

-- the board at a place behind the facts has what the library makes of its bytes
pub board_there : (sheet : List ℕ) (i : ℕ) → sheet_right sheet ≡ true → i < length (boards_in sheet) → {bodies bytes : List ℕ} {identity : ℕ}
    → bodies ≡ drop (bodies_begin sheet) sheet → bytes ≡ take 8 (drop (8 * i) (take (length bodies - 21) (drop 21 bodies)))
    → identity ≡ from_be_bytes w64 bytes → record { identity = identity; address = 0 } ≡ get_or (boards_in sheet) i no_board
board_there sheet i right b {bodies} {bytes} e f n =
    let place : bodies_begin sheet + (21 + 8 * i) ≡ bodies_begin sheet + 21 + 8 * i = omega arith in
    let here : bytes ≡ take 8 (drop (bodies_begin sheet + 21 + 8 * i) sheet) = f ∙ rw (tail_mid 21 bodies, e, drop-drop, drop-drop, place) in
    let long : length bytes ≡ 8 = rw here (simp (length-take, length-drop) (omega (arith, boards_inside sheet right))) in
    rw (n, eight_bytes bytes long, here)
    (sym (ap (λ (bs : List Board). get_or bs i no_board) (boards_lie sheet right)
    ∙ board_at (length (boards_in sheet)) (bodies_begin sheet + 21) sheet i no_board b))
