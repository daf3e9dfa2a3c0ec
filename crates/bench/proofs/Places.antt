-- Laws of an array in a struct, and of the clocks of a record, cell by cell.
use Prim.Native.Nat.{ℕ, ◌+◌, ◌<◌, ◌≤◌}
use mathlib.Core.Path.{◌≡◌, sym, ◌∙◌}
use mathlib.Core.List.{List, map}
use lib.ListN.{length, get_or, drop, length-map, drop_of_length-le}
use Rattle.std.proofs.lemmas.List.Sums.{sum_by-drop_more}
use Rattle.parity.specs.Cells.{clocks}
use Rattle.bench.specs.Play.{clocks_in}

-- ---- an array in a struct

-- is as long as what it is kept as
pub field_long : {A B : Type 0} (f : A → B) (l : List A) {n : ℕ} → length (map f l) ≡ n → length l ≡ n
field_long f l e = sym (length-map l f) ∙ e

-- ---- the clocks of a record

pub clocks_turn : (cells : List ℕ) (i : ℕ) → i < length cells → clocks_in (drop i cells) ≡ clocks (get_or cells i 0) + clocks_in (drop (i + 1) cells)
clocks_turn cells i h = sum_by-drop_more clocks cells i 0 h

pub clocks_end : (cells : List ℕ) (i : ℕ) → length cells ≤ i → clocks_in (drop i cells) ≡ 0
clocks_end cells i h = rw (drop_of_length-le cells h)
