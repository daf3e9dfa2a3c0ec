-- Cells put into a buffer, one behind the other.
use Prim.Native.Nat.{ℕ, ◌+◌, ◌-◌, ◌≤◌}
use mathlib.Core.Path.{◌≡◌, sym, ap, ◌∙◌}
use mathlib.Core.List.{List, [], ◌∷◌, ◌++◌, append-nil}
use native.Mathlib.Numerals.{add-one}
use native.Mathlib.Omega.{arith}
use lib.ListN.{length, take, drop, set, length-append, length-drop, drop_of_length-le}
use borrow.Rule.Slice.PartMut.{put_mid}
use Rattle.std.proofs.lemmas.List.{take_rest}
use Rattle.lists.specs.Buffers.{lay, lay_at}
use Rattle.lists.proofs.Buffers.{lay_at_sets, lay_on, lay-length}
use Rattle.readings.specs.declared.Joining.{Joining}
use Rattle.readings.specs.declared.Command.{Command}
use Rattle.readings.specs.declared.Reading.{Reading}
use Rattle.readings.specs.Layouts.{command_cells, joining_cells, cells_of}

-- ---- buffers

module _ {A : Type 0} where
  -- two elements, as the code stores them
  pub store_two : (at : ℕ) (buffer : List A) (a b : A) → at + 2 ≤ length buffer → set (set buffer at a) (at + 1) b ≡ lay_at at (a ∷ b ∷ []) buffer
  store_two at buffer a b h = rw add-one (lay_at_sets at (a ∷ b ∷ []) buffer h)

  -- what is put to the front of the part from the place n on stands there in the whole
  pub put_behind : (n : ℕ) (out buffer : List A) → n ≤ length buffer → {part : List A} → part ≡ lay out (take (length buffer - n) (drop n buffer))
      → put_mid n (length buffer - n) buffer part ≡ lay_at n out buffer
  put_behind n out buffer h e =
      let none : drop (length buffer - n) (drop n buffer) ≡ [] = drop_of_length-le (drop n buffer) {i = length buffer - n} (rw length-drop (omega arith)) in
      rw (e, take_rest, none) (rw append-nil)

  -- these elements stand in front, and n is how many: what each function of `puts` promises
  abbrev pub Puts : List A → List A → ℕ → List A → Type 0
  Puts out buffer n after = (n ≡ length out) × (after ≡ lay out buffer)

  -- one behind the other
  pub puts_on : (x y buffer : List A) → length x ≤ length buffer → {n m : ℕ} {between part : List A} → Puts x buffer n between → m ≡ length y
      → part ≡ lay y (take (length between - n) (drop n between)) → Puts (x ++ y) buffer (n + m) (put_mid n (length between - n) between part)
  puts_on x y buffer h {n} {m} {between} (p, q) r e =
      let long : length between ≡ length buffer = rw q (lay-length x buffer h) in
      let behind = put_behind n y between (omega arith) e in
      (rw (p, r) (sym (length-append x y)), behind ∙ rw q (lay_on n x y buffer (sym p) (omega arith)))

  -- how much room is left behind them
  pub puts_room : (k : ℕ) (x buffer : List A) → length x + k ≤ length buffer → {n : ℕ} {between : List A} → Puts x buffer n between
      → k ≤ length (take (length between - n) (drop n between))
  puts_room k x buffer h {n} {between} (p, q) =
      let long : length between ≡ length buffer = rw q (lay-length x buffer (omega arith)) in
      rw (take_rest, length-drop) (omega arith)

-- ---- by command and by joining

module _ (r : Reading) (bytes : List ℕ) where
  module _ {c : Command} (e : r.command ≡ c) {out : List ℕ} (s : out ≡ command_cells c r bytes) where
    same_cells : out ≡ command_cells r.command r bytes
    same_cells = s ∙ ap (λ (c : Command). command_cells c r bytes) (sym e)

    pub puts_for : (buffer : List ℕ) {after : List ℕ} → after ≡ lay out buffer → after ≡ lay (command_cells r.command r bytes) buffer
    puts_for buffer p = rw same_cells at p

  module _ {j : Joining} (e : r.joining ≡ j) {out : List ℕ} (s : out ≡ joining_cells j (command_cells r.command r bytes)) where
    same_record : out ≡ cells_of r bytes
    unfolding cells_of
    same_record = s ∙ ap (λ (j : Joining). joining_cells j (command_cells r.command r bytes)) (sym e)

    -- the whole record
    pub puts_joined : (buffer : List ℕ) {n : ℕ} {after : List ℕ} → Puts out buffer n after
        → (n ≡ length (cells_of r bytes)) × (after ≡ lay (cells_of r bytes) buffer)
    puts_joined buffer (p, q) = (rw same_record at p, rw same_record at q)
