-- What reader and writer are to each other: the reader accepts exactly the layouts, what was written is read back, what was read is written again,
-- the writer writes exactly what can be read, and a reading with its bytes has one record.
use Prim.Native.Nat.{ℕ, ◌+◌, ◌*◌, ◌≤◌}
use mathlib.Core.Path.{◌≡◌, refl, sym, ap, ◌∙◌}
use mathlib.Core.Bool.{Bool, true, false, cond, not}
use mathlib.Core.List.{List, [], ◌∷◌}
use mathlib.Core.Logic.{◌⊎◌, inl, inr, ⊎_elim}
use native.Mathlib.Omega.{arith}
use lib.Dec.{eqb, leb, ltb}
use lib.ListN.{length, take, drop}
use lib.Seq.{take_at}
use borrow.Author.Tests.{leb-true, le-leb, le-ltb, ltb-false}
use Rattle.lists.specs.Buffers.{lay}
use Rattle.lists.proofs.Bools.{both, and, not-refused}
use Rattle.readings.specs.declared.Reading.{Reading}
use Rattle.readings.specs.Layouts.{cells_of, has_layout}
use Rattle.reader.specs.Read.{Answer}
use Rattle.reader.specs.Points.{Point, Next, nowhere, to, over, start, next}
use Rattle.reader.specs.Read.{says, refused, breaks, stopped, lead, from, offers_of, answer_to, offers_to}
use Rattle.reader.proofs.Bytes.{answer-within}
use Rattle.writer.specs.Write.{writable, write_refusal, to_write}
use Rattle.lists.specs.Bits.{are_bytes}
use Rattle.records.specs.Records.{Laid, ReadsAs}
use Rattle.records.proofs.Inverse.{read_layout}
use Rattle.records.proofs.Forward.{cells_prefix, layout_prefix, offers_length, layout_reads, layout_read}

-- ---- what the reader answers

-- a reading, or a place where the cells break
abbrev Either : Answer → Type 0
Either a = (a ≡ says a.reading) ⊎ (a ≡ breaks a.place)

stopped_either : (r : Reading) (cells : List ℕ) (at : ℕ) → Either (stopped r cells at)
unfolding stopped
stopped_either r [] at = inl refl
stopped_either r (x ∷ cells) at = inr refl

lead_either : (n : Next) (at : ℕ) (on : Point → Answer) (end : Reading → Answer)
    → ((p : Point) → Either (on p)) → ((r : Reading) → Either (end r)) → Either (lead n at on end)
lead_either nowhere at on end f g = inr refl
lead_either (to p) at on end f g = f p
lead_either (over r) at on end f g = g r

pub from_either : (cells : List ℕ) (p : Point) (at : ℕ) → Either (from p cells at)
unfolding from
from_either [] p at = inr refl
from_either (x ∷ cells) p at =
    lead_either (next p x) at (λ p'. from p' cells (at + 1)) (λ r. stopped r cells (at + 1))
    (λ p'. from_either cells p' (at + 1)) (λ r. stopped_either r cells (at + 1))

from-says : (cells : List ℕ) → (from start cells 0).refusal ≡ 0 → from start cells 0 ≡ says (from start cells 0).reading
from-says cells h = ⊎_elim (λ e. e) (λ e. absurd (omega (arith, h, ap (λ (a : Answer). a.refusal) e))) (from_either cells start 0)

-- an answer that is neither 13 nor 15 is what at most 1,024 cells come to
module _ (cells : List ℕ) (room : ℕ) where
  pub answer_is : ((answer_to cells room).refusal ≡ 13 → ⊥) → ((answer_to cells room).refusal ≡ 15 → ⊥)
      → (length cells ≤ 1024) × (answer_to cells room ≡ from start cells 0)
  unfolding answer_to
  answer_is f g =
      let a : Answer = from start cells 0 in
      let t = go (ltb 1024 (length cells)) (not (eqb a.refusal 0)) (ltb room (10 * a.reading.offers)) a f g in
      (ltb-false 1024 (length cells) t.0, t.1)
    where
      go : (long broken little : Bool) (a : Answer)
          → ((cond long (refused 13 0) (cond broken a (cond little (refused 15 0) a))).refusal ≡ 13 → ⊥)
          → ((cond long (refused 13 0) (cond broken a (cond little (refused 15 0) a))).refusal ≡ 15 → ⊥)
          → (long ≡ false) × (cond long (refused 13 0) (cond broken a (cond little (refused 15 0) a)) ≡ a)
      go true broken little a f g = absurd (f refl)
      go false true little a f g = (refl, refl)
      go false false true a f g = absurd (g refl)
      go false false false a f g = (refl, refl)

  pub answer-says : (answer_to cells room).refusal ≡ 0 → (length cells ≤ 1024) × (from start cells 0 ≡ says (answer_to cells room).reading)
  answer-says h =
      let t = answer_is (λ e. absurd (omega arith)) (λ e. absurd (omega arith)) in
      (t.0, rw t.1 (from-says cells (rw t.1 at h)))

-- ---- where the writer refuses nothing

module _ (r : Reading) (bytes : List ℕ) where
  -- the two halves of the test
  writable-says : writable r bytes ≡ true → (has_layout r bytes ≡ true) × (length (cells_of r bytes) ≤ 1024)
  unfolding writable
  writable-says h =
      let t = both (has_layout r bytes) (leb (length (cells_of r bytes)) 1024) h in
      (t.0, leb-true (length (cells_of r bytes)) 1024 t.1)

  writable_where : has_layout r bytes ≡ true → length (cells_of r bytes) ≤ 1024 → writable r bytes ≡ true
  unfolding writable
  writable_where h l = and h (le-leb (length (cells_of r bytes)) 1024 l)

  -- it refuses nothing where there is room and the test passes, and then writes the cells of the layout
  module _ (room : ℕ) where
    unrefused_says : write_refusal r bytes room ≡ 0 → writable r bytes ≡ true
    unfolding write_refusal
    unrefused_says h = go (writable r bytes) ((not-refused (ltb room 1024) 11 (cond (writable r bytes) 0 14) refl).0 h).1
      where
        go : (w : Bool) → ◌≡◌ {A = ℕ} (cond w 0 14) 0 → w ≡ true
        go true z = refl
        go false z = absurd (omega arith)

    unrefused_where : 1024 ≤ room → writable r bytes ≡ true → write_refusal r bytes room ≡ 0
    unfolding write_refusal
    unrefused_where l w = rw (le-ltb room 1024 l, w)

    unrefused_cells : write_refusal r bytes room ≡ 0 → to_write r bytes room ≡ cells_of r bytes
    unfolding to_write
    unrefused_cells h = rw h

-- ---- the reader accepts exactly the layouts

pub laid-accepted : {cells : List ℕ} (l : Laid cells) → from start cells 0 ≡ says l.reading
laid-accepted l = rw l.gives (layout_read l.reading l.bytes l.eight_bits l.layout)

pub accepted-laid : (r : Reading) (cells : List ℕ) → from start cells 0 ≡ says r → Laid cells
accepted-laid r cells h =
    let t = read_layout r cells h in
    record { reading = r; bytes = offers_of r cells; eight_bits = t.2; layout = t.0; gives = sym t.1 }

-- ---- a reading with its bytes has one record

-- cells that read as this are those of its layout
reads_layout : {r : Reading} {bytes cells : List ℕ} → ReadsAs r bytes cells → (has_layout r bytes ≡ true) × (cells_of r bytes ≡ cells)
reads_layout {r} {bytes} {cells} w =
    let t = read_layout r cells w.reads in
    rw (← layout_prefix r bytes, ← cells_prefix r bytes, ← w.tells) (t.0, t.1)

pub one_record : {r : Reading} {bytes cells cells' : List ℕ} → ReadsAs r bytes cells → ReadsAs r bytes cells' → cells ≡ cells'
one_record w w' = sym (reads_layout w).1 ∙ (reads_layout w').1

-- ---- the writer writes exactly what can be read from at most 1,024 cells

pub writable_reads : (r : Reading) (bytes : List ℕ) → are_bytes bytes ≡ true → writable r bytes ≡ true
    → (cells : List ℕ) × (length cells ≤ 1024) × ReadsAs r bytes cells
writable_reads r bytes small h =
    let t = writable-says r bytes h in
    (cells_of r bytes, t.1, layout_reads r bytes small t.0)

pub reads_writable : (r : Reading) (bytes cells : List ℕ) → length cells ≤ 1024 → ReadsAs r bytes cells → writable r bytes ≡ true
reads_writable r bytes cells short w =
    let t = reads_layout w in
    writable_where r bytes t.0 (rw t.1 short)

-- ---- what was written is read back: no refusal, the same reading, the same bytes

pub read_what_was_written : (r : Reading) (bytes : List ℕ) (room : ℕ) (buffer : List ℕ) → are_bytes bytes ≡ true
    → write_refusal r bytes room ≡ 0 → 10 * r.offers ≤ length buffer
    → (answer_to (to_write r bytes room) (length buffer) ≡ says r)
    × (offers_to (to_write r bytes room) (length buffer) ≡ take (10 * r.offers) bytes)
read_what_was_written r bytes room buffer small h fits =
    let t = writable-says r bytes (unrefused_says r bytes room h) in
    let w = layout_reads r bytes small t.0 in
    let answer = answer-within (cells_of r bytes) (length buffer) w.reads t.1 fits in
    rw (unrefused_cells r bytes room h, answer) (refl, w.tells)

-- ---- what was read is written again, from the very buffer that it was read into: no refusal, the same cells

pub write_what_was_read : (cells buffer : List ℕ) (room : ℕ) → (answer_to cells (length buffer)).refusal ≡ 0 → 1024 ≤ room
    → let r = (answer_to cells (length buffer)).reading in
    let after = lay (offers_to cells (length buffer)) buffer in
    (write_refusal r after room ≡ 0) × (to_write r after room ≡ cells)
write_what_was_read cells buffer room h l =
    let r : Reading = (answer_to cells (length buffer)).reading in
    let told : List ℕ = offers_of r cells in
    let after : List ℕ = lay told buffer in
    let t = answer-says cells (length buffer) h in
    let first : take (10 * r.offers) after ≡ told = take_at told (drop (length told) buffer) (10 * r.offers) (offers_length r cells) in
    let w : ReadsAs r after cells = record { reads = t.1; tells = sym first } in
    let none : write_refusal r after room ≡ 0 = unrefused_where r after room l (reads_writable r after cells t.0 w) in
    rw h (none, unrefused_cells r after room none ∙ (reads_layout w).1)
