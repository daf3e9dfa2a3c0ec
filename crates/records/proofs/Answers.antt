-- What reader and writer answer: refusals 0 and 14, by the layouts.
use Prim.Native.Nat.{ℕ, ◌*◌, ◌≤◌}
use mathlib.Core.Path.{◌≡◌, refl, sym, ap, ◌∙◌}
use mathlib.Core.Bool.{Bool, true, false, cond, true≢false}
use mathlib.Core.List.{List}
use mathlib.Core.Logic.{⊎_elim}
use native.Mathlib.Omega.{arith}
use lib.Dec.{ltb}
use lib.ListN.{length}
use borrow.Author.Tests.{le-ltb}
use Rattle.readings.specs.declared.Reading.{Reading}
use Rattle.reader.specs.Read.{Answer}
use Rattle.reader.specs.Points.{start}
use Rattle.reader.specs.Read.{says, breaks, from, answer_to}
use Rattle.reader.proofs.Bytes.{answer-within}
use Rattle.writer.specs.Write.{writable, write_refusal}
use Rattle.lists.specs.Bits.{are_bytes}
use Rattle.records.specs.Records.{Laid, ReadsAs, FirstBad}
use Rattle.records.proofs.Trips.{from_either, answer_is, answer-says, laid-accepted, accepted-laid, writable_reads, reads_writable}
use Rattle.records.proofs.Place.{first_bad}

-- ---- the reader

module _ (cells : List ℕ) (room : ℕ) where
  -- a record of at most 1,024 cells is read as what its layout says, if the buffer has room for its offers
  pub accepts : (l : Laid cells) → length cells ≤ 1024 → 10 * l.reading.offers ≤ room → answer_to cells room ≡ says l.reading
  accepts l short fits = answer-within cells room (laid-accepted l) short fits

  -- and nothing else is
  pub accepted : (answer_to cells room).refusal ≡ 0 → Laid cells × (length cells ≤ 1024)
  accepted h = let t = answer-says cells room h in (accepted-laid (answer_to cells room).reading cells t.1, t.0)

  -- at most 1,024 cells that are no record are refused 14
  pub refuses : length cells ≤ 1024 → (Laid cells → ⊥) → (place : ℕ) × (answer_to cells room ≡ breaks place)
  refuses short none =
      ⊎_elim (λ e. absurd (none (accepted-laid (from start cells 0).reading cells e)))
      (λ e. ((from start cells 0).place, answer-within cells room e short (omega arith)))
      (from_either cells start 0)

  -- and the place of 14 is that of the first cell that no layout can continue, or the length
  pub refused-at : (answer_to cells room).refusal ≡ 14 → FirstBad cells (answer_to cells room).place
  refused-at h =
      let t = answer_is cells room (λ e. absurd (omega arith)) (λ e. absurd (omega arith)) in
      ⊎_elim (λ e. absurd (omega (arith, h, ap (λ (a : Answer). a.refusal) (t.1 ∙ e))))
      (λ e. rw t.1 (first_bad cells (from start cells 0).place e))
      (from_either cells start 0)

-- ---- the writer

not-writable : (few fits : Bool) → ◌≡◌ {A = ℕ} (cond few 11 (cond fits 0 14)) 14 → fits ≡ false
not-writable true fits h = absurd (omega arith)
not-writable false true h = absurd (omega arith)
not-writable false false h = refl

module _ (r : Reading) (bytes : List ℕ) (room : ℕ) where
  -- where the writer says 14, no record of at most 1,024 cells reads as what it was given
  pub write-refused : write_refusal r bytes room ≡ 14 → (cells : List ℕ) → length cells ≤ 1024 → ReadsAs r bytes cells → ⊥
  unfolding write_refusal
  write-refused h cells short w =
      true≢false (sym (reads_writable r bytes cells short w) ∙ not-writable (ltb room 1024) (writable r bytes) h)

  -- and where none does, it says 14
  pub write-refuses : are_bytes bytes ≡ true → 1024 ≤ room → ((cells : List ℕ) → length cells ≤ 1024 → ReadsAs r bytes cells → ⊥)
      → write_refusal r bytes room ≡ 14
  unfolding write_refusal
  write-refuses small enough none = rw (le-ltb room 1024 enough) (go (writable r bytes) refl)
    where
      go : (b : Bool) → writable r bytes ≡ b → ◌≡◌ {A = ℕ} (cond b 0 14) 14
      go true e = let (cells, short, w) = writable_reads r bytes small e in absurd (none cells short w)
      go false e = refl
