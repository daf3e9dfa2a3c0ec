-- Laws of what is printed for a sheet.
use Prim.Native.Nat.{ℕ, ◌<◌, ◌≤◌}
use mathlib.Core.Path.{◌≡◌, refl, sym, ap, ◌∙◌}
use mathlib.Core.Bool.{Bool, true, false}
use mathlib.Core.List.{List}
use native.Mathlib.Omega.{arith}
use lib.Dec.{eqb, leb}
use lib.ListN.{length, take, length-take}
use lib.Seq.{take_all}
use borrow.Author.Tests.{lt-leb, leb-true, leb-false, ne_eqb}
use Rattle.std.proofs.Common.{Ok, Err, None, Some, IfSome, OnOk, Result, subst, drop}
use Rattle.std.proofs.Math.Seq.{take-append_seam}
use Rattle.std.specs.Io.KnownBytes.{Appends}
use Rattle.std.specs.declared.option.Option.{Option}
use Rattle.lists.specs.Buffers.{lay}
use Rattle.lists.proofs.Bools.{cond_by}
use Rattle.listing.specs.Listing.{refusal_line, lent}
use Rattle.listing.proofs.Lines.{refusal_short}
use Rattle.sheet.specs.Sheet.{sheet_right}
use Rattle.sheet.specs.Runs.{SheetRan, sheet_refusal, sheet_text, sheet_ran}
use Rattle.sheet.proofs.Theorems.{at_most}
use Rattle.rackrun.specs.Answers.{answer}

-- it is at most 1,100 bytes
pub answer_short : (sheet : List ℕ) → length (answer sheet) ≤ 1100
unfolding answer
answer_short sheet =
    let refusal = sheet_refusal sheet 1100 in
    cond_by (λ (l : List ℕ). length l ≤ 1100) (eqb refusal 0) (λ _. at_most sheet 1100) (λ _. omega (arith, refusal_short refusal))

-- over 512 bytes it is the line of refusal 18
too_long : (sheet : List ℕ) → 512 < length sheet → answer sheet ≡ refusal_line 18
unfolding answer sheet_refusal sheet_right
too_long sheet h = rw (lt-leb (length sheet) 512 h)

-- so the first 513 bytes of an input are answered as the whole of it is
pub enough_read : (input : List ℕ) → answer (take 513 input) ≡ answer input
enough_read input = go (leb (length input) 512) refl
  where
    go : (b : Bool) → leb (length input) 512 ≡ b → answer (take 513 input) ≡ answer input
    go true e = ap answer (take_all 513 input (omega (arith, leb-true (length input) 512 e)))
    go false e =
        let long : 512 < length input = leb-false (length input) 512 e in
        too_long (take 513 input) (omega (arith, length-take 513 input)) ∙ sym (too_long input long)

-- a number, and the lent bytes as they then stand, are those of what is printed
abbrev Prints : List ℕ → List ℕ → ℕ → List ℕ → Type 0
Prints sheet out n stand = (n ≡ length (answer sheet)) × (stand ≡ lay (answer sheet) out)

-- a run with 1,100 bytes
module _ (sheet out : List ℕ) (room : length out ≡ 1100) {ran : SheetRan} {stand : List ℕ}
    (runs : ran ≡ sheet_ran sheet (length out)) (left : stand ≡ lay (sheet_text sheet (length out)) out) where
  -- what is handed back
  refusal_same : ran.refusal ≡ sheet_refusal sheet 1100
  unfolding sheet_ran
  refusal_same = ap (λ (r : SheetRan). r.refusal) runs ∙ ap (sheet_refusal sheet) room

  length_same : ran.length ≡ length (sheet_text sheet 1100)
  unfolding sheet_ran
  length_same = ap (λ (r : SheetRan). r.length) runs ∙ ap (λ n. length (sheet_text sheet n)) room

  -- and what stands there
  text_same : stand ≡ lay (sheet_text sheet 1100) out
  text_same = left ∙ ap (λ n. lay (sheet_text sheet n) out) room

  -- its listing
  pub prints_listing : ran.refusal ≡ 0 → Prints sheet out ran.length stand
  unfolding answer
  prints_listing z = rw (sym refusal_same ∙ z) (length_same, text_same)

  module _ (n : ran.refusal ≡ 0 → ⊥) where
    -- the number says so too
    not_taken : sheet_refusal sheet 1100 ≡ 0 → ⊥
    not_taken z = n (refusal_same ∙ z)

    -- refused, it left the bytes as they were
    stays : stand ≡ out
    unfolding sheet_text
    stays = rw (ne_eqb (sheet_refusal sheet 1100) 0 not_taken) at text_same

    -- the line in its place
    pub prints_refusal : {k : ℕ} {after : List ℕ}
        → (let line = lent (length stand) (refusal_line ran.refusal) in
        k ≡ length line → after ≡ lay line stand → Prints sheet out k after)
    unfolding answer
    prints_refusal l w = rw (ne_eqb (sheet_refusal sheet 1100) 0 not_taken, ← refusal_same) (rw (stays, room) at l, rw (stays, room) at w)

-- the bytes that stand where they were left are what is printed
pub stands : (sheet out : List ℕ) {n : ℕ} {stand : List ℕ} → Prints sheet out n stand → take n stand ≡ answer sheet
stands sheet out p = rw (p.0, p.1) (take-append_seam (answer sheet) (drop (length (answer sheet)) out))

-- what is written for the first 513 bytes of an input is written for all of it
pub written : {T E : Type 0} (r : Result T E) (input old new : Option (List ℕ)) (head text : List ℕ) (most : ℕ)
    → most ≡ 513
    → IfSome input (λ xs. head ≡ take most xs)
    → text ≡ answer head
    → OnOk r (Appends old new text)
    → OnOk r (IfSome input (λ xs. Appends old new (answer xs)))
written (Ok x) None old new head text most m h e w = tt
written (Ok x) (Some xs) old new head text most m h e w =
    let same : text ≡ answer xs = e ∙ ap answer (h ∙ ap (λ n. take n xs) m) ∙ enough_read xs in
    subst (Appends old new) same w
written (Err x) input old new head text most m h e w = tt
