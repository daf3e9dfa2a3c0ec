-- Which readings have a record of at most 1,024 cells, and what is answered.
use Prim.Native.Nat.{ℕ, zero, suc, ◌+◌, ◌*◌, ◌/◌, ◌<◌, ◌≤◌}
use mathlib.Core.Path.{◌≡◌, refl, sym, ap, ◌∙◌}
use mathlib.Core.Bool.{Bool, true, false, not, ◌&&◌, and-true, and-eq-true_iff, true≢false}
use mathlib.Core.List.{List}
use mathlib.Core.Logic.{◌⊎◌, ⊎_elim}
use native.Mathlib.Omega.{arith}
use lib.Dec.{eqb, leb}
use lib.ListN.{length, take, drop, length-append}
use lib.Seq.{get_or-take}
use borrow.Author.Tests.{le-leb, lt-ltb, le-ltb, leb-true, eqb-true}
use Rattle.std.specs.Simd.{first_chunks}
use Rattle.lists.specs.Lists.{all}
use Rattle.lists.specs.Buffers.{lay}
use Rattle.lists.proofs.Bools.{agree}
use Rattle.readings.specs.declared.Joining.{Joining}
use Rattle.readings.specs.declared.Joining.TheVariants.{Refused, Answered}
use Rattle.readings.specs.declared.Joining.TheVariants as joinings
use Rattle.readings.specs.declared.Command.{Command}
use Rattle.readings.specs.declared.Command.TheVariants.{Assign, ResetAll, SetFromStatic, Move, Silence, Allow}
use Rattle.readings.specs.declared.Command.TheVariants as commands
use Rattle.readings.specs.declared.Reading.{Reading}
use Rattle.readings.specs.Readings.{command_number, may_follow}
use Rattle.readings.specs.Layouts.{rounds_end, direct_cells, command_cells, joining_cells, cells_of}
use Rattle.readings.specs.Layouts.{is_bare, is_directed, is_assigned, offers_right, says_right, has_layout}
use Rattle.writer.specs.Write.{Written, right, writable, write_refusal, to_write, write_answer}
use Rattle.writer.proofs.Offers.{offers_length}

-- ---- an assign's tests

-- so many offers are right just where each of the first so many tens is
right_tens : (n k : ℕ) (bytes : List ℕ) → n ≤ k → all right (take n (first_chunks 10 k bytes)) ≡ offers_right n bytes
unfolding offers_right
right_tens zero k bytes h = refl
right_tens (suc n) zero bytes h = absurd (omega arith)
right_tens (suc n) (suc k) bytes h =
    rw (get_or-take 10 bytes 8 0 (omega arith), get_or-take 10 bytes 9 0 (omega arith), right_tens n k (drop 10 bytes) (omega arith))

-- the same tests in another order, where only the last one is left
tests_pass : (a m k o : Bool) → (a && m && k) ≡ true → o ≡ (a && k && o && m)
tests_pass true true true true e = refl
tests_pass true true true false e = refl
tests_pass true true false o e = absurd (true≢false (sym e))
tests_pass true false k o e = absurd (true≢false (sym e))
tests_pass false m k o e = absurd (true≢false (sym e))

module _ (r : Reading) (bytes : List ℕ) where
  abbrev quiet : Bool
  quiet = eqb r.header 0 && eqb r.new 0 && not r.direct && not (r.last && eqb r.offers 0)

  abbrev assignable : Bool
  assignable = is_assigned r bytes && leb r.offers 92

  -- bytes for so many offers
  enough : leb r.offers (length bytes / 10) ≡ leb (10 * r.offers) (length bytes)
  enough =
      agree (leb r.offers (length bytes / 10)) (leb (10 * r.offers) (length bytes))
      (λ h. le-leb _ _ (omega (arith, leb-true r.offers (length bytes / 10) h)))
      (λ h. le-leb _ _ (omega (arith, leb-true (10 * r.offers) (length bytes) h)))

  pub assigned_right : (quiet && leb r.offers 92 && leb r.offers (length bytes / 10)) ≡ true
      → {b : Bool} → b ≡ all right (take r.offers (first_chunks 10 (length bytes / 10) bytes)) → b ≡ assignable
  unfolding is_assigned
  assigned_right e p =
      let t = simp and-eq-true_iff at e in
      p ∙ right_tens r.offers (length bytes / 10) bytes (leb-true r.offers (length bytes / 10) t.1)
      ∙ tests_pass quiet (leb r.offers 92) (leb (10 * r.offers) (length bytes)) (offers_right r.offers bytes) (rw enough at e)

-- ---- how long the records are

direct-length : (header new : ℕ) (answered : Bool) → length (direct_cells header new answered) ≤ 4
direct-length header new true = omega arith
direct-length header new false = omega arith

end_length : (last : Bool) → (1 ≤ length (rounds_end last)) × (length (rounds_end last) ≤ 3)
end_length true = omega arith
end_length false = omega arith

-- from 7Eh/W on: six cells at most, but for an assign
plain-length : (c : Command) (r : Reading) (bytes : List ℕ) → eqb (command_number c) 1 ≡ false → length (command_cells c r bytes) ≤ 6
plain-length commands.None r bytes e = omega arith
plain-length Assign r bytes e = absurd (true≢false e)
plain-length ResetAll r bytes e = omega arith
plain-length SetFromStatic r bytes e = omega (arith, direct-length r.header r.new r.direct)
plain-length Move r bytes e = omega (arith, direct-length r.header r.new r.direct)
plain-length Silence r bytes e = omega arith
plain-length Allow r bytes e = omega arith

-- an assign's: eleven for each offer, and three to five
assign_length : (r : Reading) (bytes : List ℕ) → 10 * r.offers ≤ length bytes
    → (11 * r.offers + 3 ≤ length (command_cells Assign r bytes)) × (length (command_cells Assign r bytes) ≤ 11 * r.offers + 5)
assign_length r bytes h = rw (length-append, offers_length r.offers bytes h) (omega (arith, end_length r.last))

-- with what stands before them: all records but assigns fit
plain_fits : (j : Joining) (rest : List ℕ) → length rest ≤ 6 → leb (length (joining_cells j rest)) 1024 ≡ true
plain_fits joinings.None rest h = le-leb (suc (length rest)) 1024 (omega arith)
plain_fits Refused rest h = refl
plain_fits Answered rest h = le-leb (suc (suc (suc (length rest)))) 1024 (omega arith)

-- and an assign does with 92 offers and not with 93
bounds : (m n : ℕ) → 11 * n + 4 ≤ m → m ≤ 11 * n + 8 → leb m 1024 ≡ leb n 92
bounds m n a b =
    agree (leb m 1024) (leb n 92) (λ h. le-leb n 92 (omega (arith, leb-true m 1024 h))) (λ h. le-leb m 1024 (omega (arith, leb-true n 92 h)))

assign_fits : (j : Joining) (n : ℕ) (rest : List ℕ) → may_follow j Assign ≡ true → 11 * n + 3 ≤ length rest → length rest ≤ 11 * n + 5
    → leb (length (joining_cells j rest)) 1024 ≡ leb n 92
assign_fits joinings.None n rest m a b = bounds (suc (length rest)) n (omega arith) (omega arith)
assign_fits Refused n rest m a b = absurd (true≢false (sym m))
assign_fits Answered n rest m a b = bounds (suc (suc (suc (length rest)))) n (omega arith) (omega arith)

-- ---- how many offers a reading has

bare_none : (r : Reading) → is_bare r ≡ true → r.offers ≡ 0
unfolding is_bare
bare_none r h = let t = simp and-eq-true_iff at h in eqb-true _ _ t.1

directed_none : (r : Reading) → is_directed r ≡ true → r.offers ≡ 0
unfolding is_directed
directed_none r h = let t = simp and-eq-true_iff at h in eqb-true _ _ t.1

assigned_enough : (r : Reading) (bytes : List ℕ) → is_assigned r bytes ≡ true → 10 * r.offers ≤ length bytes
unfolding is_assigned
assigned_enough r bytes h = let t = simp and-eq-true_iff at h in leb-true _ _ t.0.1

-- ---- by joining and command

module _ (r : Reading) (bytes : List ℕ) where
  abbrev fits : Joining → Command → Bool
  fits j c = may_follow j c && says_right c r bytes && leb (length (joining_cells j (command_cells c r bytes))) 1024

  plain : (j : Joining) (c : Command) → may_follow j c ≡ true → eqb (command_number c) 1 ≡ false → says_right c r bytes ≡ fits j c
  plain j c m n = sym (rw (m, plain_fits j (command_cells c r bytes) (plain-length c r bytes n)) (and-true (says_right c r bytes)))

  assign : (j : Joining) → may_follow j Assign ≡ true → assignable r bytes ≡ fits j Assign
  assign j m = rw m (go (is_assigned r bytes) refl)
    where
      go : (a : Bool) → is_assigned r bytes ≡ a → (a && leb r.offers 92) ≡ (a && leb (length (joining_cells j (command_cells Assign r bytes))) 1024)
      go true e =
          let l = assign_length r bytes (assigned_enough r bytes e) in
          sym (assign_fits j r.offers (command_cells Assign r bytes) m l.0 l.1)
      go false e = refl

  room : (j : Joining) (c : Command) → fits j c ≡ true → (r.offers ≤ 92) × (10 * r.offers ≤ length bytes)
  room j c h = let t = simp and-eq-true_iff at h in go c t.0.0 t.0.1 h
    where
      go : (c : Command) → may_follow j c ≡ true → says_right c r bytes ≡ true → fits j c ≡ true → (r.offers ≤ 92) × (10 * r.offers ≤ length bytes)
      go commands.None m s w = omega (arith, bare_none r s)
      go Assign m s w = let t = simp and-eq-true_iff at (assign j m ∙ w) in (leb-true _ _ t.1, assigned_enough r bytes s)
      go ResetAll m s w = omega (arith, bare_none r s)
      go SetFromStatic m s w = omega (arith, directed_none r s)
      go Move m s w = omega (arith, directed_none r s)
      go Silence m s w = omega (arith, bare_none r s)
      go Allow m s w = omega (arith, bare_none r s)

  -- what is written has at most 92 offers, and their bytes
  pub writable_room : writable r bytes ≡ true → (r.offers ≤ 92) × (10 * r.offers ≤ length bytes)
  unfolding writable has_layout cells_of
  writable_room h = room r.joining r.command h

  pub writable_never : may_follow r.joining r.command ≡ false → false ≡ writable r bytes
  unfolding writable has_layout
  writable_never e = rw e

  module _ (m : may_follow r.joining r.command ≡ true) {c : Command} (e : r.command ≡ c) where
    follows : may_follow r.joining c ≡ true
    follows = rw e at m

    fits_here : fits r.joining c ≡ writable r bytes
    unfolding writable has_layout cells_of
    fits_here = ap (fits r.joining) (sym e)

    plainly : eqb (command_number c) 1 ≡ false → {b : Bool} → b ≡ says_right c r bytes → b ≡ writable r bytes
    plainly n p = p ∙ plain r.joining c follows n ∙ fits_here

  module _ (m : may_follow r.joining r.command ≡ true) where
    pub writable_bare : (r.command ≡ commands.None) ⊎ (r.command ≡ ResetAll) ⊎ (r.command ≡ Silence) ⊎ (r.command ≡ Allow)
        → {b : Bool} → b ≡ is_bare r → b ≡ writable r bytes
    writable_bare h p = ⊎_elim (λ e. plainly m e refl p) (⊎_elim (λ e. plainly m e refl p) (⊎_elim (λ e. plainly m e refl p) (λ e. plainly m e refl p))) h

    pub writable_directed : (r.command ≡ SetFromStatic) ⊎ (r.command ≡ Move) → {b : Bool} → b ≡ is_directed r → b ≡ writable r bytes
    writable_directed h p = ⊎_elim (λ e. plainly m e refl p) (λ e. plainly m e refl p) h

  pub writable_assign : may_follow r.joining r.command ≡ true → r.command ≡ Assign → {b : Bool} → b ≡ assignable r bytes → b ≡ writable r bytes
  writable_assign m e p = p ∙ assign r.joining (follows m e) ∙ fits_here m e

-- ---- the answer

module _ (r : Reading) (bytes buffer : List ℕ) where
  pub too_few : length buffer < 1024 → write_refusal r bytes (length buffer) ≡ 11
  unfolding write_refusal
  too_few h = rw (lt-ltb _ _ h)

  module _ (h : 1024 ≤ length buffer) where
    pub no_layout : writable r bytes ≡ false → write_refusal r bytes (length buffer) ≡ 14
    unfolding write_refusal
    no_layout e = rw (le-ltb _ _ h, e)

    accepted : writable r bytes ≡ true → write_refusal r bytes (length buffer) ≡ 0
    unfolding write_refusal
    accepted e = rw (le-ltb _ _ h, e)

  -- after a refusal nothing is written
  pub not_written : {k : ℕ} → write_refusal r bytes (length buffer) ≡ k → eqb k 0 ≡ false
      → {w : Written} → w ≡ record { count = 0; refusal = k; place = 0 }
      → (w ≡ write_answer r bytes (length buffer)) × (buffer ≡ lay (to_write r bytes (length buffer)) buffer)
  unfolding to_write
  not_written e n p = rw (e, n) (p, refl)

  -- else the whole record is
  pub all-written : 1024 ≤ length buffer → writable r bytes ≡ true
      → {n : ℕ} {after : List ℕ} → (n ≡ length (cells_of r bytes)) × (after ≡ lay (cells_of r bytes) buffer)
      → (record { count = n; refusal = 0; place = 0 } ≡ write_answer r bytes (length buffer)) × (after ≡ lay (to_write r bytes (length buffer)) buffer)
  unfolding to_write
  all-written h e (p, q) = rw (accepted h e, p) (refl, q)
