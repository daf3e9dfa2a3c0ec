-- A record read at its places, also past its end: what is read there is 65,535, which leads nowhere and passes no test.
use Prim.Native.Nat.{ℕ, zero, suc, ◌+◌, ◌<◌, ◌≤◌}
use mathlib.Core.Path.{◌≡◌, refl, sym, ◌∙◌}
use mathlib.Core.Bool.{Bool, true, false, not, true≢false}
use mathlib.Core.List.{List}
use native.Mathlib.Omega.{arith}
use lib.Count.{ones_in}
use lib.Dec.{ltb}
use lib.ListN.{length, drop, drop_of_length-le, get_or-eq_default}
use borrow.Author.Tests.{ltb-true, ltb-false, not-false}
use Rattle.lists.proofs.Lists.{drop_step}
use Rattle.parity.specs.Parity.{odd_bit, parity}
use Rattle.parity.specs.Cells.{is_identity}
use Rattle.readings.specs.declared.Joining.TheVariants.{Refused, Answered}
use Rattle.readings.specs.declared.Joining.TheVariants as joinings
use Rattle.readings.specs.declared.Command.{Command}
use Rattle.readings.specs.Readings.{command_number}
use Rattle.reader.specs.Points.{Point, start, opening, again, reopening, command, event, header, new_address, round, offer, behind, ending}
use Rattle.reader.specs.Points.{nowhere, next, is_write_byte, is_new_address, is_offered, command_of}
use Rattle.reader.specs.Read.{Answer, stopped, lead, from, cell_at}

-- what the cells say from a point at the place `at` on
abbrev pub read_at : Point → List ℕ → ℕ → Answer
read_at p s at = from p (drop at s) at

-- ---- one cell

-- a place stands before the end, or what is read there is 65,535
pub by_place : {P : Type 0} (s : List ℕ) (at : ℕ) → (at < length s → P) → (length s ≤ at → cell_at s at ≡ 65535 → P) → P
by_place {P} s at f g = go (ltb at (length s)) refl
  where
    go : (b : Bool) → ltb at (length s) ≡ b → P
    go true e = f (ltb-true at (length s) e)
    go false e =
        let h : length s ≤ at = ltb-false at (length s) e in
        g h (get_or-eq_default s 65535 {n = at} h)

-- which leads nowhere
nowhere_past : (p : Point) → next p 65535 ≡ nowhere
unfolding next command_of is_write_byte is_new_address is_offered is_identity odd_bit parity ones_in
nowhere_past start = refl
nowhere_past opening = refl
nowhere_past (again p) = refl
nowhere_past reopening = refl
nowhere_past (command joinings.None) = refl
nowhere_past (command Refused) = refl
nowhere_past (command Answered) = refl
nowhere_past (event j c) = refl
nowhere_past (header c) = refl
nowhere_past (new_address c a) = refl
nowhere_past (round j n) = refl
nowhere_past (offer j n zero) = refl
nowhere_past (offer j n (suc k)) = refl
nowhere_past (behind j n) = refl
nowhere_past (ending r) = refl

-- so the cells go on by what is read at a place, also past the end
pub from_at : (p : Point) (s : List ℕ) (at : ℕ)
    → read_at p s at ≡ lead (next p (cell_at s at)) at (λ p'. read_at p' s (at + 1)) (λ r. stopped r (drop (at + 1) s) (at + 1))
unfolding from
from_at p s at =
    by_place s at
    (λ h. rw (drop_step s at 65535 h))
    (λ h past. rw (drop_of_length-le s {i = at} h, past, nowhere_past p))

-- ---- a cell that passes a test that 65,535 does not pass stands before the end

module _ (s : List ℕ) (at : ℕ) {x : ℕ} (cell : x ≡ cell_at s at) where
  stands_by : (f : ℕ → Bool) → f 65535 ≡ false → f x ≡ true → at + 1 ≤ length s
  stands_by f none e = by_place s at (λ h. omega arith) (λ h past. absurd (true≢false (sym e ∙ rw (cell, past) none)))

  pub stands : (n : ℕ) → x ≡ n → ltb n 65535 ≡ true → at + 1 ≤ length s
  stands n e h = stands_by (λ y. ltb y 65535) refl (rw e h)

  pub write_stands : not (is_write_byte x) ≡ false → at + 1 ≤ length s
  unfolding is_write_byte
  write_stands e = stands_by is_write_byte refl (not-false _ e)

  pub new_stands : not (is_new_address x) ≡ false → at + 1 ≤ length s
  unfolding is_new_address is_write_byte
  new_stands e = stands_by is_new_address refl (not-false _ e)

  pub offered_stands : not (is_offered x) ≡ false → at + 1 ≤ length s
  unfolding is_offered
  offered_stands e = stands_by is_offered refl (not-false _ e)

  pub identity_stands : not (is_identity x) ≡ false → at + 1 ≤ length s
  unfolding is_identity
  identity_stands e = stands_by is_identity refl (not-false _ e)

  pub command_stands : {k : Command} → k ≡ command_of x → (d : Command) → k ≡ d → ltb 0 (command_number d) ≡ true → at + 1 ≤ length s
  unfolding command_of odd_bit parity ones_in
  command_stands told d e some = stands_by (λ y. ltb 0 (command_number (command_of y))) refl (rw (← told, e) some)

-- ---- the second cell

pub two_stand : (s : List ℕ) {x : ℕ} → x ≡ cell_at s 1 → (n : ℕ) → x ≡ n → ltb n 65535 ≡ true → 2 ≤ length s
two_stand s cell n e h = stands s 1 cell n e h
