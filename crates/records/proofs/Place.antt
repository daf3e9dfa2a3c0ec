-- The place of refusal 14: what stands before it can be continued to a record, and what ends with the cell there can't.
use Prim.Native.Nat.{ℕ, zero, suc, ◌+◌, ◌≤◌, ◌<◌}
use mathlib.Core.Path.{◌≡◌, refl, sym, ap, ◌∙◌, subst}
use mathlib.Core.Bool.{Bool, true, false, cond}
use mathlib.Core.List.{List, [], ◌∷◌, ◌++◌, append_assoc}
use native.Mathlib.Omega.{arith}
use native.Mathlib.Nat.{add-zero}
use lib.Count.{ones_in}
use lib.ListN.{length, take, drop, take-append-drop}
use lib.Seq.{take-take}
use Rattle.lists.proofs.Bools.{cond_by}
use Rattle.parity.specs.Parity.{parity, odd_bit}
use Rattle.parity.specs.Cells.{is_identity, answer_cell, identity_cell, write_byte, data_cell, start_cell, repeated_start_cell, stop_cell, broadcast_write, broadcast_read, reset_all_cell, silence_cell, joining_cell}
use Rattle.readings.specs.declared.Joining.{Joining}
use Rattle.readings.specs.declared.Joining.TheVariants.{Refused, Answered}
use Rattle.readings.specs.declared.Joining.TheVariants as joinings
use Rattle.readings.specs.declared.Command.{Command}
use Rattle.readings.specs.declared.Command.TheVariants.{Assign, ResetAll, SetFromStatic, Move, Silence, Allow}
use Rattle.readings.specs.declared.Command.TheVariants as commands
use Rattle.readings.specs.declared.Reading.{Reading}
use Rattle.readings.specs.Readings.{bare, directed, assigned}
use Rattle.reader.specs.Read.{Answer}
use Rattle.reader.specs.Points.{Point, Next, nowhere, to, over, start, opening, again, reopening, command, event, header, new_address, round, offer, behind, ending, next, commanded, command_of, is_write_byte, is_new_address, is_offered}
use Rattle.reader.specs.Read.{says, breaks, from, stopped, lead}
use Rattle.records.specs.Records.{FirstBad}
use Rattle.records.proofs.Inverse.{never}
use Rattle.records.proofs.Trips.{laid-accepted, accepted-laid}

-- ---- points that some cell leads to

-- every point but that of a command behind a refused joining
abbrev Reached : Point → Type 0
Reached start = Unit {0}
Reached opening = Unit {0}
Reached (again p) = Reached p
Reached reopening = Unit {0}
Reached (command joinings.None) = Unit {0}
Reached (command Refused) = ⊥
Reached (command Answered) = Unit {0}
Reached (event j c) = Unit {0}
Reached (header c) = Unit {0}
Reached (new_address c a) = Unit {0}
Reached (round j n) = Unit {0}
Reached (offer j n k) = Unit {0}
Reached (behind j n) = Unit {0}
Reached (ending r) = Unit {0}

-- where a cell leads: nowhere, to such a point, or to the end
data Reaches : Next → Type 0 where
  none : Reaches nowhere
  some : {p : Point} → Reached p → Reaches (to p)
  end : {r : Reading} → Reaches (over r)

-- by a test
fork : (b : Bool) {a c : Next} → Reaches a → Reaches c → Reaches (cond b a c)
fork b h g = cond_by Reaches b (λ _. h) (λ _. g)

-- a command leads to points of its own
commanded_reaches : (j : Joining) (c : Command) → Reaches (commanded j c)
commanded_reaches j commands.None = none
commanded_reaches j Assign = some tt
commanded_reaches j ResetAll = some tt
commanded_reaches j SetFromStatic = some tt
commanded_reaches j Move = some tt
commanded_reaches j Silence = some tt
commanded_reaches j Allow = some tt

ruleset ways = (fork, none, some, end, commanded_reaches)

-- a cell leads from such points to such points
reaches : (p : Point) (x : ℕ) → Reached p → Reaches (next p x)
unfolding next
reaches start x h = search ways depth 9
reaches opening x h = search ways depth 9
reaches (again p) x h = search ways depth 9
reaches reopening x h = search ways depth 9
reaches (command j) x h = search ways depth 9
reaches (event j c) x h = search ways depth 9
reaches (header c) x h = search ways depth 9
reaches (new_address c a) x h = search ways depth 9
reaches (round j n) x h = search ways depth 9
reaches (offer j n (suc k)) x h = search ways depth 9
reaches (offer j n zero) x h = search ways depth 9
reaches (behind j n) x h = search ways depth 9
reaches (ending r) x h = search ways depth 9

-- the point that is led to
reached : {p : Point} → Reaches (to p) → Reached p
reached (some h) = h

-- ---- every point can be continued

-- the cells can be continued from a point on
abbrev Continues : Point → List ℕ → ℕ → Type 0
Continues p xs at = (rest : List ℕ) × (r : Reading) × (from p (xs ++ rest) at ≡ says r)

-- an offer by identity bytes of 0 and the address byte 01h
offer_ends : (j : Joining) (n k at : ℕ) → Continues (offer j n k) [] at
unfolding from next stopped is_identity is_offered parity ones_in
offer_ends j n zero at = (answer_cell 1 true ∷ stop_cell ∷ [], assigned j (n + 1) true, refl)
offer_ends j n (suc k) at = let (l, r, e) = offer_ends j n k (at + 1) in (identity_cell 0 ∷ l, r, e)

-- every other point by one or a few cells
ends : (p : Point) → Reached p → (at : ℕ) → Continues p [] at
unfolding from next stopped is_write_byte is_new_address command_of odd_bit parity ones_in
ends start h at = (start_cell ∷ broadcast_write false ∷ stop_cell ∷ [], bare joinings.None commands.None, refl)
ends opening h at = (broadcast_write false ∷ stop_cell ∷ [], bare joinings.None commands.None, refl)
ends (again p) h at = let (l, r, e) = ends p h (at + 1) in (repeated_start_cell ∷ l, r, e)
ends reopening h at = (broadcast_write false ∷ stop_cell ∷ [], bare Answered commands.None, refl)
ends (command joinings.None) h at = (reset_all_cell ∷ stop_cell ∷ [], bare joinings.None ResetAll, refl)
ends (command Refused) h at = absurd h
ends (command Answered) h at = (silence_cell ∷ joining_cell ∷ stop_cell ∷ [], bare Answered Silence, refl)
ends (event j c) h at = (joining_cell ∷ stop_cell ∷ [], bare j c, refl)
ends (header c) h at = (answer_cell (write_byte 0) false ∷ stop_cell ∷ [], directed c 0 0 false, refl)
ends (new_address c a) h at = (data_cell (write_byte 0) ∷ stop_cell ∷ [], directed c a 0 true, refl)
ends (round j n) h at = (broadcast_read false ∷ stop_cell ∷ [], assigned j n false, refl)
ends (offer j n k) h at = offer_ends j n k at
ends (behind j n) h at = (stop_cell ∷ [], assigned j n true, refl)
ends (ending r) h at = (stop_cell ∷ [], r, refl)

-- ---- where the cells break

-- after so many of the cells, whose first stands at the place `at`
record Break (p : Point) (xs : List ℕ) (at place : ℕ) : Type 0 where
  k : ℕ
  counted : place ≡ at + k
  within : k ≤ length xs
  before : Continues p (take k xs) at
  stuck : k < length xs → (more : List ℕ) (r : Reading) → from p (take (suc k) xs ++ more) at ≡ says r → ⊥

-- a refusal 14 tells its place
same_place : (m n : ℕ) → breaks m ≡ breaks n → m ≡ n
same_place m n e = ap (λ (a : Answer). a.place) e

-- one cell of the reader
here : (p : Point) (x : ℕ) (l : List ℕ) (at : ℕ) (n : Next) → next p x ≡ n
    → from p (x ∷ l) at ≡ lead n at (λ p'. from p' l (at + 1)) (λ r. stopped r l (at + 1))
unfolding from
here p x l at n e = ap (λ (m : Next). lead m at (λ p'. from p' l (at + 1)) (λ r. stopped r l (at + 1))) e

-- behind STOP
break_over : (p : Point) (x : ℕ) (l : List ℕ) (at place : ℕ) (r : Reading) → next p x ≡ over r → stopped r l (at + 1) ≡ breaks place
    → Break p (x ∷ l) at place
unfolding stopped
break_over p x [] at place r e f = absurd (never (sym f))
break_over p x (y ∷ l) at place r e f =
    record {
      k = 1;
      counted = sym (same_place (at + 1) place f);
      within = omega arith;
      before = ([], r, here p x [] at (over r) e);
      stuck = λ h more r' g. never (sym (here p x (y ∷ more) at (over r) e) ∙ g);
    }

-- at a cell, or at one behind it
break_cell : (p : Point) (x : ℕ) (l : List ℕ) (at place : ℕ) (n : Next) → next p x ≡ n → Reached p
    → ((p' : Point) → Reached p' → from p' l (at + 1) ≡ breaks place → Break p' l (at + 1) place)
    → lead n at (λ p'. from p' l (at + 1)) (λ r. stopped r l (at + 1)) ≡ breaks place → Break p (x ∷ l) at place
break_cell p x l at place nowhere e o ih f =
    record {
      k = 0;
      counted = sym (same_place at place f) ∙ sym (add-zero at);
      within = omega arith;
      before = ends p o at;
      stuck = λ h more r g. never (sym (here p x more at nowhere e) ∙ g);
    }
break_cell p x l at place (to p') e o ih f =
    let b = ih p' (reached (rw e at (reaches p x o))) f in
    let (rest, r, g) = b.before in
    record {
      k = suc b.k;
      counted = omega (arith, b.counted);
      within = omega (arith, b.within);
      before = (rest, r, here p x (take b.k l ++ rest) at (to p') e ∙ g);
      stuck = λ h more r' g'. b.stuck (omega arith) more r' (sym (here p x (take (suc b.k) l ++ more) at (to p') e) ∙ g');
    }
break_cell p x l at place (over r) e o ih f = break_over p x l at place r e f

-- where the cells run out
break_end : (p : Point) (at place : ℕ) → Reached p → from p [] at ≡ breaks place → Break p [] at place
unfolding from
break_end p at place o e =
    record {
      k = 0;
      counted = sym (same_place at place e) ∙ sym (add-zero at);
      within = omega arith;
      before = ends p o at;
      stuck = λ h. absurd (omega arith);
    }

-- cells that break have such a place
break_from : (xs : List ℕ) (p : Point) (at place : ℕ) → Reached p → from p xs at ≡ breaks place → Break p xs at place
break_from [] p at place o e = break_end p at place o e
break_from (x ∷ l) p at place o e =
    break_cell p x l at place (next p x) refl o (λ p'. break_from l p' (at + 1) place) (sym (here p x l at (next p x) refl) ∙ e)

-- the place by what reads: with some cells more what stands before it does, and with none what ends with the cell there
record Stops (cells : List ℕ) (place : ℕ) : Type 0 where
  within : place ≤ length cells
  before : Continues start (take place cells) 0
  stuck : place < length cells → (more : List ℕ) (r : Reading) → from start (take (suc place) cells ++ more) 0 ≡ says r → ⊥

-- refusal 14 tells it
stops : (cells : List ℕ) (place : ℕ) → from start cells 0 ≡ breaks place → Stops cells place
stops cells place e =
    let b = break_from cells start 0 place tt e in
    let q : b.k ≡ place = omega (arith, b.counted) in
    subst (λ (k : ℕ). Stops cells k) q (record { within = b.within; before = b.before; stuck = b.stuck })

-- ---- the place by the layouts

-- refusal 14 has the place of the first cell that no layout can continue, or the length
pub first_bad : (cells : List ℕ) (place : ℕ) → from start cells 0 ≡ breaks place → FirstBad cells place
first_bad cells place e =
    let s = stops cells place e in
    let (rest, r, f) = s.before in
    record {
      none = λ w. never (sym e ∙ laid-accepted w);
      within = s.within;
      rest = rest;
      before = accepted-laid r (take place cells ++ rest) f;
      stuck = λ h more w. s.stuck h more w.reading (laid-accepted w);
    }

-- ---- there is one such place

-- what stands before the later place holds the cell that is stuck at the earlier one
earlier : (cells : List ℕ) (p q : ℕ) → FirstBad cells p → FirstBad cells q → p < q → ⊥
earlier cells p q a b h =
    let front : take (suc p) cells ++ drop (suc p) (take q cells) ≡ take q cells =
    rw (← take-take (suc p) q cells h) (take-append-drop (suc p) (take q cells)) in
    a.stuck (omega (arith, b.within)) (drop (suc p) (take q cells) ++ b.rest)
    (rw (← append_assoc) (rw front b.before))

-- refusal 14 can tell no other place
pub first_bad_only : (cells : List ℕ) (p q : ℕ) → FirstBad cells p → FirstBad cells q → p ≡ q
first_bad_only cells p q a b =
    let f : (p < q → ⊥) = earlier cells p q a b in
    let g : (q < p → ⊥) = earlier cells q p b a in
    omega arith
