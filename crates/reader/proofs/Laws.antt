-- How a record goes on from a point: what each function of the reader cites.
use Prim.Native.Nat.{ℕ, ◌<◌, ◌≤◌}
use mathlib.Core.Path.{◌≡◌, refl, sym, ◌∙◌}
use mathlib.Core.Bool.{true, false, cond, not}
use mathlib.Core.List.{List, [], ◌∷◌}
use mathlib.Core.Logic.{◌⊎◌, ⊎_elim}
use lib.Dec.{eqb}
use lib.ListN.{length, drop, drop_of_length-le}
use borrow.Author.Tests.{ne_eqb, not-true, not-false}
use Rattle.std.specs.Prelude.{Result}
use Rattle.std.specs.Result.{IsErrAnd}
use Rattle.std.proofs.lemmas.Result.{err_from_is_err_and}
use Rattle.lists.proofs.Lists.{drop_step}
use Rattle.readings.specs.declared.Joining.{Joining}
use Rattle.readings.specs.declared.Command.{Command}
use Rattle.readings.specs.declared.Command.TheVariants.{Assign, ResetAll, SetFromStatic, Move, Silence, Allow}
use Rattle.readings.specs.declared.Command.TheVariants as commands
use Rattle.readings.specs.declared.Reading.{Reading}
use Rattle.readings.specs.Readings.{may_follow, bare, directed}
use Rattle.reader.specs.Points.{Point, start, opening, again, command, event, header, new_address, round, ending}
use Rattle.reader.specs.Points.{Next, nowhere, to, commanded, next, address_in, answered_in, is_write_byte, is_new_address, command_of}
use Rattle.reader.specs.declared.Fault.{Fault}
use Rattle.reader.specs.Read.{Answer, fault_answer, answer_of, says, breaks, stopped, lead, from, Stands}

-- ---- one cell

module _ (p : Point) {l more : List ℕ} (at : ℕ) {after x : ℕ} (step : Stands l at x more after) where
  on : from p l at ≡ lead (next p x) at (λ p'. from p' more after) (λ r. stopped r more after)
  unfolding from
  on = rw (step.first, ← step.second)

module _ (p : Point) {l more : List ℕ} (at : ℕ) {after x : ℕ} {a : Answer} (step : Stands l at x more after) where
  -- the cell leads nowhere
  pub stuck : nowhere ≡ next p x → a ≡ breaks at → a ≡ from p l at
  stuck e h = h ∙ sym (on p at step ∙ rw (← e))

  -- to another point
  pub onward : (p' : Point) → a ≡ from p' more after → to p' ≡ next p x → a ≡ from p l at
  onward p' h e = h ∙ sym (on p at step ∙ rw (← e))

  -- to STOP, with the reading as a call gave it
  pub to_ending : {q r : Reading} → q ≡ r → a ≡ from (ending q) more after → to (ending r) ≡ next p x → a ≡ from p l at
  to_ending same h e = onward (ending _) (h ∙ rw same) e

  -- the same where the cell is a number
  module _ {n : ℕ} (is : x ≡ n) where
    pub onward_at : (p' : Point) → a ≡ from p' more after → to p' ≡ next p n → a ≡ from p l at
    onward_at p' h e = onward p' h (rw is e)

    pub ending_at : {q r : Reading} → q ≡ r → a ≡ from (ending q) more after → to (ending r) ≡ next p n → a ≡ from p l at
    ending_at same h e = to_ending same h (rw is e)

-- ---- what `?` hands on is the whole record's answer

module _ (p : Point) (l : List ℕ) (at : ℕ) (r : Result Reading Fault) (f : Fault) (h : IsErrAnd r (λ e. e ≡ f)) where
  -- where the record breaks off
  pub broken_off : (l ≡ []) × (fault_answer f ≡ breaks at) → answer_of r ≡ from p l at
  unfolding from
  broken_off (none, broken) = let (e, q, same) = err_from_is_err_and r h in rw (q, same, none) broken

  -- where another cell stands than must
  pub unmet : (n : ℕ) → ((more : List ℕ) → l ≡ n ∷ more → ⊥) × (fault_answer f ≡ breaks at)
      → (met : Next) → ((x : ℕ) → next p x ≡ cond (eqb x n) met nowhere) → answer_of r ≡ from p l at
  unfolding from
  unmet n (other, broken) met only = let (e, q, same) = err_from_is_err_and r h in rw (q, same) (broken ∙ go l other)
    where
      go : (l : List ℕ) → ((more : List ℕ) → l ≡ n ∷ more → ⊥) → breaks at ≡ from p l at
      go [] g = refl
      go (x ∷ l) g = rw (only x, ne_eqb x n (λ e. g l (rw e)))

-- ---- START, a repeated START, and STOP

module _ {l more : List ℕ} (at : ℕ) {after : ℕ} {a : Answer} where
  pub started : Stands l at 512 more after → a ≡ from opening more after → a ≡ from start l at
  unfolding next
  started step h = onward start at step opening h refl

  pub again_on : (p : Point) → Stands l at 513 more after → a ≡ from p more after → a ≡ from (again p) l at
  unfolding next
  again_on p step h = onward (again p) at step p h refl

-- STOP with nothing behind it, and with something
module _ (r : Reading) (l s : List ℕ) (at after : ℕ) (step : Stands l at 514 (drop after s) after) where
  pub stop_last : length s ≤ after → says r ≡ from (ending r) l at
  unfolding next stopped
  stop_last few = sym (on (ending r) at step ∙ rw (drop_of_length-le s {i = after} few))

  pub stop_early : after < length s → {a : Answer} → a ≡ breaks after → a ≡ from (ending r) l at
  unfolding next stopped
  stop_early more {a} h = h ∙ sym (on (ending r) at step ∙ rw (drop_step s after 65535 more))

-- ---- a command

module _ (j : Joining) (x : ℕ) {k : Command} (told : k ≡ command_of x) where
  pub said : {n : Next} → not (may_follow j k) ≡ false → n ≡ commanded j k → n ≡ next (command j) x
  unfolding next
  said may e = rw (← told, not-false (may_follow j k) may) e

  pub unsaid : not (may_follow j k) ≡ true → nowhere ≡ next (command j) x
  unfolding next
  unsaid may = rw (← told, not-true (may_follow j k) may)

module _ (j : Joining) {k : Command} where
  pub none_leads : k ≡ commands.None → nowhere ≡ commanded j k
  none_leads e = rw e

  pub assign_leads : k ≡ Assign → to (again (round j 0)) ≡ commanded j k
  assign_leads e = rw e

  pub reset_leads : k ≡ ResetAll → to (ending (bare j k)) ≡ commanded j k
  reset_leads e = rw e

  pub header_leads : (k ≡ SetFromStatic) ⊎ (k ≡ Move) → to (again (header k)) ≡ commanded j k
  header_leads h = ⊎_elim (λ e. rw e) (λ e. rw e) h

  pub event_leads : (k ≡ Silence) ⊎ (k ≡ Allow) → to (event j k) ≡ commanded j k
  event_leads h = ⊎_elim (λ e. rw e) (λ e. rw e) h

-- for `search leads`: where each command leads
pub ruleset leads = (none_leads, assign_leads, reset_leads, header_leads, event_leads)

-- ---- the header of a set or a move, and the new address behind it

module _ (c : Command) {l more : List ℕ} (at : ℕ) {after x y : ℕ} {a : Answer} (step : Stands l at x more after) (address : y ≡ address_in x) where
  pub renamed : (b : ℕ) {q : Reading} → not (is_new_address x) ≡ false → q ≡ directed c b y true → a ≡ from (ending q) more after
      → a ≡ from (new_address c b) l at
  unfolding next
  renamed b new e h = to_ending (new_address c b) at step e h (rw (not-false (is_new_address x) new, address))

  module _ (write : not (is_write_byte x) ≡ false) where
    pub header-answered : answered_in x ≡ true → a ≡ from (new_address c y) more after → a ≡ from (header c) l at
    unfolding next
    header-answered heard h = onward (header c) at step (new_address c y) h (rw (not-false (is_write_byte x) write, heard, address))

    pub header_silent : {q : Reading} → answered_in x ≡ false → q ≡ directed c y 0 false → a ≡ from (ending q) more after → a ≡ from (header c) l at
    unfolding next
    header_silent heard e h = to_ending (header c) at step e h (rw (not-false (is_write_byte x) write, heard, address))
