-- A ticket never comes to name another board; and a call gives a ticket exactly where it raises the last.
use Prim.Native.Nat.{ℕ, zero, suc, ◌≤◌, ◌<◌}
use mathlib.Core.Path.{◌≡◌, refl, sym, ◌∙◌, ap, subst}
use mathlib.Core.Bool.{Bool, true, false, cond, not, ◌&&◌, ◌||◌, and-eq-true_iff}
use mathlib.Core.List.{List, [], ◌∷◌}
use native.Mathlib.Omega.{arith}
use lib.Dec.{eqb, ltb}
use lib.ListN.{length, get_or, take, set, replicate, length-set}
use lib.Seq.{get_or-set_same}
use borrow.Author.Tests.{ltb-true, eqb-true, lt-ltb, le-ltb, eq-eqb, not-true, not-false}
use Rattle.lists.specs.Lists.{any, all, pairwise, count, find, insert_by}
use Rattle.lists.proofs.Bools.{both, and, agree, or_right, neither, cond_by, where_so, so_there}
use Rattle.lists.proofs.Keeps.{all_mono, all_at, any_at, find_lt, found_passes, all_none, all_remove, all_set}
use Rattle.slots.specs.declared.Facts.{Facts}
use Rattle.rows.specs.Rows.{no_row, in_use, has_ticket, holds_ticket, used, row_at}
use Rattle.rows.specs.declared.Row.{Row}
use Rattle.changes.specs.Changes.{comes_behind, with_row, without, renewed_row, moved_row}
use Rattle.free.specs.Free.{full}
use Rattle.table.specs.Tickets.{new_ticket}
use Rattle.table.specs.Sound.{row_right, sound}
use Rattle.machine.specs.declared.Machine.{Machine}
use Rattle.machine.specs.Moments.{machine_right}
use Rattle.life.specs.Life.{Call, after, after_all, same_board, new_in, given}
use Rattle.life.proofs.Table.{sound-says}
use Rattle.life.proofs.Sound.{right_says}
use Rattle.life.proofs.Given.{refused_or, Changes, call_leads, lacks, all_with, grows}
use Rattle.life.proofs.Tickets.{given-all, given_is_last, one_given, lacks_next}

-- ---- tests and lists

-- what follows from each of two tests follows where one passes
either : (a : Bool) {b : Bool} {P : Type 0} → (a ≡ true → P) → (b ≡ true → P) → (a || b) ≡ true → P
either true f g h = f refl
either false f g h = g h

module _ {A : Type 0} where
  -- every element passes if the one at each place does
  all_by : (p : A → Bool) (l : List A) (d : A) → ((k : ℕ) → k < length l → p (get_or l k d) ≡ true) → all p l ≡ true
  all_by p [] d f = refl
  all_by p (y ∷ ys) d f = and (f 0 (omega arith)) (all_by p ys d (λ k b. f (suc k) (omega arith)))

  -- an element that passes a test passes a weaker one
  any_mono : (p q : A → Bool) → ((y : A) → p y ≡ true → q y ≡ true) → (l : List A) → any p l ≡ true → any q l ≡ true
  any_mono p q f [] h = h
  any_mono p q f (y ∷ ys) h = either (p y) (λ e. rw (f y e)) (λ k. or_right (q y) (any_mono p q f ys k)) h

  -- the first that passes p stands no further than as many as pass q, if each passes one of them
  find-count : (p q : A → Bool) → ((y : A) → p y ≡ false → q y ≡ true) → (l : List A) → find p l ≤ count q l
  find-count p q f [] = omega arith
  find-count p q f (y ∷ ys) = go (find-count p q f ys) (p y) refl
    where
      go : find p ys ≤ count q ys → (b : Bool) → p y ≡ b → cond b 0 (suc (find p ys)) ≤ cond (q y) (suc (count q ys)) (count q ys)
      go ih true e = omega arith
      go ih false e = rw (f y e) (omega (arith, ih))

  -- what is put in before place n is among the first n
  any_put : (p q : A → Bool) (x : A) → q x ≡ true → (l : List A) (n : ℕ) → find p l < n → any q (take n (insert_by p x l)) ≡ true
  any_put p q x e l zero b = absurd (omega arith)
  any_put p q x e [] (suc n) b = rw e
  any_put p q x e (y ∷ ys) (suc n) b = go (any_put p q x e ys n) (p y) b
    where
      go : (find p ys < n → any q (take n (insert_by p x ys)) ≡ true) → (z : Bool) → cond z 0 (suc (find p ys)) < suc n
          → any q (take (suc n) (cond z (x ∷ y ∷ ys) (y ∷ insert_by p x ys))) ≡ true
      go ih true k = rw e
      go ih false k = or_right (q y) (ih (omega arith))

-- rising numbers that are all x are x alone, or none
one_number : (x : ℕ) (l : List ℕ) → all (eqb x) l ≡ true → pairwise ltb l ≡ true → l ≡ cond (any (eqb x) l) (x ∷ []) []
one_number x [] h w = refl
one_number x (y ∷ []) h w = let e = (both (eqb x y) true h).0 in rw e (ap (◌∷ []) (sym (eqb-true x y e)))
one_number x (y ∷ z ∷ l) h w =
    let t = simp and-eq-true_iff at h in
    let u = simp and-eq-true_iff at w in
    absurd (omega (arith, eqb-true x y t.0, eqb-true x z t.1.0, ltb-true y z u.0.0))

-- ---- rows of the same board

-- marks that agree, and one with itself
mark_same : (a b : Bool) → cond a b (not b) ≡ true → a ≡ b
mark_same true b h = sym h
mark_same false b h = sym (not-true b h)

same_mark : (a : Bool) → cond a a (not a) ≡ true
same_mark true = refl
same_mark false = refl

-- a row in use is its own board's
board_self : (r : Row) → in_use r ≡ true → same_board r r ≡ true
board_self r u =
    simp and-eq-true_iff (
      (((u, eq-eqb r.ticket r.ticket refl), same_mark r.unknown), eq-eqb r.identity r.identity refl),
      eq-eqb r.from_static r.from_static refl,
    )

-- and two of one board as a third are of one board
board_trans : (x y z : Row) → same_board x y ≡ true → same_board y z ≡ true → same_board x z ≡ true
board_trans x y z h g =
    let t = simp and-eq-true_iff at h in
    let e = eqb-true x.ticket y.ticket t.0.0.0.1 in
    let u = mark_same x.unknown y.unknown t.0.0.1 in
    let i = eqb-true x.identity y.identity t.0.1 in
    let s = eqb-true x.from_static y.from_static t.1 in
    rw (e, u, i, s) g

-- ---- the boards after a call, and after any calls

-- a row stems from these rows: it is unused, its ticket was given since, or one of them is of the same board
abbrev stems : Facts → List Row → Row → Bool
stems f rows r = not (in_use r) || (ltb f.last r.ticket || any (same_board r) rows)

module _ (f : Facts) (rows : List Row) where
  -- if in use, it is of the same board as one of them
  stems_old : (r : Row) → (in_use r ≡ true → any (same_board r) rows ≡ true) → stems f rows r ≡ true
  stems_old r h = where_so (in_use r) (λ u. or_right (ltb f.last r.ticket) (h u))

  -- its ticket was given since
  stems_new : (r : Row) → f.last < r.ticket → stems f rows r ≡ true
  stems_new r h = where_so (in_use r) (λ u. rw (lt-ltb f.last r.ticket h))

  -- each of them in use is its own board's
  own_board : (k : ℕ) → k < length rows → in_use (row_at rows k) ≡ true → any (same_board (row_at rows k)) rows ≡ true
  own_board k b u = any_at (same_board (row_at rows k)) rows k no_row b (board_self (row_at rows k) u)

  -- so they stem from themselves
  stems_as_is : all (stems f rows) rows ≡ true
  stems_as_is = all_by (stems f rows) rows no_row (λ k b. stems_old (row_at rows k) (own_board k b))

  -- and so do the rows after any call: a row moved is still its board's, one renewed or put in has the new ticket
  call_boards : Changes (λ f' rows'. all (stems f rows) rows' ≡ true) f rows
  unfolding without
  call_boards = record {
    as_is = stems_as_is;
    cleared = refl;
    one_less = λ k. all_remove (stems f rows) no_row refl rows k stems_as_is;
    one_moved =
        λ k a inside live.
        let new = moved_row a (row_at rows k) in
        all_with (stems f rows) new (stems_old new (λ u. own_board k inside live)) (without k rows)
        (all_remove (stems f rows) no_row refl rows k stems_as_is);
    one_renewed =
        λ k inside live.
        let new = renewed_row (new_ticket f) (row_at rows k) in all_set (stems f rows) new (stems_new new (omega arith)) rows k stems_as_is;
    one_more = λ r e live room. all_with (stems f rows) r (stems_new r (omega (arith, e))) rows stems_as_is;
  }

  -- a row in use of the same board as one that stems from them does too
  stems_board : (x y : Row) → same_board x y ≡ true → stems f rows y ≡ true → (ltb f.last x.ticket || any (same_board x) rows) ≡ true
  stems_board x y same h =
      let t = simp and-eq-true_iff at same in
      let e : x.ticket ≡ y.ticket = eqb-true x.ticket y.ticket t.0.0.0.1 in
      either (ltb f.last y.ticket) (λ new. rw (lt-ltb f.last x.ticket (omega (arith, e, ltb-true f.last y.ticket new))))
      (λ old. or_right (ltb f.last x.ticket) (any_mono (same_board y) (same_board x) (λ z. board_trans x y z same) rows old))
      (so_there (in_use y) h t.0.0.0.0)

  -- and any row that stems from rows which do
  stems_on : (f' : Facts) (rows' : List Row) → f.last ≤ f'.last → all (stems f rows) rows' ≡ true
      → (r : Row) → stems f' rows' r ≡ true → stems f rows r ≡ true
  stems_on f' rows' rises h r g =
      where_so (in_use r)
      (λ u.
      either (ltb f'.last r.ticket) (λ new. rw (lt-ltb f.last r.ticket (omega (arith, ltb-true f'.last r.ticket new))))
      (λ old.
      let k = find (same_board r) rows' in
      let inside : k < length rows' = find_lt (same_board r) rows' old in
      stems_board r (row_at rows' k) (found_passes (same_board r) rows' no_row inside) (all_at (stems f rows) rows' k no_row h inside))
      (so_there (in_use r) g u))

-- over any calls: each row in use afterwards has a ticket given since, or is of the same board as a row before
pub same_boards : (cs : List Call) (m : Machine)
    → all (λ r. not (in_use r) || (ltb m.table.facts.last r.ticket || any (same_board r) m.table.rows)) (after_all cs m).table.rows ≡ true
same_boards [] m = stems_as_is m.table.facts m.table.rows
same_boards (c ∷ cs) m =
    let m' = after c m in
    all_mono (stems m'.table.facts m'.table.rows) (stems m.table.facts m.table.rows)
    (stems_on m.table.facts m.table.rows m'.table.facts m'.table.rows (grows c m).rises
    (call_leads (λ f' rows'. all (stems m.table.facts m.table.rows) rows' ≡ true) m (call_boards m.table.facts m.table.rows) c))
    (after_all cs m').table.rows (same_boards cs m')

-- so a ticket given before names the board that it named, ever after
pub ticket_keeps_board : (cs : List Call) (m : Machine) (t k : ℕ) → k < length (after_all cs m).table.rows → has_ticket t (row_at (after_all cs m).table.rows k) ≡ true
    → t ≤ m.table.facts.last → any (same_board (row_at (after_all cs m).table.rows k)) m.table.rows ≡ true
ticket_keeps_board cs m t k inside has low =
    let r = row_at (after_all cs m).table.rows k in
    let u = both (in_use r) (eqb r.ticket t) has in
    let old : ltb m.table.facts.last r.ticket ≡ false = le-ltb m.table.facts.last r.ticket (omega (arith, eqb-true r.ticket t u.1)) in
    rw old at (so_there (in_use r) (all_at (stems m.table.facts m.table.rows) (after_all cs m).table.rows k no_row (same_boards cs m) inside) u.0)

-- ---- a ticket is given where the last rises

-- where it rises, a row has it
abbrev Gives : Facts → Facts → List Row → Type 0
Gives f f' rows' = ltb f.last f'.last ≡ true → holds_ticket f'.last rows' ≡ true

module _ (f : Facts) (rows : List Row) where
  -- where it stays there is nothing to show
  gives_none : (rows' : List Row) → Gives f f rows'
  gives_none rows' h = absurd (omega (arith, ltb-true f.last f.last h))

  -- a row renewed has it
  gives_renewed : (k : ℕ) → k < length rows → in_use (row_at rows k) ≡ true
      → holds_ticket (new_ticket f) (set rows k (renewed_row (new_ticket f) (row_at rows k))) ≡ true
  gives_renewed k inside live =
      let new = renewed_row (new_ticket f) (row_at rows k) in
      any_at (has_ticket (new_ticket f)) (set rows k new) k no_row (omega (arith, length-set rows k new))
      (subst (λ (r : Row). has_ticket (new_ticket f) r ≡ true) (sym (get_or-set_same rows k new no_row inside)) (and live (eq-eqb (new_ticket f) (new_ticket f) refl)))

  -- and a row put in, where there is a place for it
  gives_more : (r : Row) → r.ticket ≡ new_ticket f → in_use r ≡ true → full rows ≡ false → holds_ticket (new_ticket f) (with_row r rows) ≡ true
  unfolding with_row full
  gives_more r e live room =
      any_put (comes_behind r.address) (has_ticket (new_ticket f)) r (and live (eq-eqb r.ticket (new_ticket f) e)) rows 32
      (omega (
        arith,
        find-count (comes_behind r.address) in_use (λ y h. not-false (in_use y) ((neither (not (in_use y)) (ltb r.address y.address)).0 h).0) rows,
        ltb-true (used rows) 32 (not-false (ltb (used rows) 32) room),
      ))

  -- so after any call
  call_gives : Changes (Gives f) f rows
  call_gives = record {
    as_is = gives_none rows;
    cleared = gives_none (replicate 32 no_row);
    one_less = λ k. gives_none (without k rows);
    one_moved = λ k a inside live. gives_none (with_row (moved_row a (row_at rows k)) (without k rows));
    one_renewed = λ k inside live rises. gives_renewed k inside live;
    one_more = λ r e live room rises. gives_more r e live room;
  }

-- the last rises only on a right machine
rises_right : (c : Call) (m : Machine) → ltb m.table.facts.last (after c m).table.facts.last ≡ true → machine_right m ≡ true
rises_right c m =
    refused_or (λ (n : Machine). ltb m.table.facts.last n.table.facts.last ≡ true → machine_right m ≡ true) c m
    (λ h. absurd (omega (arith, ltb-true m.table.facts.last m.table.facts.last h))) (λ right h. right)

-- whose rows do not have the next
next_unused : (f : Facts) (rows : List Row) → sound f rows ≡ true → holds_ticket (new_ticket f) rows ≡ false
next_unused f rows h = all_none (has_ticket (new_ticket f)) rows (all_mono (row_right f) (lacks (new_ticket f)) (lacks_next f) rows (sound-says h).each)

-- a ticket that one of these rows has, and none of those others, is new
new_there : (t : ℕ) (others rows : List Row) → holds_ticket t others ≡ false → holds_ticket t rows ≡ true → any (eqb t) (new_in others rows) ≡ true
new_there t others [] none h = h
new_there t others (r ∷ rows) none h =
    either (has_ticket t r)
    (λ has.
    let u = both (in_use r) (eqb r.ticket t) has in
    let e : r.ticket ≡ t = eqb-true r.ticket t u.1 in
    rw (and u.0 (ap not (ap (λ s. holds_ticket s others) e ∙ none)), eq-eqb t r.ticket (sym e)))
    (λ k.
    let rest = new_there t others rows none k in
    cond_by (λ (l : List ℕ). any (eqb t) l ≡ true) (in_use r && not (holds_ticket r.ticket others)) (λ e. or_right (eqb t r.ticket) rest) (λ e. rest))
    h

-- a call gives a ticket exactly where it raises the last, and then just that one
pub given_exactly : (c : Call) (m : Machine) → given c m ≡ cond (ltb m.table.facts.last (after c m).table.facts.last) ((after c m).table.facts.last ∷ []) []
given_exactly c m =
    let old = m.table.facts.last in
    let new = (after c m).table.facts.last in
    one_number new (given c m) (given_is_last c m) (one_given c m) ∙
    ap (λ b. cond b (new ∷ []) [])
    (agree (any (eqb new) (given c m)) (ltb old new)
    (λ some.
    all_at (λ t. ltb old new) (given c m) (find (eqb new) (given c m)) 0
    (given-all c m (λ t. ltb old new) (λ t next last. lt-ltb old new (omega (arith, next, last))))
    (find_lt (eqb new) (given c m) some))
    (λ rises.
    let next : new ≡ new_ticket m.table.facts = omega (arith, (grows c m).next, ltb-true old new rises) in
    new_there new m.table.rows (after c m).table.rows
    (ap (λ t. holds_ticket t m.table.rows) next ∙ next_unused m.table.facts m.table.rows (right_says m (rises_right c m rises)).0)
    (call_leads (Gives m.table.facts) m (call_gives m.table.facts m.table.rows) c rises)))
