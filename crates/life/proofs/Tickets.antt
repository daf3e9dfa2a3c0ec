-- The tickets over a table's life: the last one never falls, each one given is the next, so that they rise and none is given twice; a retired
-- one stays retired, and every call that names it is refused; a board that comes back has a new ticket at its old address.
use Prim.Native.Nat.{ℕ, ◌≤◌, ◌<◌}
use mathlib.Core.Path.{◌≡◌, refl, sym, ap, subst, ◌∙◌}
use mathlib.Core.Bool.{Bool, true, false, cond, not, ◌&&◌, and-eq-true_iff, true≢false}
use mathlib.Core.List.{List, [], ◌∷◌}
use native.Mathlib.Omega.{arith}
use lib.Dec.{eqb, ltb}
use lib.ListN.{length, set}
use lib.Seq.{get_or-set_same}
use borrow.Author.Tests.{ltb-true, ltb-false, leb-true, eqb-true, eqb-false, lt-ltb, le-ltb, eq-eqb, ne_eqb, not-true, not-false}
use Rattle.lists.specs.Lists.{all, pairwise}
use Rattle.lists.proofs.Bools.{both, and, not_failed, neither, cond_by}
use Rattle.lists.proofs.Keeps.{all_mono, all_at, found_passes, find_lt, all_none, find-set, all_append, pairwise_mono, pairwise_append, all_beside}
use Rattle.slots.specs.declared.Facts.{Facts}
use Rattle.rows.specs.Rows.{no_row, in_use, has_ticket, has_identity, holds_ticket, holds_identity, place_of_ticket, place_of_identity, row_at}
use Rattle.rows.specs.declared.Row.{Row}
use Rattle.changes.specs.Changes.{renewed, renewed_row}
use Rattle.free.specs.Free.{can_assign}
use Rattle.table.specs.Tickets.{new_ticket, ticketed, ticket_unknown, ticket_retired, ticket_refusal}
use Rattle.table.specs.Sound.{row_right, in_order, sound}
use Rattle.begins.specs.Begins.{move_refusal, choice_refusal}
use Rattle.machine.specs.declared.Machine.{Machine}
use Rattle.machine.specs.declared.Moment.{Moment}
use Rattle.machine.specs.declared.Moment.TheVariants.{Idle, Offered}
use Rattle.machine.specs.Moments.{machine_right, is_idle}
use Rattle.machine.specs.Refusals.{step_refusal, rest_refusal, begin_refusal, retire_refusal, ask_refusal}
use Rattle.machine.specs.Steps.{Step, refuse, round_rule, accepted_rows, accepted, answer_at}
use Rattle.machine.specs.Calls.{begun, answered, retired, asked}
use Rattle.life.specs.Life.{Call, begin, answer, identity, give_up, join, retire, ask, step_of, after, after_all, names, Returned, new_in, given, given_over}
use Rattle.life.proofs.Table.{sound-says}
use Rattle.life.proofs.Sound.{right_says, keeps, keeps_all}
use Rattle.life.proofs.Given.{refusing, steps_unless, refused_or, lacks, lacks_other, onward_has, grows}

-- ---- the last ticket

-- it stays or rises over any calls
pub last_never_falls : (cs : List Call) (m : Machine) → m.table.facts.last ≤ (after_all cs m).table.facts.last
last_never_falls [] m = omega arith
last_never_falls (c ∷ cs) m = omega (arith, (grows c m).rises, last_never_falls cs (after c m))

-- ---- the tickets given

-- the new ones pass a test that fails only at tickets which the others have or these rows have not
new_all : (p : ℕ → Bool) (others rows : List Row) → ((t : ℕ) → p t ≡ false → holds_ticket t others ≡ false → holds_ticket t rows ≡ false)
    → all p (new_in others rows) ≡ true
new_all p others [] h = refl
new_all p others (r ∷ rows) h =
    let rest = new_all p others rows (λ t e none. ((neither (has_ticket t r) (holds_ticket t rows)).0 (h t e none)).1) in
    cond_by (λ (l : List ℕ). all p l ≡ true) (in_use r && not (holds_ticket r.ticket others)) {x = r.ticket ∷ new_in others rows} {y = new_in others rows}
    (λ new. and (not_failed (p r.ticket) (here new)) rest) (λ old. rest)
  where
    here : (in_use r && not (holds_ticket r.ticket others)) ≡ true → p r.ticket ≡ false → ⊥
    here new e =
        let u = both (in_use r) (not (holds_ticket r.ticket others)) new in
        let none = ((neither (has_ticket r.ticket r) (holds_ticket r.ticket rows)).0 (h r.ticket e (not-true (holds_ticket r.ticket others) u.1))).0 in
        true≢false (sym (and u.0 (eq-eqb r.ticket r.ticket refl)) ∙ none)

module _ (c : Call) (m : Machine) where
  -- what holds of the next ticket once it is the last holds of each that a call gives
  pub given-all : (p : ℕ → Bool) → ((t : ℕ) → new_ticket m.table.facts ≡ t → (after c m).table.facts.last ≡ t → p t ≡ true) → all p (given c m) ≡ true
  given-all p h =
      new_all p m.table.rows (after c m).table.rows
      (λ t e. (grows c m).only t
      (λ low high. true≢false (sym (h t (omega (arith, (grows c m).next)) (omega (arith, (grows c m).next))) ∙ e)))

  -- each is the next
  pub given-next : all (eqb (new_ticket m.table.facts)) (given c m) ≡ true
  given-next = given-all (eqb (new_ticket m.table.facts)) (λ t next last. eq-eqb (new_ticket m.table.facts) t next)

  -- and then the last
  pub given_is_last : all (eqb (after c m).table.facts.last) (given c m) ≡ true
  given_is_last = given-all (eqb (after c m).table.facts.last) (λ t next last. eq-eqb (after c m).table.facts.last t last)

-- every ticket given is above the last
given_above : (cs : List Call) (m : Machine) → all (ltb m.table.facts.last) (given_over cs m) ≡ true
given_above [] m = refl
given_above (c ∷ cs) m =
    all_append (ltb m.table.facts.last) (given c m) (given_over cs (after c m))
    (given-all c m (ltb m.table.facts.last) (λ t next last. lt-ltb m.table.facts.last t (omega (arith, next))))
    (all_mono (ltb (after c m).table.facts.last) (ltb m.table.facts.last)
    (λ t h. lt-ltb m.table.facts.last t (omega (arith, ltb-true (after c m).table.facts.last t h, (grows c m).rises)))
    (given_over cs (after c m)) (given_above cs (after c m)))

-- ---- one ticket at a time

-- rows in order have different tickets
other_ticket : (x y : Row) → in_order x y ≡ true → in_use y ≡ true → x.ticket ≡ y.ticket → ⊥
other_ticket x y h u = let t = simp and-eq-true_iff at (rw u at h) in eqb-false x.ticket y.ticket (not-true (eqb x.ticket y.ticket) t.1.0.0)

behind_lacks : (x y : Row) → in_order x y ≡ true → lacks x.ticket y ≡ true
behind_lacks x y h = lacks_other x.ticket y (λ u e. other_ticket x y h u (sym e))

-- so the new ones among them are distinct
new_distinct : (others rows : List Row) → pairwise in_order rows ≡ true → pairwise (λ x y. not (eqb x y)) (new_in others rows) ≡ true
new_distinct others [] w = refl
new_distinct others (r ∷ rows) w =
    let order = both (all (in_order r) rows) (pairwise in_order rows) w in
    let rest = new_distinct others rows order.1 in
    let none : holds_ticket r.ticket rows ≡ false = all_none (has_ticket r.ticket) rows (all_mono (in_order r) (lacks r.ticket) (behind_lacks r) rows order.0) in
    cond_by (λ (l : List ℕ). pairwise (λ x y. not (eqb x y)) l ≡ true) (in_use r && not (holds_ticket r.ticket others))
    (λ new. and (new_all (λ t. not (eqb r.ticket t)) others rows (λ t e old. rw (← (eqb-true r.ticket t (not-false (eqb r.ticket t) e))) none)) rest)
    (λ old. rest)

-- a machine that is not right stays as it is, so it gives none
stays : (c : Call) (m : Machine) → machine_right m ≡ false → after c m ≡ m
stays c m broken = refused_or (λ (m' : Machine). m' ≡ m) c m refl (λ right. absurd (true≢false (sym right ∙ broken)))

-- a call gives one at most
pub one_given : (c : Call) (m : Machine) → pairwise ltb (given c m) ≡ true
one_given c m = go (machine_right m) refl
  where
    none : (l : List ℕ) → all (λ t. false) l ≡ true → pairwise ltb l ≡ true
    none [] h = refl
    none (t ∷ l) h = absurd (true≢false (sym h))

    go : (b : Bool) → machine_right m ≡ b → pairwise ltb (given c m) ≡ true
    go true right =
        pairwise_mono (λ x y. not (eqb x y)) ltb (eqb (new_ticket m.table.facts))
        (λ x y p q h. absurd (eqb-false x y (not-true (eqb x y) h) (sym (eqb-true (new_ticket m.table.facts) x p) ∙ eqb-true (new_ticket m.table.facts) y q)))
        (given c m) (given-next c m)
        (new_distinct m.table.rows (after c m).table.rows (sound-says (right_says (after c m) (keeps c m right)).0).order)
    go false broken =
        none (given c m)
        (given-all c m (λ t. false)
        (λ t next last. absurd (omega (arith, next, last, ap (λ (m' : Machine). m'.table.facts.last) (stays c m broken)))))

-- tickets rise, so none is given twice
pub tickets_rise : (cs : List Call) (m : Machine) → pairwise ltb (given_over cs m) ≡ true
tickets_rise [] m = refl
tickets_rise (c ∷ cs) m =
    pairwise_append ltb (given c m) (given_over cs (after c m)) (one_given c m) (tickets_rise cs (after c m))
    (given-all c m (λ t. all (ltb t) (given_over cs (after c m))) (λ t next last. rw (← last) (given_above cs (after c m))))

-- ---- a retired ticket

-- is from 1 to the last, and has no row
record Gone (f : Facts) (rows : List Row) (t : ℕ) : Type 0 where
  positive : 0 < t
  low : t ≤ f.last
  no_row_lem : holds_ticket t rows ≡ false

module _ (f : Facts) (rows : List Row) (t : ℕ) where
  retired_parts : ticket_retired f rows t ≡ true → (ticket_unknown f t ≡ false) × (holds_ticket t rows ≡ false)
  retired_parts h =
      let u = both (not (ticket_unknown f t)) (not (holds_ticket t rows)) h in
      (not-true (ticket_unknown f t) u.0, not-true (holds_ticket t rows) u.1)

  retired_gone : ticket_retired f rows t ≡ true → Gone f rows t
  retired_gone h =
      let u = retired_parts h in
      let known = (neither (eqb t 0) (ltb f.last t)).0 u.0 in
      let some : t ≡ 0 → ⊥ = eqb-false t 0 known.0 in
      record { positive = omega arith; low = ltb-false f.last t known.1; no_row_lem = u.1 }

  gone_retired : Gone f rows t → ticket_retired f rows t ≡ true
  gone_retired g = rw (ne_eqb t 0 (λ e. omega (arith, g.positive, e)), le-ltb f.last t g.low, g.no_row_lem)

  -- it is refused with 9
  refused_nine : ticket_retired f rows t ≡ true → ticket_refusal f rows t ≡ 9
  unfolding ticket_refusal
  refused_nine h = rw (h, (retired_parts h).0)

-- it stays retired
pub stays_retired : (cs : List Call) (m : Machine) (t : ℕ) → ticket_retired m.table.facts m.table.rows t ≡ true
    → ticket_retired (after_all cs m).table.facts (after_all cs m).table.rows t ≡ true
stays_retired [] m t h = h
stays_retired (c ∷ cs) m t h =
    let g = retired_gone m.table.facts m.table.rows t h in
    let s = grows c m in
    stays_retired cs (after c m) t
    (gone_retired (after c m).table.facts (after c m).table.rows t record {
      positive = g.positive;
      low = omega (arith, g.low, s.rises);
      no_row_lem = s.only t (λ above below. omega (arith, g.low)) g.no_row_lem;
    })

-- ---- calls that name a retired ticket

-- asked for a ticket that was retired, the machine answers 9 ever after
pub retired-asked : (cs : List Call) (m : Machine) (t : ℕ) → machine_right m ≡ true → ticket_retired m.table.facts m.table.rows t ≡ true
    → asked (after_all cs m) t ≡ record { address = 0; refusal = 9 }
unfolding asked ask_refusal
retired-asked cs m t right h =
    rw (keeps_all cs m right, refused_nine (after_all cs m).table.facts (after_all cs m).table.rows t (stays_retired cs m t h))

-- a refusal that stands behind others
behind : (b : Bool) (k more : ℕ) → eqb k 0 ≡ false → eqb more 0 ≡ false → eqb (cond b k more) 0 ≡ false
behind b k more h g = cond_by (λ (n : ℕ). eqb n 0 ≡ false) b {x = k} {y = more} (λ e. h) (λ e. g)

module _ (m : Machine) (t : ℕ) (h : ticket_retired m.table.facts m.table.rows t ≡ true) where
  move_refused : (static new : ℕ) → eqb (choice_refusal m.table.facts m.table.rows 3 static new t) 0 ≡ false
  unfolding choice_refusal move_refusal
  move_refused static new = behind (ltb 127 new) 2 _ refl (behind (ticket_unknown m.table.facts t) 8 _ refl (rw h))

  ticket_refused : eqb (ticket_refusal m.table.facts m.table.rows t) 0 ≡ false
  ticket_refused = rw (refused_nine m.table.facts m.table.rows t h)

  -- a call that names it is refused
  names-refused : (c : Call) → names t c ≡ true → eqb (refusing c m) 0 ≡ false
  unfolding begin_refusal step_refusal rest_refusal retire_refusal ask_refusal
  names-refused (begin choice static new ticket room) n =
      let u = both (eqb choice 3) (eqb ticket t) n in
      rw (eqb-true choice 3 u.0, eqb-true ticket t u.1)
      (behind (ltb room 8) 11 _ refl (behind (not (machine_right m)) 28 _ refl (behind (not (is_idle m.moment)) 10 _ refl (move_refused static new))))
  names-refused (answer heard room) n = absurd (true≢false (sym n))
  names-refused (identity bytes room) n = absurd (true≢false (sym n))
  names-refused (give_up room) n = absurd (true≢false (sym n))
  names-refused (join choice room) n = absurd (true≢false (sym n))
  names-refused (retire ticket) n =
      rw (eqb-true ticket t n) (behind (not (machine_right m)) 28 _ refl (behind (not (is_idle m.moment)) 10 _ refl ticket_refused))
  names-refused (ask ticket) n = rw (eqb-true ticket t n) (behind (not (machine_right m)) 28 _ refl ticket_refused)

-- what a call that is refused comes to
refuses : (c : Call) (m : Machine) (k : ℕ) → refusing c m ≡ k → eqb k 0 ≡ false → step_of c m ≡ refuse m k
refuses c m k e z = steps_unless c m ∙ rw (e, z)

-- whatever the moment and the arguments
not_named : (c : Call) (m : Machine) (t : ℕ) → ticket_retired m.table.facts m.table.rows t ≡ true → names t c ≡ true
    → ((step_of c m).refusal ≡ 0 → ⊥) × (((step_of c m).cells ≡ []) × (after c m ≡ m))
not_named c m t h n =
    let e = names-refused m t h c n in
    let s = refuses c m (refusing c m) refl e in
    (λ z. eqb-false (refusing c m) 0 e (sym (ap (λ (x : Step). x.refusal) s) ∙ z), (ap (λ (x : Step). x.cells) s, ap (λ (x : Step). x.machine) s))

-- and ever after
pub retired_not_named : (cs : List Call) (c : Call) (m : Machine) (t : ℕ) → ticket_retired m.table.facts m.table.rows t ≡ true → names t c ≡ true
    → ((step_of c (after_all cs m)).refusal ≡ 0 → ⊥) × (((step_of c (after_all cs m)).cells ≡ []) × (after c (after_all cs m) ≡ after_all cs m))
retired_not_named cs c m t h = not_named c (after_all cs m) t (stays_retired cs m t h)

-- with 9, where nothing comes before it
pub retired_move : (m : Machine) (static new t room : ℕ) → 8 ≤ room → machine_right m ≡ true → m.moment ≡ Idle → new ≤ 127
    → ticket_retired m.table.facts m.table.rows t ≡ true → begun m 3 static new t room ≡ refuse m 9
unfolding begin_refusal step_refusal choice_refusal move_refusal
retired_move m static new t room enough right rests small h =
    refuses (begin 3 static new t room) m 9
    (rw (le-ltb room 8 enough, right, ap is_idle rests, le-ltb 127 new small, h, (retired_parts m.table.facts m.table.rows t h).0))
    refl

pub retired_retire : (m : Machine) (t : ℕ) → machine_right m ≡ true → m.moment ≡ Idle → ticket_retired m.table.facts m.table.rows t ≡ true
    → retired m t ≡ refuse m 9
unfolding rest_refusal retire_refusal
retired_retire m t right rests h = refuses (retire t) m 9 (rw (right, ap is_idle rests) (refused_nine m.table.facts m.table.rows t h)) refl

-- ---- a board that comes back

-- the ticket of a row is from 1 to the last, so no row has the next
given_ticket : (f : Facts) (r : Row) → row_right f r ≡ true → in_use r ≡ true → (0 < r.ticket) × (r.ticket ≤ f.last)
given_ticket f r h u =
    let t = simp and-eq-true_iff at (rw u at h) in
    (leb-true 1 r.ticket t.0.0.1.0, leb-true r.ticket f.last t.0.0.1.1)

pub lacks_next : (f : Facts) (r : Row) → row_right f r ≡ true → lacks (new_ticket f) r ≡ true
lacks_next f r h = lacks_other (new_ticket f) r (λ u e. omega (arith, e, (given_ticket f r h u).1))

-- the row with the identity, renewed
renewed_returned : (f : Facts) (rows : List Row) (id : ℕ) → sound f rows ≡ true → holds_identity id rows ≡ true
    → Returned (row_at rows (place_of_identity id rows)) (new_ticket f) id (ticketed f) (renewed (place_of_identity id rows) (new_ticket f) rows)
unfolding sound renewed
renewed_returned f rows id ok held =
    let t = simp and-eq-true_iff at ok in
    let k = place_of_identity id rows in
    let old = row_at rows k in
    let new = renewed_row (new_ticket f) old in
    let inside : k < length rows = find_lt (has_identity id) rows held in
    let known : has_identity id old ≡ true = found_passes (has_identity id) rows no_row inside in
    let used : in_use old ≡ true = (simp and-eq-true_iff at known).0.0 in
    let range = given_ticket f old (all_at (row_right f) rows k no_row t.0.1 inside) used in
    let here : row_at (set rows k new) (place_of_ticket (new_ticket f) (set rows k new)) ≡ new =
    ap (row_at (set rows k new))
    (find-set (has_ticket (new_ticket f)) new (and used (eq-eqb (new_ticket f) (new_ticket f) refl)) rows k inside
    (all_mono (row_right f) (lacks (new_ticket f)) (lacks_next f) rows t.0.1))
    ∙ get_or-set_same rows k new no_row inside in
    record {
      old_retired =
          gone_retired (ticketed f) (set rows k new) old.ticket record {
            positive = range.0;
            low = omega (arith, range.1);
            no_row_lem =
                all_none (has_ticket old.ticket) (set rows k new)
                (all_beside in_order (lacks old.ticket) new old
                (lacks_other old.ticket new (λ u e. omega (arith, e, range.1)))
                (behind_lacks old)
                (λ y h. lacks_other old.ticket y (λ u. other_ticket y old h used))
                rows k no_row refl inside t.1);
          };
      same_address = ap (λ (r : Row). r.address) here;
      same_identity = subst (λ (r : Row). has_identity id r ≡ true) (sym here) known;
    }

-- an offer that is heard is accepted
offer_accepted : (m : Machine) (room : ℕ) → machine_right m ≡ true → m.moment ≡ Offered → 8 ≤ room → answered m true room ≡ accepted m
unfolding answered step_refusal
offer_accepted m room right offers enough = rw (le-ltb room 8 enough, right) (ap (λ (x : Moment). answer_at x m true) offers)

-- a board with an identity that a row has, once it accepts what it was offered
pub comes_back : (m : Machine) (room : ℕ) → machine_right m ≡ true → m.moment ≡ Offered → holds_identity m.identity m.table.rows ≡ true → 8 ≤ room
    → Returned (row_at m.table.rows (place_of_identity m.identity m.table.rows)) (new_ticket m.table.facts) m.identity
    (after (answer true room) m).table.facts (after (answer true room) m).table.rows
unfolding accepted round_rule accepted_rows
comes_back m room right offers known enough =
    let rows' = accepted_rows m.table.rows m.identity m.offered (new_ticket m.table.facts) in
    let back = Returned (row_at m.table.rows (place_of_identity m.identity m.table.rows)) (new_ticket m.table.facts) m.identity in
    subst (λ (s : Step). back s.machine.table.facts s.machine.table.rows) (sym (offer_accepted m room right offers enough))
    (onward_has back (can_assign (ticketed m.table.facts) rows') (ticketed m.table.facts) rows' 0
    (cond_by (back (ticketed m.table.facts)) (holds_identity m.identity m.table.rows)
    (λ e. renewed_returned m.table.facts m.table.rows m.identity (right_says m right).0 known)
    (λ e. absurd (true≢false (sym known ∙ e)))))
