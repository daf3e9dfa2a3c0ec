-- Laws of the table: the ways of a ticket's refusal, of a row by itself, and of a row and another; and what stands behind an unused place.
use Prim.Native.Nat.{ℕ, suc, ◌+◌, ◌-◌, ◌≤◌, ◌<◌}
use mathlib.Core.Path.{◌≡◌, refl, sym, ◌∙◌}
use mathlib.Core.Bool.{Bool, true, false, cond, not, ◌&&◌, ◌||◌, or-false}
use Rattle.std.specs.Prelude.{position, Some, None}
use mathlib.Core.List.{List, [], ◌∷◌}
use lib.Dec.{eqb}
use native.Mathlib.Omega.{arith}
use lib.ListN.{get_or, drop}
use lib.Seq.{drop-drop}
use borrow.Author.Tests.{lt-ltb, le-ltb, eq-eqb, ne_eqb, not-true}
use Rattle.lists.specs.Lists.{all, pairwise, find}
use Rattle.lists.specs.Numbers.{within}
use Rattle.lists.proofs.Bools.{both, and}
use Rattle.lists.proofs.Keeps.{all_mono, all_drop}
use Rattle.lists.proofs.Library.{position_some_any, position_none_any}
use Rattle.lists.proofs.Loops.{All, Pairs, pairs_turn}
use Rattle.slots.specs.Slots.{is_open}
use Rattle.slots.specs.declared.Facts.{Facts}
use Rattle.rows.specs.Rows.{in_use, has_ticket}
use Rattle.rows.specs.declared.Row.{Row}
use Rattle.table.specs.Sound.{static_allowed, used_right, distinct, in_order}
use Rattle.table.specs.Tickets.{ticket_unknown, ticket_refusal}

module _ (f : Facts) (rows : List Row) where
  -- the ways of a ticket's refusal: unknown; known, with a place or with none
  module _ (t : ℕ) where
    pub ticket_unknown_lem : ticket_unknown f t ≡ true → 8 ≡ ticket_refusal f rows t
    unfolding ticket_refusal
    ticket_unknown_lem h = rw h

    module _ (known : ticket_unknown f t ≡ false) where
      pub ticket_held : {place : ℕ} → Some place ≡ position (has_ticket t) rows → 0 ≡ ticket_refusal f rows t
      unfolding ticket_refusal
      ticket_held h = rw (known, position_some_any _ _ h)

      pub ticket_retired_lem : None ≡ position (has_ticket t) rows → 9 ≡ ticket_refusal f rows t
      unfolding ticket_refusal
      ticket_retired_lem h = rw (known, position_none_any _ _ h)

-- ---- a row by itself

-- no mark or number 0: no mark with another number
mark_number : (unknown none : Bool) → (not unknown || none) ≡ not (unknown && not none)
mark_number true true = refl
mark_number true false = refl
mark_number false none = refl

-- the ways of a row: its address not open; its ticket never given; the mark with a number; set from no static address; set from one
module _ (f : Facts) (r : Row) where
  pub address_wrong : is_open f r.address ≡ false → false ≡ used_right f r
  address_wrong a = rw a

  module _ (a : is_open f r.address ≡ true) where
    pub ticket_wrong : within 1 f.last r.ticket ≡ false → false ≡ used_right f r
    ticket_wrong t = rw (a, t)

    module _ (t : within 1 f.last r.ticket ≡ true) where
      pub mark_wrong : (r.unknown && not (eqb r.identity 0)) ≡ true → false ≡ used_right f r
      mark_wrong m = rw (a, t, mark_number, m)

      module _ (m : (r.unknown && not (eqb r.identity 0)) ≡ false) where
        pub set_from_none : r.from_static ≡ 0 → true ≡ used_right f r
        set_from_none s = rw (a, t, mark_number, m, eq-eqb _ _ s)

        pub set_from_one : (r.from_static ≡ 0 → ⊥) → (o : Bool) → o ≡ static_allowed f r.from_static → o ≡ used_right f r
        set_from_one s o e = rw (a, t, mark_number, m, ne_eqb _ _ s) e

-- ---- a row and another

-- the ways of y behind x: unused; a row behind an unused place; its address not higher; higher, so that the rest decides
module _ (x y : Row) where
  pub unused_behind : y.address ≡ 0 → true ≡ in_order x y
  unused_behind u = rw (eq-eqb _ _ u)

  module _ (u : y.address ≡ 0 → ⊥) where
    pub behind_unused : x.address ≡ 0 → false ≡ in_order x y
    behind_unused v = rw (ne_eqb _ _ u, eq-eqb _ _ v)

    module _ (v : x.address ≡ 0 → ⊥) where
      pub not_higher : y.address ≤ x.address → false ≡ in_order x y
      not_higher h = rw (ne_eqb _ _ u, ne_eqb _ _ v, le-ltb _ _ h)

      pub higher : x.address < y.address → (o : Bool) → o ≡ distinct x y → o ≡ in_order x y
      higher h o e = rw (ne_eqb _ _ u, ne_eqb _ _ v, lt-ltb _ _ h) e

-- ---- the rows up to the first unused place, and the places behind it

-- a place that holds no row
abbrev pub unused : Row → Bool
unused r = not (in_use r)

-- a place is unused where its address is 0, and only there
module _ (r : Row) where
  pub unused_here : r.address ≡ 0 → unused r ≡ true
  unused_here u = rw (eq-eqb _ _ u)

  pub used_here : (r.address ≡ 0 → ⊥) → unused r ≡ false
  used_here u = rw (ne_eqb _ _ u)

-- what may stand behind an unused place is unused
only_unused : (x y : Row) → unused x ≡ true → in_order x y ≡ true → unused y ≡ true
only_unused x y u h = rw (not-true (in_use x) u, or-false) at h

-- so where all places are in order, there is no row behind the first unused one
unused_behind_first : (l : List Row) → pairwise in_order l ≡ true → all unused (drop (find unused l) l) ≡ true
unused_behind_first [] h = refl
unused_behind_first (x ∷ xs) h =
    let t = both (all (in_order x) xs) (pairwise in_order xs) h in go (unused_behind_first xs t.1) t.0 (unused x) refl
  where
    go : all unused (drop (find unused xs) xs) ≡ true → all (in_order x) xs ≡ true → (b : Bool) → unused x ≡ b
        → all unused (drop (cond b 0 (suc (find unused xs))) (x ∷ xs)) ≡ true
    go ih h true u = and u (all_mono (in_order x) unused (λ y k. only_unused x y u k) xs h)
    go ih h false u = ih

-- and where there is one, not all places are in order
pub row_behind_unused : (l : List Row) (n : ℕ) → n ≡ find unused l → all unused (drop n l) ≡ false → false ≡ pairwise in_order l
row_behind_unused l n e h = go (pairwise in_order l) refl
  where
    go : (b : Bool) → pairwise in_order l ≡ b → false ≡ b
    go true w = sym h ∙ rw e (unused_behind_first l w)
    go false w = refl

-- unused places may stand behind any, and are in order
unused_behind_any : (x : Row) (l : List Row) → all unused l ≡ true → all (in_order x) l ≡ true
unused_behind_any x l h = all_mono unused (in_order x) (λ y k. rw k) l h

unused_in_order : (l : List Row) → all unused l ≡ true → pairwise in_order l ≡ true
unused_in_order [] h = refl
unused_in_order (x ∷ xs) h =
    let t = both (unused x) (all unused xs) h in and (unused_behind_any x xs t.1) (unused_in_order xs t.1)

-- with those from n on unused, so are those from any later place on
left_unused : (l : List Row) (n i : ℕ) → n ≤ i → all unused (drop n l) ≡ true → all unused (drop i l) ≡ true
left_unused l n i b h =
    let e : n + (i - n) ≡ i = omega arith in
    rw (← e, ← drop-drop (i - n) n l) (all_drop unused (i - n) (drop n l) h)

-- so each of the two loops is done where only unused places are left
module _ {l : List Row} {d : Row} {m n i : ℕ} where
  pub pairs_turn_unused : {j : ℕ} → Pairs in_order l d m i → i < m
      → All (in_order (get_or l i d)) l d (all (in_order (get_or l i d)) (drop (i + 1) l)) m j → n ≤ j
      → all unused (drop n l) ≡ true → Pairs in_order l d m (i + 1)
  pairs_turn_unused {j} v b w c h = pairs_turn v b (w.same ∙ unused_behind_any (get_or l i d) (drop j l) (left_unused l n j c h))

  pub pairs_ended_unused : Pairs in_order l d m i → n ≤ i → all unused (drop n l) ≡ true → true ≡ pairwise in_order l
  pairs_ended_unused v b h = sym (v.same ∙ unused_in_order (drop i l) (left_unused l n i b h))
