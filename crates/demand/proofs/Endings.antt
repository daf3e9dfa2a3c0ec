-- What an ending says of a run.
use Prim.Native.Nat.{ℕ, zero, suc, ◌+◌, ◌<◌, ◌≤◌}
use mathlib.Core.Path.{◌≡◌, refl}
use mathlib.Core.Bool.{Bool, true, false, cond, not, ◌&&◌, true≢false, false≢true}
use mathlib.Core.List.{List, [], ◌∷◌, ◌++◌}
use native.Mathlib.Omega.{arith}
use borrow.Author.Tests.{ltb-true, ltb-false}
use Rattle.slots.specs.declared.Facts.{Facts}
use Rattle.rows.specs.declared.Row.{Row}
use Rattle.free.specs.Free.{full, no_free_address, no_ticket_left, can_assign}
use Rattle.begins.specs.Begins.{assign_refusal}
use Rattle.bench.specs.Play.{Play, flip_now, table_ending, offer_ending}
use Rattle.bench.specs.Plain.{Scene, accepts, scene_after, round_follows}
use Rattle.demand.specs.Demand.{answers_in, two_refused}
use Rattle.demand.proofs.Falls.{Ways}

-- ---- behind an offer

-- a table that can give no more: the ending is one of 2, 3, 4, and Begin is refused with the number 3 above it
table_refused : (f : Facts) (rows : List Row) → can_assign f rows ≡ false
    → (2 ≤ table_ending f rows) × (table_ending f rows ≤ 4) × (assign_refusal f rows ≡ table_ending f rows + 3)
unfolding can_assign assign_refusal
table_refused f rows = go (full rows) (no_free_address f rows) (no_ticket_left f)
  where
    Says : (a b c : Bool) → Type 0
    Says a b c =
        let ending : ℕ = cond a 2 (cond b 3 4) in
        (2 ≤ ending) × (ending ≤ 4) × (◌≡◌ {A = ℕ} (cond a 5 (cond b 6 (cond c 7 0))) (ending + 3))

    go : (a b c : Bool) → (not a && not b && not c) ≡ false → Says a b c
    go true b c h = (omega arith, omega arith, refl)
    go false true c h = (omega arith, omega arith, refl)
    go false false true h = (omega arith, omega arith, refl)
    go false false false h = absurd (true≢false h)

-- so the ending behind an offer is one of 1 to 4
offer_ends : (t : Bool) (s : Scene) → round_follows t s ≡ false → (1 ≤ offer_ending t s.facts s.rows) × (offer_ending t s.facts s.rows ≤ 4)
offer_ends true s f = let r = table_refused s.facts s.rows f in (omega (arith, r.0), r.1)
offer_ends false s f = (omega arith, omega arith)

-- ---- any run of boards

-- its ending is at most 4
abbrev Ended : List ℕ → Scene → Play → Type 0
Ended ks s p = p.ending ≤ 4

pub run_ended : Ways Ended
run_ended = record {
  at_silence = λ ks s going e. omega arith;
  at_last = λ ks s going e f. let t = accepts (flip_now ks) s in (offer_ends t (scene_after t s) f).1;
  in_front_lem = λ ks s going e f p h. h;
}

-- ---- endings 2, 3, 4

-- the table can give no more, and they say why
abbrev SaysTable : List ℕ → Scene → Play → Type 0
SaysTable ks s p = 2 ≤ p.ending → assign_refusal p.machine.table.facts p.machine.table.rows ≡ p.ending + 3

offer_says : (t : Bool) (s : Scene) → round_follows t s ≡ false → 2 ≤ offer_ending t s.facts s.rows
    → assign_refusal s.facts s.rows ≡ offer_ending t s.facts s.rows + 3
offer_says true s f h = (table_refused s.facts s.rows f).2
offer_says false s f h = absurd (omega arith)

pub run_says : Ways SaysTable
run_says = record {
  at_silence = λ ks s going e h. absurd (omega (arith, h));
  at_last = λ ks s going e f h. let t = accepts (flip_now ks) s in offer_says t (scene_after t s) f h;
  in_front_lem = λ ks s going e f p h. h;
}

-- ---- ending 1

-- what was answered before this scene, as far as it counts: a refusal, if there was one
abbrev before : ℕ → List Bool
before zero = []
before (suc k) = false ∷ []

-- the last two offers were refused, that one included
abbrev Refused : List ℕ → Scene → Play → Type 0
Refused ks s p = p.ending ≡ 1 → two_refused (before s.refusals ++ answers_in p.rounds) ≡ true

-- an answer more in front changes nothing
more_refused : (t : Bool) (ts : List Bool) → two_refused ts ≡ true → two_refused (t ∷ ts) ≡ true
more_refused t [] h = absurd (false≢true h)
more_refused t (a ∷ []) h = absurd (false≢true h)
more_refused t (a ∷ b ∷ ts) h = h

-- nor does what was before
before_refused : (k : ℕ) (ts : List Bool) → two_refused ts ≡ true → two_refused (before k ++ ts) ≡ true
before_refused zero ts h = h
before_refused (suc k) ts h = more_refused false ts h

-- behind a last offer
last_refused : (t : Bool) (s : Scene) → round_follows t (scene_after t s) ≡ false
    → offer_ending t (scene_after t s).facts (scene_after t s).rows ≡ 1 → two_refused (before s.refusals ++ (t ∷ [])) ≡ true
last_refused true s f h = let r = table_refused (scene_after true s).facts (scene_after true s).rows f in absurd (omega (arith, r.0))
last_refused false s f h = go s.refusals (ltb-false (s.refusals + 1) 2 f)
  where
    go : (k : ℕ) → 2 ≤ k + 1 → two_refused (before k ++ (false ∷ [])) ≡ true
    go zero h = absurd (omega arith)
    go (suc k) h = refl

-- behind one that another round follows
next-refused : (t : Bool) (s : Scene) (ts : List Bool) → round_follows t (scene_after t s) ≡ true
    → two_refused (before (scene_after t s).refusals ++ ts) ≡ true → two_refused (before s.refusals ++ (t ∷ ts)) ≡ true
next-refused true s ts f h = before_refused s.refusals (true ∷ ts) (more_refused true ts h)
next-refused false s ts f h = go s.refusals (ltb-true (s.refusals + 1) 2 f) h
  where
    go : (k : ℕ) → k + 1 < 2 → two_refused (before (k + 1) ++ ts) ≡ true → two_refused (before k ++ (false ∷ ts)) ≡ true
    go zero h r = r
    go (suc k) h r = absurd (omega arith)

pub run_refused : Ways Refused
run_refused = record {
  at_silence = λ ks s going e h. absurd (omega (arith, h));
  at_last = λ ks s going e f h. last_refused (accepts (flip_now ks) s) s f h;
  in_front_lem = λ ks s going e f p rest h. next-refused (accepts (flip_now ks) s) s (answers_in p.rounds) f (rest h);
}
