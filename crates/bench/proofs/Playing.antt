-- The invariant of the loop that plays rounds until the machine is idle: a run of the definitions is kept, and the rest of it leads to the whole run.
use Prim.Native.Nat.{ℕ, zero, suc, ◌+◌, ◌-◌, ◌<◌, ◌≤◌}
use mathlib.Core.Path.{◌≡◌, refl, sym, ap, subst, ◌∙◌}
use mathlib.Core.Bool.{Bool, true, false, cond}
use mathlib.Core.List.{List, [], ◌∷◌}
use native.Mathlib.Omega.{arith}
use native.Mathlib.Numerals.{add-one}
use lib.ListN.{length, take, drop, get_or, length-append, length-map, length-take}
use Rattle.lists.proofs.Bools.{cond_by}
use Rattle.lists.proofs.Buffers.{lay-length}
use Rattle.boards.specs.declared.Board.{Board}
use Rattle.boards.specs.declared.Heard.{Heard}
use Rattle.boards.specs.Wire.{waits, waiting, anyone, hear}
use Rattle.boards.proofs.Behind.{still_long, after_long}
use Rattle.machine.specs.declared.Machine.{Machine}
use Rattle.machine.specs.Moments.{is_idle}
use Rattle.bench.specs.declared.play.Played.{Played}
use Rattle.bench.specs.Play.{Play, flip_now, flips_then}
use Rattle.bench.specs.Wire.{listened, byte_seen, round_of, headed, opened, offered_on, round_on, rounds_on, on_wire}
use Rattle.bench.specs.Keeps.{Keeps, KeepsRound}

-- ---- flips

-- the next flip from place i on
flip_now_lem : (flips : List ℕ) (i : ℕ) → flip_now (drop i flips) ≡ get_or flips i 8
flip_now_lem [] zero = refl
flip_now_lem [] (suc i) = refl
flip_now_lem (k ∷ ks) zero = refl
flip_now_lem (k ∷ ks) (suc i) = flip_now_lem ks i

-- and those behind it
flips_then_lem : (flips : List ℕ) (i : ℕ) → flips_then (drop i flips) ≡ drop (i + 1) flips
flips_then_lem flips i = go flips i ∙ ap (λ n. drop n flips) (sym (add-one i))
  where
    go : (flips : List ℕ) (i : ℕ) → flips_then (drop i flips) ≡ drop (suc i) flips
    go [] zero = refl
    go [] (suc i) = refl
    go (k ∷ ks) zero = refl
    go (k ∷ ks) (suc i) = go ks i

-- ---- a round makes no board more or less, and is one at most

offer_boards : (room flip : ℕ) (h : Heard) (p : Play) → length h.still ≡ length p.boards → length (offered_on room flip h p).boards ≡ length p.boards
unfolding offered_on
offer_boards room flip h p e = after_long (byte_seen flip (listened room h p)) h.still p.boards e

offer_rounds : (room flip : ℕ) (h : Heard) (p : Play) → length (offered_on room flip h p).rounds ≡ length p.rounds + 1
unfolding offered_on
offer_rounds room flip h p = let q = listened room h p in length-append p.rounds (round_of (byte_seen flip q) h q ∷ [])

round_boards : (room flip : ℕ) (p : Play) → length (round_on room flip p).boards ≡ length p.boards
unfolding round_on
round_boards room flip p =
    let bs = p.boards in
    cond_by (λ (q : Play). length q.boards ≡ length bs) (anyone (waiting bs))
    (λ _. offer_boards room flip (hear 64 bs (waiting bs) 0) (headed room p) (still_long 64 bs (waiting bs) 0 (length-map bs waits))) (λ _. refl)

round_rounds : (room flip : ℕ) (p : Play) → length (round_on room flip p).rounds ≤ length p.rounds + 1
unfolding round_on
round_rounds room flip p =
    let bs = p.boards in
    cond_by (λ (q : Play). length q.rounds ≤ length p.rounds + 1) (anyone (waiting bs))
    (λ _. omega (arith, offer_rounds room flip (hear 64 bs (waiting bs) 0) (headed room p))) (λ _. omega arith)

-- ---- rounds until idle

module _ (room : ℕ) (p : Play) where
  rounds_turn : (n : ℕ) (ks : List ℕ)
      → rounds_on room (suc n) ks p ≡ cond (is_idle p.machine.moment) p (rounds_on room n (flips_then ks) (round_on room (flip_now ks) p))
  unfolding rounds_on
  rounds_turn n ks = refl

  -- none are left of 65
  rounds_none : (i : ℕ) (ks : List ℕ) → 65 ≤ i → rounds_on room (65 - i) ks p ≡ p
  unfolding rounds_on
  rounds_none i ks h = let n : 65 - i ≡ 0 = omega arith in rw n

  module _ (flips : List ℕ) (i : ℕ) (h : i < 65) where
    one_more : 65 - i ≡ suc (65 - (i + 1))
    one_more = omega arith

    -- idle: none is played
    rounds_idle : is_idle p.machine.moment ≡ true → rounds_on room (65 - i) (drop i flips) p ≡ p
    rounds_idle e = rw (one_more, rounds_turn (65 - (i + 1)) (drop i flips), e)

    -- not idle: the next is
    rounds_next : {flip : ℕ} → is_idle p.machine.moment ≡ false → flip ≡ get_or flips i 8
        → rounds_on room (65 - (i + 1)) (drop (i + 1) flips) (round_on room flip p) ≡ rounds_on room (65 - i) (drop i flips) p
    rounds_next e f = rw (one_more, rounds_turn (65 - (i + 1)) (drop i flips), e, flips_then_lem flips i, flip_now_lem flips i, f)

-- ---- the invariant

-- a run is kept after at most i rounds; from it, n rounds more lead to the whole one
pub record Reached (behind : List Board) (buffer : List ℕ) (kept : Played) (stand : List ℕ) (count i : ℕ) (flips : List ℕ) (whole : Play) : Type 0 where
  pub run : Play
  pub keeps : Keeps behind buffer kept stand run
  pub many : length run.boards ≡ count
  pub few : length run.rounds ≤ i
  pub leads : rounds_on (length buffer) (65 - i) (drop i flips) run ≡ whole

-- whatever run of so many boards was kept before the loop
pub record Playing (count : ℕ) (flips stand₀ : List ℕ) (kept₀ : Played) (stand : List ℕ) (kept : Played) (i : ℕ) : Type 0 where
  pub inside : i ≤ 65
  pub from :
      (behind : List Board) (buffer : List ℕ) (p : Play) → length p.boards ≡ count → length p.rounds ≡ 0 → Keeps behind buffer kept₀ stand₀ p
      → Reached behind buffer kept stand count i flips (rounds_on (length buffer) 65 flips p)

-- the machine kept is idle if the run's is
same_idle : {behind : List Board} {buffer : List ℕ} {kept : Played} {stand : List ℕ} {p : Play} {idle b : Bool} → Keeps behind buffer kept stand p
    → idle ≡ is_idle kept.machine.moment → idle ≡ b → is_idle p.machine.moment ≡ b
same_idle k told e = ap (λ (m : Machine). is_idle m.moment) (sym k.machine) ∙ sym told ∙ e

-- before the first round
pub playing_start : (count : ℕ) (flips stand : List ℕ) (kept : Played) → Playing count flips stand kept stand kept 0
playing_start count flips stand kept = record {
  inside = omega arith;
  from = λ behind buffer p many none k. record { run = p; keeps = k; many = many; few = omega arith; leads = refl };
}

-- one more
pub playing_turn : {count flip i : ℕ} {flips stand₀ stand stand' : List ℕ} {kept₀ kept kept' : Played} {idle : Bool}
    → Playing count flips stand₀ kept₀ stand kept i → i < 65 → idle ≡ is_idle kept.machine.moment → idle ≡ false
    → flip ≡ get_or flips i 8 → KeepsRound count flip kept stand kept' stand'
    → Playing count flips stand₀ kept₀ stand' kept' (i + 1)
playing_turn {count} {flip} {i} {flips} v h told e f on = record {
  inside = omega arith;
  from =
      λ behind buffer p many none k.
      let u = v.from behind buffer p many none k in
      let room = length buffer in
      record {
        run = round_on room flip u.run;
        keeps = on behind buffer u.run u.many u.keeps;
        many = round_boards room flip u.run ∙ u.many;
        few = omega (arith, u.few, round_rounds room flip u.run);
        leads = rounds_next room u.run flips i h (same_idle u.keeps told e) f ∙ u.leads;
      };
}

-- ---- the run that `opened` began

module _ (machine : Machine) (boards : List Board) {count : ℕ} {flips buffer : List ℕ} (few : count ≤ 32) (long : length boards ≡ 32)
    {stand₀ stand : List ℕ} {kept₀ kept : Played} {i : ℕ}
    (k : Keeps (drop count boards) buffer kept₀ stand₀ (opened (length buffer) machine (take count boards)))
    (v : Playing count flips stand₀ kept₀ stand kept i) where
  reached : Reached (drop count boards) buffer kept stand count i flips (on_wire (length buffer) machine (take count boards) flips)
  unfolding opened on_wire
  reached = v.from (drop count boards) buffer (opened (length buffer) machine (take count boards)) (omega (arith, length-take count boards)) refl k

  -- the cells are as many as before
  pub played_long : length stand ≡ length buffer
  played_long = ap length reached.keeps.cells ∙ lay-length reached.run.cells buffer reached.keeps.fits

  -- another round may be played
  pub may_play : i < 65 → (kept.at ≤ length stand) × (kept.rounds < 65)
  may_play h = (
    omega (arith, reached.keeps.at, reached.keeps.fits, played_long),
    omega (arith, reached.keeps.rounds, reached.few),
  )

  -- the machine is idle
  pub played_idle : {idle : Bool} → i < 65 → idle ≡ is_idle kept.machine.moment → idle ≡ true
      → Keeps (drop count boards) buffer kept stand (on_wire (length buffer) machine (take count boards) flips)
  played_idle h told e =
      subst (λ (p : Play). Keeps (drop count boards) buffer kept stand p)
      (sym (rounds_idle (length buffer) reached.run flips i h (same_idle reached.keeps told e)) ∙ reached.leads) reached.keeps

  -- all 65 rounds are played
  pub played_all : 65 ≤ i → Keeps (drop count boards) buffer kept stand (on_wire (length buffer) machine (take count boards) flips)
  played_all h =
      subst (λ (p : Play). Keeps (drop count boards) buffer kept stand p)
      (sym (rounds_none (length buffer) reached.run i (drop i flips) h) ∙ reached.leads) reached.keeps
