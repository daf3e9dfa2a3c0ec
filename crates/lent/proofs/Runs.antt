-- A run over a list is the run by value over its copy in 32 places; and what a run does with the boards that it was lent.
use Prim.Native.Nat.{ℕ, ◌≤◌, min}
use mathlib.Core.Path.{◌≡◌, refl, sym, ap, ◌∙◌}
use mathlib.Core.Bool.{Bool, true, false, cond}
use mathlib.Core.List.{List, [], append-nil}
use native.Mathlib.Omega.{arith}
use lib.Dec.{eqb, ltb}
use lib.ListN.{length, take, drop, replicate, length-take, take-append-drop}
use lib.Seq.{length-take-le, take_all, drop-length, take_at, take-append_seam, drop-append_seam}
use borrow.Author.Tests.{ltb-false, eqb-true}
use Rattle.lists.specs.Buffers.{lay}
use Rattle.lists.proofs.Bools.{cond_by}
use Rattle.boards.specs.declared.Board.{Board}
use Rattle.machine.specs.declared.Machine.{Machine}
use Rattle.bench.specs.declared.Ran.{Ran}
use Rattle.bench.specs.Plain.{plain}
use Rattle.bench.specs.Runs.{run_refusal, ran, refused, placed, refusal_of, benched, bench_cells}
use Rattle.bench.proofs.Counts.{plain_long}
use Rattle.bench.proofs.Benched.{allowed}
use Rattle.lent.specs.Runs.{lent_refusal, lent_run, lent_cells, reported}
use Rattle.lent.specs.Places.{no_board}

-- ---- the caller's own array

module _ {A : Type 0} where
  -- no more of its places are lent than it has
  pub owned_front : (n most : ℕ) (xs : List A) → length xs ≡ most → take (min n most) xs ≡ take n xs
  owned_front n most xs e =
      rw (← e, ← length-take n xs) (ap (take (length (take n xs))) (sym (take-append-drop n xs)) ∙ take-append_seam (take n xs) (drop n xs))

  -- and those behind them stay
  pub owned_rest : (n most : ℕ) (xs : List A) → length xs ≡ most → drop (min n most) xs ≡ drop n xs
  owned_rest n most xs e =
      rw (← e, ← length-take n xs) (ap (drop (length (take n xs))) (sym (take-append-drop n xs)) ∙ drop-append_seam (take n xs) (drop n xs))

-- ---- a list copied into 32 places

-- the places: its first boards, and none behind them
abbrev pub loaded : List Board → List Board
loaded ys = lay (take (min (length ys) 32) ys) (replicate 32 no_board)

module _ (ys : List Board) where
  -- so many are copied
  few_long : length (take (min (length ys) 32) ys) ≡ min (length ys) 32
  few_long = length-take-le (min (length ys) 32) ys (omega arith)

  -- the first of them are the first of the list
  loaded_front : take (min (length ys) 32) (loaded ys) ≡ take (min (length ys) 32) ys
  loaded_front = take_at (take (min (length ys) 32) ys) _ (min (length ys) 32) few_long

  -- up to 32 boards are all there
  loaded_all : length ys ≤ 32 → take (length ys) (loaded ys) ≡ ys
  loaded_all few =
      let all : length ys ≡ min (length ys) 32 = omega arith in
      ap (λ k. take k (loaded ys)) all ∙ loaded_front ∙ take_all (min (length ys) 32) ys (omega arith)

  -- copied back, they leave the list as it was
  loaded_back : lay (take (min (length ys) 32) (loaded ys)) ys ≡ ys
  loaded_back = rw (loaded_front, few_long) (take-append-drop (min (length ys) 32) ys)

-- ---- the refusal

-- over 32 boards are not looked at
over-refused : (m : Machine) (xs ys : List Board) (n : ℕ) (flips : List ℕ) (room : ℕ) → ltb 32 n ≡ true
    → run_refusal m xs n flips room ≡ run_refusal m ys n flips room
unfolding run_refusal
over-refused m xs ys n flips room e = rw e

-- two runs and their cells that hang on the same test
cond-all : {A B : Type 0} (P : A → B → A → B → Type 0) (b : Bool) {x y x' y' : A} {u v u' v' : B}
    → (b ≡ true → P x u x' u') → (b ≡ false → P y v y' v') → P (cond b x y) (cond b u v) (cond b x' y') (cond b u' v')
cond-all P true f g = f refl
cond-all P false f g = g refl

module _ (m : Machine) (ys : List Board) (flips : List ℕ) (room : ℕ) where
  -- the copy of over 32 is refused as the list is
  many_refused : ltb 32 (length ys) ≡ true → refusal_of m (loaded ys) (length ys) flips room ≡ lent_refusal m ys flips room
  many_refused e = over-refused m (take (length ys) (loaded ys)) ys (length ys) flips room e

  -- so is that of up to 32
  few_refused : length ys ≤ 32 → refusal_of m (loaded ys) (length ys) flips room ≡ lent_refusal m ys flips room
  few_refused few = ap (λ (xs : List Board). run_refusal m xs (length ys) flips room) (loaded_all ys few)

  same_refusal : refusal_of m (loaded ys) (length ys) flips room ≡ lent_refusal m ys flips room
  same_refusal = go (ltb 32 (length ys)) refl
    where
      go : (b : Bool) → ltb 32 (length ys) ≡ b → refusal_of m (loaded ys) (length ys) flips room ≡ lent_refusal m ys flips room
      go true e = many_refused e
      go false e = few_refused (ltb-false 32 (length ys) e)

  -- what holds of the copy's run and the list's where both are played, and where both are refused, holds of them
  by_refusal : (P : Ran → List ℕ → Ran → List ℕ → Type 0)
      → (length ys ≤ 32
      → P (ran (placed (drop (length ys) (loaded ys)) (plain m ys flips))) (plain m ys flips).cells
      (ran (plain m ys flips)) (plain m ys flips).cells)
      → P (refused m (loaded ys) (lent_refusal m ys flips room)) [] (refused m ys (lent_refusal m ys flips room)) []
      → P (benched m (loaded ys) (length ys) flips room) (bench_cells m (loaded ys) (length ys) flips room)
      (lent_run m ys flips room) (lent_cells m ys flips room)
  unfolding benched bench_cells lent_run lent_cells
  by_refusal P played turned =
      let k = lent_refusal m ys flips room in
      rw same_refusal
      (cond-all P (eqb k 0)
      (λ e.
      let few = (allowed m ys (length ys) flips room refl (eqb-true k 0 e)).few in
      rw (loaded_all ys few) (played few))
      (λ _. turned))

  -- what is reported of the run
  pub same_report : reported (benched m (loaded ys) (length ys) flips room) ≡ reported (lent_run m ys flips room)
  same_report = by_refusal (λ b _ l _. reported b ≡ reported l) (λ _. refl) refl

  -- its boards, copied back
  pub same_boards : lay (take (min (length ys) 32) (benched m (loaded ys) (length ys) flips room).boards) ys ≡ (lent_run m ys flips room).boards
  same_boards =
      by_refusal (λ b _ l _. lay (take (min (length ys) 32) b.boards) ys ≡ l.boards)
      (λ few.
      let long = plain_long m ys flips in
      let front = take_at (plain m ys flips).boards (drop (length ys) (loaded ys)) (min (length ys) 32) (omega (arith, long)) in
      rw (front, long, drop-length ys, append-nil))
      (loaded_back ys)

  -- its cells
  pub same_cells : bench_cells m (loaded ys) (length ys) flips room ≡ lent_cells m ys flips room
  same_cells = by_refusal (λ _ b _ l. b ≡ l) (λ _. refl) refl

  -- ---- for readers

  -- its refusal is the first that applies, and 0 where none does
  pub lent_refusal_lem : (lent_run m ys flips room).refusal ≡ lent_refusal m ys flips room
  unfolding lent_run
  lent_refusal_lem =
      let k = lent_refusal m ys flips room in
      cond_by (λ (r : Ran). r.refusal ≡ k) (eqb k 0) (λ e. sym (eqb-true k 0 e)) (λ _. refl)

  -- without one it is the plain run
  pub lent_played : lent_refusal m ys flips room ≡ 0 → lent_run m ys flips room ≡ ran (plain m ys flips)
  unfolding lent_run
  lent_played z = rw z

  -- it has as many boards as before
  pub kept_long : length (lent_run m ys flips room).boards ≡ length ys
  kept_long = by_refusal (λ _ _ l _. length l.boards ≡ length ys) (λ _. plain_long m ys flips) refl

  -- a refused run leaves machine and boards as they were, and writes nothing
  pub refused_as_was : ((lent_run m ys flips room).refusal ≡ 0 → ⊥)
      → (lent_run m ys flips room ≡ refused m ys (lent_refusal m ys flips room)) × (lent_cells m ys flips room ≡ [])
  refused_as_was =
      by_refusal (λ _ _ l cells. (l.refusal ≡ 0 → ⊥) → (l ≡ refused m ys (lent_refusal m ys flips room)) × (cells ≡ []))
      (λ _ n. absurd (n refl)) (λ _. (refl, refl))
