-- A sheet run: what the bench asks of it, and what comes of each way out of `sheet::run`.
use Prim.Native.Nat.{ℕ, ◌≤◌, ◌<◌}
use mathlib.Core.Path.{◌≡◌, refl, sym, ap, ◌∙◌}
use mathlib.Core.Bool.{Bool, true, false, cond, not}
use mathlib.Core.List.{List, [], ◌∷◌, map}
use native.Mathlib.Omega.{arith}
use lib.Dec.{ltb}
use lib.ListN.{length}
use borrow.Author.Tests.{lt-ltb, le-ltb, ne_eqb}
use Rattle.std.proofs.Common.{Result, Ok, Err}
use Rattle.refusals.specs.declared.Refusal.{Refusal}
use Rattle.refusals.specs.declared.Refusal.TheVariants.{TooFewLent}
use Rattle.refusals.specs.Refusals.{number}
use Rattle.refusals.proofs.Laws.{number_not_zero}
use Rattle.lists.specs.Lists.{any}
use Rattle.lists.specs.Buffers.{lay}
use Rattle.lists.proofs.Bools.{here, next}
use Rattle.slots.specs.Slots.{facts_right, checked}
use Rattle.slots.specs.declared.Facts.{Facts}
use Rattle.free.specs.Free.{full, no_free_address, no_ticket_left}
use Rattle.begins.specs.Begins.{assign_refusal}
use Rattle.boards.specs.declared.Board.{Board}
use Rattle.machine.specs.declared.Machine.{Machine}
use Rattle.machine.specs.Refusals.{rest_refusal}
use Rattle.machine.specs.Calls.{started}
use Rattle.machine.proofs.Laws.{rest_resting, rest_passed}
use Rattle.life.proofs.Sound.{start_right}
use Rattle.bench.specs.Runs.{run_refusal}
use Rattle.lent.specs.declared.Report.{Report}
use Rattle.lent.specs.Runs.{lent_refusal, lent_run, reported}
use Rattle.lent.proofs.Runs.{lent_played}
use Rattle.listing.specs.Listing.{listing, lent}
use Rattle.sheet.specs.Sheet.{sheet_right, facts_in, board_of_body, boards_in, flips_in, bodies_of, entries}
use Rattle.sheet.specs.Runs.{sheet_answer, no_rows, sheet_refusal, machine_for, run_of, listing_of, sheet_text, sheet_ran}

-- ---- what the bench asks

-- boards from bodies have no address
bodies_low : (bodies : List (List ℕ)) → any (λ (b : Board). ltb 127 b.address) (map board_of_body bodies) ≡ false
bodies_low [] = refl
bodies_low (body ∷ bodies) = bodies_low bodies

-- so those of a sheet have none over 127
pub boards_low : (sheet : List ℕ) → any (λ (b : Board). ltb 127 b.address) (boards_in sheet) ≡ false
unfolding boards_in
boards_low sheet = bodies_low (bodies_of 2 sheet (entries sheet))

-- with a machine that rests it asks: over 32 boards, a flip over 8, and what Begin asks
bench_left : (m : Machine) (bs : List Board) (flips : List ℕ) {more : ℕ} → 0 ≡ rest_refusal m 0 → any (λ (b : Board). ltb 127 b.address) bs ≡ false
    → assign_refusal m.table.facts m.table.rows ≡ more
    → lent_refusal m bs flips 1024 ≡ cond (ltb 32 (length bs)) 16 (cond (any (ltb 8) flips) 17 more)
unfolding run_refusal
bench_left m bs flips rests low asks = sym (rest_passed m rests refl (rw (low, asks)))

-- with one that was just started: over 32 boards, a flip over 8, no free address, no ticket left
pub bench_asks : (f : Facts) (bs : List Board) (flips : List ℕ) → facts_right f ≡ true → any (λ (b : Board). ltb 127 b.address) bs ≡ false
    → lent_refusal (started f).machine bs flips 1024
    ≡ cond (ltb 32 (length bs)) 16 (cond (any (ltb 8) flips) 17 (cond (no_free_address f no_rows) 6 (cond (no_ticket_left f) 7 0)))
unfolding started checked assign_refusal full
bench_asks f bs flips right low =
    let m = (started f).machine in
    bench_left m bs flips (rest_resting m refl (ap not (start_right f)) refl refl) low (rw right)

-- ---- the ways out

-- what is handed back, and the lent bytes as they then stand, are those of a sheet run
pub record Comes (sheet out : List ℕ) (answer : Result ℕ Refusal) (stand : List ℕ) : Type 0 where
  pub value : sheet_answer answer ≡ sheet_ran sheet (length out)
  pub out_after : stand ≡ lay (sheet_text sheet (length out)) out

module _ (sheet out : List ℕ) where
  -- refused, with the number that applies: the bytes stay
  pub refused : {r : Refusal} → number r ≡ sheet_refusal sheet (length out) → Comes sheet out (Err r) out
  unfolding sheet_text sheet_ran
  refused {r} e =
      let n : (number r ≡ 0 → ⊥) = number_not_zero r in
      record { value = rw (← e, ne_eqb (number r) 0 n); out_after = rw (← e, ne_eqb (number r) 0 n) }

  -- fewer than 1,100 bytes
  pub too_few_bytes : length out < 1100 → Comes sheet out (Err TooFewLent) out
  unfolding sheet_refusal
  too_few_bytes short = refused (here _ (lt-ltb (length out) 1100 short) refl)

  module _ (enough : 1100 ≤ length out) where
    -- a sheet that breaks its rules
    pub sheet_wrong : {r : Refusal} → number r ≡ cond (not (sheet_right sheet)) 18 0 → Comes sheet out (Err r) out
    unfolding sheet_refusal
    sheet_wrong {r} e = refused (next 11 (le-ltb (length out) 1100 enough) (go (sheet_right sheet) _ e))
      where
        go : (b : Bool) (more : ℕ) → number r ≡ cond (not b) 18 0 → number r ≡ cond (not b) 18 more
        go true more e = absurd (number_not_zero r e)
        go false more e = e

    module _ (right : sheet_right sheet ≡ true) where
      -- what is asked behind it
      sheet_passed : {k more : ℕ} → k ≡ more → k ≡ cond (ltb (length out) 1100) 11 (cond (not (sheet_right sheet)) 18 more)
      sheet_passed e = next 11 (le-ltb (length out) 1100 enough) (next 18 (ap not right) e)

      -- facts that break theirs
      pub facts_wrong : {r : Refusal} → number r ≡ (started (facts_in sheet)).refusal → Comes sheet out (Err r) out
      unfolding sheet_refusal started
      facts_wrong {r} e = refused (sheet_passed (go (facts_right (facts_in sheet)) _ e))
        where
          go : (b : Bool) (more : ℕ) → number r ≡ cond b 0 1 → number r ≡ cond (not b) 1 more
          go true more e = absurd (number_not_zero r e)
          go false more e = e

      module _ (begun : 0 ≡ (started (facts_in sheet)).refusal) {m : Machine} (is : m ≡ machine_for sheet) where
        -- a start that is not refused had right facts
        facts_right_lem : facts_right (facts_in sheet) ≡ true
        unfolding started
        facts_right_lem = go (facts_right (facts_in sheet)) begun
          where
            go : (b : Bool) → ◌≡◌ {A = ℕ} 0 (cond b 0 1) → b ≡ true
            go true e = refl
            go false e = absurd (omega arith)

        -- the bench asks what is left to ask
        bench_refusal : {k : ℕ} → k ≡ lent_refusal m (boards_in sheet) (flips_in sheet) 1024 → k ≡ sheet_refusal sheet (length out)
        unfolding sheet_refusal
        bench_refusal e =
            sheet_passed
            (next 1 (ap not facts_right_lem)
            (e ∙ rw is (bench_asks (facts_in sheet) (boards_in sheet) (flips_in sheet) facts_right_lem (boards_low sheet))))

        -- what it refuses
        pub run_refused : {r : Refusal} → number r ≡ lent_refusal m (boards_in sheet) (flips_in sheet) 1024 → Comes sheet out (Err r) out
        run_refused e = refused (bench_refusal e)

        module _ (played : 0 ≡ lent_refusal m (boards_in sheet) (flips_in sheet) 1024)
            {p : Report} (told : p ≡ reported (lent_run m (boards_in sheet) (flips_in sheet) 1024)) where
          -- what it plays is listed
          same_listing : lent (length out) (listing p.machine.table.rows p.ending p.rounds p.clocks) ≡ listing_of (run_of sheet)
          unfolding run_of
          same_listing =
              let same = told ∙ ap reported (lent_played m (boards_in sheet) (flips_in sheet) 1024 (sym played)) in
              rw (le-ltb (length out) 1100 enough) (ap (λ (q : Report). listing q.machine.table.rows q.ending q.rounds q.clocks) (rw is at same))

          -- its listing stands at the front of the lent bytes
          pub run_listed : {n : ℕ} {stand : List ℕ}
              → (let text = lent (length out) (listing p.machine.table.rows p.ending p.rounds p.clocks) in
              n ≡ length text → stand ≡ lay text out → Comes sheet out (Ok n) stand)
          unfolding sheet_text sheet_ran
          run_listed l w =
              let done : sheet_refusal sheet (length out) ≡ 0 = sym (bench_refusal played) in
              record {
                value = rw done (λ i. record { length = (l ∙ ap length same_listing) i; refusal = 0 });
                out_after = rw done (w ∙ ap (λ (text : List ℕ). lay text out) same_listing);
              }
