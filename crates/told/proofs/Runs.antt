-- The calls of a record, one after the other: the reader follows the machine.
use Prim.Native.Nat.{ℕ, ◌+◌}
use mathlib.Core.Path.{◌≡◌, refl, ap, ◌∙◌}
use mathlib.Core.Bool.{Bool, true, and-eq-true_iff, false≢true}
use mathlib.Core.List.{List, [], ◌∷◌, ◌++◌, append_assoc}
use mathlib.Core.Option.{none, some}
use native.Mathlib.Nat.{add-zero}
use native.Mathlib.Omega.{arith}
use lib.ListN.{length, length-append}
use Rattle.lists.proofs.Bools.{both}
use Rattle.machine.specs.declared.Machine.{Machine}
use Rattle.machine.specs.declared.Moment.TheVariants.{Opened, Round, Offered, Direct}
use Rattle.machine.specs.Moments.{machine_right, is_listening}
use Rattle.machine.specs.Steps.{listened, answer_at}
use Rattle.reader.specs.Read.{tens_of}
use Rattle.lists.specs.Bits.{are_bytes}
use Rattle.life.specs.Life.{Call, step_of, after, after_all}
use Rattle.life.proofs.Sound.{right_says}
use Rattle.told.specs.Told.{go_on, cells_over, answer_of, taken_at, heard_at, offer_of, offers_made}
use Rattle.told.proofs.Asks.{addresses_small}
use Rattle.told.proofs.Stands.{carries_on, goes_or_refused, reads, Stand, at_opened, at_direct, at_round, at_listening, at_offered, at_idle, machine_at, So, hearing, so_far, so_after, reader_at, TensIn, Leads, stays}
use Rattle.told.proofs.Openings.{opened_leads}
use Rattle.told.proofs.Rounds.{direct_leads, round_leads, listening_leads, offered_leads}

-- what was heard, behind these calls too
abbrev pub so_over : List Call → Machine → So → So
so_over cs m so =
    record {
      first = heard_at Opened so.first cs m;
      second = heard_at Direct so.second cs m;
      last = heard_at Round so.last cs m;
      offers = so.offers + length (offers_made cs m);
    }

-- it is what is heard behind the first of them, and then behind the others
more_so : (c : Call) (cs : List Call) (m : Machine) (so : So)
    → so_over (c ∷ cs) m so ≡ so_over cs (after c m) (so_after m (step_of c m) (answer_of c) so)
more_so c cs m so =
    ap (hearing (heard_at Opened so.first (c ∷ cs) m) (heard_at Direct so.second (c ∷ cs) m) (heard_at Round so.last (c ∷ cs) m))
    (omega (arith, length-append (offer_of m (taken_at Offered c m)) (offers_made cs (after c m))))

module _ (behind : Bool) (choice asked wanted : ℕ) where
  -- ---- one call

  -- an answer, or none, to a right machine
  answer_leads : (s : Stand behind choice asked wanted) (heard : Bool) → machine_right (machine_at s) ≡ true
      → Leads behind choice asked wanted s (some heard) (answer_at (machine_at s).moment (machine_at s) heard)
  answer_leads (at_opened f rows may) heard right =
      let t = simp and-eq-true_iff at (right_says _ right).1 in opened_leads behind choice asked wanted f rows may heard t.0.0
  answer_leads (at_direct f rows alone) heard right =
      let r = right_says _ right in
      let t = simp and-eq-true_iff at r.1 in
      direct_leads behind choice asked wanted f rows alone (addresses_small f rows asked wanted choice r.0 t.0 t.1.0.0) heard
  answer_leads (at_round f rows refusals n last z a) heard right = round_leads behind choice asked wanted f rows refusals n z a last heard
  answer_leads (at_listening f rows refusals n z a) heard right =
      stays behind choice asked wanted (at_listening f rows refusals n z a) (some heard) 10 refl
  answer_leads (at_offered f rows refusals n address bytes long small z a) heard right =
      offered_leads behind choice asked wanted f rows refusals n z a address bytes long small heard
  answer_leads (at_idle f rows so) heard right = stays behind choice asked wanted (at_idle f rows so) (some heard) 10 refl

  -- an identity
  identity_leads : (s : Stand behind choice asked wanted) (bytes : List ℕ) → is_listening (machine_at s).moment ≡ true
      → length bytes ≡ 8 → are_bytes bytes ≡ true
      → Leads behind choice asked wanted s none (listened (machine_at s) bytes)
  identity_leads (at_opened f rows may) bytes l long small = absurd (false≢true l)
  identity_leads (at_direct f rows alone) bytes l long small = absurd (false≢true l)
  identity_leads (at_round f rows refusals n last z a) bytes l long small = absurd (false≢true l)
  identity_leads (at_listening f rows refusals n z a) bytes l long small =
      listening_leads behind choice asked wanted f rows refusals n z a bytes long small
  identity_leads (at_offered f rows refusals n address bytes' long' small' z a) bytes l long small = absurd (false≢true l)
  identity_leads (at_idle f rows so) bytes l long small = absurd (false≢true l)

  -- any call that goes on or is refused
  call_leads : (s : Stand behind choice asked wanted) (c : Call) → carries_on c (step_of c (machine_at s)) ≡ true
      → Leads behind choice asked wanted s (answer_of c) (step_of c (machine_at s))
  call_leads s =
      goes_or_refused (Leads behind choice asked wanted s) (machine_at s) (stays behind choice asked wanted s) (answer_leads s) (identity_leads s)

  -- ---- a list of calls

  -- calls lead from one stand to another
  pub record Runs (from : Stand behind choice asked wanted) (cs : List Call) : Type 0 where
    pub on : Stand behind choice asked wanted
    pub machine : after_all cs (machine_at from) ≡ machine_at on
    pub so : so_over cs (machine_at from) (so_far from) ≡ so_far on
    pub cells : (xs : List ℕ) (at : ℕ)
        → reads (reader_at from) (cells_over cs (machine_at from) ++ xs) at
        ≡ reads (reader_at on) xs (at + length (cells_over cs (machine_at from)))
    pub ten : (xs : List ℕ) → TensIn from (cells_over cs (machine_at from) ++ xs) (offers_made cs (machine_at from))

  -- no calls make no offers
  none_ten : (s : Stand behind choice asked wanted) (xs : List ℕ) → TensIn s xs []
  unfolding tens_of
  none_ten (at_opened f rows may) xs = refl
  none_ten (at_direct f rows alone) xs = refl
  none_ten (at_round f rows refusals n last z a) xs = refl
  none_ten (at_listening f rows refusals n z a) xs = refl
  none_ten (at_offered f rows refusals n address bytes long small z a) xs = refl
  none_ten (at_idle f rows so) xs = refl

  -- and lead nowhere else
  none_runs : (s : Stand behind choice asked wanted) → Runs s []
  none_runs s = record {
    on = s;
    machine = refl;
    so = rw add-zero;
    cells = λ xs at. ap (reads (reader_at s) xs) (omega arith);
    ten = none_ten s;
  }

  -- one call more in front
  more_runs : (s : Stand behind choice asked wanted) (c : Call) (cs : List Call)
      → (l : Leads behind choice asked wanted s (answer_of c) (step_of c (machine_at s))) → Runs l.on cs → Runs s (c ∷ cs)
  more_runs s c cs l r =
      let m = machine_at s in
      let rest = cells_over cs (after c m) in
      record {
        on = r.on;
        machine = rw l.machine r.machine;
        so =
            more_so c cs m (so_far s)
            ∙ ap (so_over cs (after c m)) l.so
            ∙ ap (λ (n : Machine). so_over cs n (so_far l.on)) l.machine
            ∙ r.so;
        cells =
            λ xs at.
            rw (append_assoc, length-append (step_of c m).cells rest)
            (l.cells (rest ++ xs) at
            ∙ rw l.machine
            (r.cells xs (at + length (step_of c m).cells) ∙ ap (reads (reader_at r.on) xs) (omega arith)));
        ten = λ xs. rw append_assoc (l.ten (rest ++ xs) (offers_made cs (after c m)) (rw l.machine (r.ten xs)));
      }

  -- any calls that go on or are refused
  pub runs : (s : Stand behind choice asked wanted) (cs : List Call) → go_on cs (machine_at s) ≡ true → Runs s cs
  runs s [] goes = none_runs s
  runs s (c ∷ cs) goes =
      let t = both (carries_on c (step_of c (machine_at s))) (go_on cs (after c (machine_at s))) goes in
      let l = call_leads s c t.0 in
      more_runs s c cs l (runs l.on cs (rw l.machine at t.1))
