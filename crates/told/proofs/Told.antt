-- What the machine writes, from idle until idle again, is read as what was done; a record that was given up is refused at its STOP.
use Prim.Native.Nat.{ℕ, zero, suc, ◌+◌, ◌*◌, ◌≤◌}
use mathlib.Core.Path.{◌≡◌, refl, sym, ap, ◌∙◌, subst}
use mathlib.Core.Bool.{Bool, true, false, cond, false≢true}
use mathlib.Core.List.{List, [], ◌∷◌, ◌++◌, append-nil, append_assoc}
use native.Mathlib.Nat.{zero-add}
use native.Mathlib.Omega.{arith}
use lib.Dec.{eqb}
use lib.ListN.{length, drop, length-append}
use borrow.Author.Tests.{eqb-true, eqb-false}
use Rattle.lists.proofs.Bools.{both, cond_by, not-refused}
use Rattle.parity.specs.Cells.{is_identity, start_cell, repeated_start_cell, stop_cell, hot_join}
use Rattle.slots.specs.declared.Facts.{Facts}
use Rattle.rows.specs.declared.Row.{Row}
use Rattle.readings.specs.declared.Joining.TheVariants.{Refused, Answered}
use Rattle.readings.specs.declared.Joining.TheVariants as joinings
use Rattle.readings.specs.declared.Command.TheVariants as commands
use Rattle.readings.specs.declared.Reading.{Reading}
use Rattle.readings.specs.Readings.{command_number, may_follow, bare}
use Rattle.reader.specs.Points.{start, next, is_write_byte, is_offered}
use Rattle.reader.specs.Read.{says, breaks, stopped, from, tens_of, rounds_at, offers_of, answer_to, offers_to}
use Rattle.machine.specs.declared.Machine.{Machine}
use Rattle.machine.specs.Moments.{idle, opened, is_idle}
use Rattle.machine.specs.Refusals.{step_refusal, give_up_refusal}
use Rattle.machine.specs.Steps.{Step, did, refuse, address_asked, address_wanted, beginning, joins_for, joining}
use Rattle.machine.specs.Calls.{begun, given_up, joined}
use Rattle.life.specs.Life.{Call, begin, join, step_of, after, after_all}
use Rattle.life.proofs.Given.{stepping, refusing, steps_unless}
use Rattle.told.specs.Told.{go_on, cells_over, offers_made, ten_each, command_chosen, done}
use Rattle.reader.proofs.Bytes.{answer-within}
use Rattle.told.proofs.Stands.{carries_on, goes_or_refused, reads, joining_of, opening_of, Stand, at_opened, at_direct, at_round, at_listening, at_offered, at_idle, machine_at, so_far, hearing, said, reader_at}
use Rattle.told.proofs.Runs.{so_over, runs}

-- ---- the command of a choice

-- its number in a reading is the choice plus 1
pub choice_command : (choice : ℕ) → choice ≤ 5 → command_number (command_chosen choice) ≡ choice + 1
choice_command zero h = refl
choice_command (suc zero) h = refl
choice_command (suc (suc zero)) h = refl
choice_command (suc (suc (suc zero))) h = refl
choice_command (suc (suc (suc (suc zero)))) h = refl
choice_command (suc (suc (suc (suc (suc zero))))) h = refl
choice_command (suc (suc (suc (suc (suc (suc n)))))) h = absurd (omega arith)

-- ---- at the end of the calls

-- STOP has no place at the first header
never_opened : (behind : Bool) (at : ℕ) → from (opening_of behind) (stop_cell ∷ []) at ≡ breaks at
unfolding from next
never_opened true at = refl
never_opened false at = refl

module _ (behind : Bool) (choice asked wanted : ℕ) where
  -- an idle machine's record is over
  over_told : (s : Stand behind choice asked wanted) → is_idle (machine_at s).moment ≡ true → (at : ℕ)
      → reads (reader_at s) [] at ≡ says (said behind choice asked wanted (so_far s))
  unfolding stopped
  over_told (at_opened f rows may) ends at = absurd (false≢true ends)
  over_told (at_direct f rows alone) ends at = absurd (false≢true ends)
  over_told (at_round f rows refusals n last z a) ends at = absurd (false≢true ends)
  over_told (at_listening f rows refusals n z a) ends at = absurd (false≢true ends)
  over_told (at_offered f rows refusals n address bytes long small z a) ends at = absurd (false≢true ends)
  over_told (at_idle f rows so) ends at = refl

  -- any other's is not, and STOP has no place there
  stop_breaks : (s : Stand behind choice asked wanted) → is_idle (machine_at s).moment ≡ false → (at : ℕ)
      → reads (reader_at s) (stop_cell ∷ []) at ≡ breaks at
  unfolding from next is_identity is_write_byte is_offered
  stop_breaks (at_opened f rows may) goes at = never_opened behind at
  stop_breaks (at_direct f rows alone) goes at = refl
  stop_breaks (at_round f rows refusals n last z a) goes at = refl
  stop_breaks (at_listening f rows refusals n z a) goes at = refl
  stop_breaks (at_offered f rows refusals n address bytes long small z a) goes at = refl
  stop_breaks (at_idle f rows so) goes at = absurd (false≢true (sym goes))

-- ---- behind the first call

-- what it writes: 512, or for a joining that is answered 512, 8, 513
abbrev front_of : Bool → List ℕ
front_of true = start_cell ∷ hot_join true ∷ repeated_start_cell ∷ []
front_of false = start_cell ∷ []

-- it is read
front_read : (behind : Bool) (xs : List ℕ) → from start (front_of behind ++ xs) 0 ≡ from (opening_of behind) xs (length (front_of behind))
unfolding from next
front_read true xs = refl
front_read false xs = refl

-- it and the three cells 504, 14, 513 stand before the rounds
front_dropped : (behind : Bool) (xs : List ℕ) → drop (rounds_at (joining_of behind)) (front_of behind ++ xs) ≡ drop 3 xs
front_dropped true xs = refl
front_dropped false xs = refl

-- what is done is what is heard
done_said : (behind : Bool) (choice asked wanted : ℕ) (cs : List Call) (m : Machine)
    → done (joining_of behind) choice asked wanted cs m ≡ said behind choice asked wanted (so_over cs m (hearing false false false 0))
done_said behind choice asked wanted cs m = rw zero-add

-- the cells of a first call and of those behind it
abbrev cells_from : Step → List Call → List ℕ
cells_from s cs = s.cells ++ cells_over cs s.machine

-- where they go on or are refused, and come to idle, they say this
abbrev TellsFrom : Step → List Call → Reading → Type 0
TellsFrom s cs r =
    go_on cs s.machine ≡ true → is_idle (after_all cs s.machine).moment ≡ true
    → (from start (cells_from s cs) 0 ≡ says r) × (offers_of r (cells_from s cs) ≡ ten_each (offers_made cs s.machine))

-- where they don't come to idle, they are refused at a STOP
abbrev BreaksFrom : Step → List Call → Type 0
BreaksFrom s cs =
    go_on cs s.machine ≡ true → is_idle (after_all cs s.machine).moment ≡ false
    → from start (cells_from s cs ++ (stop_cell ∷ [])) 0 ≡ breaks (length (cells_from s cs))

module _ (behind : Bool) (choice asked wanted : ℕ) (f : Facts) (rows : List Row) (may : may_follow (joining_of behind) (command_chosen choice) ≡ true)
    (cs : List Call) where
  -- at idle the record says what was done
  opened_told : let m = opened f rows choice asked wanted in TellsFrom (did m (front_of behind)) cs (done (joining_of behind) choice asked wanted cs m)
  unfolding offers_of
  opened_told goes ends =
      let m = opened f rows choice asked wanted in
      let xs = cells_over cs m in
      let ran = runs behind choice asked wanted (at_opened f rows may) cs goes in
      let idles : is_idle (machine_at ran.on).moment ≡ true = rw ran.machine at ends in
      let read = ran.cells [] (length (front_of behind)) ∙ over_told behind choice asked wanted ran.on idles _ in
      let told = done_said behind choice asked wanted cs m ∙ ap (said behind choice asked wanted) ran.so in (
        front_read behind xs ∙ rw (← append-nil xs) read ∙ ap says (sym told),
        rw (front_dropped behind xs, ← append-nil xs) (ran.ten []),
      )

  -- before idle it is refused at a STOP
  opened-breaks : BreaksFrom (did (opened f rows choice asked wanted) (front_of behind)) cs
  opened-breaks goes before =
      let xs = cells_over cs (opened f rows choice asked wanted) in
      let ran = runs behind choice asked wanted (at_opened f rows may) cs goes in
      let unfinished : is_idle (machine_at ran.on).moment ≡ false = rw ran.machine at before in
      rw (append_assoc (front_of behind) xs (stop_cell ∷ []), length-append (front_of behind) xs)
      (front_read behind (xs ++ (stop_cell ∷ []))
      ∙ ran.cells (stop_cell ∷ []) (length (front_of behind))
      ∙ stop_breaks behind choice asked wanted ran.on unfinished _)

-- ---- at idle

-- calls that go on or are refused change nothing there, and write nothing
idle_stays : (f : Facts) (rows : List Row) (cs : List Call) → go_on cs (idle f rows) ≡ true
    → (cells_over cs (idle f rows) ≡ []) × (after_all cs (idle f rows) ≡ idle f rows)
idle_stays f rows [] goes = (refl, refl)
idle_stays f rows (c ∷ cs) goes =
    let m = idle f rows in
    let t = both (carries_on c (step_of c m)) (go_on cs (after c m)) goes in
    let k =
    goes_or_refused (λ _ (s : Step). (s.cells ≡ []) × (s.machine ≡ m)) m (λ heard n untaken. (refl, refl)) (λ heard right. (refl, refl))
    (λ bytes listens long small. absurd (false≢true listens)) c t.0 in
    let r = idle_stays f rows cs (rw k.1 at t.1) in
    (rw (k.0, k.1) r.0, rw k.1 r.1)

-- ---- the first call, and the last

-- a call that was not refused is its step
call_taken : (c : Call) (m : Machine) → (step_of c m).refusal ≡ 0 → step_of c m ≡ stepping c m
call_taken c m h = steps_unless c m ∙ go (eqb (refusing c m) 0) refl (ap (λ (s : Step). s.refusal) (sym (steps_unless c m)) ∙ h)
  where
    go : (b : Bool) → eqb (refusing c m) 0 ≡ b → (cond b (stepping c m) (refuse m (refusing c m))).refusal ≡ 0
        → cond b (stepping c m) (refuse m (refusing c m)) ≡ stepping c m
    go true e k = refl
    go false e k = absurd (eqb-false (refusing c m) 0 e k)

module _ (m : Machine) where
  -- a Begin, a Join that is answered, and one that is refused
  begun_taken : (choice static new ticket room : ℕ) → (begun m choice static new ticket room).refusal ≡ 0
      → begun m choice static new ticket room
      ≡ did (opened m.table.facts m.table.rows choice (address_asked m.table.rows choice static ticket) (address_wanted choice new)) (front_of false)
  unfolding beginning
  begun_taken choice static new ticket room h = call_taken (begin choice static new ticket room) m h

  joined_taken : (choice room : ℕ) → eqb choice 0 ≡ false → (joined m choice room).refusal ≡ 0
      → joined m choice room ≡ did (opened m.table.facts m.table.rows (joins_for choice) 0 0) (front_of true)
  unfolding joining
  joined_taken choice room n h = rw n at (call_taken (join choice room) m h)

  refused_taken : (choice room : ℕ) → eqb choice 0 ≡ true → (joined m choice room).refusal ≡ 0
      → joined m choice room ≡ did (idle m.table.facts m.table.rows) (start_cell ∷ hot_join false ∷ stop_cell ∷ [])
  unfolding joining
  refused_taken choice room z h = rw z at (call_taken (join choice room) m h)

  -- giving up is for any moment but idle, and writes a STOP
  given_up_lem : (room : ℕ) → (given_up m room).refusal ≡ 0 → (is_idle m.moment ≡ false) × ((given_up m room).cells ≡ stop_cell ∷ [])
  unfolding given_up give_up_refusal step_refusal
  given_up_lem room =
      let k = give_up_refusal m room in
      cond_by (λ (s : Step). s.refusal ≡ 0 → (is_idle m.moment ≡ false) × (s.cells ≡ stop_cell ∷ [])) (eqb k 0)
      (λ e h. let t = simp not-refused at (eqb-true k 0 e) in (t.1.1.0, refl))
      (λ n h. absurd (eqb-false k 0 n h))

-- ---- the reader's answer

-- at most 1,024 cells, with room for their offers: the answer is what they say, and their offers are written
read_told : (cells : List ℕ) (space : ℕ) {r : Reading} {bytes : List ℕ} → (from start cells 0 ≡ says r) × (offers_of r cells ≡ bytes)
    → length cells ≤ 1024 → 10 * r.offers ≤ space → (answer_to cells space ≡ says r) × (offers_to cells space ≡ bytes)
read_told cells space t fits room = let a = answer-within cells space t.0 fits room in (a, rw a t.1)

-- ---- a Begin

module _ (m : Machine) (choice static new ticket room : ℕ) (cs : List Call) (taken : (begun m choice static new ticket room).refusal ≡ 0)
    (goes : go_on cs (after (begin choice static new ticket room) m) ≡ true) where
  -- a Begin that is taken, then calls until idle: the cells read as what was done
  pub begun_told : is_idle (after_all cs (after (begin choice static new ticket room) m)).moment ≡ true
      → let cells = cells_over (begin choice static new ticket room ∷ cs) m in
      let m₁ = after (begin choice static new ticket room) m in
      let r = done joinings.None choice (address_asked m.table.rows choice static ticket) (address_wanted choice new) cs m₁ in
      (from start cells 0 ≡ says r) × (offers_of r cells ≡ ten_each (offers_made cs m₁))
  begun_told =
      let asked = address_asked m.table.rows choice static ticket in
      let wanted = address_wanted choice new in
      subst (λ (s : Step). TellsFrom s cs (done joinings.None choice asked wanted cs s.machine))
      (sym (begun_taken m choice static new ticket room taken))
      (opened_told false choice asked wanted m.table.facts m.table.rows refl cs) goes

  -- and the reader answers so
  pub begun_read : is_idle (after_all cs (after (begin choice static new ticket room) m)).moment ≡ true
      → let cells = cells_over (begin choice static new ticket room ∷ cs) m in
      let m₁ = after (begin choice static new ticket room) m in
      let r = done joinings.None choice (address_asked m.table.rows choice static ticket) (address_wanted choice new) cs m₁ in
      (space : ℕ) → length cells ≤ 1024 → 10 * r.offers ≤ space
      → (answer_to cells space ≡ says r) × (offers_to cells space ≡ ten_each (offers_made cs m₁))
  begun_read ends space = read_told (cells_over (begin choice static new ticket room ∷ cs) m) space (begun_told ends)

  module _ (room' : ℕ) (given : (given_up (after_all cs (after (begin choice static new ticket room) m)) room').refusal ≡ 0) where
    -- given up before that, the cells are refused at their STOP
    pub begun_given_up : let cells = cells_over (begin choice static new ticket room ∷ cs) m in
        let stop = (given_up (after_all cs (after (begin choice static new ticket room) m)) room').cells in
        from start (cells ++ stop) 0 ≡ breaks (length cells)
    begun_given_up =
        let g = given_up_lem (after_all cs (after (begin choice static new ticket room) m)) room' given in
        rw g.1
        (subst (λ (s : Step). BreaksFrom s cs) (sym (begun_taken m choice static new ticket room taken))
        (opened-breaks false choice (address_asked m.table.rows choice static ticket) (address_wanted choice new) m.table.facts m.table.rows refl cs)
        goes g.0)

    -- and the reader answers so, with whatever room
    pub begun_given_up_read : let cells = cells_over (begin choice static new ticket room ∷ cs) m in
        let stop = (given_up (after_all cs (after (begin choice static new ticket room) m)) room').cells in
        (space : ℕ) → length (cells ++ stop) ≤ 1024 → answer_to (cells ++ stop) space ≡ breaks (length cells)
    begun_given_up_read space fits = answer-within _ space begun_given_up fits (omega arith)

-- ---- a Join

-- assign and silence may follow a joining that is answered
joining_may : (choice : ℕ) → may_follow Answered (command_chosen (joins_for choice)) ≡ true
joining_may choice = cond_by (λ k. may_follow Answered (command_chosen k) ≡ true) (eqb choice 1) (λ e. refl) (λ e. refl)

module _ (m : Machine) (choice room : ℕ) (cs : List Call) (taken : (joined m choice room).refusal ≡ 0)
    (goes : go_on cs (after (join choice room) m) ≡ true) where
  module _ (answers : eqb choice 0 ≡ false) (ends : is_idle (after_all cs (after (join choice room) m)).moment ≡ true) where
    -- a Join that is taken and answers the joining, then calls until idle: the cells read as what was done
    pub joined_told : let cells = cells_over (join choice room ∷ cs) m in
        let m₁ = after (join choice room) m in
        let r = done Answered (joins_for choice) 0 0 cs m₁ in
        (from start cells 0 ≡ says r) × (offers_of r cells ≡ ten_each (offers_made cs m₁))
    joined_told =
        let k = joins_for choice in
        subst (λ (s : Step). TellsFrom s cs (done Answered k 0 0 cs s.machine)) (sym (joined_taken m choice room answers taken))
        (opened_told true k 0 0 m.table.facts m.table.rows (joining_may choice) cs) goes ends

    -- and the reader answers so
    pub joined_read : let cells = cells_over (join choice room ∷ cs) m in
        let m₁ = after (join choice room) m in
        let r = done Answered (joins_for choice) 0 0 cs m₁ in
        (space : ℕ) → length cells ≤ 1024 → 10 * r.offers ≤ space
        → (answer_to cells space ≡ says r) × (offers_to cells space ≡ ten_each (offers_made cs m₁))
    joined_read space = read_told (cells_over (join choice room ∷ cs) m) space joined_told

  module _ (room' : ℕ) (given : (given_up (after_all cs (after (join choice room) m)) room').refusal ≡ 0) where
    -- given up before that, the cells are refused at their STOP
    pub joined_given_up : let cells = cells_over (join choice room ∷ cs) m in
        let stop = (given_up (after_all cs (after (join choice room) m)) room').cells in
        from start (cells ++ stop) 0 ≡ breaks (length cells)
    joined_given_up =
        let g = given_up_lem (after_all cs (after (join choice room) m)) room' given in
        rw g.1 (go (eqb choice 0) refl goes g.0)
      where
        go : (b : Bool) → eqb choice 0 ≡ b → BreaksFrom (joined m choice room) cs
        go true z =
            subst (λ (s : Step). BreaksFrom s cs) (sym (refused_taken m choice room z taken))
            (λ on before. absurd (false≢true (sym before ∙ rw (idle_stays m.table.facts m.table.rows cs on).1)))
        go false n =
            subst (λ (s : Step). BreaksFrom s cs) (sym (joined_taken m choice room n taken))
            (opened-breaks true (joins_for choice) 0 0 m.table.facts m.table.rows (joining_may choice) cs)

    -- and the reader answers so, with whatever room
    pub joined_given_up_read : let cells = cells_over (join choice room ∷ cs) m in
        let stop = (given_up (after_all cs (after (join choice room) m)) room').cells in
        (space : ℕ) → length (cells ++ stop) ≤ 1024 → answer_to (cells ++ stop) space ≡ breaks (length cells)
    joined_given_up_read space fits = answer-within _ space joined_given_up fits (omega arith)

module _ (m : Machine) (room : ℕ) (cs : List Call) (taken : (joined m 0 room).refusal ≡ 0) (goes : go_on cs (after (join 0 room) m) ≡ true) where
  -- a Join with choice 0, which refuses the joining: the record says so, and nothing follows
  pub refused_told : let cells = cells_over (join 0 room ∷ cs) m in
      let r = bare Refused commands.None in
      (from start cells 0 ≡ says r) × (offers_of r cells ≡ [])
  unfolding from next stopped offers_of tens_of
  refused_told =
      let r = bare Refused commands.None in
      subst (λ (s : Step). go_on cs s.machine ≡ true → (from start (cells_from s cs) 0 ≡ says r) × (offers_of r (cells_from s cs) ≡ []))
      (sym (refused_taken m 0 room refl taken))
      (λ on. rw (idle_stays m.table.facts m.table.rows cs on).0 (refl, refl)) goes

  -- and the reader answers so
  pub refused_read : let cells = cells_over (join 0 room ∷ cs) m in
      let r = bare Refused commands.None in
      (space : ℕ) → length cells ≤ 1024 → (answer_to cells space ≡ says r) × (offers_to cells space ≡ [])
  refused_read space fits = read_told (cells_over (join 0 room ∷ cs) m) space refused_told fits (omega arith)
