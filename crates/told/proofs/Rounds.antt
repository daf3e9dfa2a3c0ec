-- From direct, and from round, listening and offered: what headers, identities, offered addresses and new addresses say.
use Prim.Native.Nat.{ℕ, suc, ◌+◌, ◌≤◌}
use mathlib.Core.Path.{◌≡◌, refl, ap, ◌∙◌}
use mathlib.Core.Bool.{Bool, true, false, cond}
use mathlib.Core.List.{List, [], ◌∷◌, ◌++◌, map}
use mathlib.Core.Option.{none, some}
use native.Mathlib.Nat.{add-zero}
use native.Mathlib.Omega.{arith}
use lib.Dec.{eqb, leb}
use lib.ListN.{length, length-map}
use Rattle.lists.specs.Bits.{are_bytes, bytes_of}
use Rattle.lists.proofs.Bools.{both, cond_by}
use Rattle.parity.specs.Cells.{data_cell, answer_cell, identity_cell, write_byte, offered_byte, stop_cell, broadcast_read}
use Rattle.slots.specs.declared.Facts.{Facts}
use Rattle.rows.specs.declared.Row.{Row}
use Rattle.free.specs.Free.{can_assign}
use Rattle.table.specs.Tickets.{new_ticket, ticketed}
use Rattle.readings.specs.declared.Joining.{Joining}
use Rattle.readings.specs.declared.Command.{Command}
use Rattle.readings.specs.Readings.{directed, assigned}
use Rattle.reader.specs.Points.{header, round, offer, next}
use Rattle.reader.specs.Read.{stopped, from, tens_of}
use Rattle.machine.specs.declared.Machine.{Machine}
use Rattle.machine.specs.Moments.{idle, direct, listening, offering}
use Rattle.machine.specs.Moments as moments
use Rattle.machine.specs.Steps.{did, identity_of, onward, onward_cell, round_rule, round_answer, listened, accepted_rows, accepted, declined, offered_answer, direct_answer}
use Rattle.machine.specs.Steps as steps
use Rattle.machine.proofs.Bytes.{bytes_back}
use Rattle.told.specs.Told.{Offer, ten_each, command_chosen}
use Rattle.reader.proofs.Cells.{identity_taken, new_taken, new_back}
use Rattle.told.proofs.Bytes.{round_read, byte_answered, ninth_answered, header_fits, header_address, header-answered, offered_small, offered_fits}
use Rattle.told.proofs.Stands.{none_left, joining_of, at_direct, at_round, at_listening, at_offered, at_idle, hearing, said, Leads}

-- ---- the cells

-- a header without an answer, 514
header_silent : (c : Command) (a : ℕ) (xs : List ℕ) (at : ℕ) → a ≤ 127
    → from (header c) (answer_cell (write_byte a) false ∷ stop_cell ∷ xs) at ≡ stopped (directed c a 0 false) xs (at + 2)
unfolding from next
header_silent c a xs at h =
    rw (header_fits a h false, header-answered a h false, header_address a h false) (ap (stopped (directed c a 0 false) xs) (omega arith))

-- a header with an answer, a new address, 514
header_heard : (c : Command) (a b : ℕ) (xs : List ℕ) (at : ℕ) → a ≤ 127 → b ≤ 127
    → from (header c) (answer_cell (write_byte a) true ∷ data_cell (write_byte b) ∷ stop_cell ∷ xs) at ≡ stopped (directed c a b true) xs (at + 3)
unfolding from next
header_heard c a b xs at h i =
    rw (header_fits a h true, header-answered a h true, header_address a h true, new_taken b i, new_back b i)
    (ap (stopped (directed c a b true) xs) (omega arith))

module _ (j : Joining) (n : ℕ) where
  -- 506
  round_heard : (xs : List ℕ) (at : ℕ) → from (round j n) (broadcast_read true ∷ xs) at ≡ from (offer j n 8) xs (at + 1)
  unfolding from next
  round_heard xs at = refl

  -- 507, 514
  round_silent : (xs : List ℕ) (at : ℕ) → from (round j n) (broadcast_read false ∷ stop_cell ∷ xs) at ≡ stopped (assigned j n false) xs (at + 2)
  unfolding from next
  round_silent xs at = ap (stopped (assigned j n false) xs) (omega arith)

  -- identity bytes
  bytes_heard : (bytes xs : List ℕ) (at : ℕ) → are_bytes bytes ≡ true
      → from (offer j n (length bytes)) (map identity_cell bytes ++ xs) at ≡ from (offer j n 0) xs (at + length bytes)
  unfolding from next
  bytes_heard [] xs at h = ap (from (offer j n 0) xs) (omega arith)
  bytes_heard (b ∷ bs) xs at h =
      let t = both (leb b 255) (are_bytes bs) h in
      rw (identity_taken b t.0) (bytes_heard bs xs (at + 1) t.1 ∙ ap (from (offer j n 0) xs) (omega arith))

  -- an offered address, and 513 or 514
  offered_on_lem : (a : ℕ) (heard : Bool) (xs : List ℕ) (at : ℕ)
      → from (offer j n 0) (answer_cell (offered_byte a) heard ∷ onward_cell true ∷ xs) at ≡ from (round j (n + 1)) xs (at + 2)
  unfolding from next
  offered_on_lem a heard xs at = rw (offered_fits a heard) (ap (from (round j (n + 1)) xs) (omega arith))

  offered_over : (a : ℕ) (heard : Bool) (xs : List ℕ) (at : ℕ)
      → from (offer j n 0) (answer_cell (offered_byte a) heard ∷ onward_cell false ∷ xs) at ≡ stopped (assigned j (n + 1) true) xs (at + 2)
  unfolding from next
  offered_over a heard xs at = rw (offered_fits a heard) (ap (stopped (assigned j (n + 1) true) xs) (omega arith))

-- ---- from direct

module _ (behind : Bool) (choice asked wanted : ℕ) (f : Facts) (rows : List Row) (alone : behind ≡ false)
    (seven : (asked ≤ 127) × (wanted ≤ 127)) where
  -- to idle
  direct_ends : (heard : Bool) (f' : Facts) (rows' : List Row) (cells : List ℕ)
      → ((xs : List ℕ) (at : ℕ) → from (header (command_chosen choice)) (cells ++ xs) at
      ≡ stopped (directed (command_chosen choice) asked (cond heard wanted 0) heard) xs (at + length cells))
      → Leads behind choice asked wanted (at_direct f rows alone) (some heard) (did (idle f' rows') cells)
  direct_ends heard f' rows' cells h = record {
    on = at_idle f' rows' (hearing true heard false 0);
    machine = refl;
    so = refl;
    cells = λ xs at. rw alone (h xs at);
    ten = λ xs os empty. empty;
  }

  -- the cells of an answer
  direct_heard : (xs : List ℕ) (at : ℕ)
      → from (header (command_chosen choice)) (answer_cell (write_byte asked) true ∷ data_cell (write_byte wanted) ∷ stop_cell ∷ xs) at
      ≡ stopped (directed (command_chosen choice) asked wanted true) xs (at + 3)
  direct_heard xs at = header_heard (command_chosen choice) asked wanted xs at seven.0 seven.1

  -- an answer, or none
  pub direct_leads : (heard : Bool)
      → Leads behind choice asked wanted (at_direct f rows alone) (some heard) (direct_answer (direct f rows choice asked wanted) heard)
  unfolding direct_answer steps.directed
  direct_leads true =
      let cells = answer_cell (write_byte asked) true ∷ data_cell (write_byte wanted) ∷ stop_cell ∷ [] in
      cond_by (λ (m : Machine). Leads behind choice asked wanted (at_direct f rows alone) (some true) (did m cells)) (eqb choice 2)
      (λ e. direct_ends true _ _ cells direct_heard) (λ e. direct_ends true _ _ cells direct_heard)
  direct_leads false =
      direct_ends false f rows (answer_cell (write_byte asked) false ∷ stop_cell ∷ [])
      (λ xs at. header_silent (command_chosen choice) asked xs at seven.0)

-- ---- in an assign's rounds

module _ (behind : Bool) (choice asked wanted : ℕ) (f : Facts) (rows : List Row) (refusals n : ℕ) (z : choice ≡ 0) (a : asked ≡ 0) where
  -- what the record says
  rounds_say : (last : Bool) (k : ℕ) → assigned (joining_of behind) k last ≡ said behind choice asked wanted (hearing true false last k)
  rounds_say last k = rw (z, a)

  -- round: an answer, or none
  pub round_leads : (last heard : Bool)
      → Leads behind choice asked wanted (at_round f rows refusals n last z a) (some heard) (round_answer (moments.round f rows refusals) heard)
  unfolding round_answer
  round_leads last true = record {
    on = at_listening f rows refusals n z a;
    machine = refl;
    so = rw add-zero;
    cells = round_heard (joining_of behind) n;
    ten = λ xs os same. same;
  }
  round_leads last false = record {
    on = at_idle f rows (hearing true false false n);
    machine = refl;
    so = rw add-zero;
    cells = λ xs at. rw (← rounds_say false n) (round_silent (joining_of behind) n xs at);
    ten = λ xs os empty. none_left os (broadcast_read false ∷ stop_cell ∷ xs) empty;
  }

  -- listening: eight bytes
  pub listening_leads : (bytes : List ℕ) → length bytes ≡ 8 → are_bytes bytes ≡ true
      → Leads behind choice asked wanted (at_listening f rows refusals n z a) none (listened (listening f rows refusals) bytes)
  unfolding listened
  listening_leads bytes long small = record {
    on = at_offered f rows refusals n _ bytes long small z a;
    machine = refl;
    so = rw add-zero;
    cells =
        λ xs at.
        rw long at (bytes_heard (joining_of behind) n bytes xs at small)
        ∙ ap (from (offer (joining_of behind) n 0) xs) (omega (arith, length-map bytes identity_cell));
    ten = λ xs os same. same;
  }

  module _ (address : ℕ) (bytes : List ℕ) (long : length bytes ≡ 8) (small : are_bytes bytes ≡ true) (heard : Bool) where
    -- the offer's ten bytes
    offer_told : (last : ℕ) (xs : List ℕ) (os : List Offer) → tens_of (length os) xs ≡ ten_each os
        → tens_of (suc (length os)) (broadcast_read true ∷ (map identity_cell bytes ++ (answer_cell (offered_byte address) heard ∷ last ∷ xs)))
        ≡ bytes_of 8 (identity_of bytes) ++ (offered_byte address ∷ cond heard 0 1 ∷ ten_each os)
    offer_told last xs os same =
        round_read (broadcast_read true) bytes (answer_cell (offered_byte address) heard) last xs long small (length os)
        ∙ rw (
          byte_answered (offered_byte address) heard (offered_small address),
          ninth_answered (offered_byte address) heard (offered_small address),
          bytes_back bytes long small,
          same,
        )

    -- offered: 513 and round, or 514 and idle
    onward_leads : (on : Bool) (f' : Facts) (rows' : List Row) (refusals' : ℕ)
        → Leads behind choice asked wanted (at_offered f rows refusals n address bytes long small z a) (some heard)
        (onward on f' rows' refusals' (answer_cell (offered_byte address) heard ∷ []))
    onward_leads true f' rows' refusals' = record {
      on = at_round f' rows' refusals' (n + 1) true z a;
      machine = refl;
      so = refl;
      cells = offered_on_lem (joining_of behind) n address heard;
      ten = λ xs os same. offer_told (onward_cell true) xs os same;
    }
    onward_leads false f' rows' refusals' = record {
      on = at_idle f' rows' (hearing true false true (n + 1));
      machine = refl;
      so = refl;
      cells = λ xs at. rw (← rounds_say true (n + 1)) (offered_over (joining_of behind) n address heard xs at);
      ten = λ xs os empty. offer_told (onward_cell false) xs os (none_left os xs empty);
    }

  -- an answer, or none
  pub offered_leads : (address : ℕ) (bytes : List ℕ) (long : length bytes ≡ 8) (small : are_bytes bytes ≡ true) (heard : Bool)
      → Leads behind choice asked wanted (at_offered f rows refusals n address bytes long small z a) (some heard)
      (offered_answer (offering f rows (identity_of bytes) address refusals) heard)
  unfolding accepted round_rule declined
  offered_leads address bytes long small true =
      let rows' = accepted_rows rows (identity_of bytes) address (new_ticket f) in
      onward_leads address bytes long small true (can_assign (ticketed f) rows') (ticketed f) rows' 0
  offered_leads address bytes long small false = onward_leads address bytes long small false (eqb refusals 0) f rows 1
