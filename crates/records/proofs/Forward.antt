-- From the layouts to the reader: the record of a reading with its bytes reads as this reading, with these bytes; and bytes behind the last offer
-- don't matter.
use Prim.Native.Nat.{ℕ, zero, suc, ◌+◌, ◌*◌, ◌≤◌, ◌<◌, min}
use mathlib.Core.Path.{◌≡◌, refl, sym, ap, ◌∙◌, subst}
use mathlib.Core.Bool.{Bool, true, false, cond, not, ◌&&◌, and-eq-true_iff, false≢true}
use mathlib.Core.List.{List, [], ◌∷◌, ◌++◌}
use native.Mathlib.Nat.{zero-add, add-zero}
use native.Mathlib.Omega.{arith}
use lib.Count.{ones_in}
use lib.Dec.{eqb, leb}
use lib.ListN.{length, get_or, take, drop, length-take, length-drop}
use lib.Seq.{get_or-take, take-take, take-add}
use borrow.Author.Tests.{eqb-true, leb-true, le-leb, not-true}
use Rattle.std.proofs.lemmas.List.{drop-take}
use Rattle.lists.specs.Numbers.{numbers}
use Rattle.lists.proofs.Keeps.{all_drop}
use Rattle.lists.proofs.Bools.{both, and, agree}
use Rattle.parity.specs.Parity.{parity, odd_bit, odd_ones}
use Rattle.parity.specs.Cells.{answer_cell}
use Rattle.readings.specs.declared.Joining.{Joining}
use Rattle.readings.specs.declared.Joining.TheVariants.{Refused, Answered}
use Rattle.readings.specs.declared.Joining.TheVariants as joinings
use Rattle.readings.specs.declared.Command.{Command}
use Rattle.readings.specs.declared.Command.TheVariants.{Assign, ResetAll, SetFromStatic, Move, Silence, Allow}
use Rattle.readings.specs.declared.Command.TheVariants as commands
use Rattle.readings.specs.declared.Reading.{Reading}
use Rattle.readings.specs.Readings.{may_follow, bare, directed, assigned}
use Rattle.readings.specs.Layouts.{offer_cells, offers_cells, rounds_end, direct_cells, command_cells, joining_cells, cells_of, is_bare, is_directed, is_assigned, offers_right, says_right, has_layout}
use Rattle.reader.specs.Points.{start, again, round, behind, header, byte_of, ninth_of, is_write_byte, is_offered, command_of, next}
use Rattle.reader.specs.Read.{says, stopped, from, ten_of, tens_of, rounds_at, offers_of}
use Rattle.reader.proofs.Cells.{pair_byte, pair_ninth, pair_is_byte, identity_taken, identity_back, write_ninth, write_taken, write_address, new_taken, new_back}
use Rattle.reader.proofs.Bytes.{tens_length}
use Rattle.lists.specs.Bits.{are_bytes}
use Rattle.records.specs.Records.{ReadsAs}

-- ---- the bytes behind the last offer don't matter

-- the first offer, and the others, of bytes cut to so many offers
module _ (n : ℕ) (bytes : List ℕ) where
  first_cut : (k : ℕ) → k < 10 → get_or (take (10 * suc n) bytes) k 0 ≡ get_or bytes k 0
  first_cut k h = get_or-take (10 * suc n) bytes k 0 (omega arith)

  others_cut : drop 10 (take (10 * suc n) bytes) ≡ take (10 * n) (drop 10 bytes)
  others_cut = let e : 10 * suc n ≡ 10 + 10 * n = omega arith in rw e (drop-take 10 (10 * n) bytes)

  offer_cut : offer_cells (take (10 * suc n) bytes) ≡ offer_cells bytes
  unfolding offer_cells
  offer_cut = rw (take-take 8 (10 * suc n) bytes (omega arith), first_cut 8 (omega arith), first_cut 9 (omega arith))

-- the cells of so many offers, and the test of them, look at no byte behind
offers_cut : (n : ℕ) (bytes : List ℕ) → offers_cells n (take (10 * n) bytes) ≡ offers_cells n bytes
unfolding offers_cells
offers_cut zero bytes = refl
offers_cut (suc n) bytes = rw (offer_cut n bytes, others_cut n bytes, offers_cut n (drop 10 bytes))

right_cut : (n : ℕ) (bytes : List ℕ) → offers_right n (take (10 * n) bytes) ≡ offers_right n bytes
unfolding offers_right
right_cut zero bytes = refl
right_cut (suc n) bytes =
    rw (first_cut n bytes 8 (omega arith), first_cut n bytes 9 (omega arith), others_cut n bytes, right_cut n (drop 10 bytes))

-- n are there just where the first n are n
enough_cut : (n : ℕ) (bytes : List ℕ) → leb n (length (take n bytes)) ≡ leb n (length bytes)
enough_cut n bytes = rw (length-take n bytes) (at_least (length bytes))
  where
    at_least : (m : ℕ) → leb n (min n m) ≡ leb n m
    at_least m =
        agree (leb n (min n m)) (leb n m)
        (λ h. le-leb n m (omega (arith, leb-true n (min n m) h)))
        (λ h. le-leb n (min n m) (omega (arith, leb-true n m h)))

-- so by command
module _ (r : Reading) (bytes : List ℕ) where
  command_cells_cut : (c : Command) → command_cells c r (take (10 * r.offers) bytes) ≡ command_cells c r bytes
  command_cells_cut commands.None = refl
  command_cells_cut Assign = rw (offers_cut r.offers bytes)
  command_cells_cut ResetAll = refl
  command_cells_cut SetFromStatic = refl
  command_cells_cut Move = refl
  command_cells_cut Silence = refl
  command_cells_cut Allow = refl

  says_right_cut : (c : Command) → says_right c r (take (10 * r.offers) bytes) ≡ says_right c r bytes
  unfolding is_assigned
  says_right_cut commands.None = refl
  says_right_cut Assign = rw (enough_cut (10 * r.offers) bytes, right_cut r.offers bytes)
  says_right_cut ResetAll = refl
  says_right_cut SetFromStatic = refl
  says_right_cut Move = refl
  says_right_cut Silence = refl
  says_right_cut Allow = refl

  -- the cells are those of the first ten bytes for each offer, also where there are fewer
  pub cells_prefix : cells_of r (take (10 * r.offers) bytes) ≡ cells_of r bytes
  unfolding cells_of
  cells_prefix = ap (joining_cells r.joining) (command_cells_cut r.command)

  -- and so is the test
  pub layout_prefix : has_layout r (take (10 * r.offers) bytes) ≡ has_layout r bytes
  unfolding has_layout
  layout_prefix = ap (λ (b : Bool). may_follow r.joining r.command && b) (says_right_cut r.command)

-- ---- how many bytes are read: ten for each offer, whatever the cells are

pub offers_length : (r : Reading) (cells : List ℕ) → length (offers_of r cells) ≡ 10 * r.offers
unfolding offers_of
offers_length r cells = tens_length r.offers (drop (rounds_at r.joining) cells)

-- ---- an offered byte, with 0 or 1 for accepted or refused

ninth_back : (mark : ℕ) → leb mark 1 ≡ true → cond (eqb mark 0) 0 1 ≡ mark
ninth_back zero h = refl
ninth_back (suc zero) h = refl
ninth_back (suc (suc m)) h = absurd (omega (arith, leb-true (suc (suc m)) 1 h))

module _ (byte mark : ℕ) (b : leb byte 255 ≡ true) (m : leb mark 1 ≡ true) where
  offer_byte : byte_of (answer_cell byte (eqb mark 0)) ≡ byte
  offer_byte = rw (ninth_back mark m) (pair_byte byte mark (leb-true byte 255 b) (leb-true mark 1 m))

  offer_mark : ninth_of (answer_cell byte (eqb mark 0)) ≡ mark
  offer_mark = rw (ninth_back mark m) (pair_ninth byte mark (leb-true byte 255 b) (leb-true mark 1 m))

  offer_taken : odd_ones byte ≡ true → is_offered (answer_cell byte (eqb mark 0)) ≡ true
  unfolding is_offered
  offer_taken o = rw offer_byte (rw (ninth_back mark m) (and (pair_is_byte byte mark (leb-true byte 255 b) (leb-true mark 1 m)) o))

-- ---- the rounds

-- what holds of every list with a first element and so many behind it holds of every list that is longer than so many
cons_by : (P : List ℕ → Type 0) (n : ℕ) → ((x : ℕ) (l : List ℕ) → n ≤ length l → P (x ∷ l)) → (l : List ℕ) → suc n ≤ length l → P l
cons_by P n f [] h = absurd (omega arith)
cons_by P n f (x ∷ l) h = f x l (omega arith)

-- so with ten elements
ten_by : (P : List ℕ → Type 0) → ((a b c d e f g h i j : ℕ) (l : List ℕ) → P (a ∷ b ∷ c ∷ d ∷ e ∷ f ∷ g ∷ h ∷ i ∷ j ∷ l))
    → (l : List ℕ) → 10 ≤ length l → P l
ten_by P t =
    cons_by P 9 λ a. cons_by (λ l. P (a ∷ l)) 8 λ b. cons_by (λ l. P (a ∷ b ∷ l)) 7 λ c. cons_by (λ l. P (a ∷ b ∷ c ∷ l)) 6
    λ d. cons_by (λ l. P (a ∷ b ∷ c ∷ d ∷ l)) 5 λ e. cons_by (λ l. P (a ∷ b ∷ c ∷ d ∷ e ∷ l)) 4
    λ f. cons_by (λ l. P (a ∷ b ∷ c ∷ d ∷ e ∷ f ∷ l)) 3 λ g. cons_by (λ l. P (a ∷ b ∷ c ∷ d ∷ e ∷ f ∷ g ∷ l)) 2
    λ h. cons_by (λ l. P (a ∷ b ∷ c ∷ d ∷ e ∷ f ∷ g ∷ h ∷ l)) 1 λ i. cons_by (λ l. P (a ∷ b ∷ c ∷ d ∷ e ∷ f ∷ g ∷ h ∷ i ∷ l)) 0
    λ j l z. t a b c d e f g h i j l

-- each of them is a byte, and so is the 0 behind the last
abbrev EachByte : List ℕ → Type 0
EachByte bytes = (i : ℕ) → leb (get_or bytes i 0) 255 ≡ true

each_byte : (bytes : List ℕ) → are_bytes bytes ≡ true → EachByte bytes
each_byte [] h i = refl
each_byte (b ∷ bytes) h zero = (both (leb b 255) (are_bytes bytes) h).0
each_byte (b ∷ bytes) h (suc i) = each_byte bytes (both (leb b 255) (are_bytes bytes) h).1 i

-- one offer, at the point behind the offers before it
module _ (j : Joining) (k n : ℕ) (end : List ℕ) (r : Reading) where
  abbrev OfferRead : List ℕ → Type 0
  OfferRead bytes =
      EachByte bytes → offers_right (suc n) bytes ≡ true
      → ((at : ℕ) → from (behind j (k + 1)) (offers_cells n (drop 10 bytes) ++ end) at ≡ says r)
      → (at : ℕ) → from (behind j k) (offers_cells (suc n) bytes ++ end) at ≡ says r

  offer_read : (bytes : List ℕ) → 10 ≤ length bytes → OfferRead bytes
  unfolding from next offers_cells offer_cells offers_right
  offer_read = ten_by OfferRead λ b₀ b₁ b₂ b₃ b₄ b₅ b₆ b₇ byte mark bytes small right on at.
      let t = simp and-eq-true_iff at right in
      simp (
        identity_taken b₀ (small 0),
        identity_taken b₁ (small 1),
        identity_taken b₂ (small 2),
        identity_taken b₃ (small 3),
        identity_taken b₄ (small 4),
        identity_taken b₅ (small 5),
        identity_taken b₆ (small 6),
        identity_taken b₇ (small 7),
        offer_taken byte mark (small 8) t.0.1 t.0.0,
      )
      (on (at + 1 + 1 + 1 + 1 + 1 + 1 + 1 + 1 + 1 + 1 + 1))

-- the ten bytes of one offer, and those of the others
module _ (n : ℕ) (end : List ℕ) where
  abbrev OfferTold : List ℕ → Type 0
  OfferTold bytes =
      EachByte bytes → offers_right (suc n) bytes ≡ true
      → tens_of n (drop 1 (offers_cells n (drop 10 bytes) ++ end)) ≡ take (10 * n) (drop 10 bytes)
      → tens_of (suc n) (drop 1 (offers_cells (suc n) bytes ++ end)) ≡ take (10 * suc n) bytes

  offer_told : (bytes : List ℕ) → 10 ≤ length bytes → OfferTold bytes
  unfolding ten_of tens_of numbers offers_cells offer_cells offers_right
  offer_told = ten_by OfferTold λ b₀ b₁ b₂ b₃ b₄ b₅ b₆ b₇ byte mark bytes small right on.
      let t = simp and-eq-true_iff at right in
      let ten : 10 * suc n ≡ 10 + 10 * n = omega arith in
      rw (
        ten,
        take-add 10 (10 * n) (b₀ ∷ b₁ ∷ b₂ ∷ b₃ ∷ b₄ ∷ b₅ ∷ b₆ ∷ b₇ ∷ byte ∷ mark ∷ bytes),
        ← on,
        identity_back b₀ (small 0),
        identity_back b₁ (small 1),
        identity_back b₂ (small 2),
        identity_back b₃ (small 3),
        identity_back b₄ (small 4),
        identity_back b₅ (small 5),
        identity_back b₆ (small 6),
        identity_back b₇ (small 7),
        offer_byte byte mark (small 8) t.0.1,
        offer_mark byte mark (small 8) t.0.1,
      )

-- the offers to come are right, and their bytes are there
abbrev OffersThere : ℕ → List ℕ → Type 0
OffersThere n bytes = (are_bytes bytes ≡ true) × (10 * n ≤ length bytes) × (offers_right n bytes ≡ true)

others_there : (n : ℕ) (bytes : List ℕ) → OffersThere (suc n) bytes → OffersThere n (drop 10 bytes)
unfolding offers_right
others_there n bytes (small, long, right) =
    (all_drop (λ b. leb b 255) 10 bytes small, omega (arith, length-drop 10 bytes), (simp and-eq-true_iff at right).1)

-- the offers to come and the end of the rounds, behind k offers
rounds_read : (n : ℕ) (bytes : List ℕ) (j : Joining) (k : ℕ) (last : Bool) (at : ℕ) → OffersThere n bytes
    → from (behind j k) (offers_cells n bytes ++ rounds_end last) at ≡ says (assigned j (k + n) last)
unfolding from next stopped offers_cells
rounds_read zero bytes j k true at there = rw add-zero
rounds_read zero bytes j k false at there = rw add-zero
rounds_read (suc n) bytes j k last at there =
    let sum : k + 1 + n ≡ k + suc n = omega arith in
    offer_read j k n (rounds_end last) (assigned j (k + suc n) last) bytes (omega arith) (each_byte bytes there.0) there.2
    (λ at'. rw sum at (rounds_read n (drop 10 bytes) j (k + 1) last at' (others_there n bytes there)))
    at

-- the bytes of the offers; the first round header stands behind a repeated START
rounds_told : (n : ℕ) (bytes : List ℕ) (last : Bool) → OffersThere n bytes
    → tens_of n (drop 1 (offers_cells n bytes ++ rounds_end last)) ≡ take (10 * n) bytes
unfolding tens_of
rounds_told zero bytes last there = refl
rounds_told (suc n) bytes last there =
    let on = rounds_told n (drop 10 bytes) last (others_there n bytes there) in
    offer_told n (rounds_end last) bytes (omega arith) (each_byte bytes there.0) there.2 on

-- behind the command the rounds begin with a repeated START, as behind an offer
rounds_begin : (n : ℕ) (bytes : List ℕ) (j : Joining) (last : Bool) (at : ℕ) → not (last && eqb n 0) ≡ true
    → from (again (round j 0)) (offers_cells n bytes ++ rounds_end last) at ≡ from (behind j 0) (offers_cells n bytes ++ rounds_end last) at
unfolding from next offers_cells offer_cells
rounds_begin zero bytes j true at h = absurd (false≢true h)
rounds_begin zero bytes j false at h = refl
rounds_begin (suc n) bytes j last at h = refl

-- ---- a set or a move

-- the own part of a set or a move, from its repeated START on
direct_read : (c : Command) (address new : ℕ) (answered : Bool) (at : ℕ) → address ≤ 127 → cond answered (leb new 127) (eqb new 0) ≡ true
    → from (again (header c)) (direct_cells address new answered) at ≡ says (directed c address new answered)
unfolding from next stopped
direct_read c address new true at a n =
    let small : new ≤ 127 = leb-true new 127 n in
    let low : 0 ≤ 1 = omega arith in
    simp (write_taken address 0 a low, write_address address 0 a low, write_ninth address 0 a low, new_taken new small, new_back new small)
direct_read c address new false at a n =
    let none : new ≡ 0 = eqb-true new 0 n in
    let low : 1 ≤ 1 = omega arith in
    simp (write_taken address 1 a low, write_address address 1 a low, write_ninth address 1 a low, none)

-- ---- the three kinds of reading

module _ (bytes : List ℕ) where
  -- its record reads as this reading with these bytes
  abbrev Reads : Reading → Type 0
  Reads r = ReadsAs r bytes (cells_of r bytes)

  -- joining and command alone; also an assign with no offer, and a set or a move to address 0 with a silent header
  bare_read : (j : Joining) (c : Command) → may_follow j c ≡ true → from start (cells_of (bare j c) bytes) 0 ≡ says (bare j c)
  unfolding from next stopped cells_of offers_cells command_of is_write_byte odd_bit parity ones_in
  bare_read joinings.None commands.None h = refl
  bare_read joinings.None Assign h = refl
  bare_read joinings.None ResetAll h = refl
  bare_read joinings.None SetFromStatic h = refl
  bare_read joinings.None Move h = refl
  bare_read joinings.None Silence h = refl
  bare_read joinings.None Allow h = refl
  bare_read Refused commands.None h = refl
  bare_read Refused Assign h = absurd (false≢true h)
  bare_read Refused ResetAll h = absurd (false≢true h)
  bare_read Refused SetFromStatic h = absurd (false≢true h)
  bare_read Refused Move h = absurd (false≢true h)
  bare_read Refused Silence h = absurd (false≢true h)
  bare_read Refused Allow h = absurd (false≢true h)
  bare_read Answered commands.None h = refl
  bare_read Answered Assign h = refl
  bare_read Answered ResetAll h = absurd (false≢true h)
  bare_read Answered SetFromStatic h = absurd (false≢true h)
  bare_read Answered Move h = absurd (false≢true h)
  bare_read Answered Silence h = refl
  bare_read Answered Allow h = absurd (false≢true h)

  bare_reads : (j : Joining) (c : Command) → may_follow j c ≡ true → Reads (bare j c)
  unfolding offers_of tens_of
  bare_reads j c h = record { reads = bare_read j c h; tells = refl }

  module _ (address new : ℕ) (answered : Bool) (a : address ≤ 127) (n : cond answered (leb new 127) (eqb new 0) ≡ true) where
    set_reads : Reads (directed SetFromStatic address new answered)
    unfolding from next cells_of command_of tens_of offers_of odd_bit parity ones_in
    set_reads = record { reads = direct_read SetFromStatic address new answered 3 a n; tells = refl }

    move_reads : Reads (directed Move address new answered)
    unfolding from next cells_of command_of tens_of offers_of odd_bit parity ones_in
    move_reads = record { reads = direct_read Move address new answered 3 a n; tells = refl }

  -- an assign
  module _ (n : ℕ) (last : Bool) (there : OffersThere n bytes) (ends : not (last && eqb n 0) ≡ true) where
    rounds_say : (j : Joining) (at : ℕ) → from (again (round j 0)) (offers_cells n bytes ++ rounds_end last) at ≡ says (assigned j n last)
    rounds_say j at = rounds_begin n bytes j last at ends ∙ (rw zero-add at (rounds_read n bytes j 0 last at there))

    assign_reads : (j : Joining) → may_follow j Assign ≡ true → Reads (assigned j n last)
    unfolding from next cells_of command_of offers_of odd_bit parity ones_in
    assign_reads joinings.None h = record { reads = rounds_say joinings.None 3; tells = rounds_told n bytes last there }
    assign_reads Refused h = absurd (false≢true h)
    assign_reads Answered h = record { reads = rounds_say Answered 5; tells = rounds_told n bytes last there }

-- ---- a reading that has a layout is of one of the three kinds

-- readings are equal by their fields
by_fields : {r s : Reading} → r.joining ≡ s.joining → r.command ≡ s.command → r.header ≡ s.header → r.new ≡ s.new
    → r.direct ≡ s.direct → r.last ≡ s.last → r.offers ≡ s.offers → r ≡ s
by_fields j c h n d l o = λ i. record { joining = j i; command = c i; header = h i; new = n i; direct = d i; last = l i; offers = o i }

module _ (r : Reading) (c : Command) (e : r.command ≡ c) where
  bare_is : is_bare r ≡ true → r ≡ bare r.joining c
  unfolding is_bare
  bare_is h =
      let t = simp and-eq-true_iff at h in
      by_fields {s = bare r.joining c} refl e
      (eqb-true r.header 0 t.0.0.0.0) (eqb-true r.new 0 t.0.0.0.1)
      (not-true r.direct t.0.0.1) (not-true r.last t.0.1) (eqb-true r.offers 0 t.1)

  directed_is : is_directed r ≡ true → r.joining ≡ joinings.None → r ≡ directed c r.header r.new r.direct
  unfolding is_directed
  directed_is h alone =
      let t = simp and-eq-true_iff at h in
      by_fields {s = directed c r.header r.new r.direct} alone e refl refl refl
      (not-true r.last t.0.1) (eqb-true r.offers 0 t.1)

assigned_is : (r : Reading) (bytes : List ℕ) → r.command ≡ Assign → is_assigned r bytes ≡ true → r ≡ assigned r.joining r.offers r.last
unfolding is_assigned
assigned_is r bytes e h =
    let t = simp and-eq-true_iff at h in
    by_fields {s = assigned r.joining r.offers r.last} refl e
    (eqb-true r.header 0 t.0.0.0.0.0) (eqb-true r.new 0 t.0.0.0.0.1) (not-true r.direct t.0.0.0.1) refl refl

-- a command that may follow no joining stands alone
stands_alone : (j : Joining) (c : Command) → may_follow Refused c ≡ false → may_follow Answered c ≡ false → may_follow j c ≡ true → j ≡ joinings.None
stands_alone joinings.None c p q h = refl
stands_alone Refused c p q h = absurd (false≢true (sym p ∙ h))
stands_alone Answered c p q h = absurd (false≢true (sym q ∙ h))

module _ (r : Reading) (bytes : List ℕ) (small : are_bytes bytes ≡ true) where
  bare_kind : (c : Command) → r.command ≡ c → may_follow r.joining c ≡ true → is_bare r ≡ true → Reads bytes r
  bare_kind c e f h = subst (Reads bytes) (sym (bare_is r c e h)) (bare_reads bytes r.joining c f)

  assigned_kind : r.command ≡ Assign → may_follow r.joining Assign ≡ true → is_assigned r bytes ≡ true → Reads bytes r
  unfolding is_assigned
  assigned_kind e f h =
      let t = simp and-eq-true_iff at h in
      let there : OffersThere r.offers bytes = (small, leb-true (10 * r.offers) (length bytes) t.0.1, t.1) in
      subst (Reads bytes) (sym (assigned_is r bytes e h)) (assign_reads bytes r.offers r.last there t.0.0.1 r.joining f)

  directed_kind : (c : Command) → r.command ≡ c → r.joining ≡ joinings.None
      → ((address new : ℕ) (answered : Bool) → address ≤ 127 → cond answered (leb new 127) (eqb new 0) ≡ true
      → Reads bytes (directed c address new answered))
      → is_directed r ≡ true → Reads bytes r
  unfolding is_directed
  directed_kind c e alone f h =
      let t = simp and-eq-true_iff at h in
      let told = f r.header r.new r.direct (leb-true r.header 127 t.0.0.0) t.0.0.1 in
      subst (Reads bytes) (sym (directed_is r c e h alone)) told

  by_command : (c : Command) → r.command ≡ c → may_follow r.joining c ≡ true → says_right c r bytes ≡ true → Reads bytes r
  by_command commands.None e f h = bare_kind commands.None e f h
  by_command Assign e f h = assigned_kind e f h
  by_command ResetAll e f h = bare_kind ResetAll e f h
  by_command SetFromStatic e f h =
      directed_kind SetFromStatic e (stands_alone r.joining SetFromStatic refl refl f) (set_reads bytes) h
  by_command Move e f h = directed_kind Move e (stands_alone r.joining Move refl refl f) (move_reads bytes) h
  by_command Silence e f h = bare_kind Silence e f h
  by_command Allow e f h = bare_kind Allow e f h

  -- the record of a reading reads as this reading, with these bytes
  pub layout_reads : has_layout r bytes ≡ true → ReadsAs r bytes (cells_of r bytes)
  unfolding has_layout
  layout_reads h =
      let t = both (may_follow r.joining r.command) (says_right r.command r bytes) h in
      by_command r.command refl t.0 t.1

  -- what it reads as
  pub layout_read : has_layout r bytes ≡ true → from start (cells_of r bytes) 0 ≡ says r
  layout_read h = (layout_reads h).reads

  -- and the bytes that it tells
  pub layout_offers : has_layout r bytes ≡ true → offers_of r (cells_of r bytes) ≡ take (10 * r.offers) bytes
  layout_offers h = (layout_reads h).tells
